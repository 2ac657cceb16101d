pub mod InputLemmas
pub mod OutputLemmas
pub mod DueLemmas
pub mod RunLemmas
pub mod ClauseLemmas
