pub mod ZipLemmas
pub mod EachLemmas
pub mod ShareLemmas
pub mod UnderwayLemmas
pub mod LandingLemmas
pub mod FreshLemmas
pub mod RunLemmas
pub mod SameLemmas
