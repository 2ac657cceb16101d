pub mod GraphLemmas
pub mod WalkLemmas
pub mod BitLemmas
pub mod ReachLemmas
