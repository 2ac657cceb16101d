pub mod ModelLemmas
pub mod SpellingLemmas
