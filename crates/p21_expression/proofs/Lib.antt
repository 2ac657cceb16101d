pub mod LengthLemmas
pub mod LoopLemmas
pub mod OperatorLemmas
pub mod ReaderLemmas
pub mod ChainLemmas
pub mod RuleLemmas
pub mod SoundLemmas
pub mod RuleSound
