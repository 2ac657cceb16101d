mod Crossing
mod ModelLemmas
mod ReferenceLemmas
