mod NameLemmas
mod GatheringLemmas
mod AgainLemmas
mod ListLemmas
mod CheckLemmas
mod Crossing
