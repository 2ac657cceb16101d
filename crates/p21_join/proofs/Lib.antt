pub mod PlaceBlockLemmas
pub mod NameLemmas
pub mod FindLemmas
pub mod EntityLemmas
pub mod Crossing
