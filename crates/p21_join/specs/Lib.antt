pub mod PlaceBlocks
pub mod InstancePlaces
pub mod Names
pub mod Model
pub mod Joined
pub mod Entities
pub mod InstanceNames
