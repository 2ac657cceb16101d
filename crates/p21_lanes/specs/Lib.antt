pub mod History
pub mod LaneIn
pub mod LaneOut
pub mod Lane
pub mod Receipt
