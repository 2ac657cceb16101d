mod Bodies
pub mod Crossing
