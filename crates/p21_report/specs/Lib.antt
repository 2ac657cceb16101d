pub mod Opened
pub mod Watched
