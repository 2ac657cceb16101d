pub mod Judges
pub mod Kept
