pub mod Rows
pub mod PlacedName
pub mod Placed
pub mod Columns
pub mod OutlineList
pub mod Outline
pub mod Faultiness
