pub mod Rows
pub mod Steps
pub mod Depth
pub mod Queries
pub mod Operands
