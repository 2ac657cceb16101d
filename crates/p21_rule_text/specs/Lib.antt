pub mod Bounds
pub mod Clauses
pub mod Entities
pub mod Resolve
pub mod Statements
pub mod Unique
pub mod Rules
