pub mod Tree
pub mod Plain
pub mod Operators
pub mod Reserved
pub mod Literals
pub mod Reader
pub mod Rules
pub mod Grammar
