pub mod Called
pub mod First
pub mod Names
pub mod Path
pub mod Text
pub mod Wanted
