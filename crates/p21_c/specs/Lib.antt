pub mod Answers
pub mod Lent
