pub mod Marks
pub mod Stream
pub mod Due
pub mod Run
pub mod Check
