pub mod Literals
pub mod Ends
pub mod Combine
pub mod Make
pub mod Meaning
pub mod Laws
