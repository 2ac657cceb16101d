pub mod Lists
pub mod Begin
pub mod Checked
pub mod Gathering
pub mod Counts
pub mod Again
pub mod Answers
