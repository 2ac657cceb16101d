pub mod Each
pub mod Cuts
pub mod Worker
pub mod Underway
pub mod Run
pub mod Landing
pub mod Fresh
pub mod Outbox
