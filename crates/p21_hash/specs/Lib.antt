pub mod InstanceNames
pub mod Keywords
pub mod Keys
