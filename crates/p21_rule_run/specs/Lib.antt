pub mod RuleFault
pub mod FaultLine
pub mod BrokenLine
pub mod Ruled
