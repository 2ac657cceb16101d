pub mod FaultLine
pub mod SchemaFaultLine
pub mod ReadingText
