pub mod Members
pub mod MemberLaws
pub mod Graph
pub mod GraphLaws
pub mod Bits
pub mod Reach
