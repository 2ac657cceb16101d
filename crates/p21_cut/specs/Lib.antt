pub mod Pieces
pub mod Cutter
pub mod Laws
pub mod Tokens
