pub mod Dealt
pub mod DeskFields
pub mod Dealing
