pub mod Painted
pub mod Places
pub mod Printed
