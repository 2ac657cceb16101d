pub mod FirstReferenceFault
pub mod AllReferenceFaults
pub mod Places
