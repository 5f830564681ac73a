pub mod Words
pub mod Bytes
pub mod Places
pub mod Fronts
pub mod Texts
