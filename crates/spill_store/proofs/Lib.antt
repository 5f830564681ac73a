pub mod Bytes
pub mod Calls
pub mod Maps
pub mod Memories
mod Sent
pub mod Shelving
pub mod Spilling
pub mod Tables
