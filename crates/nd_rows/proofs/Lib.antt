pub mod Ends
pub mod Order
pub mod Spots
pub mod Turned
pub mod Turns
