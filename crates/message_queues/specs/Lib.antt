pub mod Queues
pub mod Transit
pub mod Posts
