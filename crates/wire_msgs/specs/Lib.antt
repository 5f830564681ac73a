pub mod Answers
pub mod Fields
pub mod Finding
pub mod Messages
pub mod Names
pub mod Parts
pub mod Seen
pub mod Written
