pub mod Pairs
pub mod Rows
pub mod Follows
pub mod Answers
pub mod Choices
pub mod Effects
