pub mod Answers
pub mod Least
pub mod Seen
pub mod Sighted
pub mod Sights
