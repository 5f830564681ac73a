pub mod Growing
pub mod Joined
pub mod Parted
