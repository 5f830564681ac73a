pub mod Alone
pub mod Ends
pub mod Lines
pub mod Texts
