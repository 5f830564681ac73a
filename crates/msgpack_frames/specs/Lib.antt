pub mod Data
pub mod View
pub mod Forms
pub mod Encoding
pub mod Reading
pub mod Decoded
pub mod Spelling
pub mod Groups
