pub mod Headers
pub mod Kinds
pub mod Typed
pub mod Scans
pub mod HeaderRows
pub mod Reading
