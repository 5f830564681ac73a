pub mod Texts
pub mod Axes
pub mod Node
pub mod Refusal
pub mod Elem
