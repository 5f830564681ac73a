pub mod Clean
pub mod Moves
pub mod Steps
pub mod Derivations
pub mod Checked
pub mod Texts
pub mod RunLaws
pub mod Moving
