pub mod Table
pub mod KindLaws
pub mod Meaning
pub mod Effects
pub mod Meanings
pub mod Sound
pub mod Complete
pub mod Readings
