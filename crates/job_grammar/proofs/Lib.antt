pub mod Same
pub mod Ways
pub mod Equal
pub mod Table
pub mod Due
pub mod BoundedKinds
pub mod Readings
