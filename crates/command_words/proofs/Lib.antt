mod Digits
mod Cuts
mod Spoken
mod Readings
mod Taking
mod Crews
pub mod Walking
pub mod Saying
