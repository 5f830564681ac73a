pub mod Joint
pub mod Past
pub mod Lively
pub mod Attempts
pub mod Keys
pub mod Released
