pub mod Created
pub mod FileBytes
pub mod Filled
pub mod Given
pub mod Places
pub mod RowLemmas
pub mod Written
