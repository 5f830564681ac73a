pub mod Int64
pub mod Operation
pub mod Grid
pub mod Computed
