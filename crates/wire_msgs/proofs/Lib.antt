pub mod Accepted
pub mod AnyOrder
pub mod Contents
pub mod Exact
pub mod Faults
pub mod Members
pub mod ReadBack
pub mod Values
