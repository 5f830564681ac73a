pub mod Fitting
pub mod Stocks
