pub mod Truth
pub mod Numbers
pub mod Options
pub mod Results
pub mod Lists
pub mod Ranges
pub mod Every
