pub mod Numbers
pub mod Apps
pub mod Given
pub mod Scripts
pub mod Walks
pub mod Words
