pub mod Building
pub mod Cells
pub mod Runs
pub mod Writing
