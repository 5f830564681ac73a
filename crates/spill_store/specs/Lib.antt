pub mod Table
pub mod Blocks
pub mod Memory
pub mod Shelves
pub mod Store
pub mod Steps
