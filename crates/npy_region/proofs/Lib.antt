pub mod CellLemmas
pub mod GivenCells
pub mod RegionLemmas
pub mod RunLemmas
pub mod WriteLemmas
pub mod Widths
