pub mod Following
pub mod PairLemmas
pub mod ChangeLemmas
pub mod Counting
pub mod RowLemmas
pub mod LeavingLemmas
