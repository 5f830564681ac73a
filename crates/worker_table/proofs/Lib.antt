pub mod PartLemmas
pub mod PlanLemmas
pub mod LinkLemmas
pub mod SearchLemmas
pub mod TableLemmas
pub mod AskedLemmas
