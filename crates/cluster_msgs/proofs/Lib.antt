pub mod Dags
pub mod ShapeLemmas
pub mod StoredLemmas
pub mod ValueLemmas
