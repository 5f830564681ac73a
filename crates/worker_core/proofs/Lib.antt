pub mod CoreLemmas
pub mod CountLemmas
pub mod MoveLemmas
pub mod RunLemmas
