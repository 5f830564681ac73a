pub mod LeastLemmas
pub mod OpenLemmas
