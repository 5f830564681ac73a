pub mod AskLemmas
pub mod FoldLemmas
pub mod TableLemmas
pub mod PeerLemmas
pub mod KeptLemmas
