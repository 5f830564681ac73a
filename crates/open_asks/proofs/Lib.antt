pub mod AskLemmas
pub mod FirstLemmas
pub mod MarkLemmas
