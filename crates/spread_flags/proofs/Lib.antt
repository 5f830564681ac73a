pub mod CountLemmas
pub mod KeepLemmas
