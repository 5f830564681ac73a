pub mod Appending
pub mod TallyLemmas
