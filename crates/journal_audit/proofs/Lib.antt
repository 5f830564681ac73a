mod AuditLemmas
pub mod ClientLemmas
pub mod ListLemmas
pub mod MergeLemmas
