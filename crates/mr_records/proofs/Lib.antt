pub mod RowLemmas
pub mod WayLemmas
pub mod TakingLemmas
pub mod SameLemmas
pub mod HeadLemmas
