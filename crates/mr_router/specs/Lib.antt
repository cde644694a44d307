pub mod Histories
pub mod Callers
pub mod Deeds
pub mod Seats
pub mod Limiting
