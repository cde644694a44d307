pub mod Deeds
pub mod Joining
