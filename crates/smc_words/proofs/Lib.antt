pub mod Commas
pub mod Cuts
