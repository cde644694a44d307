pub mod Clean
pub mod Keeping
