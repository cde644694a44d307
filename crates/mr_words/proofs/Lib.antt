pub mod Cuts
pub mod Digits
pub mod Clean
pub mod Binds
