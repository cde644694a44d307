pub mod Each
pub mod Pairs
pub mod Clean
pub mod Binds
pub mod Suiting
pub mod FitsDraft
