pub mod Falling
pub mod Places
pub mod Sound
