pub mod Places
pub mod Listed
pub mod Ordered
pub mod Kept
pub mod Moments
