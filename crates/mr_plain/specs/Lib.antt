pub mod Following
pub mod Releasing
pub mod Pasts
pub mod Room
pub mod Meets
pub mod Sent
pub mod Fates
pub mod Holding
