pub mod Knowing
pub mod SmallRequests
pub mod Endings
pub mod Finding
pub mod Indexed
