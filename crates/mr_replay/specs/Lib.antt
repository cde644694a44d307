pub mod Egress
pub mod Endings
pub mod Generating
pub mod Lanes
pub mod Daemons
pub mod Turns
pub mod Running
