pub mod Owning
pub mod Doing
pub mod Called
pub mod Joined
