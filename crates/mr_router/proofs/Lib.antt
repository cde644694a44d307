pub mod Places
pub mod Holding
pub mod Hearing
pub mod Walking
pub mod Deeding
