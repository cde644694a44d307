pub mod Highest
pub mod Bits
pub mod Places
pub mod Walking
pub mod Steps
pub mod Editing
pub mod Fading
pub mod Asked
