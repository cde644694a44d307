pub mod Bare
pub mod Turns
pub mod Room
pub mod Worked
pub mod Laws
