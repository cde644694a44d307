pub mod Commands
pub mod Worked
