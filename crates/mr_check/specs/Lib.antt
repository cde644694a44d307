pub mod Callers
pub mod Rules
pub mod Judging
pub mod Laws
