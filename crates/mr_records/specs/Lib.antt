pub mod Ways
pub mod Taking
