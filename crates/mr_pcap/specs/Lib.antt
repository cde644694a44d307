pub mod Places
pub mod Traces
pub mod WorkedTraces
