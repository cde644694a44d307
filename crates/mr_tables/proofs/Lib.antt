pub mod Found
pub mod Fitted
pub mod History
pub mod Sending
pub mod Turns
