pub mod Groups
pub mod Interfaces
pub mod Keys
pub mod Reports
pub mod Requests
pub mod Rules
pub mod Settings
