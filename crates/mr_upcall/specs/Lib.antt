pub mod Reports
pub mod Rings
pub mod WorkedReports
