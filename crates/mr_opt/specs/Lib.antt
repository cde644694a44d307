pub mod Fields
pub mod Options
pub mod Records
pub mod WorkedRecords
