pub mod Leading
pub mod Playing
