pub mod Bodies
pub mod MadeHeads
pub mod Sums
