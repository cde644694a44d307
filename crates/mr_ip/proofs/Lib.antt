pub mod Checksums
pub mod Heads
pub mod SentHeads
pub mod Sums
