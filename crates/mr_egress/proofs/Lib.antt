pub mod Bits
pub mod CopiesWritten
pub mod Indexes
pub mod Listing
pub mod Merging
pub mod Standing
pub mod Walking
pub mod Whole
