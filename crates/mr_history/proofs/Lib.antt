mod Numbering
mod Kept
mod Summing
mod Gathering
mod Journaling
mod Bearing
mod Interleaving
