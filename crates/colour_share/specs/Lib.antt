pub mod ResultSums
pub mod Turns
pub mod Shares
pub mod Parts
pub mod Merging
pub mod Sums
