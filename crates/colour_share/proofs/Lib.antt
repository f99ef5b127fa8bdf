pub mod Shares
pub mod Rounds
pub mod Halves
pub mod Wholes
pub mod Refusals
