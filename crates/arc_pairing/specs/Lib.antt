pub mod Pairings
pub mod Codes
pub mod Gluing
pub mod Counts
pub mod Nodes
