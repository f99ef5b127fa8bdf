pub mod Pairings
pub mod Sums
pub mod Laws
pub mod Mates
pub mod Seams
