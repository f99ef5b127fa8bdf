pub mod ShortPairings
pub mod NestedLists
pub mod AddedTerms
pub mod PairingPlaces
pub mod Seams
pub mod TermLoops
pub mod Rows
pub mod ClosureSums
