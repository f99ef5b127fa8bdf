pub mod ColourLists
pub mod FormColours
pub mod Sums
pub mod Omegas
pub mod CoprimeInverses
pub mod NoFaults
pub mod Weights
pub mod Writhes
pub mod TurnBounds
mod Examples
