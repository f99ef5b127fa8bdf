pub mod Arcs
pub mod Pieces
pub mod TurnedNodes
pub mod Corners
pub mod Laws
