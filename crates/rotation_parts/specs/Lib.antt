pub mod Rotations
pub mod GraphMaps
pub mod Drawings
pub mod Laws
