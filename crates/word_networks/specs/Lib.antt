pub mod Steps
pub mod Spelling
pub mod GridNetworks
pub mod BoxNetworks
pub mod PlacedGrids
pub mod Strands
pub mod Laws
