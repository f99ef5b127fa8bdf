pub mod Tetras
pub mod Faults
pub mod Laws
