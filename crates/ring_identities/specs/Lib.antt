pub mod Residues
pub mod Powers
pub mod Laws
