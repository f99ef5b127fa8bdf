pub mod MissingInverses
mod Ones
pub mod OneResidue
mod Examples
mod Surgeries
