pub mod Colourings
pub mod Normalisations
pub mod Terms
pub mod Laws
