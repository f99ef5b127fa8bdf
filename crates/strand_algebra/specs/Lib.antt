pub mod StrandPairings
pub mod Noncrossing
pub mod Elements
pub mod Projectors
pub mod Laws
pub mod GluedProducts
