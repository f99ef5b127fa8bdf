pub mod PlaceSystems
pub mod Laws
