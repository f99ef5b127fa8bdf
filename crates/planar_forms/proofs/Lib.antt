pub mod PlacePairs
pub mod PlaceCounts
pub mod PlanarForms
mod Examples
