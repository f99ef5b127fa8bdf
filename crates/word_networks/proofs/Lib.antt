pub mod Labels
pub mod Points
pub mod StepLabels
pub mod StepSums
pub mod StepNetworks
pub mod Grids
pub mod Fresh
pub mod TurnedGrids
pub mod BoxNetworks
pub mod PlacedGrids
pub mod Strands
pub mod NetworkLaws
mod Examples
