mod Examples
pub mod Cuts
pub mod FactorSteps
pub mod FitNets
pub mod KeptNotes
pub mod LabelBounds
pub mod ListedFaces
pub mod NetTurns
pub mod NetValues
pub mod Presence
pub mod ProductSteps
pub mod ReadyNets
pub mod RefusalSteps
pub mod Searches
pub mod WalkSteps
pub mod Walks
