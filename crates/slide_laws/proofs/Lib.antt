pub mod DirectedItems
pub mod Roots
pub mod StartPieces
pub mod SlidComponents
pub mod LoopLabels
pub mod Numbers
pub mod Inherited
pub mod Matrices
pub mod Refused
pub mod Congruence
pub mod FewLabels
pub mod SlidDiagram
pub mod Inertia
mod Examples
