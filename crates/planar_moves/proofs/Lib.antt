pub mod FirstPlaces
pub mod CurledPlanes
pub mod PushedPlanes
pub mod BlownPlanes
pub mod KeptPlaces
pub mod RemovedCrossings
pub mod SmoothedCrossings
pub mod UndonePlanes
pub mod AnewPlaces
pub mod SlidPlanes
pub mod CurledLoops
pub mod NotPlanarFaults
pub mod AllMoves
mod Examples
