pub mod Edges
pub mod Colourings
pub mod Boxes
pub mod Standings
pub mod Progress
pub mod Faults
pub mod Refusals
