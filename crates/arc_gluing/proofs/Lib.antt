pub mod OneEdge
pub mod AllEdges
pub mod PointPairs
pub mod Kept
pub mod Copied
pub mod Glued
pub mod SlotNames
pub mod Through
pub mod Places
pub mod Choices
pub mod OneNode
pub mod ByParts
pub mod EachState
pub mod GluingLaws
pub mod Slots
pub mod Seamed
mod Examples
