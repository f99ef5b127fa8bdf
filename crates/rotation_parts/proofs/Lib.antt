pub mod Steps
pub mod Exchange
pub mod FlatEdges
pub mod CutVertices
pub mod Retracts
pub mod PieceGraphs
pub mod Matches
pub mod Pairings
pub mod Curls
pub mod PairForms
pub mod Subdivisions
pub mod PassedVertices
pub mod OtherNames
pub mod Slides
pub mod LoneCurls
pub mod PassedLists
pub mod Pushes
mod Examples
