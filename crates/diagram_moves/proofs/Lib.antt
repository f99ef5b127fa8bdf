pub mod KeptStrands
pub mod NoNumbers
pub mod Nodes
pub mod OtherTriangle
pub mod BracketValues
pub mod Paired
pub mod Corners
pub mod Undone
pub mod Pulling
pub mod Rewritten
pub mod Triangles
pub mod PlaceLemmas
pub mod Pushing
pub mod Curling
pub mod Accepted
pub mod Results
pub mod PlainMoves
mod Drawn
mod Examples
