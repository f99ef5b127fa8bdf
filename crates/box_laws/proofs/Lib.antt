pub mod HookProducts
pub mod StrandBoxes
pub mod Projectors
pub mod BoxNodes
pub mod ProjectorCurls
pub mod CurlFactors
pub mod Traces
pub mod Closings
pub mod ClosedPairings
pub mod WordTraces
pub mod ClosedBoxes
pub mod HalfTurns
mod Examples
