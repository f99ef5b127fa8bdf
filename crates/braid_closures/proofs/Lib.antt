pub mod Examples
pub mod Words
pub mod ClosedDiagrams
pub mod BraidSteps
pub mod ClosedStrands
pub mod BraidTraces
