pub mod LeastLabelLists
pub mod CutComponents
pub mod PushedComponents
pub mod CurledComponents
pub mod ClosedComponents
pub mod TriangleComponents
pub mod PairedAgain
pub mod PairedResults
pub mod ComponentLaws
pub mod FaceSteps
pub mod FoundFaces
pub mod DiagramResults
pub mod ScriptLines
mod Examples
