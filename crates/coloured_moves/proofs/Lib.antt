pub mod Recut
pub mod CutCloses
pub mod CutPlaces
pub mod SameComponents
pub mod NetAppends
pub mod PushedCables
pub mod CurledStrands
pub mod CurledCables
pub mod ColouredMoves
pub mod Tests
pub mod StubItems
pub mod StubNames
pub mod StubCables
pub mod ArcMerges
pub mod BundleMerges
pub mod BundleOrder
pub mod BundleRuns
pub mod ClosedBundles
pub mod DroppedCrossings
pub mod ExchangedStubs
pub mod TurnedBoxes
pub mod SlidStubs
pub mod CablePulls
pub mod LabelColours
pub mod SlidCables
pub mod PulledBundles
pub mod PulledStubs
pub mod ClosedCables
pub mod PulledCables
pub mod ColouredSlides
pub mod ColouredBigons
pub mod CurledLoops
pub mod LoopCurls
pub mod ColouredCurls
mod Examples
mod SlideExamples
mod BigonExamples
