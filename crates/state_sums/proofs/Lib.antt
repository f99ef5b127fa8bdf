pub mod Sums
pub mod StateEdges
pub mod StateSums
pub mod Congruent
pub mod Coefficients
pub mod LabelSums
pub mod Replacing
pub mod GluedSums
pub mod DisjointSums
pub mod NodeNames
pub mod NodeOrder
pub mod WrittenNodes
pub mod Cuts
pub mod NetworkLaws
mod Examples
