pub mod Counting
pub mod Distinct
pub mod Ends
pub mod Walks
pub mod Agreement
pub mod Rounds
pub mod Representatives
pub mod LeastNames
pub mod LeastLabels
pub mod Numbered
pub mod Renaming
pub mod Through
pub mod PatternLabels
pub mod Gluing
pub mod PartLaws
mod Examples
