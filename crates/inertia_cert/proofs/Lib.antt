pub mod Bounds
pub mod Opposites
pub mod Tables
pub mod Stages
pub mod SumSteps
pub mod GridEntries
pub mod ColumnFits
pub mod Verdict
