pub mod StageLemmas
pub mod InputLemmas
pub mod ParametersLemmas
pub mod StatusLemmas
pub mod DiagramLemmas
pub mod SweptLemmas
pub mod NetLemmas
pub mod RunLemmas
pub mod TaskLemmas
pub mod NoWords
pub mod UniqueOutcomes
pub mod Settled
pub mod SurgeryLemmas
pub mod FramingLemmas
mod ScriptLemmas
pub mod ReportedValues
mod ScriptReports
mod SameResidues
mod Examples
