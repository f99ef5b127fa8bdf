mod Examples
pub mod Entries
pub mod Remainders
pub mod KeptPlaces
pub mod CodedLemmas
pub mod StepLemmas
pub mod InPlaceLemmas
pub mod RiseLemmas
pub mod GroupLemmas
pub mod TablesBy
pub mod FrontierLemmas
pub mod Contractions
pub mod SweepResults
