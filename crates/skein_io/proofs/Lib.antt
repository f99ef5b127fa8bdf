pub mod SourceLemmas
pub mod SinkLemmas
mod Examples
