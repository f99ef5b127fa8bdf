pub mod ProgramLemmas
pub mod MatchedLemmas
pub mod WordsLemmas
pub mod OnLiterals
mod Examples
