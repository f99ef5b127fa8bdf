pub mod Numerals
pub mod Members
pub mod WalkLemmas
pub mod Spellings
pub mod FramingLemmas
pub mod ListSpellings
pub mod OnLiterals
mod Examples
