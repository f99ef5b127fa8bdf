pub mod Loops
pub mod EdgeLemmas
pub mod MadeMoves
pub mod FramingsKept
pub mod BlownUp
pub mod ColouredKept
mod Examples
