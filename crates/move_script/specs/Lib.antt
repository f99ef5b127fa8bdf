pub mod Tables
pub mod FramedMoves
pub mod ColouredMoves
