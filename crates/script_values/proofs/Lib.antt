mod Played
pub mod Moves
pub mod ColoursKept
