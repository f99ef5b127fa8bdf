pub mod Tetrahedra
pub mod ItemCalls
pub mod OneReading
mod Examples
