pub mod Words
pub mod Texts
pub mod OneReading
mod Examples
