pub mod Least
pub mod Counts
pub mod ItemLabels
pub mod ItemCalls
pub mod TextTokens
pub mod StopLemmas
pub mod Readings
mod Written
mod ReadsBack
pub mod OneReading
pub mod SignedItems
mod TorusLabels
mod Examples
