pub mod Elements
pub mod ReachLemmas
pub mod Whole
pub mod Scans
pub mod Words
pub mod Ends
pub mod Numbers
pub mod Numerals
pub mod Places
pub mod Marks
pub mod Arguments
pub mod Choice
pub mod Chain
pub mod Lists
pub mod Slots
pub mod Closing
pub mod TokenLists
pub mod Spellings
pub mod Scanning
pub mod Calling
pub mod Readings
pub mod Listing
pub mod Choosing
mod Signs
mod Examples
