pub mod Lists
pub mod Nets
pub mod Known
pub mod Colourings
pub mod Sums
pub mod Refusals
pub mod Ready
pub mod Stores
