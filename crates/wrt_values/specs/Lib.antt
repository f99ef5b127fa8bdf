pub mod Refusals
pub mod Inverses
pub mod Values
pub mod Coloured
pub mod Surgery
