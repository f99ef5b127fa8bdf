pub mod Braids
pub mod Faults
pub mod Laws
