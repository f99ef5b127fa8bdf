pub mod Forms
pub mod Parameters
pub mod Colours
pub mod Refusals
pub mod QuantumNumbers
pub mod Laws
