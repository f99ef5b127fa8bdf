pub mod Integers
pub mod Polynomials
pub mod Congruences
pub mod Inverses
pub mod Identities
pub mod Modulo
pub mod PowerLemmas
pub mod SignedPowers
pub mod Unities
pub mod OrderSearch
pub mod LawProofs
mod Examples
