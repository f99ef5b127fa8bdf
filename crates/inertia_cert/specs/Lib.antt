pub mod SymmetricMatrices
pub mod Values
pub mod Grids
pub mod Eliminations
pub mod Columns
pub mod Changes
