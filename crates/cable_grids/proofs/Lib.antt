pub mod Misfits
pub mod GridRows
pub mod OneTerm
