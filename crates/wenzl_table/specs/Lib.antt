pub mod Projectors
pub mod Inverses
pub mod Laws
pub mod Tables
pub mod Marks
pub mod Found
