pub mod Refusals
pub mod Directed
pub mod Slides
pub mod Matrices
pub mod Laws
