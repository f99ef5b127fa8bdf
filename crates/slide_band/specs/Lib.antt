pub mod Copies
pub mod Faces
pub mod Sides
pub mod Relabellings
