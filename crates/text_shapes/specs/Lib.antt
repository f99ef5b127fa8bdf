pub mod Tokens
pub mod Shapes
pub mod Reach
pub mod Readers
pub mod Laws
