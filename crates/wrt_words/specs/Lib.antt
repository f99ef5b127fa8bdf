pub mod Program
pub mod Matched
pub mod Words
