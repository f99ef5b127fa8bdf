pub mod ToldRefusals
pub mod Accepted
pub mod Following
pub mod BracketLines
pub mod ValuesExist
pub mod SurgeryLines
pub mod ColouredLines
