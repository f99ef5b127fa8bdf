pub mod QuantumSteps
mod TwistSteps
pub mod LawProofs
pub mod EqualParameters
pub mod ParametersTests
pub mod GreatestColours
pub mod RefusalProofs
mod Examples
