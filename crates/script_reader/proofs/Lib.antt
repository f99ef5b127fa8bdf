pub mod SignArguments
pub mod StepCalls
pub mod StepReadings
pub mod PartsOfScripts
pub mod OneScriptReading
mod Examples
