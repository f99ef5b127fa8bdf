pub mod Steps
pub mod StepTexts
pub mod ScriptTexts
pub mod Laws
