pub mod LineExamples
pub mod LoadedLaws
pub mod TextLaws
pub mod OneAnswer
pub mod RefusalLaws
pub mod VerdictLines
pub mod MadeLaws
