pub mod Natives
pub mod Clashes
pub mod ChainTexts
pub mod ChainMeaning
pub mod Endings
pub mod StringLines
pub mod inner
