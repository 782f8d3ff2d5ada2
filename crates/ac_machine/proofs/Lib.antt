pub mod AloneLaws
pub mod RunLaws
pub mod TestLaws
pub mod TogetherLaws
