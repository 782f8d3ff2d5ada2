pub mod FrontLaws
pub mod ArrivedLaws
