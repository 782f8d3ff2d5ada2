pub mod ListLaws
pub mod PatternLaws
pub mod PrimitiveLaws
