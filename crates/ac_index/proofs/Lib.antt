pub mod NotedLaws
pub mod PositionLaws
pub mod KeyLaws
