pub mod HeadLaws
pub mod FaultLaws
