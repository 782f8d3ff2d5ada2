pub mod BehindLaws
pub mod BoundLaws
pub mod FindLaws
pub mod KeyLaws
pub mod OpenLaws
pub mod StateLaws
