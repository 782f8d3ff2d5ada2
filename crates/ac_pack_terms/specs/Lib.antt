pub mod Spoken
pub mod Items
pub mod Pieces
pub mod inner
