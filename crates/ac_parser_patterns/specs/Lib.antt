pub mod Forms
pub mod PatternPieces
pub mod Pieces
pub mod Reading
