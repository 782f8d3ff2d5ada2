pub mod Form
pub mod WordValues
pub mod Commands
pub mod inner
