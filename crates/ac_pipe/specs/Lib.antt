pub mod Draining
pub mod PipeEnds
pub mod Receives
pub mod inner
