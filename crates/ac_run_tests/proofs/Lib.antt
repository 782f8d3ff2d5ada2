pub mod SmallFrames
