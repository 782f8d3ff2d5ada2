pub mod NestingLaws
pub mod PlaceLaws
pub mod FrontLaws
