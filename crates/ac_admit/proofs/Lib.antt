pub mod AcceptLaws
pub mod CauseLaws
pub mod CommitLaws
pub mod PlaceLaws
pub mod RoomLaws
pub mod SpokenLaws
