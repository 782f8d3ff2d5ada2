pub mod ChannelFiles
pub mod Files
pub mod ManyTexts
pub mod ProgramTexts
pub mod ReadOrder
pub mod ShelfLists
pub mod inner
