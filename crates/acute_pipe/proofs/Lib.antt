pub mod ReceivedLaws
mod PipedLaws
mod SenderLaws
