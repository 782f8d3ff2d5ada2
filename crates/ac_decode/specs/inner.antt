pub mod Follows
pub mod ExactPackets
pub mod ExactTerms
pub mod Ends
