pub mod ListLaws
pub mod ValueLaws
pub mod FunctionLaws
pub mod TravelLaws
pub mod WrittenLaws
