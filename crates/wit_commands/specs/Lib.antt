pub mod Input
pub mod Made
pub mod Outcome
pub mod Words
