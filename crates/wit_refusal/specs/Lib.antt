pub mod Line
pub mod Names
pub mod Status
pub mod Word
