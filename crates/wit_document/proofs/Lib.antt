pub mod Data
pub mod InRange
pub mod Keys
pub mod Parts
pub mod Texts
