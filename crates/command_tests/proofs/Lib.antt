pub mod CanDefine
pub mod InRange
pub mod Written
