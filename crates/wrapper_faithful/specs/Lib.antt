pub mod Arguments
pub mod Export
pub mod Import
pub mod KeptHeaps
pub mod Laws
pub mod Passed
pub mod Resources
pub mod Returned
