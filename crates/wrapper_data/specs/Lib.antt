pub mod Answered
pub mod Heap
pub mod LastCase
