pub mod Analysing
pub mod Marking
pub mod Reaching
pub mod Spreading
pub mod Using
