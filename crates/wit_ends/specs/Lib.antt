pub mod Faults
pub mod Input
pub mod SinkState
pub mod SourceState
