pub mod AlongRuns
pub mod FormedWithout
pub mod Instances
pub mod KeptHeaps
pub mod NoHandles
pub mod Round
