pub mod Facts
pub mod Own
pub mod Passes
pub mod Roots
