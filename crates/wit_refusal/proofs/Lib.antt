pub mod Escapes
mod LineExamples
