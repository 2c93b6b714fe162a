pub mod Asked
pub mod Conditions
pub mod Kinds
pub mod Numbers
pub mod Words
