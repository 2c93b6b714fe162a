pub mod AskedLemmas
pub mod Escapes
pub mod Joins
pub mod NamedLemmas
pub mod NamedTypeLemmas
pub mod StmtLemmas
