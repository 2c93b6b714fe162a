pub mod AskedItems
pub mod AskedLemmas
mod EntryLemmas
mod FaithfulLemmas
mod FixedLemmas
pub mod CalledMethods
pub mod IdentLemmas
mod ItemLemmas
mod KnownLemmas
mod NamedLemmas
mod OneCode
mod OrderLemmas
mod OwnNames
mod PartsLemmas
mod PartsOfBodies
mod ResultLemmas
mod ServedLemmas
mod SignatureLemmas
mod SkipLemmas
pub mod IndirectResults
pub mod TreeLemmas
pub mod WrapperLemmas
mod WrapperNames
