pub mod AcceptedLemmas
pub mod CauseLemmas
mod ClashLemmas
pub mod DeclaredLemmas
mod EmittedLemmas
pub mod FunctionLemmas
pub mod LargeLemmas
mod ListedNameLemmas
pub mod RootLemmas
pub mod ServedLemmas
pub mod WithinLemmas
