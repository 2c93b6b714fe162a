mod CappedLemmas
pub mod CutLemmas
pub mod DefinedLemmas
pub mod DefinedNameLemmas
pub mod EnumInstances
pub mod FunctionTypeLemmas
pub mod LevelLemmas
pub mod ListingLemmas
pub mod NamedTextLemmas
pub mod ParamInstances
pub mod ParamLemmas
pub mod PartLemmas
pub mod PartNameLemmas
pub mod PrintedLemmas
pub mod UsedLemmas
pub mod UsedNameLemmas
pub mod UsedTypeLemmas
mod VariantInstances
pub mod ZipLemmas
