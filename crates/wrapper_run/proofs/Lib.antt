pub mod Acts
pub mod Apart
pub mod BesideActs
pub mod BesideLemmas
mod EnumExamples
pub mod EnumSteps
mod Examples
mod FlagsExamples
pub mod FlagsSteps
pub mod FreeSteps
pub mod GiveSteps
pub mod GrowLemmas
pub mod HeapLemmas
pub mod InwardCalls
mod InwardExamples
pub mod InwardWalk
pub mod LocalLemmas
pub mod MemoryLemmas
pub mod MethodLemmas
pub mod NumberLemmas
pub mod OuterLemmas
pub mod OwningLemmas
pub mod PartSteps
pub mod QuietActs
pub mod QuietSteps
pub mod ScopeLemmas
pub mod StepLemmas
pub mod StmtSteps
pub mod StoreLemmas
pub mod TakeLemmas
pub mod TextLemmas
pub mod TypedLemmas
pub mod UnusedLemmas
mod VariantExamples
pub mod VariantSteps
pub mod Walk
