-- The text of the runtime module's items.
use Rattle.std.specs.Prelude.{List, [], ◌∷◌, ◌++◌, codes}
use Rattle.std.specs.List.{flat_map}
use Rattle.rust_tree.specs.declared.runtime_item.RuntimeItem.{RuntimeItem}
use Rattle.rust_tree.specs.declared.runtime_item.RuntimeItem.TheVariants.{AsI32, AsI64, AsF32, AsF64, AllocCrate, StringType, VecType, BoolLift, CharLift, StringLift, StdAllocModule, CabiDealloc, InvalidEnumDiscriminant}
use Rattle.rust_tree.specs.declared.print.word.conversion.ConversionWord.TheVariants.{ConversionFn, ConversionBound, ConversionParam, ConvertParam, ReferenceBound, ReferenceTrait, ForReference, ConvertTarget, CallEnd, ConversionImpl, ImplFor, Inline, TakesSelf, CastSelf}
use Rattle.rust_tree.specs.declared.print.word.item.ItemWord.TheVariants.{PublicTrait, Method}
use Rattle.rust_tree.specs.declared.print.word.lift.LiftWord.TheVariants.{IfDebug, Otherwise, LiftEnd, BoolLiftType, CheckedBool, UncheckedBool, CharLiftType, CheckedChar, UncheckedChar, StringLiftType, CheckedString, UncheckedString, NoCaseType, CheckedNoCase, UncheckedNoCase}
use Rattle.rust_tree.specs.declared.print.word.runtime.RuntimeWord.TheVariants.{ExternCrate, PublicUse, UnsafeFn, DeallocParams, MakeLayout, Dealloc}
use Rattle.rust_tree.specs.declared.print.word.sign.Sign.TheVariants.{LineEnd, StatementEnd, OpenBlock, CloseBlock, PathMark}
use Rattle.rust_tree.specs.Runtime.{item_name}
use Rattle.wit_model.specs.Bytes.{Bytes}
use Rattle.rust_tree.specs.Word.{conversion_word, item_word, lift_word, runtime_word, sign}

-- the method that gives the core type `ty`
abbrev pub conversion_method_text : RuntimeItem → Bytes → Bytes
conversion_method_text item ty = item_word Method ++ item_name item ++ conversion_word TakesSelf ++ ty

-- the function over every type with the trait
unfoldable pub conversion_fn_text : RuntimeItem → Bytes → Bytes → Bytes
conversion_fn_text item bound ty =
    conversion_word ConversionFn ++ item_name item ++ conversion_word ConversionBound ++ bound ++ conversion_word ConversionParam ++ ty ++ sign OpenBlock ++ conversion_word ConvertParam ++ item_name item ++ conversion_word CallEnd ++ sign CloseBlock

-- the trait
unfoldable pub conversion_trait_text : RuntimeItem → Bytes → Bytes → Bytes
conversion_trait_text item bound ty =
    item_word PublicTrait ++ bound ++ sign OpenBlock ++ conversion_method_text item ty ++ sign StatementEnd ++ sign CloseBlock

-- the trait for a reference
unfoldable pub reference_impl_text : RuntimeItem → Bytes → Bytes → Bytes
reference_impl_text item bound ty =
    conversion_word ReferenceBound ++ bound ++ conversion_word ReferenceTrait ++ bound ++ conversion_word ForReference ++ conversion_method_text item ty ++ sign OpenBlock ++ conversion_word ConvertTarget ++ item_name item ++ conversion_word CallEnd ++ sign CloseBlock ++ sign CloseBlock

-- the trait for a type that is cast
unfoldable pub conversion_impl_text : RuntimeItem → Bytes → Bytes → Bytes → Bytes
conversion_impl_text item bound ty source =
    conversion_word ConversionImpl ++ bound ++ conversion_word ImplFor ++ source ++ sign OpenBlock ++ conversion_word Inline ++ conversion_method_text item ty ++ sign OpenBlock ++ conversion_word CastSelf ++ ty ++ sign LineEnd ++ sign CloseBlock ++ sign CloseBlock

-- the conversion to a core type, by a trait of the name `bound`, from these types and from references to them
unfoldable pub conversion_text : RuntimeItem → (bound ty : Bytes) → List Bytes → Bytes
conversion_text item bound ty sources =
    conversion_fn_text item bound ty ++ conversion_trait_text item bound ty ++ reference_impl_text item bound ty ++ flat_map (conversion_impl_text item bound ty) sources

-- a type or a module of the crate `alloc`, behind `path` there
unfoldable pub alloc_use_text : RuntimeItem → Bytes → Bytes
alloc_use_text item path = runtime_word PublicUse ++ item_name AllocCrate ++ sign PathMark ++ path ++ item_name item ++ sign StatementEnd

-- the function of this signature that gives the value of a core value: the debug form looks whether there is one, the other trusts that there is
unfoldable pub lift_text : RuntimeItem → (signature checked unchecked : Bytes) → Bytes
lift_text item signature checked unchecked =
    runtime_word UnsafeFn ++ item_name item ++ signature ++ lift_word IfDebug ++ checked ++ lift_word Otherwise ++ unchecked ++ lift_word LiftEnd

-- the function that frees the block of an address, a size and an alignment
unfoldable pub dealloc_text : Bytes
dealloc_text =
    runtime_word UnsafeFn ++ item_name CabiDealloc ++ runtime_word DeallocParams ++ item_name StdAllocModule ++ runtime_word MakeLayout ++ item_name StdAllocModule ++ runtime_word Dealloc

abbrev pub runtime_item_text : RuntimeItem → Bytes
runtime_item_text AsI32 =
    conversion_text AsI32 (codes "AsI32") (codes "i32") (codes "i32" ∷ codes "u32" ∷ codes "i16" ∷ codes "u16" ∷ codes "i8" ∷ codes "u8" ∷ codes "char" ∷ codes "usize" ∷ [])
runtime_item_text AsI64 = conversion_text AsI64 (codes "AsI64") (codes "i64") (codes "i64" ∷ codes "u64" ∷ [])
runtime_item_text AsF32 = conversion_text AsF32 (codes "AsF32") (codes "f32") (codes "f32" ∷ [])
runtime_item_text AsF64 = conversion_text AsF64 (codes "AsF64") (codes "f64") (codes "f64" ∷ [])
runtime_item_text AllocCrate = runtime_word ExternCrate ++ item_name AllocCrate ++ sign StatementEnd
runtime_item_text StringType = alloc_use_text StringType (codes "string::")
runtime_item_text VecType = alloc_use_text VecType (codes "vec::")
runtime_item_text BoolLift = lift_text BoolLift (lift_word BoolLiftType) (lift_word CheckedBool) (lift_word UncheckedBool)
runtime_item_text CharLift = lift_text CharLift (lift_word CharLiftType) (lift_word CheckedChar) (lift_word UncheckedChar)
runtime_item_text StringLift = lift_text StringLift (lift_word StringLiftType) (lift_word CheckedString) (lift_word UncheckedString)
runtime_item_text StdAllocModule = alloc_use_text StdAllocModule []
runtime_item_text CabiDealloc = dealloc_text
runtime_item_text InvalidEnumDiscriminant = lift_text InvalidEnumDiscriminant (lift_word NoCaseType) (lift_word CheckedNoCase) (lift_word UncheckedNoCase)
