-- How many core words the values of each kind of type are.
use Rattle.std.proofs.Common.{◌≡◌, ℕ, zero, suc, ◌≤◌, ◌<◌, true, false, List, [], ◌∷◌, length, map, get_or, Option, Some, slice_get, sym, ap, ◌∙◌, arith}
use Rattle.std.proofs.lemmas.Bool.Decides.{nat_tests}
use Rattle.std.proofs.lemmas.List.{length-append, length-replicate}
use Rattle.wit_model.specs.TypeOrder.{GoesDown}
use Rattle.wit_model.specs.declared.name.TypeId.{TypeId}
use Rattle.wit_model.specs.declared.types.Field.{Field}
use Rattle.wit_model.specs.declared.types.Member.{Member}
use Rattle.wit_model.specs.declared.types.TypeDef.{TypeDef}
use Rattle.wit_model.specs.declared.types.TypeDefKind.{TypeDefKind}
use Rattle.wit_model.specs.declared.types.TypeDefKind.TheVariants as kind
use Rattle.wit_model.specs.declared.types.WitType.{WitType}
use Rattle.wit_model.specs.declared.types.WitType.TheVariants as wit
use Rattle.wit_model.specs.declared.wasm_type.WasmType.{WasmType}
use Rattle.wit_model.specs.declared.wasm_type.WasmType.TheVariants as wasm
use Rattle.wit_layout.specs.Extent.{flag_words}
use Rattle.wit_layout.specs.Flat.{IsFlatOf, flatten_record, flatten_type, words_of_flags}
use Rattle.wit_layout.specs.Tree.{tree_of}
use Rattle.wit_layout.specs.declared.flat.Flat.{Flat}
use Rattle.wrapper_meaning.specs.Layout.{layout, layouts}
use Rattle.wrapper_meaning.specs.Shape.{Shape, payloads_in, shape_at, shape_of, shapes}
use Rattle.wrapper_meaning.specs.Shape.Shape.{cases}
use Rattle.wrapper_meaning.proofs.LayoutIsTree.{layout_is_tree}
use Rattle.abi_bindgen.specs.Cases.{payloads_of}
use Rattle.abi_bindgen.specs.Code.{case_words, payload_words}
use Rattle.abi_bindgen.specs.HasList.{IsKindOf}
use Rattle.abi_bindgen.specs.Instructions.{has_cases, shapes_of}
use Rattle.abi_bindgen.specs.SlotCasts.{FitIn}
use Rattle.abi_bindgen.specs.WordCount.{word_count, word_counts}
use Rattle.abi_bindgen.proofs.BareCases.{no_slots}
use Rattle.abi_bindgen.proofs.Payloads.{variant_shape}
use Rattle.abi_bindgen.proofs.Records.{alias_shape, enum_shape, flags_shape, record_shape, tuple_shape}
use Rattle.abi_bindgen.proofs.WordBits.{fit_length}

pub length_words : (n : ℕ) → length (words_of_flags n) ≡ flag_words n
length_words n = length-replicate (flag_words n) wasm.I32

-- how many words a shape is
abbrev words_in : Shape → ℕ
words_in t = length (flatten_type (layout t))

module _ (types : List TypeDef) where
  -- no type of sixteen words or fewer has more than are told
  pub no_more : (ty : WitType) (f : Flat) → IsFlatOf f (flatten_type (tree_of types ty)) → word_count types ty ≤ 16 → f.more ≡ false
  no_more ty f told few =
      let same : word_count types ty ≡ length (flatten_type (tree_of types ty)) = ap (λ t. length (flatten_type t)) (layout_is_tree types ty) in
      grind (arith, nat_tests, told.more, same, few)

  pub few_words : (ty : WitType) (slots : List WasmType) → FitIn (payload_words types (Some ty)) slots → length slots ≤ 16 → word_count types ty ≤ 16
  few_words ty slots fits few = omega (arith, fit_length (payload_words types (Some ty)) slots fits, few)

  -- a part is of no more words than all together
  pub part_few : (tys : List WitType) (i : ℕ) (d : WitType) → i < length tys → word_count types (get_or tys i d) ≤ word_counts types tys
  part_few [] i d short = absurd (omega (arith, short))
  part_few (ty ∷ tys) zero d short = omega (arith, length-append (flatten_type (layout (shape_of types ty))) (flatten_record (layouts (shapes_of types tys))))
  part_few (ty ∷ tys) (suc i) d short =
      let later = part_few tys i d (omega (arith, short)) in
      omega (arith, later, length-append (flatten_type (layout (shape_of types ty))) (flatten_record (layouts (shapes_of types tys))))

-- an entry of the table that was read
module _ (types : List TypeDef) (down : GoesDown types) (id : TypeId) (entry : TypeDef) (at : slice_get types id.0 ≡ Some entry) where
  pub alias_words : (ty : WitType) → entry.kind ≡ kind.Alias ty → word_count types (wit.Id id) ≡ word_count types ty
  alias_words ty is = ap words_in (alias_shape types down id.0 entry at ty is)

  pub record_words : (members : List Field) → entry.kind ≡ kind.Record members → word_count types (wit.Id id) ≡ word_counts types (map (λ f. f.ty) members)
  record_words members is = ap words_in (record_shape types down id.0 entry at members is)

  pub tuple_words : (tys : List WitType) → entry.kind ≡ kind.Tuple tys → word_count types (wit.Id id) ≡ word_counts types tys
  tuple_words tys is = ap words_in (tuple_shape types down id.0 entry at tys is)

  pub enum_words : (members : List Member) → entry.kind ≡ kind.Enum members → word_count types (wit.Id id) ≡ 1
  enum_words members is = ap words_in (enum_shape types down id.0 entry at members is) ∙ ap (λ (cs : List WasmType). suc (length cs)) (no_slots members)

  pub flags_words : (members : List Member) → entry.kind ≡ kind.Flags members → word_count types (wit.Id id) ≡ flag_words (length members)
  flags_words members is = ap words_in (flags_shape types down id.0 entry at members is) ∙ length_words (length members)

pub case_count : (types : List TypeDef) (id : TypeId) (payloads : List (Option WitType)) → shape_at types id.0 ≡ cases (payloads_in (shapes types) payloads) → word_count types (wit.Id id) ≡ case_words types payloads
case_count types id payloads are = ap words_in are

pub variant_words : (types : List TypeDef) → GoesDown types → (id : TypeId) (k : TypeDefKind) → IsKindOf types id.0 k → has_cases k ≡ true → word_count types (wit.Id id) ≡ case_words types (payloads_of k)
variant_words types down id k here has = case_count types id (payloads_of k) (variant_shape types down id.0 k here has)
