-- Variants, options and results of the table, and the payloads of their cases.
use Rattle.std.proofs.Common.{◌≡◌, ℕ, zero, suc, ◌-◌, ◌≤◌, ◌<◌, true, false, List, [], ◌∷◌, length, map, take, drop, get_or, Option, None, Some, option_map, refl, sym, ap, ◌∙◌, arith}
use Rattle.std.specs.List.{list_all}
use Rattle.std.proofs.lemmas.Bool.{and_parts}
use Rattle.std.proofs.lemmas.Bool.Decides.{nat_tests}
use Rattle.std.proofs.lemmas.List.{take_all}
use Rattle.wit_model.specs.TypeOrder.{GoesDown, parts_below, payload_below, type_below}
use Rattle.wit_model.specs.Parts.{parts}
use Rattle.wit_model.specs.declared.types.TypeDef.{TypeDef}
use Rattle.wit_model.specs.declared.types.TypeDefKind.{TypeDefKind}
use Rattle.wit_model.specs.declared.types.TypeDefKind.TheVariants as kind
use Rattle.wit_model.specs.declared.types.WitType.{WitType}
use Rattle.wit_model.specs.declared.types.WitType.TheVariants as wit
use Rattle.wit_model.specs.declared.name.TypeId.{TypeId}
use Rattle.wit_model.specs.declared.wasm_type.WasmType.{WasmType}
use Rattle.wit_model.specs.declared.wasm_type.WasmType.TheVariants as wasm
use Rattle.wit_layout.specs.Tree.{tree_of}
use Rattle.wit_model.specs.WellFormed.{IsWellFormed}
use Rattle.wit_model.specs.declared.resolve.Resolve.{Resolve}
use Rattle.wit_layout.proofs.AheadEnough.{type_words}
use Rattle.wit_layout.proofs.CheckedWords.{checked_words}
use Rattle.wrapper_meaning.proofs.LayoutIsTree.{layout_is_tree}
use Rattle.wit_layout.specs.Flat.{IsFlatOf, flatten_type}
use Rattle.wit_layout.specs.declared.flat.Flat.{Flat}
use Rattle.wit_layout.proofs.FlattenSteps.{payload_rank, payload_rank_below}
use Rattle.wrapper_meaning.specs.Layout.{layout}
use Rattle.wrapper_meaning.specs.Shape.{Shape, is_nothing, payloads_in, shape_at, shape_by, shape_of, shapes}
use Rattle.wrapper_meaning.specs.Shape.Shape.{cases, fields}
use Rattle.wrapper_meaning.specs.Shape.Shapes.{none, more}
use Rattle.wrapper_meaning.proofs.ShapeIsByKind.{shape_is_by_kind}
use Rattle.abi_bindgen.specs.Cases.{payloads_at, payloads_of, payloads_or}
use Rattle.abi_bindgen.specs.Code.{by_case, case_words, payload_words, payloads_there, shared_slots}
use Rattle.abi_bindgen.specs.HasList.{IsKindOf}
use Rattle.abi_bindgen.specs.Instructions.{has_cases}
use Rattle.abi_bindgen.specs.Parts.{count}
use Rattle.wit_model.proofs.BelowLemmas.{payload_below_more}

-- each payload that there is with what was made for it
pub by_case_map : {A : Type 0} (g : WitType → A) (payloads : List (Option WitType)) → by_case payloads (map g (payloads_there payloads)) ≡ map (option_map (λ ty. (ty, g ty))) payloads
by_case_map g [] = refl
by_case_map g (None ∷ payloads) = ap (λ parts. None ∷ parts) (by_case_map g payloads)
by_case_map g (Some ty ∷ payloads) = ap (λ parts. Some (ty, g ty) ∷ parts) (by_case_map g payloads)

pub count_payloads : (ss : List Shape) (payloads : List (Option WitType)) → count (payloads_in ss payloads) ≡ length payloads
count_payloads ss [] = refl
count_payloads ss (p ∷ payloads) = ap suc (count_payloads ss payloads)

-- a type of the table with cases
module _ (types : List TypeDef) (down : GoesDown types) (id : ℕ) (k : TypeDefKind) (here : IsKindOf types id k) (has : has_cases k ≡ true) where
  kind_shape : (k : TypeDefKind) → has_cases k ≡ true → shape_by id (shapes types) k ≡ cases (payloads_in (shapes types) (payloads_of k))
  kind_shape (kind.Variant members) h = refl
  kind_shape (kind.Option ty) h = refl
  kind_shape (kind.Result ok err) h = refl
  kind_shape _ h = absurd cc

  pub variant_shape : shape_at types id ≡ cases (payloads_in (shapes types) (payloads_of k))
  variant_shape = shape_is_by_kind types id here.entry down here.stands ∙ ap (shape_by id (shapes types)) here.kind ∙ kind_shape k has

  pub payloads_here : payloads_at types id ≡ payloads_of k
  payloads_here = ap payloads_or here.stands ∙ ap payloads_of here.kind

  kind_below : (k : TypeDefKind) → has_cases k ≡ true → parts_below id k ≡ true → list_all (λ p. payload_below id p) (payloads_of k) ≡ true
  unfolding parts_below parts payload_below
  kind_below (kind.Variant members) h low = low
  kind_below (kind.Option ty) h low = low
  kind_below (kind.Result ok err) h low = low
  kind_below _ h low = absurd cc

  pub variant_below : list_all (λ p. payload_below id p) (payloads_of k) ≡ true
  variant_below = kind_below k has (sym (ap (parts_below id) here.kind) ∙ down id here.entry here.stands)

-- a payload of bounded ones
payloads_get : (bound : ℕ) (payloads : List (Option WitType)) (i : ℕ) (d : Option WitType) → list_all (λ p. payload_below bound p) payloads ≡ true → i < length payloads → payload_below bound (get_or payloads i d) ≡ true
payloads_get bound [] i d h l = absurd (omega (arith, l))
payloads_get bound (p ∷ payloads) zero d h l = (and_parts _ _ h).0
payloads_get bound (p ∷ payloads) (suc i) d h l = payloads_get bound payloads i d (and_parts _ _ h).1 (omega (arith, l))

pub payload_ranked : (bound : ℕ) (payloads : List (Option WitType)) (i : ℕ) (d : Option WitType) → list_all (λ p. payload_below bound p) payloads ≡ true → i < length payloads → payload_rank (get_or payloads i d) ≤ bound
payload_ranked bound payloads i d h l = payload_rank_below bound (get_or payloads i d) (payloads_get bound payloads i d h l)

pub payload_in_table : (bound n : ℕ) (payloads : List (Option WitType)) (i : ℕ) (d : Option WitType) → bound < n → list_all (λ p. payload_below bound p) payloads ≡ true → i < length payloads → payload_below n (get_or payloads i d) ≡ true
payload_in_table bound n payloads i d b h l = payload_below_more bound n (get_or payloads i d) (omega (arith, b)) (payloads_get bound payloads i d h l)

-- where there are no more than sixteen words, they are told
pub all_told : (f : Flat) (words : List WasmType) → IsFlatOf f words → f.more ≡ false → (take f.count f.words ≡ words) × (f.count ≡ length words)
all_told f words h few =
    let short : length words ≤ 16 = grind (arith, nat_tests, h.more, few) in
    (h.kept ∙ take_all 16 words short, h.count ∙ omega (arith, short))

words_some : (t : Shape) (n : ℕ) → n ≡ length (flatten_type (layout t)) → 0 < n → is_nothing t ≡ false
words_some (fields none) n e l = absurd (omega (arith, e, l))
words_some (fields (more t ts)) n e l = refl
words_some _ n e l = refl

rest_told : {A : Type 0} (xs ys : List A) (n : ℕ) (y : A) → take n xs ≡ y ∷ ys → take (n - 1) (drop 1 xs) ≡ ys
rest_told [] ys zero y h = cc
rest_told [] ys (suc n) y h = cc
rest_told (x ∷ xs) ys zero y h = cc
rest_told (x ∷ xs) ys (suc n) y h = let e : suc n - 1 ≡ n = omega arith in ap (λ k. take k xs) e ∙ cons_rest h
  where
    cons_rest : x ∷ take n xs ≡ y ∷ ys → take n xs ≡ ys
    cons_rest h = cc

-- the words of a type with cases are told: the slots behind the word of the case
module _ (types : List TypeDef) (id : TypeId) (payloads : List (Option WitType)) (cases_are : shape_at types id.0 ≡ cases (payloads_in (shapes types) payloads)) (f : Flat) (told : IsFlatOf f (flatten_type (tree_of types (wit.Id id)))) (few : f.more ≡ false) where
  variant_words : flatten_type (tree_of types (wit.Id id)) ≡ wasm.I32 ∷ shared_slots types payloads
  variant_words = ap flatten_type (sym (layout_is_tree types (wit.Id id))) ∙ ap (λ t. flatten_type (layout t)) cases_are

  pub count_told : f.count ≡ case_words types payloads
  count_told = (all_told f (flatten_type (tree_of types (wit.Id id))) told few).1 ∙ ap length variant_words

  pub slots_told : take (f.count - 1) (drop 1 f.words) ≡ shared_slots types payloads
  slots_told = rest_told f.words (shared_slots types payloads) f.count wasm.I32 ((all_told f (flatten_type (tree_of types (wit.Id id))) told few).0 ∙ variant_words)

-- those of a payload are told
module _ (types : List TypeDef) (ty : WitType) (f : Flat) (told : IsFlatOf f (flatten_type (tree_of types ty))) (few : f.more ≡ false) where
  pub payload_told : take f.count f.words ≡ payload_words types (Some ty)
  payload_told = (all_told f (flatten_type (tree_of types ty)) told few).0 ∙ ap flatten_type (sym (layout_is_tree types ty))

  pub payload_count : f.count ≡ length (payload_words types (Some ty))
  payload_count = (all_told f (flatten_type (tree_of types ty)) told few).1 ∙ ap (λ t. length (flatten_type t)) (sym (layout_is_tree types ty))

-- in tables that the check passes a payload has a word
pub payload_some : (r : Resolve) → IsWellFormed r → (ty : WitType) → type_below (length r.types) ty ≡ true → is_nothing (shape_of r.types ty) ≡ false
unfolding payload_below
payload_some r well ty low =
    let some = type_words r.types (length r.types) (checked_words r well.unbroken) ty low in
    words_some (shape_of r.types ty) (length (payload_words r.types (Some ty))) refl (omega (arith, some, ap (λ t. length (flatten_type t)) (layout_is_tree r.types ty)))
