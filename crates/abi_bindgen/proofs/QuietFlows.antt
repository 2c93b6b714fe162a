-- Code that passes values calls nothing, and closes each block that it opens.
use Rattle.std.proofs.Common.{◌≡◌, ℕ, zero, suc, ◌+◌, Bool, true, false, not, ◌&&◌, if◌then◌else◌, List, [], ◌∷◌, ◌++◌, length, map, Option, None, Some, refl, sym, ap, ap₂, ◌∙◌}
use Rattle.std.specs.Prelude.{IfSome, slice_index_or, take, drop, zip}
use Rattle.std.specs.List.{AllByRecursion, list_all}
use Rattle.wit_model.specs.declared.name.TypeId.{TypeId}
use Rattle.wit_model.specs.declared.size.ArchitectureSize.{ArchitectureSize}
use Rattle.wit_model.specs.declared.types.Field.{Field}
use Rattle.wit_model.specs.declared.types.TypeDef.{TypeDef}
use Rattle.wit_model.specs.declared.types.TypeDefKind.{TypeDefKind}
use Rattle.wit_model.specs.declared.types.TypeDefKind.TheVariants as kind
use Rattle.wit_model.specs.declared.types.WitType.{WitType}
use Rattle.wit_model.specs.declared.types.WitType.TheVariants as wit
use Rattle.wit_model.specs.declared.wasm_type.WasmType.{WasmType}
use Rattle.wit_layout.specs.Tree.{tree_at, tree_of}
use Rattle.wrapper_meaning.specs.Kinds.{has_list}
use Rattle.wrapper_meaning.specs.Represents.{are_indirect, is_indirect}
use Rattle.wrapper_meaning.specs.Shape.{shape_at, shape_of}
use Rattle.wrapper_meaning.specs.Shape.Shape.{fields}
use Rattle.abi_bindgen.specs.declared.instruction.Instruction.{Instruction}
use Rattle.abi_bindgen.specs.declared.instruction.Instruction.TheVariants.{GetArg, GuestDeallocateVariant, OptionLift, OptionLower, ResultLift, ResultLower, VariantLift, VariantLower}
use Rattle.abi_bindgen.specs.Calls.{is_call}
use Rattle.abi_bindgen.specs.Cases.{payloads_of}
use Rattle.abi_bindgen.specs.Code.{ask_for, at_payload, at_places, beyond, by_case, by_tag, case_words, cast_code, free_cases, free_code, free_kind, free_leaf, get_arguments, give_code, in_blocks, in_turn, lift_arguments, lift_case, lift_cases, lift_code, lift_kind, lift_leaf, load_arguments, load_code, load_kind, load_leaf, load_words, lower_arguments, lower_case, lower_cases, lower_code, lower_kind, lower_leaf, made, made_behind, made_for, made_in, members_of, no_value, of_alias, of_words, pass_code, payload_place, payload_words, place_in, post_return_code, argument_place, point_code, read_code, shared_slots, store_answer_code, store_arguments, store_by, store_case, store_cases, store_code, store_kind, store_leaf, store_number, take_code, take_record_code, word_place, zero_code}
use Rattle.abi_bindgen.specs.Flow.{Flow, alone, ask, behind, both, cast_by, each, each_back, emit, emit_some, in_block, leading, leave_none, same, zeros_of, ◌>>>◌}
use Rattle.abi_bindgen.specs.Flows.{Flows}
use Rattle.abi_bindgen.specs.Frees.{nowhere}
use Rattle.abi_bindgen.specs.Instructions.{AddsCode, block_results, case_lifting, case_lowering, lifting, lowering, shapes_of}
use Rattle.abi_bindgen.specs.Meaning.{Meaning}
use Rattle.abi_bindgen.specs.NumberTouches.{number_load, number_store, flags_load, flags_store, tag_load, tag_store}
use Rattle.abi_bindgen.specs.SlotCasts.{casts_between, is_no_cast}
use Rattle.abi_bindgen.specs.WordCount.{word_count}
use Rattle.wit_layout.specs.Extent.{discriminant_grain, flags_extent}
use Rattle.wit_layout.specs.Flat.{flatten_type, words_of_flags}

-- 1. Code that calls nothing

abbrev pub is_quiet : Flow → Bool
is_quiet (emit i) = not (is_call i)
is_quiet (in_block code) = is_quiet code
is_quiet (one >>> two) = is_quiet one && is_quiet two
is_quiet (both one two) = is_quiet one && is_quiet two
is_quiet _ = true

abbrev pub IsQuiet : Flow → Type 0
IsQuiet code = is_quiet code ≡ true

pub quiet_two : (a b : Bool) → a ≡ true → b ≡ true → (a && b) ≡ true
quiet_two a b h g = ap₂ (λ x y. x && y) h g

-- an instruction that is no call
one_quiet : (i : Instruction) → is_call i ≡ false → IsQuiet (emit i)
one_quiet i h = ap not h

if_quiet : (b : Bool) (one two : Flow) → IsQuiet one → IsQuiet two → IsQuiet (if b then one else two)
if_quiet true one two h g = h
if_quiet false one two h g = g

each_quiet : {A : Type 0} (P : A → Type 0) (shared : ℕ) (own : A → ℕ) (f : ℕ → A → Flow) → ((n : ℕ) (x : A) → P x → IsQuiet (f n x)) → (n : ℕ) (xs : List A) → AllByRecursion P xs → IsQuiet (each shared own f n xs)
each_quiet P shared own f h n [] all = refl
each_quiet P shared own f h n (x ∷ xs) all = quiet_two (is_quiet (f n x)) (is_quiet (each shared own f (suc n) xs)) (h n x all.0) (each_quiet P shared own f h (suc n) xs all.1)

pub any : {A : Type 0} (xs : List A) → AllByRecursion (λ (x : A). Unit {0}) xs
any [] = tt
any (x ∷ xs) = (tt, any xs)

every_quiet : {A : Type 0} (shared : ℕ) (own : A → ℕ) (f : ℕ → A → Flow) → ((n : ℕ) (x : A) → IsQuiet (f n x)) → (n : ℕ) (xs : List A) → IsQuiet (each shared own f n xs)
every_quiet shared own f h n xs = each_quiet (λ x. Unit {0}) shared own f (λ n x u. h n x) n xs (any xs)

back_quiet : {A : Type 0} (shared : ℕ) (own : A → ℕ) (f : ℕ → A → Flow) → ((n : ℕ) (x : A) → IsQuiet (f n x)) → (n : ℕ) (xs : List A) → IsQuiet (each_back shared own f n xs)
back_quiet shared own f h n [] = refl
back_quiet shared own f h n (x ∷ xs) = quiet_two (is_quiet (each_back shared own f (suc n) xs)) (is_quiet (f n x)) (back_quiet shared own f h (suc n) xs) (h n x)

-- what is made for a payload keeps what each part keeps
abbrev pub Kept : {A : Type 0} → (A → Type 0) → Option (WitType × A) → Type 0
Kept P o = IfSome o (λ x. P x.1)

pub by_case_all : {A : Type 0} (P : A → Type 0) (payloads : List (Option WitType)) (parts : List A) → AllByRecursion P parts → AllByRecursion (Kept P) (by_case payloads parts)
by_case_all P [] parts all = tt
by_case_all P (None ∷ payloads) parts all = (tt, by_case_all P payloads parts all)
by_case_all P (Some ty ∷ payloads) [] all = (tt, by_case_all P payloads [] tt)
by_case_all P (Some ty ∷ payloads) (part ∷ parts) all = (all.0, by_case_all P payloads parts all.1)

-- 2. What is made for the types of a table keeps what each kind keeps

module _ {A : Type 0} (P : A → Type 0) (leaf : WitType → A) (by_kind : ℕ → TypeDefKind → List A → A) (leaf_is : (ty : WitType) → P (leaf ty)) (kind_is : (id : ℕ) (k : TypeDefKind) (parts : List A) → AllByRecursion P parts → P (by_kind id k parts)) where
  at_index : (xs : List A) (i : ℕ) (d : A) → AllByRecursion P xs → P d → P (slice_index_or xs i d)
  at_index [] i d all h = h
  at_index (x ∷ xs) zero d all h = all.0
  at_index (x ∷ xs) (suc i) d all h = at_index xs i d all.1 h

  in_is : (before : List A) → AllByRecursion P before → (ty : WitType) → P (made_in leaf before ty)
  in_is before all (wit.Id id) = at_index before id.0 (leaf (wit.Id id)) all (leaf_is (wit.Id id))
  in_is before all ty = leaf_is ty

  parts_are : (before : List A) → AllByRecursion P before → (tys : List WitType) → AllByRecursion P (map (λ ty. made_in leaf before ty) tys)
  parts_are before all [] = tt
  parts_are before all (ty ∷ tys) = (in_is before all ty, parts_are before all tys)

  push_all : (xs : List A) (x : A) → AllByRecursion P xs → P x → AllByRecursion P (xs ++ x ∷ [])
  push_all [] x all h = (h, tt)
  push_all (y ∷ xs) x all h = (all.0, push_all xs x all.1 h)

  behind_are : (before : List A) (types : List TypeDef) → AllByRecursion P before → AllByRecursion P (made_behind leaf by_kind before types)
  behind_are before [] all = all
  behind_are before (t ∷ types) all =
      let parts = map (λ ty. made_in leaf before ty) (members_of t.kind) in
      let one = by_kind (length before) t.kind parts in
      behind_are (before ++ one ∷ []) types (push_all before one all (kind_is (length before) t.kind parts (parts_are before all (members_of t.kind))))

  pub made_is : (types : List TypeDef) (ty : WitType) → P (made_for leaf by_kind types ty)
  unfolding made
  made_is types ty = in_is (made_behind leaf by_kind [] types) (behind_are [] types tt) ty

-- 3. Core words

turn_quiet : (parts : List Flow) → AllByRecursion IsQuiet parts → IsQuiet (in_turn parts)
turn_quiet parts all = each_quiet IsQuiet 0 (λ part. 1) (λ n part. part) (λ n part h. h) 0 parts all

words_quiet : (types : List TypeDef) (tys : List WitType) (parts : List Flow) → AllByRecursion IsQuiet parts → IsQuiet (of_words types tys parts)
words_quiet types tys parts all = each_quiet (λ (x : WitType × Flow). IsQuiet x.1) 0 (λ x. word_count types x.0) (λ n x. x.1) (λ n x h. h) 0 (zip tys parts) (zip_all tys parts all)
  where
    zip_all : (tys : List WitType) (parts : List Flow) → AllByRecursion IsQuiet parts → AllByRecursion (λ (x : WitType × Flow). IsQuiet x.1) (zip tys parts)
    zip_all [] parts all = tt
    zip_all (ty ∷ tys) [] all = tt
    zip_all (ty ∷ tys) (part ∷ parts) all = (all.0, zip_all tys parts all.1)

pub alias_is : {A : Type 0} (P : A → Type 0) (none : A) (parts : List A) → P none → AllByRecursion P parts → P (of_alias none parts)
alias_is P none [] h all = h
alias_is P none (part ∷ parts) h all = all.0

alias_quiet : (parts : List Flow) → AllByRecursion IsQuiet parts → IsQuiet (of_alias leave_none parts)
alias_quiet parts all = alias_is IsQuiet leave_none parts refl all

blocks_quiet : {A : Type 0} (P : A → Type 0) (shared : ℕ) (code : ℕ → A → Flow) → ((n : ℕ) (x : A) → P x → IsQuiet (code n x)) → (xs : List A) → AllByRecursion P xs → IsQuiet (in_blocks shared code xs)
blocks_quiet P shared code h xs all = each_quiet P shared (λ x. 0) (λ n x. in_block (code n x)) h 0 xs all

cast_quiet : (froms tos : List WasmType) → IsQuiet (cast_code froms tos)
cast_quiet froms tos = if_quiet (list_all is_no_cast (casts_between froms tos)) same (cast_by (casts_between froms tos)) refl refl

zero_quiet : (left : List WasmType) → IsQuiet (zero_code left)
zero_quiet [] = refl
zero_quiet (ty ∷ left) = refl

lowering_quiet : (ty : WitType) → IsQuiet (emit_some (lowering ty))
lowering_quiet wit.String = refl
lowering_quiet wit.ErrorContext = refl
lowering_quiet (wit.Id id) = refl
lowering_quiet _ = refl

lifting_quiet : (ty : WitType) → IsQuiet (emit_some (lifting ty))
lifting_quiet wit.String = refl
lifting_quiet wit.ErrorContext = refl
lifting_quiet (wit.Id id) = refl
lifting_quiet _ = refl

lower_leaf_quiet : (realloc : Bool) (ty : WitType) → IsQuiet (lower_leaf realloc ty)
lower_leaf_quiet realloc wit.String = refl
lower_leaf_quiet realloc ty = lowering_quiet ty

lower_case_quiet : (types : List TypeDef) (shared : List WasmType) (n : ℕ) (part : Option (WitType × Flow)) → Kept IsQuiet part → IsQuiet (lower_case types shared n part)
lower_case_quiet types shared n None h = zero_quiet shared
lower_case_quiet types shared n (Some (ty, part)) h =
    let words = payload_words types (Some ty) in
    let casts = cast_code words (take (length words) shared) in
    let zeros = zero_code (drop (length words) shared) in
    quiet_two (is_quiet part && is_quiet casts) (is_quiet zeros) (quiet_two (is_quiet part) (is_quiet casts) h (cast_quiet words (take (length words) shared))) (zero_quiet (drop (length words) shared))

lower_cases_quiet : (types : List TypeDef) (payloads : List (Option WitType)) (parts : List Flow) (i : Instruction) → is_call i ≡ false → AllByRecursion IsQuiet parts → IsQuiet (lower_cases types payloads parts >>> emit i)
lower_cases_quiet types payloads parts i h all =
    let blocks = in_blocks 0 (lower_case types (shared_slots types payloads)) (by_case payloads parts) in
    quiet_two (is_quiet blocks && true) (not (is_call i))
    (quiet_two (is_quiet blocks) true (blocks_quiet (Kept IsQuiet) 0 (lower_case types (shared_slots types payloads)) (lower_case_quiet types (shared_slots types payloads)) (by_case payloads parts) (by_case_all IsQuiet payloads parts all)) refl)
    (one_quiet i h)

lower_kind_quiet : (types : List TypeDef) (id : ℕ) (k : TypeDefKind) (parts : List Flow) → AllByRecursion IsQuiet parts → IsQuiet (lower_kind types id k parts)
lower_kind_quiet types id (kind.Alias ty) parts all = alias_quiet parts all
lower_kind_quiet types id (kind.Record members) parts all = turn_quiet parts all
lower_kind_quiet types id (kind.Tuple members) parts all = turn_quiet parts all
lower_kind_quiet types id (kind.Enum members) parts all = refl
lower_kind_quiet types id (kind.Flags members) parts all = refl
lower_kind_quiet types id (kind.Variant members) parts all = lower_cases_quiet types (payloads_of (kind.Variant members)) parts (VariantLower (record { 0 = id }) (case_words types (payloads_of (kind.Variant members)))) refl all
lower_kind_quiet types id (kind.Option ty) parts all = lower_cases_quiet types (payloads_of (kind.Option ty)) parts (OptionLower (record { 0 = id }) (case_words types (payloads_of (kind.Option ty)))) refl all
lower_kind_quiet types id (kind.Result ok err) parts all = lower_cases_quiet types (payloads_of (kind.Result ok err)) parts (ResultLower (record { 0 = id }) (case_words types (payloads_of (kind.Result ok err)))) refl all
lower_kind_quiet types id _ parts all = refl

lower_quiet : (types : List TypeDef) (realloc : Bool) (ty : WitType) → IsQuiet (lower_code types realloc ty)
unfolding lower_code
lower_quiet types realloc ty = made_is IsQuiet (lower_leaf realloc) (lower_kind types) (lower_leaf_quiet realloc) (lower_kind_quiet types) types ty

lift_leaf_quiet : (ty : WitType) → IsQuiet (lift_leaf ty)
lift_leaf_quiet wit.String = refl
lift_leaf_quiet ty = lifting_quiet ty

lift_case_quiet : (types : List TypeDef) (shared : List WasmType) (n : ℕ) (part : Option (WitType × Flow)) → Kept IsQuiet part → IsQuiet (lift_case types shared n part)
lift_case_quiet types shared n None h = refl
lift_case_quiet types shared n (Some (ty, part)) h =
    let words = payload_words types (Some ty) in
    let casts = cast_code (take (length words) shared) words in
    quiet_two (is_quiet casts) (is_quiet part) (cast_quiet (take (length words) shared) words) h

lift_cases_quiet : (types : List TypeDef) (payloads : List (Option WitType)) (parts : List Flow) (i : Instruction) → is_call i ≡ false → AllByRecursion IsQuiet parts → IsQuiet (lift_cases types payloads parts >>> emit i)
lift_cases_quiet types payloads parts i h all =
    let shared = shared_slots types payloads in
    let blocks = in_blocks (length shared) (lift_case types shared) (by_case payloads parts) in
    quiet_two (is_quiet blocks && true) (not (is_call i)) (quiet_two (is_quiet blocks) true (blocks_quiet (Kept IsQuiet) (length shared) (lift_case types shared) (lift_case_quiet types shared) (by_case payloads parts) (by_case_all IsQuiet payloads parts all)) refl) (one_quiet i h)

lift_kind_quiet : (types : List TypeDef) (id : ℕ) (k : TypeDefKind) (parts : List Flow) → AllByRecursion IsQuiet parts → IsQuiet (lift_kind types id k parts)
lift_kind_quiet types id (kind.Alias ty) parts all = alias_quiet parts all
lift_kind_quiet types id (kind.Record members) parts all = quiet_two (is_quiet (of_words types (map (λ (f : Field). f.ty) members) parts)) true (words_quiet types (map (λ (f : Field). f.ty) members) parts all) refl
lift_kind_quiet types id (kind.Tuple members) parts all = quiet_two (is_quiet (of_words types members parts)) true (words_quiet types members parts all) refl
lift_kind_quiet types id (kind.Enum members) parts all = refl
lift_kind_quiet types id (kind.Flags members) parts all = refl
lift_kind_quiet types id (kind.Variant members) parts all = lift_cases_quiet types (payloads_of (kind.Variant members)) parts (VariantLift (record { 0 = id })) refl all
lift_kind_quiet types id (kind.Option ty) parts all = lift_cases_quiet types (payloads_of (kind.Option ty)) parts (OptionLift (record { 0 = id })) refl all
lift_kind_quiet types id (kind.Result ok err) parts all = lift_cases_quiet types (payloads_of (kind.Result ok err)) parts (ResultLift (record { 0 = id })) refl all
lift_kind_quiet types id _ parts all = refl

lift_quiet : (types : List TypeDef) (ty : WitType) → IsQuiet (lift_code types ty)
unfolding lift_code
lift_quiet types ty = made_is IsQuiet lift_leaf (lift_kind types) lift_leaf_quiet (lift_kind_quiet types) types ty

-- 4. Memory

abbrev IsQuietAt : (ArchitectureSize → Flow) → Type 0
IsQuietAt part = (offset : ArchitectureSize) → IsQuiet (part offset)

number_stores : (grain : ℕ) (o : ArchitectureSize) → is_call (number_store grain o) ≡ false
number_stores zero o = refl
number_stores (suc zero) o = refl
number_stores (suc (suc n)) o = refl

number_loads : (grain : ℕ) (o : ArchitectureSize) → is_call (number_load grain o) ≡ false
number_loads zero o = refl
number_loads (suc zero) o = refl
number_loads (suc (suc n)) o = refl

places_quiet : (types : List TypeDef) (id own : ℕ) (parts : List (ArchitectureSize → Flow)) (offset : ArchitectureSize) → AllByRecursion IsQuietAt parts → IsQuiet (at_places types id own parts offset)
places_quiet types id own parts offset all = each_quiet IsQuietAt 1 (λ part. own) (λ n part. part (beyond offset (place_in (tree_at types id) n))) (λ n part h. h (beyond offset (place_in (tree_at types id) n))) 0 parts all

alias_at : (parts : List (ArchitectureSize → Flow)) → AllByRecursion IsQuietAt parts → IsQuietAt (of_alias (λ place. leave_none) parts)
alias_at parts all = alias_is IsQuietAt (λ place. leave_none) parts (λ offset. refl) all

case_lowers : (k : TypeDefKind) (id : TypeId) (n : ℕ) → is_call (case_lowering k id n) ≡ false
case_lowers (kind.Option ty) id n = refl
case_lowers (kind.Result ok err) id n = refl
case_lowers _ id n = refl

case_lifts : (k : TypeDefKind) (id : TypeId) → is_call (case_lifting k id) ≡ false
case_lifts (kind.Option ty) id = refl
case_lifts (kind.Result ok err) id = refl
case_lifts _ id = refl

tag_stored : (cases : ℕ) (offset : ArchitectureSize) → IsQuiet (emit (tag_store cases offset))
tag_stored cases offset = one_quiet (tag_store cases offset) (number_stores (discriminant_grain cases) offset)

store_case_quiet : (cases : ℕ) (offset place : ArchitectureSize) (n : ℕ) (part : Option (WitType × (ArchitectureSize → Flow))) → Kept IsQuietAt part → IsQuiet (store_case cases offset place n part)
store_case_quiet cases offset place n None h = tag_stored cases offset
store_case_quiet cases offset place n (Some (ty, part)) h = quiet_two (is_quiet (store_number n (tag_store cases offset))) (is_quiet (part place)) (tag_stored cases offset) (h place)

store_cases_quiet : (types : List TypeDef) (id : ℕ) (k : TypeDefKind) (parts : List (ArchitectureSize → Flow)) → AllByRecursion IsQuietAt parts → IsQuietAt (store_cases types id k (by_case (payloads_of k) parts))
store_cases_quiet types id k parts all offset =
    let place = beyond offset (payload_place (tree_at types id)) in
    let cases : List (Option (WitType × (ArchitectureSize → Flow))) = by_case (payloads_of k) parts in
    let blocks = in_blocks 1 (store_case (length cases) offset place) cases in
    let i = case_lowering k (record { 0 = id }) 0 in
    quiet_two (is_quiet blocks && true) (not (is_call i))
    (quiet_two (is_quiet blocks) true (blocks_quiet (Kept IsQuietAt) 1 (store_case (length cases) offset place) (store_case_quiet (length cases) offset place) cases (by_case_all IsQuietAt (payloads_of k) parts all)) refl)
    (one_quiet i (case_lowers k (record { 0 = id }) 0))

store_leaf_quiet : (realloc : Bool) (ty : WitType) → IsQuietAt (store_leaf realloc ty)
store_leaf_quiet realloc wit.String offset = refl
store_leaf_quiet realloc wit.ErrorContext offset = refl
store_leaf_quiet realloc (wit.Id id) offset = refl
store_leaf_quiet realloc _ offset = refl

store_kind_quiet : (types : List TypeDef) (id : ℕ) (k : TypeDefKind) (parts : List (ArchitectureSize → Flow)) → AllByRecursion IsQuietAt parts → IsQuietAt (store_kind types id k parts)
store_kind_quiet types id (kind.Alias ty) parts all offset = alias_at parts all offset
store_kind_quiet types id (kind.Record members) parts all offset = places_quiet types id 1 parts offset all
store_kind_quiet types id (kind.Tuple members) parts all offset = places_quiet types id 1 parts offset all
store_kind_quiet types id (kind.Enum members) parts all offset = tag_stored (length members) offset
store_kind_quiet types id (kind.Flags members) parts all offset =
    back_quiet 1 (λ word. 1) (λ n word. store_by (behind 1) (flags_store (length members) (beyond offset (word_place n)))) (λ n word. one_quiet (flags_store (length members) (beyond offset (word_place n))) (number_stores (flags_extent (length members)).grain (beyond offset (word_place n)))) 0 (words_of_flags (length members))
store_kind_quiet types id (kind.Variant members) parts all offset = store_cases_quiet types id (kind.Variant members) parts all offset
store_kind_quiet types id (kind.Option ty) parts all offset = store_cases_quiet types id (kind.Option ty) parts all offset
store_kind_quiet types id (kind.Result ok err) parts all offset = store_cases_quiet types id (kind.Result ok err) parts all offset
store_kind_quiet types id _ parts all offset = refl

store_quiet : (types : List TypeDef) (realloc : Bool) (ty : WitType) → IsQuietAt (store_code types realloc ty)
unfolding store_code
store_quiet types realloc ty offset = made_is IsQuietAt (store_leaf realloc) (store_kind types) (store_leaf_quiet realloc) (store_kind_quiet types) types ty offset

at_payload_quiet : (place : ArchitectureSize) (part : Option (WitType × (ArchitectureSize → Flow))) → Kept IsQuietAt part → IsQuiet (at_payload place part)
at_payload_quiet place None h = refl
at_payload_quiet place (Some (ty, part)) h = h place

by_tag_quiet : (types : List TypeDef) (id : ℕ) (payloads : List (Option WitType)) (parts : List (ArchitectureSize → Flow)) (i : Instruction) → is_call i ≡ false → AllByRecursion IsQuietAt parts
    → (offset : ArchitectureSize) → IsQuiet (by_tag types id (by_case payloads parts) offset i)
by_tag_quiet types id payloads parts i h all offset =
    let place = beyond offset (payload_place (tree_at types id)) in
    let cases : List (Option (WitType × (ArchitectureSize → Flow))) = by_case payloads parts in
    let blocks = in_blocks 1 (λ n part. at_payload place part) cases in
    let tag = tag_load (length cases) offset in
    quiet_two (not (is_call tag) && is_quiet blocks) (not (is_call i))
    (quiet_two (not (is_call tag)) (is_quiet blocks) (one_quiet tag (number_loads (discriminant_grain (length cases)) offset))
    (blocks_quiet (Kept IsQuietAt) 1 (λ n part. at_payload place part) (λ n part h. at_payload_quiet place part h) cases (by_case_all IsQuietAt payloads parts all)))
    (one_quiet i h)

load_leaf_quiet : (ty : WitType) → IsQuietAt (load_leaf ty)
load_leaf_quiet wit.String offset = refl
load_leaf_quiet wit.ErrorContext offset = refl
load_leaf_quiet (wit.Id id) offset = refl
load_leaf_quiet _ offset = refl

load_kind_quiet : (types : List TypeDef) (id : ℕ) (k : TypeDefKind) (parts : List (ArchitectureSize → Flow)) → AllByRecursion IsQuietAt parts → IsQuietAt (load_kind types id k parts)
load_kind_quiet types id (kind.Alias ty) parts all offset = alias_at parts all offset
load_kind_quiet types id (kind.Record members) parts all offset = quiet_two (is_quiet (at_places types id no_value parts offset)) true (places_quiet types id 0 parts offset all) refl
load_kind_quiet types id (kind.Tuple members) parts all offset = quiet_two (is_quiet (at_places types id no_value parts offset)) true (places_quiet types id 0 parts offset all) refl
load_kind_quiet types id (kind.Enum members) parts all offset =
    quiet_two (is_quiet (emit (tag_load (length members) offset))) true (one_quiet (tag_load (length members) offset) (number_loads (discriminant_grain (length members)) offset)) refl
load_kind_quiet types id (kind.Flags members) parts all offset =
    quiet_two (is_quiet (load_words (length members) offset)) true
    (every_quiet 1 (λ word. 0) (λ n word. emit (flags_load (length members) (beyond offset (word_place n)))) (λ n word. one_quiet (flags_load (length members) (beyond offset (word_place n))) (number_loads (flags_extent (length members)).grain (beyond offset (word_place n)))) 0 (words_of_flags (length members)))
    refl
load_kind_quiet types id (kind.Variant members) parts all offset = by_tag_quiet types id (payloads_of (kind.Variant members)) parts (VariantLift (record { 0 = id })) refl all offset
load_kind_quiet types id (kind.Option ty) parts all offset = by_tag_quiet types id (payloads_of (kind.Option ty)) parts (OptionLift (record { 0 = id })) refl all offset
load_kind_quiet types id (kind.Result ok err) parts all offset = by_tag_quiet types id (payloads_of (kind.Result ok err)) parts (ResultLift (record { 0 = id })) refl all offset
load_kind_quiet types id _ parts all offset = refl

load_quiet : (types : List TypeDef) (ty : WitType) → IsQuietAt (load_code types ty)
unfolding load_code
load_quiet types ty offset = made_is IsQuietAt load_leaf (load_kind types) load_leaf_quiet (load_kind_quiet types) types ty offset

-- 5. The arguments and the result of an import

pub pass_quiet : (types : List TypeDef) (tys : List WitType) → IsQuiet (pass_code types tys)
pass_quiet types tys =
    if_quiet (are_indirect (shapes_of types tys)) (ask_for (fields (shapes_of types tys)) >>> both (store_arguments types tys) same) (lower_arguments types tys)
    (quiet_two (is_quiet (store_arguments types tys)) true (every_quiet 1 (λ ty. 0) (λ n ty. both (leading 1) (alone (emit (GetArg n))) >>> store_code types false ty (argument_place types tys n)) (λ n ty. store_quiet types false ty (argument_place types tys n)) 0 tys) refl)
    (every_quiet 0 (λ ty. 0) (λ n ty. emit (GetArg n) >>> lower_code types false ty) (λ n ty. lower_quiet types false ty) 0 tys)

pub point_quiet : (types : List TypeDef) (r : Option WitType) → IsQuiet (point_code types r)
point_quiet types None = refl
point_quiet types (Some ty) = if_quiet (is_indirect (Some (shape_of types ty))) (ask_for (shape_of types ty)) leave_none refl refl

pub read_quiet : (types : List TypeDef) (r : Option WitType) → IsQuiet (read_code types r)
read_quiet types None = refl
read_quiet types (Some ty) = if_quiet (is_indirect (Some (shape_of types ty))) (load_code types ty nowhere) (lift_code types ty) (load_quiet types ty nowhere) (lift_quiet types ty)

-- 6. Those of an export

arguments_quiet : (types : List TypeDef) (start : ℕ) (tys : List WitType) → IsQuiet (lift_arguments types start tys)
arguments_quiet types start [] = refl
arguments_quiet types start (ty ∷ tys) =
    let words = flatten_type (tree_of types ty) in
    let got = get_arguments start words in
    let others = lift_arguments types (start + length words) tys in
    quiet_two (is_quiet got && is_quiet (lift_code types ty)) (is_quiet others) (quiet_two (is_quiet got) (is_quiet (lift_code types ty)) (every_quiet 0 (λ word. 0) (λ n word. emit (GetArg n)) (λ n word. refl) start words) (lift_quiet types ty))
    (arguments_quiet types (start + length words) tys)

pub take_quiet : (types : List TypeDef) (tys : List WitType) → IsQuiet (take_code types tys)
take_quiet types tys =
    let loaded = load_arguments types tys in
    if_quiet (are_indirect (shapes_of types tys)) (take_record_code types tys) (lift_arguments types 0 tys)
    (quiet_two (is_quiet loaded && true) true (quiet_two (is_quiet loaded) true (every_quiet 1 (λ ty. 0) (λ n ty. load_code types ty (argument_place types tys n)) (λ n ty. load_quiet types ty (argument_place types tys n)) 0 tys) refl) refl)
    (arguments_quiet types 0 tys)

pub give_quiet : (types : List TypeDef) (r : Option WitType) → IsQuiet (give_code types r)
give_quiet types None = refl
give_quiet types (Some ty) = if_quiet (is_indirect (Some (shape_of types ty))) (store_answer_code types ty) (lower_code types true ty) (store_quiet types true ty nowhere) (lower_quiet types true ty)

-- 7. The blocks of a result are freed

free_leaf_quiet : (ty : WitType) → IsQuietAt (free_leaf ty)
free_leaf_quiet wit.String offset = refl
free_leaf_quiet _ offset = refl

free_cases_quiet : (types : List TypeDef) (id : ℕ) (k : TypeDefKind) (parts : List (ArchitectureSize → Flow)) → AllByRecursion IsQuietAt parts → IsQuietAt (free_cases types id (by_case (payloads_of k) parts))
free_cases_quiet types id k parts all offset =
    let cases : List (Option (WitType × (ArchitectureSize → Flow))) = by_case (payloads_of k) parts in
    if_quiet (has_list (shape_at types id)) (by_tag types id cases offset (GuestDeallocateVariant (length cases))) leave_none (by_tag_quiet types id (payloads_of k) parts (GuestDeallocateVariant (length cases)) refl all offset) refl

free_kind_quiet : (types : List TypeDef) (id : ℕ) (k : TypeDefKind) (parts : List (ArchitectureSize → Flow)) → AllByRecursion IsQuietAt parts → IsQuietAt (free_kind types id k parts)
free_kind_quiet types id (kind.Alias ty) parts all offset = alias_at parts all offset
free_kind_quiet types id (kind.Variant members) parts all offset = free_cases_quiet types id (kind.Variant members) parts all offset
free_kind_quiet types id (kind.Option ty) parts all offset = free_cases_quiet types id (kind.Option ty) parts all offset
free_kind_quiet types id (kind.Result ok err) parts all offset = free_cases_quiet types id (kind.Result ok err) parts all offset
free_kind_quiet types id _ parts all offset = places_quiet types id 0 parts offset all

free_quiet : (types : List TypeDef) (ty : WitType) → IsQuietAt (free_code types ty)
unfolding free_code
free_quiet types ty offset = made_is IsQuietAt free_leaf (free_kind types) free_leaf_quiet (free_kind_quiet types) types ty offset

pub post_return_quiet : (types : List TypeDef) (r : Option WitType) → IsQuiet (post_return_code types r)
post_return_quiet types None = refl
post_return_quiet types (Some ty) = quiet_two (is_quiet (free_code types ty nowhere)) true (free_quiet types ty nowhere) refl

-- 8. The blocks that are open

module _ {Self Operand : Type 0} (m : Meaning Self Operand) where
  adds_opened : (call : Bool) (used : List ℕ) (a b : Self) → AddsCode m call used a b → m.opened b ≡ m.opened a
  adds_opened true used a b h = h.opened
  adds_opened false [] a b h = h.grows.opened
  adds_opened false (k ∷ used) a b h = h.0.opened

  inner : {A : Type 0} (x y : A) (xs ys : List A) → x ∷ xs ≡ y ∷ ys → xs ≡ ys
  inner x y xs ys e = cc

  -- behind code those are open that were open before it
  pub flows_opened : (types : List TypeDef) (code : Flow) (reads gives : List Operand) (old new : Self) → Flows m types code reads gives old new → m.opened new ≡ m.opened old
  flows_opened types (emit i) reads gives old new e = adds_opened (is_call i) (block_results types i) old new e.adds
  flows_opened types (cast_by casts) reads gives old new (held, is, e) = adds_opened false [] old new e.adds
  flows_opened types (zeros_of zeros) reads gives old new (held, is, e) = adds_opened false [] old new e.adds
  flows_opened types (ask a) reads gives old new (none, o, is, p) = p.grows.opened
  flows_opened types (in_block code) reads gives old new (none, results, begun, ended, begins, inside, ends) =
      inner _ _ _ _ (sym ends.resumes ∙ flows_opened types code reads results begun ended inside ∙ begins.opened)
  flows_opened types same reads gives old new h = ap m.opened h.1
  flows_opened types leave_none reads gives old new h = ap m.opened h.1
  flows_opened types (leading n) reads gives old new h = ap m.opened h.1
  flows_opened types (behind n) reads gives old new h = ap m.opened h.1
  flows_opened types (one >>> two) reads gives old new (between, next, h, g) = flows_opened types two between gives next new g ∙ flows_opened types one reads between old next h
  flows_opened types (both one two) reads gives old new (left, right, next, h, g, is) = flows_opened types two reads right next new g ∙ flows_opened types one reads left old next h
