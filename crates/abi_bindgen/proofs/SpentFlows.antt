-- The driver's code drops no operand that a conversion gives: each is read by an instruction that uses it, or is given on.
use Rattle.std.proofs.Common.{◌≡◌, ℕ, zero, suc, ◌+◌, Bool, true, false, not, ◌&&◌, if◌then◌else◌, List, [], ◌∷◌, length, map, Option, None, Some, refl, ap}
use Rattle.std.specs.Prelude.{is_some, take, drop, zip}
use Rattle.std.specs.List.{AllByRecursion, list_all}
use Rattle.wit_model.specs.declared.name.TypeId.{TypeId}
use Rattle.wit_model.specs.declared.size.ArchitectureSize.{ArchitectureSize}
use Rattle.wit_model.specs.declared.types.Field.{Field}
use Rattle.wit_model.specs.declared.types.TypeDef.{TypeDef}
use Rattle.wit_model.specs.declared.types.TypeDefKind.{TypeDefKind}
use Rattle.wit_model.specs.declared.types.TypeDefKind.TheVariants as kind
use Rattle.wit_model.specs.declared.types.WitType.{WitType}
use Rattle.wit_model.specs.declared.types.WitType.TheVariants as wit
use Rattle.wit_model.specs.declared.wasm_type.WasmType.{WasmType}
use Rattle.wit_layout.specs.Extent.{discriminant_grain, flags_extent}
use Rattle.wit_layout.specs.Flat.{flatten_type, words_of_flags}
use Rattle.wit_layout.specs.Tree.{tree_at, tree_of}
use Rattle.wrapper_meaning.specs.Kinds.{has_list}
use Rattle.wrapper_meaning.specs.Represents.{are_indirect, is_indirect}
use Rattle.wrapper_meaning.specs.Shape.{shape_at, shape_of}
use Rattle.wrapper_meaning.specs.Shape.Shape.{fields}
use Rattle.abi_bindgen.specs.declared.instruction.Instruction.{Instruction}
use Rattle.abi_bindgen.specs.declared.instruction.Instruction.TheVariants.{F32Store, F64Store, GetArg, GuestDeallocateVariant, I32Store, I32Store16, I32Store8, I64Store, OptionLift, OptionLower, ResultLift, ResultLower, VariantLift, VariantLower}
use Rattle.abi_bindgen.specs.Cases.{payloads_of}
use Rattle.abi_bindgen.specs.Code.{argument_place, ask_for, at_payload, at_places, beyond, by_case, by_tag, case_words, cast_code, free_cases, free_code, free_kind, free_leaf, get_arguments, give_code, in_blocks, in_turn, lift_arguments, lift_case, lift_cases, lift_code, lift_kind, lift_leaf, load_arguments, load_code, load_kind, load_leaf, load_words, lower_arguments, lower_case, lower_cases, lower_code, lower_kind, lower_leaf, no_value, of_alias, of_words, pass_code, payload_place, payload_words, place_in, point_code, read_code, shared_slots, store_answer_code, store_arguments, store_by, store_case, store_cases, store_code, store_kind, store_leaf, take_code, take_record_code, word_place, zero_code}
use Rattle.abi_bindgen.specs.Flow.{Flow, alone, behind, both, cast_by, each, each_back, emit, in_block, leading, leave_none, same, ◌>>>◌}
use Rattle.abi_bindgen.specs.Frees.{nowhere}
use Rattle.abi_bindgen.specs.Instructions.{case_lowering, lowered_scalar, shapes_of}
use Rattle.abi_bindgen.specs.NumberTouches.{flags_load, flags_store, number_load, tag_load}
use Rattle.abi_bindgen.specs.SlotCasts.{casts_between, is_no_cast}
use Rattle.abi_bindgen.specs.WordCount.{word_count}
use Rattle.abi_bindgen.proofs.QuietFlows.{Kept, alias_is, any, by_case_all, made_is, quiet_two}

-- 1. Code that converts nothing, an instruction that uses each operand, and code that drops none that was converted

-- an instruction makes a word of a scalar
abbrev pub converts : Instruction → Bool
converts i = is_some (lowered_scalar i)

abbrev pub is_plain : Flow → Bool
is_plain (emit i) = not (converts i)
is_plain (in_block code) = is_plain code
is_plain (one >>> two) = is_plain one && is_plain two
is_plain (both one two) = is_plain one && is_plain two
is_plain _ = true

-- its statements have each operand that it reads
abbrev pub uses : Instruction → Bool
uses (I32Store8 o) = true
uses (I32Store16 o) = true
uses (I32Store o) = true
uses (I64Store o) = true
uses (F32Store o) = true
uses (F64Store o) = true
uses (VariantLower id n) = true
uses (OptionLower id n) = true
uses (ResultLower id n) = true
uses _ = false

abbrev pub spends : Flow → Bool
spends (emit i) = uses i
spends (cast_by casts) = true
spends same = true
spends _ = false

-- where operands are converted, the instruction behind that uses each
abbrev pub is_thrifty : Flow → Bool
is_thrifty (in_block code) = is_thrifty code
is_thrifty (one >>> two) = if is_plain one then is_thrifty two else is_thrifty one && spends two
is_thrifty (both one two) = is_thrifty one && is_thrifty two
is_thrifty _ = true

abbrev pub IsPlain : Flow → Type 0
IsPlain code = is_plain code ≡ true

abbrev pub IsThrifty : Flow → Type 0
IsThrifty code = is_thrifty code ≡ true

-- whichever it is
either : (b x y : Bool) → x ≡ true → y ≡ true → (if b then x else y) ≡ true
either true x y h g = h
either false x y h g = g

spent_then : (one two : Flow) → IsThrifty one → IsThrifty two → spends two ≡ true → IsThrifty (one >>> two)
spent_then one two h g s = either (is_plain one) (is_thrifty two) (is_thrifty one && spends two) g (quiet_two (is_thrifty one) (spends two) h s)

if_plain : (b : Bool) (one two : Flow) → IsPlain one → IsPlain two → IsPlain (if b then one else two)
if_plain true one two h g = h
if_plain false one two h g = g

if_thrifty : (b : Bool) (one two : Flow) → IsThrifty one → IsThrifty two → IsThrifty (if b then one else two)
if_thrifty true one two h g = h
if_thrifty false one two h g = g

each_plain : {A : Type 0} (P : A → Type 0) (shared : ℕ) (own : A → ℕ) (f : ℕ → A → Flow) → ((n : ℕ) (x : A) → P x → IsPlain (f n x)) → (n : ℕ) (xs : List A) → AllByRecursion P xs → IsPlain (each shared own f n xs)
each_plain P shared own f h n [] all = refl
each_plain P shared own f h n (x ∷ xs) all = quiet_two (is_plain (f n x)) (is_plain (each shared own f (suc n) xs)) (h n x all.0) (each_plain P shared own f h (suc n) xs all.1)

every_plain : {A : Type 0} (shared : ℕ) (own : A → ℕ) (f : ℕ → A → Flow) → ((n : ℕ) (x : A) → IsPlain (f n x)) → (n : ℕ) (xs : List A) → IsPlain (each shared own f n xs)
every_plain shared own f h n xs = each_plain (λ x. Unit {0}) shared own f (λ n x u. h n x) n xs (any xs)

each_thrifty : {A : Type 0} (P : A → Type 0) (shared : ℕ) (own : A → ℕ) (f : ℕ → A → Flow) → ((n : ℕ) (x : A) → P x → IsThrifty (f n x)) → (n : ℕ) (xs : List A) → AllByRecursion P xs → IsThrifty (each shared own f n xs)
each_thrifty P shared own f h n [] all = refl
each_thrifty P shared own f h n (x ∷ xs) all = quiet_two (is_thrifty (f n x)) (is_thrifty (each shared own f (suc n) xs)) (h n x all.0) (each_thrifty P shared own f h (suc n) xs all.1)

every_thrifty : {A : Type 0} (shared : ℕ) (own : A → ℕ) (f : ℕ → A → Flow) → ((n : ℕ) (x : A) → IsThrifty (f n x)) → (n : ℕ) (xs : List A) → IsThrifty (each shared own f n xs)
every_thrifty shared own f h n xs = each_thrifty (λ x. Unit {0}) shared own f (λ n x u. h n x) n xs (any xs)

back_thrifty : {A : Type 0} (shared : ℕ) (own : A → ℕ) (f : ℕ → A → Flow) → ((n : ℕ) (x : A) → IsThrifty (f n x)) → (n : ℕ) (xs : List A) → IsThrifty (each_back shared own f n xs)
back_thrifty shared own f h n [] = refl
back_thrifty shared own f h n (x ∷ xs) = quiet_two (is_thrifty (each_back shared own f (suc n) xs)) (is_thrifty (f n x)) (back_thrifty shared own f h (suc n) xs) (h n x)

-- 2. Values become core words

turn_thrifty : (parts : List Flow) → AllByRecursion IsThrifty parts → IsThrifty (in_turn parts)
turn_thrifty parts all = each_thrifty IsThrifty 0 (λ part. 1) (λ n part. part) (λ n part h. h) 0 parts all

cast_thrifty : (froms tos : List WasmType) → IsThrifty (cast_code froms tos)
cast_thrifty froms tos = if_thrifty (list_all is_no_cast (casts_between froms tos)) same (cast_by (casts_between froms tos)) refl refl

cast_spends : (froms tos : List WasmType) → spends (cast_code froms tos) ≡ true
cast_spends froms tos = by (list_all is_no_cast (casts_between froms tos))
  where
    by : (b : Bool) → spends (if b then same else cast_by (casts_between froms tos)) ≡ true
    by true = refl
    by false = refl

zero_thrifty : (left : List WasmType) → IsThrifty (zero_code left)
zero_thrifty [] = refl
zero_thrifty (ty ∷ left) = refl

lower_leaf_thrifty : (realloc : Bool) (ty : WitType) → IsThrifty (lower_leaf realloc ty)
lower_leaf_thrifty realloc wit.String = refl
lower_leaf_thrifty realloc wit.ErrorContext = refl
lower_leaf_thrifty realloc (wit.Id id) = refl
lower_leaf_thrifty realloc _ = refl

lower_case_thrifty : (types : List TypeDef) (shared : List WasmType) (n : ℕ) (part : Option (WitType × Flow)) → Kept IsThrifty part → IsThrifty (lower_case types shared n part)
lower_case_thrifty types shared n None h = zero_thrifty shared
lower_case_thrifty types shared n (Some (ty, part)) h =
    let words = payload_words types (Some ty) in
    let casts = cast_code words (take (length words) shared) in
    let zeros = zero_code (drop (length words) shared) in
    quiet_two (is_thrifty (part >>> casts)) (is_thrifty zeros)
    (spent_then part casts h (cast_thrifty words (take (length words) shared)) (cast_spends words (take (length words) shared))) (zero_thrifty (drop (length words) shared))

blocks_thrifty : {A : Type 0} (P : A → Type 0) (shared : ℕ) (code : ℕ → A → Flow) → ((n : ℕ) (x : A) → P x → IsThrifty (code n x)) → (xs : List A) → AllByRecursion P xs → IsThrifty (in_blocks shared code xs)
blocks_thrifty P shared code h xs all = each_thrifty P shared (λ x. 0) (λ n x. in_block (code n x)) h 0 xs all

lower_cases_thrifty : (types : List TypeDef) (payloads : List (Option WitType)) (parts : List Flow) (i : Instruction) → uses i ≡ true → AllByRecursion IsThrifty parts → IsThrifty (lower_cases types payloads parts >>> emit i)
lower_cases_thrifty types payloads parts i used all =
    let blocks = in_blocks 0 (lower_case types (shared_slots types payloads)) (by_case payloads parts) in
    spent_then (both blocks same) (emit i)
    (quiet_two (is_thrifty blocks) true (blocks_thrifty (Kept IsThrifty) 0 (lower_case types (shared_slots types payloads)) (lower_case_thrifty types (shared_slots types payloads)) (by_case payloads parts) (by_case_all IsThrifty payloads parts all)) refl)
    refl used

lower_kind_thrifty : (types : List TypeDef) (id : ℕ) (k : TypeDefKind) (parts : List Flow) → AllByRecursion IsThrifty parts → IsThrifty (lower_kind types id k parts)
lower_kind_thrifty types id (kind.Alias ty) parts all = alias_is IsThrifty leave_none parts refl all
lower_kind_thrifty types id (kind.Record members) parts all = turn_thrifty parts all
lower_kind_thrifty types id (kind.Tuple members) parts all = turn_thrifty parts all
lower_kind_thrifty types id (kind.Enum members) parts all = refl
lower_kind_thrifty types id (kind.Flags members) parts all = refl
lower_kind_thrifty types id (kind.Variant members) parts all = lower_cases_thrifty types (payloads_of (kind.Variant members)) parts (VariantLower (record { 0 = id }) (case_words types (payloads_of (kind.Variant members)))) refl all
lower_kind_thrifty types id (kind.Option ty) parts all = lower_cases_thrifty types (payloads_of (kind.Option ty)) parts (OptionLower (record { 0 = id }) (case_words types (payloads_of (kind.Option ty)))) refl all
lower_kind_thrifty types id (kind.Result ok err) parts all = lower_cases_thrifty types (payloads_of (kind.Result ok err)) parts (ResultLower (record { 0 = id }) (case_words types (payloads_of (kind.Result ok err)))) refl all
lower_kind_thrifty types id _ parts all = refl

lower_thrifty : (types : List TypeDef) (realloc : Bool) (ty : WitType) → IsThrifty (lower_code types realloc ty)
unfolding lower_code
lower_thrifty types realloc ty = made_is IsThrifty (lower_leaf realloc) (lower_kind types) (lower_leaf_thrifty realloc) (lower_kind_thrifty types) types ty

-- 3. They are stored

abbrev IsThriftyAt : (ArchitectureSize → Flow) → Type 0
IsThriftyAt part = (offset : ArchitectureSize) → IsThrifty (part offset)

places_thrifty : (types : List TypeDef) (id own : ℕ) (parts : List (ArchitectureSize → Flow)) (offset : ArchitectureSize) → AllByRecursion IsThriftyAt parts → IsThrifty (at_places types id own parts offset)
places_thrifty types id own parts offset all = each_thrifty IsThriftyAt 1 (λ part. own) (λ n part. part (beyond offset (place_in (tree_at types id) n))) (λ n part h. h (beyond offset (place_in (tree_at types id) n))) 0 parts all

case_uses : (k : TypeDefKind) (id : TypeId) (n : ℕ) → uses (case_lowering k id n) ≡ true
case_uses (kind.Option ty) id n = refl
case_uses (kind.Result ok err) id n = refl
case_uses _ id n = refl

store_case_thrifty : (cases : ℕ) (offset place : ArchitectureSize) (n : ℕ) (part : Option (WitType × (ArchitectureSize → Flow))) → Kept IsThriftyAt part → IsThrifty (store_case cases offset place n part)
store_case_thrifty cases offset place n None h = refl
store_case_thrifty cases offset place n (Some (ty, part)) h = h place

store_cases_thrifty : (types : List TypeDef) (id : ℕ) (k : TypeDefKind) (parts : List (ArchitectureSize → Flow)) → AllByRecursion IsThriftyAt parts → IsThriftyAt (store_cases types id k (by_case (payloads_of k) parts))
store_cases_thrifty types id k parts all offset =
    let place = beyond offset (payload_place (tree_at types id)) in
    let cases : List (Option (WitType × (ArchitectureSize → Flow))) = by_case (payloads_of k) parts in
    let blocks = in_blocks 1 (store_case (length cases) offset place) cases in
    spent_then (both blocks (behind 1)) (emit (case_lowering k (record { 0 = id }) 0))
    (quiet_two (is_thrifty blocks) true (blocks_thrifty (Kept IsThriftyAt) 1 (store_case (length cases) offset place) (store_case_thrifty (length cases) offset place) cases (by_case_all IsThriftyAt (payloads_of k) parts all)) refl)
    refl (case_uses k (record { 0 = id }) 0)

store_leaf_thrifty : (realloc : Bool) (ty : WitType) → IsThriftyAt (store_leaf realloc ty)
store_leaf_thrifty realloc wit.String offset = refl
store_leaf_thrifty realloc wit.ErrorContext offset = refl
store_leaf_thrifty realloc (wit.Id id) offset = refl
store_leaf_thrifty realloc _ offset = refl

store_kind_thrifty : (types : List TypeDef) (id : ℕ) (k : TypeDefKind) (parts : List (ArchitectureSize → Flow)) → AllByRecursion IsThriftyAt parts → IsThriftyAt (store_kind types id k parts)
store_kind_thrifty types id (kind.Alias ty) parts all offset = alias_is IsThriftyAt (λ place. leave_none) parts (λ offset. refl) all offset
store_kind_thrifty types id (kind.Record members) parts all offset = places_thrifty types id 1 parts offset all
store_kind_thrifty types id (kind.Tuple members) parts all offset = places_thrifty types id 1 parts offset all
store_kind_thrifty types id (kind.Enum members) parts all offset = refl
store_kind_thrifty types id (kind.Flags members) parts all offset =
    back_thrifty 1 (λ word. 1) (λ n word. store_by (behind 1) (flags_store (length members) (beyond offset (word_place n)))) (λ n word. refl) 0 (words_of_flags (length members))
store_kind_thrifty types id (kind.Variant members) parts all offset = store_cases_thrifty types id (kind.Variant members) parts all offset
store_kind_thrifty types id (kind.Option ty) parts all offset = store_cases_thrifty types id (kind.Option ty) parts all offset
store_kind_thrifty types id (kind.Result ok err) parts all offset = store_cases_thrifty types id (kind.Result ok err) parts all offset
store_kind_thrifty types id _ parts all offset = refl

store_thrifty : (types : List TypeDef) (realloc : Bool) (ty : WitType) → IsThriftyAt (store_code types realloc ty)
unfolding store_code
store_thrifty types realloc ty offset = made_is IsThriftyAt (store_leaf realloc) (store_kind types) (store_leaf_thrifty realloc) (store_kind_thrifty types) types ty offset

-- 4. Core words become values

words_plain : (types : List TypeDef) (tys : List WitType) (parts : List Flow) → AllByRecursion IsPlain parts → IsPlain (of_words types tys parts)
words_plain types tys parts all = each_plain (λ (x : WitType × Flow). IsPlain x.1) 0 (λ x. word_count types x.0) (λ n x. x.1) (λ n x h. h) 0 (zip tys parts) (zip_all tys parts all)
  where
    zip_all : (tys : List WitType) (parts : List Flow) → AllByRecursion IsPlain parts → AllByRecursion (λ (x : WitType × Flow). IsPlain x.1) (zip tys parts)
    zip_all [] parts all = tt
    zip_all (ty ∷ tys) [] all = tt
    zip_all (ty ∷ tys) (part ∷ parts) all = (all.0, zip_all tys parts all.1)

blocks_plain : {A : Type 0} (P : A → Type 0) (shared : ℕ) (code : ℕ → A → Flow) → ((n : ℕ) (x : A) → P x → IsPlain (code n x)) → (xs : List A) → AllByRecursion P xs → IsPlain (in_blocks shared code xs)
blocks_plain P shared code h xs all = each_plain P shared (λ x. 0) (λ n x. in_block (code n x)) h 0 xs all

cast_plain : (froms tos : List WasmType) → IsPlain (cast_code froms tos)
cast_plain froms tos = if_plain (list_all is_no_cast (casts_between froms tos)) same (cast_by (casts_between froms tos)) refl refl

lift_leaf_plain : (ty : WitType) → IsPlain (lift_leaf ty)
lift_leaf_plain wit.String = refl
lift_leaf_plain wit.ErrorContext = refl
lift_leaf_plain (wit.Id id) = refl
lift_leaf_plain _ = refl

lift_case_plain : (types : List TypeDef) (shared : List WasmType) (n : ℕ) (part : Option (WitType × Flow)) → Kept IsPlain part → IsPlain (lift_case types shared n part)
lift_case_plain types shared n None h = refl
lift_case_plain types shared n (Some (ty, part)) h =
    let words = payload_words types (Some ty) in
    let casts = cast_code (take (length words) shared) words in
    quiet_two (is_plain casts) (is_plain part) (cast_plain (take (length words) shared) words) h

lift_cases_plain : (types : List TypeDef) (payloads : List (Option WitType)) (parts : List Flow) (i : Instruction) → converts i ≡ false → AllByRecursion IsPlain parts → IsPlain (lift_cases types payloads parts >>> emit i)
lift_cases_plain types payloads parts i h all =
    let shared = shared_slots types payloads in
    let blocks = in_blocks (length shared) (lift_case types shared) (by_case payloads parts) in
    quiet_two (is_plain blocks && true) (not (converts i))
    (quiet_two (is_plain blocks) true (blocks_plain (Kept IsPlain) (length shared) (lift_case types shared) (lift_case_plain types shared) (by_case payloads parts) (by_case_all IsPlain payloads parts all)) refl) (one_plain i h)
  where
    one_plain : (i : Instruction) → converts i ≡ false → not (converts i) ≡ true
    one_plain i h = ap not h

lift_kind_plain : (types : List TypeDef) (id : ℕ) (k : TypeDefKind) (parts : List Flow) → AllByRecursion IsPlain parts → IsPlain (lift_kind types id k parts)
lift_kind_plain types id (kind.Alias ty) parts all = alias_is IsPlain leave_none parts refl all
lift_kind_plain types id (kind.Record members) parts all = quiet_two (is_plain (of_words types (map (λ (f : Field). f.ty) members) parts)) true (words_plain types (map (λ (f : Field). f.ty) members) parts all) refl
lift_kind_plain types id (kind.Tuple members) parts all = quiet_two (is_plain (of_words types members parts)) true (words_plain types members parts all) refl
lift_kind_plain types id (kind.Enum members) parts all = refl
lift_kind_plain types id (kind.Flags members) parts all = refl
lift_kind_plain types id (kind.Variant members) parts all = lift_cases_plain types (payloads_of (kind.Variant members)) parts (VariantLift (record { 0 = id })) refl all
lift_kind_plain types id (kind.Option ty) parts all = lift_cases_plain types (payloads_of (kind.Option ty)) parts (OptionLift (record { 0 = id })) refl all
lift_kind_plain types id (kind.Result ok err) parts all = lift_cases_plain types (payloads_of (kind.Result ok err)) parts (ResultLift (record { 0 = id })) refl all
lift_kind_plain types id _ parts all = refl

lift_plain : (types : List TypeDef) (ty : WitType) → IsPlain (lift_code types ty)
unfolding lift_code
lift_plain types ty = made_is IsPlain lift_leaf (lift_kind types) lift_leaf_plain (lift_kind_plain types) types ty

-- 5. Values are loaded, and blocks are freed

abbrev IsPlainAt : (ArchitectureSize → Flow) → Type 0
IsPlainAt part = (offset : ArchitectureSize) → IsPlain (part offset)

number_plain : (grain : ℕ) (o : ArchitectureSize) → IsPlain (emit (number_load grain o))
number_plain zero o = refl
number_plain (suc zero) o = refl
number_plain (suc (suc n)) o = refl

places_plain : (types : List TypeDef) (id own : ℕ) (parts : List (ArchitectureSize → Flow)) (offset : ArchitectureSize) → AllByRecursion IsPlainAt parts → IsPlain (at_places types id own parts offset)
places_plain types id own parts offset all = each_plain IsPlainAt 1 (λ part. own) (λ n part. part (beyond offset (place_in (tree_at types id) n))) (λ n part h. h (beyond offset (place_in (tree_at types id) n))) 0 parts all

alias_at : (parts : List (ArchitectureSize → Flow)) → AllByRecursion IsPlainAt parts → IsPlainAt (of_alias (λ place. leave_none) parts)
alias_at parts all = alias_is IsPlainAt (λ place. leave_none) parts (λ offset. refl) all

at_payload_plain : (place : ArchitectureSize) (part : Option (WitType × (ArchitectureSize → Flow))) → Kept IsPlainAt part → IsPlain (at_payload place part)
at_payload_plain place None h = refl
at_payload_plain place (Some (ty, part)) h = h place

by_tag_plain : (types : List TypeDef) (id : ℕ) (payloads : List (Option WitType)) (parts : List (ArchitectureSize → Flow)) (i : Instruction) → IsPlain (emit i) → AllByRecursion IsPlainAt parts
    → (offset : ArchitectureSize) → IsPlain (by_tag types id (by_case payloads parts) offset i)
by_tag_plain types id payloads parts i h all offset =
    let place = beyond offset (payload_place (tree_at types id)) in
    let cases : List (Option (WitType × (ArchitectureSize → Flow))) = by_case payloads parts in
    let blocks = in_blocks 1 (λ n part. at_payload place part) cases in
    let tag = tag_load (length cases) offset in
    quiet_two (not (converts tag) && is_plain blocks) (not (converts i))
    (quiet_two (not (converts tag)) (is_plain blocks) (number_plain (discriminant_grain (length cases)) offset)
    (blocks_plain (Kept IsPlainAt) 1 (λ n part. at_payload place part) (λ n part h. at_payload_plain place part h) cases (by_case_all IsPlainAt payloads parts all)))
    h

load_leaf_plain : (ty : WitType) → IsPlainAt (load_leaf ty)
load_leaf_plain wit.String offset = refl
load_leaf_plain wit.ErrorContext offset = refl
load_leaf_plain (wit.Id id) offset = refl
load_leaf_plain _ offset = refl

load_kind_plain : (types : List TypeDef) (id : ℕ) (k : TypeDefKind) (parts : List (ArchitectureSize → Flow)) → AllByRecursion IsPlainAt parts → IsPlainAt (load_kind types id k parts)
load_kind_plain types id (kind.Alias ty) parts all offset = alias_at parts all offset
load_kind_plain types id (kind.Record members) parts all offset = quiet_two (is_plain (at_places types id no_value parts offset)) true (places_plain types id 0 parts offset all) refl
load_kind_plain types id (kind.Tuple members) parts all offset = quiet_two (is_plain (at_places types id no_value parts offset)) true (places_plain types id 0 parts offset all) refl
load_kind_plain types id (kind.Enum members) parts all offset = quiet_two (is_plain (emit (tag_load (length members) offset))) true (number_plain (discriminant_grain (length members)) offset) refl
load_kind_plain types id (kind.Flags members) parts all offset =
    quiet_two (is_plain (load_words (length members) offset)) true
    (every_plain 1 (λ word. 0) (λ n word. emit (flags_load (length members) (beyond offset (word_place n)))) (λ n word. number_plain (flags_extent (length members)).grain (beyond offset (word_place n))) 0 (words_of_flags (length members)))
    refl
load_kind_plain types id (kind.Variant members) parts all offset = by_tag_plain types id (payloads_of (kind.Variant members)) parts (VariantLift (record { 0 = id })) refl all offset
load_kind_plain types id (kind.Option ty) parts all offset = by_tag_plain types id (payloads_of (kind.Option ty)) parts (OptionLift (record { 0 = id })) refl all offset
load_kind_plain types id (kind.Result ok err) parts all offset = by_tag_plain types id (payloads_of (kind.Result ok err)) parts (ResultLift (record { 0 = id })) refl all offset
load_kind_plain types id _ parts all offset = refl

load_plain : (types : List TypeDef) (ty : WitType) → IsPlainAt (load_code types ty)
unfolding load_code
load_plain types ty offset = made_is IsPlainAt load_leaf (load_kind types) load_leaf_plain (load_kind_plain types) types ty offset

free_leaf_plain : (ty : WitType) → IsPlainAt (free_leaf ty)
free_leaf_plain wit.String offset = refl
free_leaf_plain _ offset = refl

free_cases_plain : (types : List TypeDef) (id : ℕ) (k : TypeDefKind) (parts : List (ArchitectureSize → Flow)) → AllByRecursion IsPlainAt parts → IsPlainAt (free_cases types id (by_case (payloads_of k) parts))
free_cases_plain types id k parts all offset =
    let cases : List (Option (WitType × (ArchitectureSize → Flow))) = by_case (payloads_of k) parts in
    if_plain (has_list (shape_at types id)) (by_tag types id cases offset (GuestDeallocateVariant (length cases))) leave_none (by_tag_plain types id (payloads_of k) parts (GuestDeallocateVariant (length cases)) refl all offset) refl

free_kind_plain : (types : List TypeDef) (id : ℕ) (k : TypeDefKind) (parts : List (ArchitectureSize → Flow)) → AllByRecursion IsPlainAt parts → IsPlainAt (free_kind types id k parts)
free_kind_plain types id (kind.Alias ty) parts all offset = alias_at parts all offset
free_kind_plain types id (kind.Variant members) parts all offset = free_cases_plain types id (kind.Variant members) parts all offset
free_kind_plain types id (kind.Option ty) parts all offset = free_cases_plain types id (kind.Option ty) parts all offset
free_kind_plain types id (kind.Result ok err) parts all offset = free_cases_plain types id (kind.Result ok err) parts all offset
free_kind_plain types id _ parts all offset = places_plain types id 0 parts offset all

pub free_plain : (types : List TypeDef) (ty : WitType) → IsPlainAt (free_code types ty)
unfolding free_code
free_plain types ty offset = made_is IsPlainAt free_leaf (free_kind types) free_leaf_plain (free_kind_plain types) types ty offset

-- 6. Whole calls

pub pass_thrifty : (types : List TypeDef) (tys : List WitType) → IsThrifty (pass_code types tys)
pass_thrifty types tys =
    if_thrifty (are_indirect (shapes_of types tys)) (ask_for (fields (shapes_of types tys)) >>> both (store_arguments types tys) same) (lower_arguments types tys)
    (quiet_two (is_thrifty (store_arguments types tys)) true (every_thrifty 1 (λ ty. 0) (λ n ty. both (leading 1) (alone (emit (GetArg n))) >>> store_code types false ty (argument_place types tys n)) (λ n ty. store_thrifty types false ty (argument_place types tys n)) 0 tys) refl)
    (every_thrifty 0 (λ ty. 0) (λ n ty. emit (GetArg n) >>> lower_code types false ty) (λ n ty. lower_thrifty types false ty) 0 tys)

pub point_thrifty : (types : List TypeDef) (r : Option WitType) → IsThrifty (point_code types r)
point_thrifty types None = refl
point_thrifty types (Some ty) = if_thrifty (is_indirect (Some (shape_of types ty))) (ask_for (shape_of types ty)) leave_none refl refl

pub read_plain : (types : List TypeDef) (r : Option WitType) → IsPlain (read_code types r)
read_plain types None = refl
read_plain types (Some ty) = if_plain (is_indirect (Some (shape_of types ty))) (load_code types ty nowhere) (lift_code types ty) (load_plain types ty nowhere) (lift_plain types ty)

arguments_plain : (types : List TypeDef) (start : ℕ) (tys : List WitType) → IsPlain (lift_arguments types start tys)
arguments_plain types start [] = refl
arguments_plain types start (ty ∷ tys) =
    let words = flatten_type (tree_of types ty) in
    let got = get_arguments start words in
    let others = lift_arguments types (start + length words) tys in
    quiet_two (is_plain got && is_plain (lift_code types ty)) (is_plain others) (quiet_two (is_plain got) (is_plain (lift_code types ty)) (every_plain 0 (λ word. 0) (λ n word. emit (GetArg n)) (λ n word. refl) start words) (lift_plain types ty))
    (arguments_plain types (start + length words) tys)

pub take_plain : (types : List TypeDef) (tys : List WitType) → IsPlain (take_code types tys)
take_plain types tys =
    let loaded = load_arguments types tys in
    if_plain (are_indirect (shapes_of types tys)) (take_record_code types tys) (lift_arguments types 0 tys)
    (quiet_two (is_plain loaded && true) true (quiet_two (is_plain loaded) true (every_plain 1 (λ ty. 0) (λ n ty. load_code types ty (argument_place types tys n)) (λ n ty. load_plain types ty (argument_place types tys n)) 0 tys) refl) refl)
    (arguments_plain types 0 tys)

pub give_thrifty : (types : List TypeDef) (r : Option WitType) → IsThrifty (give_code types r)
give_thrifty types None = refl
give_thrifty types (Some ty) = if_thrifty (is_indirect (Some (shape_of types ty))) (store_answer_code types ty) (lower_code types true ty) (store_thrifty types true ty nowhere) (lower_thrifty types true ty)
