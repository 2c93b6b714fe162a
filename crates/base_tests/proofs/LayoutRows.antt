-- What types take in memory, where their parts stand, and which are too large, by rows.
use Rattle.std.proofs.Common.{◌≡◌, ℕ, List, [], ◌∷◌, map, replicate, Option, None, Some, refl}
use Rattle.wit_model.specs.declared.types.TypeDef.{TypeDef}
use Rattle.wit_model.specs.declared.types.TypeDefKind.{TypeDefKind}
use Rattle.wit_model.specs.declared.types.TypeDefKind.TheVariants as kind
use Rattle.wit_model.specs.declared.types.WitType.{WitType}
use Rattle.wit_model.specs.declared.types.WitType.TheVariants as wit
use Rattle.wit_layout.specs.Filled.{first_too_large}
use Rattle.wit_layout.specs.Sizes.{alignment, elem_size, field_offsets, payload_offset}
use Rattle.wit_layout.specs.Tree.{Tree, record_of, tree_at, tree_of, trees}
use Rattle.base_tests.proofs.Sample.{type_def, types, variant_kind}

-- the bytes of a type, and its alignment, where a pointer has four bytes, and then where it has eight
abbrev told : Tree → (ℕ × ℕ) × ℕ × ℕ
told t = ((elem_size 2 t, alignment 2 t), elem_size 3 t, alignment 3 t)

-- 1. Sizes and alignments of each type of the table

each_type : map told (trees types) ≡
    ((16, 8), 16, 8)
    ∷ ((8, 4), 16, 8)
    ∷ ((8, 4), 16, 8)
    ∷ ((4, 4), 4, 4)
    ∷ ((4, 4), 4, 4)
    ∷ ((4, 4), 4, 4)
    -- 8 + 8 + 1 and 8 + 16 + 1, each at the next multiple of 8
    ∷ ((24, 8), 32, 8)
    -- 8 + 4, and 16 + 4 at the next multiple of 8
    ∷ ((12, 4), 24, 8)
    ∷ ((8, 4), 8, 4)
    ∷ ((2, 1), 2, 1)
    ∷ ((2, 1), 2, 1)
    ∷ ((16, 4), 32, 8)
    ∷ ((8, 4), 16, 8)
    ∷ ((64, 8), 64, 8)
    ∷ ((16, 8), 16, 8)
    ∷ ((12, 4), 24, 8)
    -- 8 + 8 and 8 + 16
    ∷ ((16, 8), 24, 8)
    ∷ ((1, 1), 1, 1)
    ∷ ((1, 1), 1, 1)
    ∷ ((2, 2), 2, 2)
    ∷ ((1, 1), 1, 1)
    ∷ ((2, 2), 2, 2)
    ∷ ((8, 4), 8, 4)
    ∷ ((4, 4), 4, 4)
    ∷ ((4, 4), 4, 4)
    ∷ []
unfolding trees
each_type = refl

numbers : map (λ ty. told (tree_of [] ty)) (wit.Bool ∷ wit.S8 ∷ wit.U16 ∷ wit.F32 ∷ wit.Char ∷ wit.ErrorContext ∷ wit.S64 ∷ wit.F64 ∷ []) ≡
    ((1, 1), 1, 1) ∷ ((1, 1), 1, 1) ∷ ((2, 2), 2, 2) ∷ ((4, 4), 4, 4) ∷ ((4, 4), 4, 4) ∷ ((4, 4), 4, 4) ∷ ((8, 8), 8, 8) ∷ ((8, 8), 8, 8) ∷ []
unfolding trees
numbers = refl

-- 2. Where payloads stand: of variants, results, options and enums

abbrev payload_in : List TypeDef → ℕ → ℕ × ℕ
payload_in table at = (payload_offset 2 (tree_at table at), payload_offset 3 (tree_at table at))

payloads : map (payload_in types) (8 ∷ 9 ∷ 11 ∷ 14 ∷ 15 ∷ 16 ∷ 17 ∷ 18 ∷ 19 ∷ []) ≡
    (4, 4) ∷ (1, 1) ∷ (4, 8) ∷ (8, 8) ∷ (4, 8) ∷ (8, 8) ∷ (1, 1) ∷ (1, 1) ∷ (2, 2) ∷ []
unfolding trees
payloads = refl

-- 3. Where fields stand: of records and tuples, and in an entry of a map

abbrev places : Tree → List ℕ × List ℕ
places t = (field_offsets 2 t, field_offsets 3 t)

fields : map (λ at. places (tree_at types at)) (0 ∷ 6 ∷ 7 ∷ 12 ∷ 13 ∷ []) ≡
    (0 ∷ 8 ∷ [], 0 ∷ 8 ∷ [])
    ∷ (0 ∷ 8 ∷ 16 ∷ [], 0 ∷ 8 ∷ 24 ∷ [])
    ∷ (0 ∷ 8 ∷ [], 0 ∷ 16 ∷ [])
    ∷ (0 ∷ 4 ∷ [], 0 ∷ 4 ∷ [])
    ∷ ([], [])
    ∷ []
unfolding trees
fields = refl

-- a byte, a text and a number of eight bytes
abbrev mixed : List WitType
mixed = wit.U8 ∷ wit.String ∷ wit.U64 ∷ []

record_told : told (record_of [] mixed) ≡ ((24, 8), 32, 8)
unfolding trees
record_told = refl

record_fields : places (record_of [] mixed) ≡ (0 ∷ 4 ∷ 16 ∷ [], 0 ∷ 8 ∷ 24 ∷ [])
unfolding trees
record_fields = refl

-- 4. A case number has one byte up to 256 cases, and two bytes from then on; a byte as a payload stands behind it

-- variants without payloads, and variants of which one case has a byte
abbrev bare : ℕ → TypeDefKind
bare cases = variant_kind (replicate cases None)

abbrev with_byte : ℕ → TypeDefKind
with_byte others = variant_kind (Some wit.U8 ∷ replicate others None)

abbrev many_cases : List TypeDef
many_cases = map type_def (bare 256 ∷ bare 257 ∷ with_byte 255 ∷ with_byte 256 ∷ [])

many_cases_told : map told (trees many_cases) ≡ ((1, 1), 1, 1) ∷ ((2, 2), 2, 2) ∷ ((2, 1), 2, 1) ∷ ((4, 2), 4, 2) ∷ []
unfolding trees
many_cases_told = refl

many_cases_payloads : map (payload_in many_cases) (2 ∷ 3 ∷ []) ≡ (1, 1) ∷ (2, 2) ∷ []
unfolding trees
many_cases_payloads = refl

-- 5. More than two gigabytes are too large; a text has 16 bytes where a pointer has 8

-- which type is too large, of a byte and of a list of so many elements
abbrev too_large : WitType → ℕ → Option ℕ
too_large element n = first_too_large (map type_def (kind.Alias wit.U8 ∷ kind.FixedLengthList element n ∷ []))

bytes_bounded : too_large wit.U8 2147483648 ∷ too_large wit.U8 2147483647 ∷ [] ≡ Some 1 ∷ None ∷ []
unfolding first_too_large trees
bytes_bounded = refl

texts_bounded : too_large wit.String 134217728 ∷ too_large wit.String 134217727 ∷ [] ≡ Some 1 ∷ None ∷ []
unfolding first_too_large trees
texts_bounded = refl
