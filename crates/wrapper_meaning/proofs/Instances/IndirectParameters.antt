-- Seventeen numbers as the parameters of an import, and a text as its result: both pass by one area of 68 bytes.
use Rattle.std.proofs.Common.{◌≡◌, ◌+◌, ◌-◌, ℕ, zero, suc, pos, List, [], ◌∷◌, ◌++◌, Some, refl, ap, arith, sym, ap₂, ◌∙◌}
use Rattle.wit_model.specs.declared.types.WitType.TheVariants as wit
use Rattle.wit_model.specs.declared.wasm_type.WasmType.TheVariants as core
use Rattle.wit_layout.specs.declared.signature.AbiVariant.TheVariants.{GuestImport}
use Rattle.wit_layout.specs.Signature.{core_params}
use Rattle.wit_layout.specs.Tree.{Scalar}
use Rattle.wrapper_data.specs.declared.block.Block.{Block}
use Rattle.wrapper_data.specs.declared.choice.Choice.TheVariants as choice
use Rattle.wrapper_data.specs.declared.run.CallPoint.{CallPoint}
use Rattle.wrapper_data.specs.declared.run.Target.TheVariants as target
use Rattle.wrapper_data.specs.declared.value.RustValue.{RustValue}
use Rattle.wrapper_data.specs.declared.value.RustValue.TheVariants as value
use Rattle.wrapper_data.specs.declared.word.Word.{Word}
use Rattle.wrapper_data.specs.declared.word.Word.TheVariants as word
use Rattle.wrapper_meaning.specs.Areas.{IsArea, import_area}
use Rattle.wrapper_meaning.specs.Calls.{CallsImport, pointers}
use Rattle.wrapper_meaning.specs.Direction.{Direction, lend, take}
use Rattle.wrapper_meaning.specs.Due.{due, import_bill}
use Rattle.wrapper_meaning.specs.Represents.{Begins, LendsArguments, TakesArguments, param_words, result_words}
use Rattle.wrapper_meaning.specs.Shape.{Shapes}
use Rattle.wrapper_meaning.specs.Shape.Shape.{fields, scalar, text}
use Rattle.wrapper_meaning.specs.Shape.Shapes.{none, more}
use Rattle.wrapper_meaning.specs.StandsFor.{ArgumentsStand}
use Rattle.wrapper_meaning.specs.Value.{Parts}
use Rattle.wrapper_meaning.proofs.Instances.Forms.{block_at, chosen, four}
use Rattle.wrapper_meaning.proofs.Lists.{first_or}

abbrev u32s : ℕ → Shapes
u32s zero = none
u32s (suc n) = more (scalar Scalar.u32) (u32s n)

-- from a number on, upwards
abbrev numbers_from : ℕ → (n : ℕ) → Parts (u32s n)
numbers_from first zero = tt
numbers_from first (suc n) = (pos first, numbers_from (first + 1) n)

abbrev seventeen : Shapes
seventeen = u32s 17

-- the first is 0, and the last is 16
abbrev numbers : Parts seventeen
numbers = numbers_from 0 17

-- two pointers, which both name the area
two_pointers : core_params GuestImport (param_words seventeen) (result_words (Some text)) ≡ core.Pointer ∷ core.Pointer ∷ []
two_pointers = refl

one_area : due (import_bill 2 seventeen numbers (Some text) []) ≡ record { size = 68; align = 4 } ∷ []
one_area = refl

-- at pointers of eight bytes it has the text's alignment
wide_area : due (import_bill 3 seventeen numbers (Some text) []) ≡ record { size = 68; align = 8 } ∷ []
wide_area = refl

abbrev bytes_of : ℕ → ℕ → List ℕ
bytes_of first zero = []
bytes_of first (suc n) = four first ++ bytes_of (first + 1) n

abbrev area : Block
area = block_at 4096 (bytes_of 0 17)

-- the record of the numbers, in any direction
record_stands : (dir : Direction) → Begins 2 dir (fields seventeen) numbers area []
record_stands dir = record {
  aligned = refl;
  room = omega (arith);
  holds = ([], [], ((omega (arith), refl), refl), ([], [], ((omega (arith), refl), refl), ([], [], ((omega (arith), refl), refl), ([], [], ((omega (arith), refl), refl), ([], [], ((omega (arith), refl), refl), ([], [], ((omega (arith), refl), refl), ([], [], ((omega (arith), refl), refl), ([], [], ((omega (arith), refl), refl), ([], [], ((omega (arith), refl), refl), ([], [], ((omega (arith), refl), refl), ([], [], ((omega (arith), refl), refl), ([], [], ((omega (arith), refl), refl), ([], [], ((omega (arith), refl), refl), ([], [], ((omega (arith), refl), refl), ([], [], ((omega (arith), refl), refl), ([], [], ((omega (arith), refl), refl), ([], [], ((omega (arith), refl), refl), refl, refl), refl), refl), refl), refl), refl), refl), refl), refl), refl), refl), refl), refl), refl), refl), refl), refl);
}

by_address : LendsArguments 2 (area ∷ []) (area ∷ []) seventeen numbers (word.Pointer 4096 ∷ [])
by_address = record { block = area; is_area = refl; named = refl; stands = record_stands (lend (area ∷ [])) }

-- an export takes them in a block of exactly their size, which is theirs
in_a_block : TakesArguments 2 seventeen numbers (word.Pointer 4096 ∷ []) (area ∷ [])
in_a_block = record { block = area; inner = []; named = refl; exact = refl; stands = record_stands take; all = refl }

abbrev larger : Block
larger = record area { size = 72 }

in_a_larger_block : TakesArguments 2 seventeen numbers (word.Pointer 4096 ∷ []) (larger ∷ []) → ⊥
in_a_larger_block takes = omega (takes.exact, ap (λ (b : Block). b.size) (ap (first_or larger) takes.all), arith)

abbrev values : ℕ → ℕ → List RustValue
values first zero = []
values first (suc n) = value.Num wit.U32 (pos first) ∷ values (first + 1) n

-- the last of them
abbrev values_from : ℕ → List RustValue
values_from first = values first (17 - first)

numbers_stand : ArgumentsStand 2 [] seventeen numbers (values_from 0) []
numbers_stand = (value.Num wit.U32 (pos 0), values_from 1, [], [], refl, (refl, refl), (value.Num wit.U32 (pos 1), values_from 2, [], [], refl, (refl, refl), (value.Num wit.U32 (pos 2), values_from 3, [], [], refl, (refl, refl), (value.Num wit.U32 (pos 3), values_from 4, [], [], refl, (refl, refl), (value.Num wit.U32 (pos 4), values_from 5, [], [], refl, (refl, refl), (value.Num wit.U32 (pos 5), values_from 6, [], [], refl, (refl, refl), (value.Num wit.U32 (pos 6), values_from 7, [], [], refl, (refl, refl), (value.Num wit.U32 (pos 7), values_from 8, [], [], refl, (refl, refl), (value.Num wit.U32 (pos 8), values_from 9, [], [], refl, (refl, refl), (value.Num wit.U32 (pos 9), values_from 10, [], [], refl, (refl, refl), (value.Num wit.U32 (pos 10), values_from 11, [], [], refl, (refl, refl), (value.Num wit.U32 (pos 11), values_from 12, [], [], refl, (refl, refl), (value.Num wit.U32 (pos 12), values_from 13, [], [], refl, (refl, refl), (value.Num wit.U32 (pos 13), values_from 14, [], [], refl, (refl, refl), (value.Num wit.U32 (pos 14), values_from 15, [], [], refl, (refl, refl), (value.Num wit.U32 (pos 15), values_from 16, [], [], refl, (refl, refl), (value.Num wit.U32 (pos 16), values_from 17, [], [], refl, (refl, refl), (refl, refl), refl), refl), refl), refl), refl), refl), refl), refl), refl), refl), refl), refl), refl), refl), refl), refl), refl)

-- the call that is owed, where the only choice is 4096, and the heap was empty

abbrev call : CallPoint
call = record { target = target.Core [] []; words = word.Pointer 4096 ∷ word.Pointer 4096 ∷ []; values = []; heap = record { blocks = area ∷ [] } }

calls : CallsImport 2 (target.Core [] []) seventeen numbers (Some text) (record { blocks = [] }) (choice.At 4096 ∷ []) call
calls = record {
  aimed = refl;
  area = area ∷ [];
  stands = record { block = area; is = refl; chosen = refl; aligned = refl; exact = refl };
  words = record { arguments = word.Pointer 4096 ∷ []; pointer = word.Pointer 4096 ∷ []; all = refl; represents = by_address; named = refl };
  values = refl;
  formed = refl;
  made = [];
  kept = λ weight. omega (arith);
}

-- a record in a block that is no area
in_no_area : LendsArguments 2 (area ∷ []) [] seventeen numbers (word.Pointer 4096 ∷ []) → ⊥
in_no_area lends = absurd cc

-- an area elsewhere than where the choice puts it

elsewhere : IsArea (import_area 2 seventeen (Some text)) (Some (choice.At 8192)) (area ∷ []) → ⊥
elsewhere stands = omega (ap chosen stands.chosen, ap (λ b. b.address) (ap (first_or area) stands.is), arith)

-- a call that names another area for the result

second : List Word → ℕ
second (x ∷ word.Pointer address ∷ words) = address
second _ = 0

names_another : (c : CallPoint) → c.words ≡ word.Pointer 4096 ∷ word.Pointer 64 ∷ [] → CallsImport 2 (target.Core [] []) seventeen numbers (Some text) (record { blocks = [] }) (choice.At 4096 ∷ []) c → ⊥
unfolding second
names_another c words wrong =
    let passed = wrong.words in
    let both : c.words ≡ word.Pointer passed.represents.block.address ∷ pointers wrong.area = passed.all ∙ ap₂ (λ a b. a ++ b) passed.represents.named passed.named in
    let last : c.words ≡ word.Pointer passed.represents.block.address ∷ word.Pointer wrong.stands.block.address ∷ [] = both ∙ ap (λ area. word.Pointer passed.represents.block.address ∷ pointers area) wrong.stands.is in
    omega (ap second (sym words ∙ last), ap chosen wrong.stands.chosen, arith)
