-- The code of some types and functions, instruction by instruction, as the order of wit-bindgen-core has it.
use Rattle.std.specs.Borrow.{Bor}
use Rattle.std.proofs.Common.{◌≡◌, ℕ, zero, suc, ◌+◌, ◌*◌, true, false, List, [], ◌∷◌, ◌++◌, map, replicate, Option, None, Some, refl}
use Rattle.wit_model.specs.declared.function.Function.{Function}
use Rattle.wit_model.specs.declared.function.FunctionKind.TheVariants.{Freestanding}
use Rattle.wit_model.specs.declared.name.Docs.{Docs}
use Rattle.wit_model.specs.declared.name.Name.{Name}
use Rattle.wit_model.specs.declared.size.Alignment.{Alignment}
use Rattle.wit_model.specs.declared.size.Alignment.TheVariants.{Bytes, Pointer}
use Rattle.wit_model.specs.declared.size.ArchitectureSize.{ArchitectureSize}
use Rattle.wit_model.specs.declared.types.TypeDef.{TypeDef}
use Rattle.wit_model.specs.declared.types.TypeDefKind.{TypeDefKind}
use Rattle.wit_model.specs.declared.types.TypeDefKind.TheVariants as kind
use Rattle.wit_model.specs.declared.types.TypeOwner.TheVariants as owner
use Rattle.wit_model.specs.declared.types.WitType.{WitType}
use Rattle.wit_model.specs.declared.types.WitType.TheVariants as wit
use Rattle.wit_layout.specs.declared.signature.AbiVariant.TheVariants.{GuestExport, GuestImport}
use Rattle.wit_layout.specs.Tree.{trees}
use Rattle.wrapper_meaning.specs.Shape.{shapes}
use Rattle.abi_bindgen.specs.declared.instruction.Instruction.{Instruction}
use Rattle.abi_bindgen.specs.declared.instruction.Instruction.TheVariants as i
use Rattle.abi_bindgen.specs.Code.{call_code, free_code, free_types_code, free_words_code, lift_code, load_code, lower_code, made, post_return_code, store_code}
use Rattle.abi_bindgen.specs.Sent.{Sent, asks, sends}
use Rattle.abi_driver.proofs.Instances.Steps.{steps}

-- 1. A table

no_docs : Docs
no_docs = record { contents = None }

no_name : Name
no_name = record { wit = []; snake = []; camel = []; upper = [] }

of_kind : TypeDefKind → TypeDef
of_kind k = record { name = None; owner = owner.None; kind = k; docs = no_docs }

record_of : List WitType → TypeDef
record_of tys = of_kind (kind.Record (map (λ ty. record { name = no_name; ty = ty; docs = no_docs }) tys))

id : ℕ → WitType
id n = wit.Id (record { 0 = n })

-- a record of a byte and a text, a record of two bytes, the first record and a number of eight bytes, a tuple of two texts, and another
-- name of the second record
types : List TypeDef
types =
    record_of (wit.U8 ∷ wit.String ∷ []) ∷ record_of (wit.U16 ∷ id 0 ∷ wit.F64 ∷ []) ∷ of_kind (kind.Tuple (wit.String ∷ wit.String ∷ [])) ∷ of_kind (kind.Alias (id 1)) ∷ []

-- so many bytes and pointers
place : (bytes pointers : ℕ) → ArchitectureSize
place bytes pointers = record { bytes = bytes; pointers = pointers }

all : List Instruction → List Sent
all is = map (λ x. sends x) is

ask : ArchitectureSize → Alignment → List Sent
ask size align = asks (record { size = size; align = align }) ∷ []

-- 2. A record in a record

lowered : steps (lower_code types false (id 1)) ≡ all (i.RecordLower (record { 0 = 1 }) ∷ i.I32FromU16 ∷ i.RecordLower (record { 0 = 0 }) ∷ i.I32FromU8 ∷ i.StringLower false ∷ i.CoreF64FromF64 ∷ [])
unfolding lower_code made types record_of of_kind id all
lowered = refl

-- by its other name
lifted : steps (lift_code types (id 3)) ≡ all (i.U16FromI32 ∷ i.U8FromI32 ∷ i.StringLift ∷ i.RecordLift (record { 0 = 0 }) ∷ i.F64FromCoreF64 ∷ i.RecordLift (record { 0 = 1 }) ∷ [])
unfolding lift_code made types record_of of_kind id all
lifted = refl

-- eight bytes behind the address: the number of eight bytes stands a pointer, and the three of the record, further on
stored : steps (store_code types true (id 1) (place 8 0)) ≡ all (
    i.RecordLower (record { 0 = 1 }) ∷ i.I32FromU16 ∷ i.I32Store16 (place 8 0)
    ∷ i.RecordLower (record { 0 = 0 }) ∷ i.I32FromU8 ∷ i.I32Store8 (place 8 1)
    ∷ i.StringLower true ∷ i.LengthStore (place 8 3) ∷ i.PointerStore (place 8 2)
    ∷ i.CoreF64FromF64 ∷ i.F64Store (place 8 4) ∷ [])
unfolding store_code made trees types record_of of_kind id all place
stored = refl

loaded : steps (load_code types (id 1) (place 0 0)) ≡ all (
    i.I32Load16U (place 0 0) ∷ i.U16FromI32
    ∷ i.I32Load8U (place 0 1) ∷ i.U8FromI32 ∷ i.PointerLoad (place 0 2) ∷ i.LengthLoad (place 0 3) ∷ i.StringLift ∷ i.RecordLift (record { 0 = 0 })
    ∷ i.F64Load (place 0 4) ∷ i.F64FromCoreF64 ∷ i.RecordLift (record { 0 = 1 }) ∷ [])
unfolding load_code made trees types record_of of_kind id all place
loaded = refl

freed : steps (free_code types (id 1) (place 0 0)) ≡ all (i.PointerLoad (place 0 2) ∷ i.LengthLoad (place 0 3) ∷ i.GuestDeallocateString ∷ [])
unfolding free_code made trees types record_of of_kind id all place
freed = refl

-- behind a byte, which has nothing to free
freed_behind : steps (free_types_code types true (wit.U8 ∷ id 1 ∷ [])) ≡ all (i.PointerLoad (place 8 2) ∷ i.LengthLoad (place 8 3) ∷ i.GuestDeallocateString ∷ [])
unfolding free_code made trees types record_of of_kind id all place
freed_behind = refl

-- 3. A tuple of texts

words_freed : steps (free_words_code types (id 2)) ≡ all (i.GuestDeallocateString ∷ i.GuestDeallocateString ∷ [])
unfolding free_words_code made types record_of of_kind id all
words_freed = refl

texts_loaded : List Instruction
texts_loaded = i.PointerLoad (place 0 0) ∷ i.LengthLoad (place 0 1) ∷ i.StringLift ∷ i.PointerLoad (place 0 2) ∷ i.LengthLoad (place 0 3) ∷ i.StringLift ∷ i.TupleLift 2 ∷ []

texts_stored : List Instruction
texts_stored =
    i.TupleLower 2 ∷ i.StringLower true ∷ i.LengthStore (place 0 1) ∷ i.PointerStore (place 0 0) ∷ i.StringLower true ∷ i.LengthStore (place 0 3) ∷ i.PointerStore (place 0 2) ∷ []

-- 4. Functions

function : List WitType → Option WitType → Bor Function
function params result = record {
  ref_ptr = (0, 0);
  now = record { name = no_name; kind = Freestanding; params = map (λ ty. record { name = no_name; ty = ty }) params; result = result; docs = no_docs };
}

-- `func(a: u32, b: string) -> u8`
short : Bor Function
short = function (wit.U32 ∷ wit.String ∷ []) (Some wit.U8)

short_import : steps (call_code types GuestImport short) ≡ all (i.GetArg 0 ∷ i.I32FromU32 ∷ i.GetArg 1 ∷ i.StringLower false ∷ i.CallWasm short ∷ i.U8FromI32 ∷ i.Return 1 ∷ [])
unfolding lower_code lift_code made shapes types record_of of_kind id all short function
short_import = refl

short_export : steps (call_code types GuestExport short) ≡ all (i.GetArg 0 ∷ i.U32FromI32 ∷ i.GetArg 1 ∷ i.GetArg 2 ∷ i.StringLift ∷ i.CallInterface short ∷ i.I32FromU8 ∷ i.Return 1 ∷ [])
unfolding lower_code lift_code made shapes trees types record_of of_kind id all short function
short_export = refl

-- without arguments and a result
bare : Bor Function
bare = function [] None

bare_import : steps (call_code types GuestImport bare) ≡ all (i.CallWasm bare ∷ i.Return 0 ∷ [])
unfolding shapes types record_of of_kind id all bare function
bare_import = refl

bare_export : steps (call_code types GuestExport bare) ≡ all (i.CallInterface bare ∷ i.Return 0 ∷ [])
unfolding shapes types record_of of_kind id all bare function
bare_export = refl

-- the record in a record and a text are words, and the tuple of texts passes by the area
records : Bor Function
records = function (id 1 ∷ wit.String ∷ []) (Some (id 2))

records_import : steps (call_code types GuestImport records) ≡
    all (i.GetArg 0 ∷ i.RecordLower (record { 0 = 1 }) ∷ i.I32FromU16 ∷ i.RecordLower (record { 0 = 0 }) ∷ i.I32FromU8 ∷ i.StringLower false ∷ i.CoreF64FromF64 ∷ i.GetArg 1 ∷ i.StringLower false ∷ [])
    ++ ask (place 0 4) Pointer ++ all (i.CallWasm records ∷ texts_loaded ++ i.Return 1 ∷ [])
unfolding lower_code load_code made shapes trees types record_of of_kind id all ask place records function texts_loaded
records_import = refl

-- the words of the first argument are read and lifted before those of the second
records_export : steps (call_code types GuestExport records) ≡
    all (i.GetArg 0 ∷ i.GetArg 1 ∷ i.GetArg 2 ∷ i.GetArg 3 ∷ i.GetArg 4 ∷ i.U16FromI32 ∷ i.U8FromI32 ∷ i.StringLift ∷ i.RecordLift (record { 0 = 0 }) ∷ i.F64FromCoreF64 ∷ i.RecordLift (record { 0 = 1 }) ∷ [])
    ++ all (i.GetArg 5 ∷ i.GetArg 6 ∷ i.StringLift ∷ i.CallInterface records ∷ []) ++ ask (place 0 4) Pointer ++ all (texts_stored ++ i.Return 1 ∷ [])
unfolding lift_code store_code made shapes trees types record_of of_kind id all ask place records function texts_stored
records_export = refl

records_post_return : steps (post_return_code types (records.now.result)) ≡
    all (i.GetArg 0 ∷ i.PointerLoad (place 0 0) ∷ i.LengthLoad (place 0 1) ∷ i.GuestDeallocateString ∷ i.PointerLoad (place 0 2) ∷ i.LengthLoad (place 0 3) ∷ i.GuestDeallocateString ∷ i.Return 0 ∷ [])
unfolding free_code made trees types record_of of_kind id all place records function
records_post_return = refl

bare_post_return : steps (post_return_code types (bare.now.result)) ≡ all (i.Return 0 ∷ [])
unfolding all bare function
bare_post_return = refl

-- 5. So many numbers, and a text as the result

numbers : ℕ → Bor Function
numbers n = function (replicate n wit.U32) (Some wit.String)

-- what is sent for each number, so many from one on
for_each : (ℕ → List Instruction) → (first n : ℕ) → List Instruction
for_each f first zero = []
for_each f first (suc n) = f first ++ for_each f (first + 1) n

text_loaded : List Instruction
text_loaded = i.PointerLoad (place 0 0) ∷ i.LengthLoad (place 0 1) ∷ i.StringLift ∷ []

text_stored : List Instruction
text_stored = i.StringLower true ∷ i.LengthStore (place 0 1) ∷ i.PointerStore (place 0 0) ∷ []

-- sixteen are words
sixteen_import : steps (call_code types GuestImport (numbers 16)) ≡
    all (for_each (λ n. i.GetArg n ∷ i.I32FromU32 ∷ []) 0 16) ++ ask (place 0 2) Pointer ++ all (i.CallWasm (numbers 16) ∷ text_loaded ++ i.Return 1 ∷ [])
unfolding lower_code load_code made shapes types record_of of_kind id all ask place numbers function for_each text_loaded
sixteen_import = refl

sixteen_export : steps (call_code types GuestExport (numbers 16)) ≡
    all (for_each (λ n. i.GetArg n ∷ i.U32FromI32 ∷ []) 0 16 ++ i.CallInterface (numbers 16) ∷ []) ++ ask (place 0 2) Pointer ++ all (text_stored ++ i.Return 1 ∷ [])
unfolding lift_code store_code made shapes trees types record_of of_kind id all ask place numbers function for_each text_stored
sixteen_export = refl

-- seventeen are a record of 68 bytes: that of an import stands in the area
seventeen_import : steps (call_code types GuestImport (numbers 17)) ≡
    ask (place 68 0) (Bytes 4) ++ all (for_each (λ n. i.GetArg n ∷ i.I32FromU32 ∷ i.I32Store (place (4 * n) 0) ∷ []) 0 17)
    ++ ask (place 0 2) Pointer ++ all (i.CallWasm (numbers 17) ∷ text_loaded ++ i.Return 1 ∷ [])
unfolding store_code load_code made shapes types record_of of_kind id all ask place numbers function for_each text_loaded
seventeen_import = refl

-- and that of an export is freed when it was read
seventeen_export : steps (call_code types GuestExport (numbers 17)) ≡
    all (i.GetArg 0 ∷ for_each (λ n. i.I32Load (place (4 * n) 0) ∷ i.U32FromI32 ∷ []) 0 17 ++ i.Flush 17 ∷ i.GetArg 0 ∷ i.GuestDeallocate (place 68 0) (Bytes 4) ∷ i.CallInterface (numbers 17) ∷ [])
    ++ ask (place 0 2) Pointer ++ all (text_stored ++ i.Return 1 ∷ [])
unfolding store_code load_code made shapes trees types record_of of_kind id all ask place numbers function for_each text_stored
seventeen_export = refl

-- 6. A wrong order is refused

-- the words of both arguments, before the first value is made
words_first : steps (call_code types GuestExport short) ≡ all (i.GetArg 0 ∷ i.GetArg 1 ∷ i.GetArg 2 ∷ i.U32FromI32 ∷ i.StringLift ∷ i.CallInterface short ∷ i.I32FromU8 ∷ i.Return 1 ∷ []) → ⊥
unfolding lower_code lift_code made shapes trees types record_of of_kind id all short function
words_first h = let e = h in cc
