-- Which core word does a JSON value stand for?
use Rattle.std.specs.Prelude.{ℕ, List, [], ◌∷◌, codes, Option, Some, None, option_map, is_some, if◌then◌else◌}
use Rattle.std.specs.Map.{lookup}
use Rattle.std.specs.Str.{bytes_eq}
use Rattle.serde_json.specs.Data.{Data}
use Rattle.serde_json.specs.Find.{as_null}
use Rattle.wit_model.specs.declared.wasm_type.WasmType.{WasmType}
use Rattle.wit_model.specs.declared.wasm_type.WasmType.TheVariants as core
use Rattle.wrapper_data.specs.declared.word.Word.{Word}
use Rattle.wrapper_data.specs.declared.word.Word.TheVariants as word
use Rattle.wrapper_trace.specs.Numbers.{signed_64, signed_32, unsigned_32, unsigned_64}

-- the core type that a key names
unfoldable pub type_named : List ℕ → Option WasmType
type_named key = lookup (bytes_eq key) (
    (codes "i32", core.I32)
    ∷ (codes "i64", core.I64)
    ∷ (codes "f32", core.F32)
    ∷ (codes "f64", core.F64)
    ∷ (codes "pointer", core.Pointer)
    ∷ (codes "length", core.Length)
    ∷ (codes "slot", core.PointerOrI64)
    ∷ [])

-- null, or the bits
abbrev pub slot_of : Data → Option Word
slot_of d = if is_some (as_null d) then Some (word.Slot None) else option_map (λ bits. word.Slot (Some bits)) (unsigned_64 d)

-- the word of a type, by its number or its bits
abbrev pub word_of_type : WasmType → Data → Option Word
word_of_type core.I32 d = option_map word.I32 (signed_32 d)
word_of_type core.I64 d = option_map word.I64 (signed_64 d)
word_of_type core.F32 d = option_map word.F32 (unsigned_32 d)
word_of_type core.F64 d = option_map word.F64 (unsigned_64 d)
word_of_type core.Pointer d = option_map word.Pointer (unsigned_32 d)
word_of_type core.Length d = option_map word.Length (unsigned_32 d)
word_of_type core.PointerOrI64 d = slot_of d
