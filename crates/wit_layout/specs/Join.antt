-- What core type holds the words of two types, as the cases of a variant share their slots.
use Rattle.std.specs.Prelude.{◌≡◌, ◌⊎◌}
use Rattle.wit_model.specs.declared.wasm_type.WasmType.{WasmType}
use Rattle.wit_model.specs.declared.wasm_type.WasmType.TheVariants.{I32, I64, F32, F64, Pointer, PointerOrI64, Length}

abbrev pub join : WasmType → WasmType → WasmType
join PointerOrI64 _ = PointerOrI64
join _ PointerOrI64 = PointerOrI64
join I32 I32 = I32
join F32 F32 = F32
join I32 F32 = I32
join F32 I32 = I32
join F64 F64 = F64
join Pointer Pointer = Pointer
join Pointer I32 = Pointer
join Pointer F32 = Pointer
join Pointer Length = Pointer
join I32 Pointer = Pointer
join F32 Pointer = Pointer
join Length Pointer = Pointer
join Pointer I64 = PointerOrI64
join Pointer F64 = PointerOrI64
join I64 Pointer = PointerOrI64
join F64 Pointer = PointerOrI64
join Length Length = Length
join Length I32 = Length
join Length F32 = Length
join I32 Length = Length
join F32 Length = Length
join _ _ = I64

-- one of the two is their join, so that a word of the one can be cast to the other
abbrev pub AreInOrder : WasmType → WasmType → Type 0
AreInOrder from to = (join from to ≡ to) ⊎ (join from to ≡ from)
