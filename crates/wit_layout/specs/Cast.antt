-- How a word of one core type is cast to another.
use Rattle.wit_model.specs.declared.wasm_type.WasmType.{WasmType}
use Rattle.wit_model.specs.declared.wasm_type.WasmType.TheVariants.{I32, I64, F32, F64, Pointer, PointerOrI64, Length}
use Rattle.wit_layout.specs.declared.bitcast.Bitcast.{Bitcast}
use Rattle.wit_layout.specs.declared.bitcast.Bitcast.TheVariants as bitcast

abbrev pub cast : WasmType → WasmType → Bitcast
cast I32 I64 = bitcast.I32ToI64
cast F32 I32 = bitcast.F32ToI32
cast F64 I64 = bitcast.F64ToI64
cast I64 I32 = bitcast.I64ToI32
cast I32 F32 = bitcast.I32ToF32
cast I64 F32 = bitcast.I64ToF32
cast I64 F64 = bitcast.I64ToF64
cast F32 I64 = bitcast.F32ToI64
cast I64 PointerOrI64 = bitcast.I64ToP64
cast PointerOrI64 I64 = bitcast.P64ToI64
cast Pointer PointerOrI64 = bitcast.PToP64
cast PointerOrI64 Pointer = bitcast.P64ToP
cast I32 Pointer = bitcast.I32ToP
cast Length Pointer = bitcast.LToP
cast Pointer I32 = bitcast.PToI32
cast Length I32 = bitcast.LToI32
cast I32 Length = bitcast.I32ToL
cast I64 Length = bitcast.I64ToL
cast Pointer Length = bitcast.PToL
cast Length I64 = bitcast.LToI64
cast F32 Pointer = bitcast.Sequence F32 I32 Pointer
cast Pointer F32 = bitcast.Sequence Pointer I32 F32
cast F32 Length = bitcast.Sequence F32 I32 Length
cast Length F32 = bitcast.Sequence Length I32 F32
cast PointerOrI64 I32 = bitcast.Sequence PointerOrI64 I64 I32
cast PointerOrI64 F32 = bitcast.Sequence PointerOrI64 I64 F32
cast PointerOrI64 F64 = bitcast.Sequence PointerOrI64 I64 F64
cast PointerOrI64 Length = bitcast.Sequence PointerOrI64 I64 Length
cast I32 PointerOrI64 = bitcast.Sequence I32 I64 PointerOrI64
cast F32 PointerOrI64 = bitcast.Sequence F32 I64 PointerOrI64
cast F64 PointerOrI64 = bitcast.Sequence F64 I64 PointerOrI64
cast Length PointerOrI64 = bitcast.Sequence Length I64 PointerOrI64
cast _ _ = bitcast.None
