-- Which words are kept of a type: the first ones, as far as there is room.
use Rattle.std.specs.Prelude.{List, take}
use Rattle.wit_model.specs.declared.wasm_type.WasmType.{WasmType}
use Rattle.wit_layout.specs.declared.words.Words.{Words}

abbrev pub kept : Words → List WasmType
kept w = take w.count w.words
