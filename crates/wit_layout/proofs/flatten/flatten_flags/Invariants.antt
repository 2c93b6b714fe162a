use Rattle.std.proofs.Common.{◌≡◌, ◌-◌, ◌++◌, take, replicate}
use Rattle.wit_model.specs.declared.wasm_type.WasmType.TheVariants.{I32}
use Rattle.wit_layout.specs.Flat.{words_of_flags}
use Rattle.wit_layout.specs.inside.Words.{kept}
use Rattle.wit_layout.proofs.flatten.flatten_flags.Given as goal

abbrev pub invariant-loop-word : goal.invariant-loop-word
invariant-loop-word l = record {
  words : take l.fn.words.room (kept l.all ++ replicate (l._word-end - l._word) I32) ≡ take l.fn.words.room (kept l.fn.words ++ words_of_flags l.fn.count);
  room : l.all.room ≡ l.fn.words.room;
}
