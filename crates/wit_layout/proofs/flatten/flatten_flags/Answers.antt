use Rattle.std.proofs.Common.{◌∙◌, ◌-◌, ◌+◌, ◌∷◌, ◌++◌, [], ap, sym, take, replicate}
use Rattle.wit_model.specs.declared.wasm_type.WasmType.TheVariants.{I32}
use Rattle.wit_layout.specs.inside.Words.{kept}
use Rattle.wit_layout.proofs.WordLists.{take_then, replicate_step}
use Rattle.wit_layout.proofs.flatten.flatten_flags.Goals as goal

pub loop-word-preserved : goal.loop-word-preserved
loop-word-preserved c =
    let r = c.args.words.room in
    let h = c.loop-word.invariant in
    let all = c.loop-word.all in
    let next = replicate_step c.div_ceil-word-end.result c.loop-word._word I32 c.loop-word-test.true in
    record {
      words = take_then r all.room (kept all) (kept c.with-all.result) (I32 ∷ []) (replicate (c.div_ceil-word-end.result - (c.loop-word._word + 1)) I32) _ h.room c.with-all.ensures.words (sym (ap (λ ws. take r (kept all ++ ws)) next) ∙ h.words);
      room = c.with-all.ensures.room ∙ h.room;
    }
