use Rattle.std.proofs.Common.{◌<◌, ◌≤◌, ◌++◌, List, [], ◌∷◌, length, sym, ap, ◌∙◌, arith, append-nil}
use Rattle.wit_layout.specs.declared.bitcast.Bitcast.{Bitcast}
use Rattle.wit_model.specs.declared.wasm_type.WasmType.TheVariants as wasm
use Rattle.abi_bindgen.specs.SlotCasts.{ReadBack}
use Rattle.abi_bindgen.proofs.CastSteps.{back_next, back_none, casts_next, casts_none, in_order, ordered_next, short_too}
use Rattle.abi_bindgen.proofs.casts.casts_between.Goals as goal

pub bounds-tos-i : goal.bounds-tos-i
bounds-tos-i c = short_too c.args.froms.now c.args.tos.now c.loop-i.i wasm.I32 wasm.I32 (omega (arith, c.loop-i-test.true)) c.loop-i.invariant.ordered

pub cast-requires : goal.cast-requires
cast-requires c = in_order c.args.froms.now c.args.tos.now c.loop-i.i wasm.I32 wasm.I32 (omega (arith, c.loop-i-test.true)) c.loop-i.invariant.ordered

pub loop-i-preserved : goal.loop-i-preserved
loop-i-preserved c =
    let froms = c.args.froms.now in
    let tos = c.args.tos.now in
    let i = c.loop-i.i in
    let h = c.loop-i.invariant in
    let short : i < length froms = omega (arith, c.loop-i-test.true) in
    record {
      ordered = ordered_next froms tos i wasm.I32 wasm.I32 short h.ordered;
      made = casts_next froms tos i wasm.I32 wasm.I32 short h.ordered c.loop-i.casts c.push.new.self _ (c.in_ok-push.ensures.ok ∙ ap (λ (x : Bitcast). c.loop-i.casts ++ x ∷ []) c.cast.ensures.cast) h.made;
      back = back_next froms tos i wasm.I32 wasm.I32 short h.ordered (ReadBack froms tos) c.cast.ensures.four c.cast.ensures.eight h.back;
    }

pub returns : goal.returns
returns c =
    let froms = c.args.froms.now in
    let tos = c.args.tos.now in
    let ended : length froms ≤ c.loop-i.i = omega (arith, c.loop-i-test.false) in
    record {
      casts = sym (append-nil c.loop-i.casts) ∙ sym (ap (λ (xs : List Bitcast). c.loop-i.casts ++ xs) (casts_none froms tos c.loop-i.i ended)) ∙ c.loop-i.invariant.made;
      back = c.loop-i.invariant.back (back_none froms tos c.loop-i.i ended);
    }
