use Rattle.std.proofs.Common.{◌+◌, ◌&&◌, ◌≤◌, length, drop, sym, ap, ◌∙◌, arith}
use Rattle.std.specs.List.{list_all}
use Rattle.std.proofs.lemmas.List.{drop_all}
use Rattle.wit_layout.specs.declared.bitcast.Bitcast.TheVariants as bitcast
use Rattle.abi_bindgen.specs.SlotCasts.{is_no_cast}
use Rattle.abi_bindgen.proofs.CastSteps.{idle_next}
use Rattle.abi_bindgen.proofs.casts.change_nothing.Goals as goal

pub loop-cast-preserved : goal.loop-cast-preserved
loop-cast-preserved c =
    let i = c.loop-cast.cast-index in
    let casts = c.args.casts.now in
    c.loop-cast.invariant ∙ idle_next casts i bitcast.None c.loop-cast-test.true ∙ ap (λ b. b && list_all is_no_cast (drop (i + 1) casts)) (sym c.is_no_cast.ensures ∙ c.if-not-is_no_cast.false)

pub returns : goal.returns
returns c =
    let i = c.loop-cast.cast-index in
    let casts = c.args.casts.now in
    let ended : length casts ≤ i = omega (arith, c.loop-cast-test.false) in
    sym (c.loop-cast.invariant ∙ ap (list_all is_no_cast) (drop_all i casts ended))

pub returns-then-not-is_no_cast : goal.returns-then-not-is_no_cast
returns-then-not-is_no_cast c =
    let i = c.loop-cast.cast-index in
    let casts = c.args.casts.now in
    sym (c.loop-cast.invariant ∙ idle_next casts i bitcast.None c.loop-cast-test.true ∙ ap (λ b. b && list_all is_no_cast (drop (i + 1) casts)) (sym c.is_no_cast.ensures ∙ c.if-not-is_no_cast.true))
