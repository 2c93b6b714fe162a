use Rattle.std.proofs.Common.{◌≡◌, ◌<◌, ◌∙◌, List, length, Some, get_or, sym, ap, arith}
use Rattle.std.specs.Prelude.{slice_get}
use Rattle.std.proofs.lemmas.Option.{slice_get-get_or}
use Rattle.wit_model.specs.declared.types.TypeDef.{TypeDef}
use Rattle.wit_layout.proofs.FillSteps.{types_short}
use Rattle.type_sites.proofs.SiteLemmas.{site-told, sites-done, sites-more}
use Rattle.type_sites.proofs.sites.type_sites.Goals as goal

pub overflow_cast-number : goal.overflow_cast-number
overflow_cast-number c =
    let short = types_short c.args.resolve.now c.requires.well.numbered in
    let same = ap (λ (ts : List TypeDef). length ts) c.as_slice-entry-items.ensures in
    omega (arith, short, same, c.loop-number-test.true)

pub loop-number-preserved : goal.loop-number-preserved
loop-number-preserved c = λ id world analyzed found shallow.
    let r = c.args.resolve.now in
    let entry = c.entry-item.result in
    let number = c.loop-number.number in
    let same = ap (λ (ts : List TypeDef). length ts) c.as_slice-entry-items.ensures in
    let within : number < length r.types = omega (arith, same, c.loop-number-test.true) in
    let read : entry ≡ get_or r.types number entry = c.entry-item.is ∙ ap (λ (ts : List TypeDef). get_or ts number entry) c.as_slice-entry-items.ensures in
    let at : slice_get r.types number ≡ Some entry = slice_get-get_or r.types number entry within ∙ ap (λ (t : TypeDef). Some t) (sym read) in
    let facts = c.get-info.ensures r id analyzed in
    let is = c.in_ok-site_where.ensures ∙ site-told r id world (record { 0 = number }) entry c.get-info.result found shallow at facts in
    sites-more r world c.loop-number.sites c.push.new.self number entry c.in_ok-site_where.field-0 within at is c.in_ok-push.ensures.ok (c.loop-number.invariant id world analyzed found shallow)

pub returns : goal.returns
returns c = λ id world analyzed found shallow.
    let same = ap (λ (ts : List TypeDef). length ts) c.as_slice-entry-items.ensures in
    sites-done c.args.resolve.now world c.loop-number.sites c.loop-number.number (omega (arith, same, c.loop-number-test.false)) (c.loop-number.invariant id world analyzed found shallow)
