use Rattle.std.proofs.Common.{◌≡◌, ◌+◌, List, Some, None, true, length, sym, ap, subst, arith}
use Rattle.wit_model.specs.TypeOrder.{parts_below}
use Rattle.wit_model.proofs.WellFormedLemmas.{types_go_down}
use Rattle.wit_layout.specs.declared.type_layout.TypeLayout.{TypeLayout}
use Rattle.wit_layout.specs.inside.Stored.{AreLayoutsOf}
use Rattle.wit_layout.proofs.FillSteps.{entry_read, made_of, entry_below, size_from_kind, one_more, first_large, none_large, types_short, kind_short}
use Rattle.wit_layout.proofs.size_align.SizeAlign.fill.Goals as goal

pub of_kind-requires-clause-below : goal.of_kind-requires-clause-below
of_kind-requires-clause-below c =
    let types = c.args.resolve.now.types in
    let entry = c.entry-item.result in
    let here = entry_read types c.as_slice-entry-items.result.now c.loop-i.i entry c.as_slice-entry-items.ensures c.loop-i-test.true c.entry-item.is in
    subst (λ (xs : List TypeLayout). parts_below (length xs) entry.kind ≡ true) (sym c.as_slice.ensures) (entry_below c.loop-i.layouts types c.loop-i.i (types_go_down c.args.resolve.now c.requires.unbroken) c.loop-i.invariant entry here)

pub of_kind-requires-clause-numbered : goal.of_kind-requires-clause-numbered
of_kind-requires-clause-numbered c =
    let types = c.args.resolve.now.types in
    let entry = c.entry-item.result in
    let here = entry_read types c.as_slice-entry-items.result.now c.loop-i.i entry c.as_slice-entry-items.ensures c.loop-i-test.true c.entry-item.is in
    kind_short c.args.resolve.now c.requires.numbered c.loop-i.i entry here

pub overflow_cast-result : goal.overflow_cast-result
overflow_cast-result c =
    let types = c.args.resolve.now.types in
    let short = types_short c.args.resolve.now c.requires.numbered in
    let same = ap (λ xs. length xs) c.as_slice-entry-items.ensures in
    omega (arith, short, same, c.loop-i-test.true)

pub returns-in-None-clause-err : goal.returns-in-None-clause-err
returns-in-None-clause-err c =
    let types = c.args.resolve.now.types in
    let entry = c.entry-item.result in
    let same = ap (λ xs. length xs) c.as_slice-entry-items.ensures in
    let here = entry_read types c.as_slice-entry-items.result.now c.loop-i.i entry c.as_slice-entry-items.ensures c.loop-i-test.true c.entry-item.is in
    let made = made_of c.as_slice.result.now c.loop-i.layouts entry.kind _ None c.as_slice.ensures c.in-None.is c.in_ok-layout.ensures in
    first_large c.loop-i.layouts types c.loop-i.i c.loop-i.invariant (omega (arith, same, c.loop-i-test.true)) (size_from_kind c.loop-i.layouts types c.loop-i.i (types_go_down c.args.resolve.now c.requires.unbroken) c.loop-i.invariant entry here made)

pub loop-i-preserved : goal.loop-i-preserved
loop-i-preserved c =
    let types = c.args.resolve.now.types in
    let entry = c.entry-item.result in
    let layout = c.in-Some.layout in
    let here = entry_read types c.as_slice-entry-items.result.now c.loop-i.i entry c.as_slice-entry-items.ensures c.loop-i-test.true c.entry-item.is in
    let made = made_of c.as_slice.result.now c.loop-i.layouts entry.kind _ (Some layout) c.as_slice.ensures c.in-Some.is c.in_ok-layout.ensures in
    subst (λ xs. AreLayoutsOf xs types (c.loop-i.i + 1)) (sym c.in_ok-push-in-Some.ensures.ok) (one_more c.loop-i.layouts types c.loop-i.i (types_go_down c.args.resolve.now c.requires.unbroken) c.loop-i.invariant entry here layout made)

pub returns-clause-ok : goal.returns-clause-ok
returns-clause-ok c =
    let types = c.args.resolve.now.types in
    let same = ap (λ xs. length xs) c.as_slice-entry-items.ensures in
    none_large c.loop-i.layouts types c.loop-i.i c.loop-i.invariant (omega (arith, same, c.loop-i-test.false, c.loop-i.auto.i-end))
