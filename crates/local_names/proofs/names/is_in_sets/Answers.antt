use Rattle.std.proofs.Common.{◌+◌, ◌||◌, drop, sym, ap, ◌∙◌}
use Rattle.std.specs.List.{list_any}
use Rattle.std.specs.Rc.{rc_str_bytes}
use Rattle.std.specs.Str.{bytes_eq}
use Rattle.indexmap.specs.IndexSet.{contains_by}
use Rattle.local_names.specs.Texts.{texts_of}
use Rattle.local_names.proofs.Found.{any-at}
use Rattle.local_names.proofs.names.is_in_sets.Goals as goal

pub returns-then-contains : goal.returns-then-contains
returns-then-contains c =
    let here = ap (contains_by (λ k. bytes_eq c.args.name.now (rc_str_bytes k))) (sym c.deref.ensures) ∙ sym c.contains.ensures ∙ c.if-contains.true in
    sym (ap (λ h. h || list_any (λ n. bytes_eq n c.args.name.now) (texts_of (drop (c.loop-set.set-index + 1) c.args.sets.now))) here)
    ∙ sym (any-at c.args.name.now c.args.sets.now c.loop-set.set-index c.set-item.result c.loop-set-test.true c.set-item.is)
    ∙ c.loop-set.invariant

pub loop-set-preserved : goal.loop-set-preserved
loop-set-preserved c =
    let here = ap (contains_by (λ k. bytes_eq c.args.name.now (rc_str_bytes k))) (sym c.deref.ensures) ∙ sym c.contains.ensures ∙ c.if-contains.false in
    sym (ap (λ h. h || list_any (λ n. bytes_eq n c.args.name.now) (texts_of (drop (c.loop-set.set-index + 1) c.args.sets.now))) here)
    ∙ sym (any-at c.args.name.now c.args.sets.now c.loop-set.set-index c.set-item.result c.loop-set-test.true c.set-item.is)
    ∙ c.loop-set.invariant
