use Rattle.std.proofs.Common.{◌≡◌, ◌∙◌, true, false, not, List, length, take, Some, refl, sym, ap, subst, slice_get}
use Rattle.std.specs.List.{list_any}
use Rattle.std.proofs.lemmas.Option.{slice_get_read}
use Rattle.gen_accept.specs.declared.declared.Declared.{Declared}
use Rattle.gen_accept.specs.declared.error.Clash.TheVariants.{Twice, NotIdent}
use Rattle.gen_accept.specs.Clash.{is_name, is_same}
use Rattle.gen_accept.proofs.ClashLemmas.{Key, any-more, next, seen_before}
use Rattle.gen_accept.proofs.clash.clash_in.Goals as goal

pub returns-then-not-branch : goal.returns-then-not-branch
returns-then-not-branch c =
    let names : List Declared = c.args.scope.now.names in
    let d = c.d-item.result in
    let n = c.loop-d.d-index in
    let at : slice_get names n ≡ Some d = subst (λ (ns : List Declared). slice_get ns n ≡ Some d) c.as_slice-d-items.ensures (slice_get_read c.as_slice-d-items.result.now (length c.as_slice-d-items.result.now) n d refl c.loop-d-test.true c.d-item.is) in
    let k : Key = (c.space.result, c.as_str.result) in
    let before : list_any (is_same d) (take n names) ≡ true = seen_before c.args.scope.now n d at k c.space.ensures c.as_str.ensures (c.loop-d.invariant.seen k) c.in_ok-insert.ensures.added ∙ ap not c.if-not-branch.true in
    ap (λ e. Some (Twice e)) c.in_ok-entry_in.ensures ∙ sym (next c.args.scope.now n d at before refl) ∙ c.loop-d.invariant.rest

pub returns-then-not-is_name : goal.returns-then-not-is_name
returns-then-not-is_name c =
    let names : List Declared = c.args.scope.now.names in
    let d = c.d-item.result in
    let n = c.loop-d.d-index in
    let at : slice_get names n ≡ Some d = subst (λ (ns : List Declared). slice_get ns n ≡ Some d) c.as_slice-d-items.ensures (slice_get_read c.as_slice-d-items.result.now (length c.as_slice-d-items.result.now) n d refl c.loop-d-test.true c.d-item.is) in
    let k : Key = (c.space.result, c.as_str.result) in
    let before : list_any (is_same d) (take n names) ≡ false = seen_before c.args.scope.now n d at k c.space.ensures c.as_str.ensures (c.loop-d.invariant.seen k) c.in_ok-insert.ensures.added ∙ ap not c.if-not-branch.false in
    let not_name : is_name d ≡ false = sym c.is_name.ensures ∙ c.if-not-is_name.true in
    ap (λ e. Some (NotIdent e)) c.in_ok-entry_in-2.ensures ∙ sym (next c.args.scope.now n d at before not_name) ∙ c.loop-d.invariant.rest

pub loop-d-preserved : goal.loop-d-preserved
loop-d-preserved c =
    let names : List Declared = c.args.scope.now.names in
    let d = c.d-item.result in
    let n = c.loop-d.d-index in
    let at : slice_get names n ≡ Some d = subst (λ (ns : List Declared). slice_get ns n ≡ Some d) c.as_slice-d-items.ensures (slice_get_read c.as_slice-d-items.result.now (length c.as_slice-d-items.result.now) n d refl c.loop-d-test.true c.d-item.is) in
    let k : Key = (c.space.result, c.as_str.result) in
    let before : list_any (is_same d) (take n names) ≡ false = seen_before c.args.scope.now n d at k c.space.ensures c.as_str.ensures (c.loop-d.invariant.seen k) c.in_ok-insert.ensures.added ∙ ap not c.if-not-branch.false in
    let named : is_name d ≡ true = sym c.is_name.ensures ∙ c.if-not-is_name.false in
    record {
      seen = λ other. any-more c.args.scope.now n d at k other c.space.ensures c.as_str.ensures (c.loop-d.invariant.seen other) (c.in_ok-insert.ensures.updates.0 other);
      rest = sym (next c.args.scope.now n d at before named) ∙ c.loop-d.invariant.rest;
    }
