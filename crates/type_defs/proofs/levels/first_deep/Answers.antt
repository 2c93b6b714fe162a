use Rattle.std.proofs.Common.{◌≡◌, ◌∙◌, ℕ, ◌+◌, Bool, true, false, cond, not, nat_lt, List, [], ◌∷◌, ◌++◌, drop, length, Option, Some, subst, sym, ap, refl, arith, slice_get, length-append}
use Rattle.std.specs.List.{position_from}
use Rattle.std.proofs.lemmas.Bool.{le-ltb, lt-ltb}
use Rattle.std.proofs.lemmas.Iterator.Adapters.{position_from-zero}
use Rattle.std.proofs.lemmas.Option.{slice_get_read}
use Rattle.std.proofs.lemmas.List.{drop_all}
use Rattle.wit_model.specs.declared.types.TypeDef.{TypeDef}
use Rattle.type_defs.specs.Levels.{AreLevels, greatest_below, is_shallow}
use Rattle.type_defs.proofs.LevelLemmas.{is_shallow-exact, levels_more}
use Rattle.type_defs.proofs.levels.first_deep.Goals as goal
use Rattle.wit_model.proofs.ListLemmas.{drop_at}

pub returns-then-below-ge100 : goal.returns-then-below-ge100
returns-then-below-ge100 c =
    let known : List ℕ = c.loop-i.known in
    let types = c.args.types.now in
    let nth = c.loop-i.i in
    let entry = c.index-types-i.result in
    let is_deep : TypeDef → Bool = λ entry. not (is_shallow types entry) in
    let at : slice_get types nth ≡ Some entry = slice_get_read types (length types) nth entry refl c.loop-i-test.true c.index-types-i.is in
    let below = c.greatest_below-below.ensures ∙ ap (λ (k : List ℕ). greatest_below k entry.kind) c.as_slice.ensures in
    let far : nat_lt 99 (greatest_below known entry.kind) ≡ true = lt-ltb 99 (greatest_below known entry.kind) (omega (arith, below, c.if-below-ge100.true)) in
    let deep : is_deep entry ≡ true = ap not (is_shallow-exact types c.requires known c.loop-i.invariant.levels nth entry at c.loop-i.invariant.count ∙ ap not far) in
    let here : Option ℕ = Some nth in
    sym (ap (λ b. cond b here (position_from is_deep (nth + 1) (drop (nth + 1) types))) deep) ∙ sym (ap (position_from is_deep nth) (drop_at types nth entry at)) ∙ c.loop-i.invariant.rest
    ∙ sym (position_from-zero is_deep types)

pub loop-i-preserved : goal.loop-i-preserved
loop-i-preserved c =
    let known : List ℕ = c.loop-i.known in
    let types = c.args.types.now in
    let nth = c.loop-i.i in
    let entry = c.index-types-i.result in
    let is_deep : TypeDef → Bool = λ entry. not (is_shallow types entry) in
    let at : slice_get types nth ≡ Some entry = slice_get_read types (length types) nth entry refl c.loop-i-test.true c.index-types-i.is in
    let below = c.greatest_below-below.ensures ∙ ap (λ (k : List ℕ). greatest_below k entry.kind) c.as_slice.ensures in
    let whole : c.push.new.self ≡ known ++ (greatest_below known entry.kind + 1) ∷ [] = c.in_ok-push.ensures.ok ∙ ap (λ (n : ℕ). known ++ (n + 1) ∷ []) below in
    record {
      count = rw whole (omega (arith, length-append known ((greatest_below known entry.kind + 1) ∷ []), c.loop-i.invariant.count));
      levels = subst (AreLevels types) (sym whole) (levels_more types c.requires known c.loop-i.invariant.levels nth entry at c.loop-i.invariant.count);
      rest =
          let near : nat_lt 99 (greatest_below known entry.kind) ≡ false = le-ltb 99 (greatest_below known entry.kind) (omega (arith, below, c.if-below-ge100.false)) in
          let shallow : is_deep entry ≡ false = ap not (is_shallow-exact types c.requires known c.loop-i.invariant.levels nth entry at c.loop-i.invariant.count ∙ ap not near) in
          let here : Option ℕ = Some nth in
          sym (ap (λ b. cond b here (position_from is_deep (nth + 1) (drop (nth + 1) types))) shallow) ∙ sym (ap (position_from is_deep nth) (drop_at types nth entry at)) ∙ c.loop-i.invariant.rest;
    }

pub returns : goal.returns
returns c =
    let types = c.args.types.now in
    let is_deep : TypeDef → Bool = λ entry. not (is_shallow types entry) in
    sym (ap (position_from is_deep c.loop-i.i) (drop_all c.loop-i.i types (omega (arith, c.loop-i-test.false)))) ∙ c.loop-i.invariant.rest ∙ sym (position_from-zero is_deep types)
