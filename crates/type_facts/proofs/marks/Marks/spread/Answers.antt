use Rattle.std.proofs.Common.{◌≡◌, ℕ, ◌-◌, ◌<◌, suc, List, Bool, Some, length, slice_get, get_or, sym, subst, arith}
use Rattle.std.proofs.lemmas.Option.{slice_get-get_or}
use Rattle.type_facts.proofs.Spreading.{IsSpread, spread_first, spread_last, spread_more}
use Rattle.type_facts.proofs.marks.Marks.spread.Goals as goal

pub loop-left-init : goal.loop-left-init
loop-left-init c = spread_first c.args.types.now c.args.self.now c.requires.count

pub loop-left-preserved : goal.loop-left-preserved
loop-left-preserved c =
    let types = c.args.types.now in
    let k : ℕ = c.loop-left.left - 1 in
    let next : c.loop-left.left ≡ suc k = omega arith in
    let inside : k < length types = omega (arith, c.loop-left.invariant.within) in
    let entry = get_or types k c.index-types-left.result in
    let at : slice_get types k ≡ Some entry = slice_get-get_or types k c.index-types-left.result inside in
    let before = subst (λ (n : ℕ). IsSpread types c.args.self.now c.loop-left.self n) next c.loop-left.invariant in
    subst (λ (marks : List Bool). IsSpread types c.args.self.now marks k) (sym c.mark_from.ensures) (spread_more types c.requires.down c.args.self.now c.loop-left.self k entry at before)

pub returns : goal.returns
returns c =
    let none : c.loop-left.left ≡ 0 = omega arith in
    spread_last c.args.types.now c.args.self.now c.loop-left.self c.requires.count (subst (λ (n : ℕ). IsSpread c.args.types.now c.args.self.now c.loop-left.self n) none c.loop-left.invariant)
