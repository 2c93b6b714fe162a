use Rattle.std.proofs.Common.{◌≡◌, ◌≤◌, ℕ, List, Bor, length, true}
use Rattle.std.specs.List.{list_any}
use Rattle.std.specs.HashSet as set
use Rattle.std.specs.Str.{bytes_eq}
use Rattle.wit_model.specs.Distinct.{is_distinct}
use Rattle.wit_model.proofs.DistinctLemmas.{texts_from}
use Rattle.wit_model.proofs.distinct.are_distinct.Given as goal

abbrev pub invariant-loop-left : goal.invariant-loop-left
invariant-loop-left l =
    (l.left ≤ length l.texts)
    × ((k : Bor (List ℕ)) → set.contains (λ (a b : Bor (List ℕ)). bytes_eq a.now b.now) l.later k ≡ list_any (λ t. bytes_eq t k.now) (texts_from l.left l.texts))
    × (is_distinct (texts_from l.left l.texts) ≡ true)

abbrev pub decreases-loop-left : goal.decreases-loop-left
decreases-loop-left l = l.left
