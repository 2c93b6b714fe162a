-- Which names the arms of a `match` and cases may have, by rows. What such statements print, worked examples show.
use Rattle.std.proofs.Common.{◌≡◌, Bool, true, false, List, [], ◌∷◌, map}
use Rattle.std.specs.Prelude.{codes}
use Rattle.wit_model.specs.Bytes.{Bytes}
use Rattle.rust_tree.specs.declared.expr.Expr.TheVariants as expr
use Rattle.rust_tree.specs.declared.pattern.ArmPattern.{ArmPattern}
use Rattle.rust_tree.specs.declared.pattern.ArmPattern.TheVariants as pattern
use Rattle.rust_tree.specs.declared.stmt.Arm.{Arm, roll-Arm}
use Rattle.rust_tree.specs.declared.stmt.MatchNames.TheVariants.{Nothing}
use Rattle.rust_tree.specs.declared.stmt.Stmt.TheVariants as stmt
use Rattle.rust_tree.specs.Ident.{escaped_words}
use Rattle.base_tests.proofs.Trees.{block, folds, may_stand, path, wrapper}

-- an arm behind this pattern, in which a slot of this name is declared
abbrev arm_of : ArmPattern → Bytes → Arm
arm_of p slot = roll-Arm (record { pattern = p; body = block (stmt.LetSlot slot ∷ []) })

-- whether such an arm may stand in a tree, as the one arm of a `match`
abbrev may_arm_stand : ArmPattern → Bytes → Bool
may_arm_stand p slot = may_stand (wrapper (stmt.Match Nothing (expr.Local (codes "a")) (arm_of p slot ∷ [])))

-- 1. A local in an arm and the name of an arm are identifiers

slots : map (may_arm_stand pattern.AnyOther) (codes "x" ∷ codes "x y" ∷ []) ≡ true ∷ false ∷ []
unfolding escaped_words
slots = simp folds

bound_name : may_arm_stand (pattern.Name (codes "match")) (codes "x") ≡ false
unfolding escaped_words
bound_name = simp folds

-- 2. The path of a case has two names, in a pattern and as a value

abbrev paths : List (List Bytes)
paths = (codes "V" ∷ codes "A" ∷ []) ∷ (codes "A" ∷ []) ∷ []

patterns : map (λ names. may_arm_stand (pattern.Case (path names)) (codes "x")) paths ≡ true ∷ false ∷ []
unfolding escaped_words
patterns = simp folds

values : map (λ names. may_stand (wrapper (stmt.Expr (expr.Case (path names))))) paths ≡ true ∷ false ∷ []
unfolding escaped_words
values = simp folds
