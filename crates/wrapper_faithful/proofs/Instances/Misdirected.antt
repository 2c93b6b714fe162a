-- What the clause `calls` refuses: the wrappers of `PlainImport` and `PlainExport`, where they ought to call another function; and one that
-- calls twice.
use Rattle.std.proofs.Common.{◌≡◌, ℕ, Bool, false, List, [], ◌∷◌, length, Option, None, refl, sym, ap, ◌∙◌, arith}
use Rattle.std.specs.Prelude.{codes}
use mathlib.Core.Logic.{inl, inr}
use Rattle.rust_tree.specs.Tree.{Tree}
use Rattle.wrapper_data.specs.declared.answer.Answer.TheVariants as answer
use Rattle.wrapper_data.specs.declared.form.Form.TheVariants as form
use Rattle.wrapper_data.specs.declared.heap.Heap.{Heap}
use Rattle.wrapper_data.specs.declared.run.CallPoint.{CallPoint}
use Rattle.wrapper_data.specs.declared.run.Target.{Target}
use Rattle.wrapper_data.specs.declared.run.Target.TheVariants as target
use Rattle.wrapper_meaning.specs.Calls.{CallsExport, CallsImport, CallsOnce}
use Rattle.wrapper_meaning.specs.Items.{total}
use Rattle.wrapper_meaning.specs.Shape.{Shape}
use Rattle.wrapper_meaning.specs.Shape.Shapes.{none}
use Rattle.wrapper_meaning.proofs.Instances.Forms.{name_of}
use Rattle.wrapper_meaning.proofs.Lists.{first_or}
use Rattle.wrapper_faithful.specs.Export.{IsExportFaithful, RunOfExport}
use Rattle.wrapper_faithful.specs.Import.{IsFaithful, RunOfImport}
use Rattle.wrapper_faithful.specs.Passed.{Passed}
use Rattle.wrapper_faithful.specs.Resources.{Resources, calls_of}
use Rattle.wrapper_faithful.proofs.Instances.PlainExport as plain_export
use Rattle.wrapper_faithful.proofs.Instances.PlainImport as plain_import

abbrev empty : Heap
empty = record { blocks = [] }

-- 1. An import, beside another one of the same core signature (`aimed`)

abbrev imported : RunOfImport plain_import.nothing plain_import.tree 0
imported = record {
  given = record { values = tt; good = (tt, refl); args = []; heap = empty; formed = refl; own = []; others = []; stand = (refl, refl); live = λ weight. refl };
  form = form.Release;
  choices = record { list = [] };
  answer = answer.Words None [] [];
  run = plain_import.run_of (answer.Words None [] []) form.Release empty (record { list = [] });
  ran = refl;
}

refuses_another_import : (resources : Resources) → IsFaithful resources (target.Core (codes "$root") (codes "g")) false plain_import.tree 0 plain_import.nothing → ⊥
refuses_another_import resources faithful = by_call (faithful.calls imported)
  where
    made : calls_of resources plain_import.nothing imported.run ≡ plain_import.point empty ∷ []
    made = plain_import.made resources imported

    by_call : CallsOnce (CallsImport 2 (target.Core (codes "$root") (codes "g")) none tt None empty []) (calls_of resources plain_import.nothing imported.run) → ⊥
    by_call (inl no_call) = omega (ap length (sym made ∙ no_call), arith)
    by_call (inr (c, once, carries)) =
        omega (ap (λ (t : Target). total (λ x. x) (name_of t)) (ap (λ (d : CallPoint). d.target) (ap (first_or c) (sym made ∙ once)) ∙ carries.aimed), arith)

-- 2. An export, beside another method of the same trait (`aimed`)

abbrev exported : RunOfExport plain_export.nothing plain_export.tree 0
exported = record {
  values = tt;
  words = [];
  heap = empty;
  caller = record { good = tt; formed = refl; blocks = []; others = []; takes = (refl, refl); live = λ weight. refl };
  form = form.Release;
  choices = record { list = [] };
  answer = answer.Value None empty;
  run = plain_export.export_run (answer.Value None empty) form.Release empty (record { list = [] });
  ran = refl;
}

refuses_another_method : (resources : Resources) (results : List (Option Shape)) → IsExportFaithful resources (record plain_export.names { method = target.Method (codes "Guest") (codes "g") }) results plain_export.tree 0 plain_export.nothing → ⊥
refuses_another_method resources results faithful = by_call (faithful.calls exported)
  where
    made : calls_of resources plain_export.nothing exported.run ≡ plain_export.point empty ∷ []
    made = plain_export.made resources exported

    by_call : CallsOnce (CallsExport 2 (target.Method (codes "Guest") (codes "g")) none tt empty []) (calls_of resources plain_export.nothing exported.run) → ⊥
    by_call (inl no_call) = omega (ap length (sym made ∙ no_call), arith)
    by_call (inr (c, once, carries)) =
        omega (ap (λ (t : Target). total (λ x. x) (name_of t)) (ap (λ (d : CallPoint). d.target) (ap (first_or c) (sym made ∙ once)) ∙ carries.aimed), arith)

-- 3. A wrapper that calls twice

refuses_two_calls : (resources : Resources) (target : Target) (chained : Bool) (tree : Tree) (nth : ℕ) (p : Passed) (x : RunOfImport p tree nth) (c d : CallPoint) → calls_of resources p x.run ≡ c ∷ d ∷ []
    → IsFaithful resources target chained tree nth p → ⊥
refuses_two_calls resources target chained tree nth p x c d twice faithful = by_call (faithful.calls x)
  where
    by_call : CallsOnce (CallsImport 2 target p.params x.given.values p.result x.given.heap x.choices.list) (calls_of resources p x.run) → ⊥
    by_call (inl no_call) = omega (ap length (sym twice ∙ no_call), arith)
    by_call (inr (e, once, carries)) = omega (ap length (sym twice ∙ once), arith)
