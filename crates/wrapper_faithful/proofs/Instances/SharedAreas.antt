-- An export's area is for the results of several functions. What the clause `shares` refuses: results without the function's own. What the
-- clause `ends` refuses: an area that is too small for one of the others, or not aligned for it.
use Rattle.std.proofs.Common.{◌≡◌, ◌<◌, ◌%◌, ℕ, zero, suc, List, [], ◌∷◌, Option, None, Some, slice_index_or, refl, ap, subst, arith}
use Rattle.rust_tree.specs.Tree.{Tree}
use Rattle.wit_layout.specs.Tree.{Scalar}
use Rattle.wrapper_data.specs.declared.block.Block.{Block}
use Rattle.wrapper_data.specs.declared.choice.Choice.TheVariants as choice
use Rattle.wrapper_data.specs.declared.choice.Request.{Request}
use Rattle.wrapper_data.specs.declared.run.Stop.TheVariants as stop
use Rattle.wrapper_meaning.specs.Areas.{IsArea, export_area}
use Rattle.wrapper_meaning.specs.Ends.{AreaInPlace, EndsBy, IsDone}
use Rattle.wrapper_meaning.specs.Gives.{GivesExport}
use Rattle.wrapper_meaning.specs.Honest.{HonestImplementation}
use Rattle.wrapper_meaning.specs.Shape.{Shape}
use Rattle.wrapper_meaning.specs.Shape.Shape.{scalar, text, tuple}
use Rattle.wrapper_meaning.specs.Shape.Shapes.{none, more}
use Rattle.wrapper_meaning.proofs.Instances.Forms.{chosen}
use Rattle.wrapper_run.specs.Entries.{ExportNames}
use Rattle.wrapper_faithful.specs.Export.{IsExportFaithful, RunOfExport, bill_of}
use Rattle.wrapper_faithful.specs.Passed.{width}
use Rattle.wrapper_faithful.specs.Resources.{Resources, calls_of}
use Rattle.wrapper_faithful.proofs.Instances.Refused.{texts}

-- 1. Results without its own (`shares`)

refuses_no_results : (resources : Resources) (names : ExportNames) (tree : Tree) (nth : ℕ) → IsExportFaithful resources names [] tree nth texts → ⊥
refuses_no_results resources names tree nth faithful = let (k, below, is) = faithful.shares in omega (below, arith)

refuses_the_results_of_others : (resources : Resources) (names : ExportNames) (tree : Tree) (nth : ℕ) → IsExportFaithful resources names (None ∷ Some (scalar Scalar.u32) ∷ []) tree nth texts → ⊥
refuses_the_results_of_others resources names tree nth faithful = let (k, below, is) = faithful.shares in by_place k below is
  where
    by_place : (k : ℕ) → k < 2 → slice_index_or (None ∷ Some (scalar Scalar.u32) ∷ []) k (Some text) ≡ Some text → ⊥
    by_place zero below is = absurd (cc)
    by_place (suc zero) below is = absurd (cc)
    by_place (suc (suc k)) below is = omega (below, arith)

-- 2. The area that is asked for, beside a function with two texts, and beside one with two numbers of 64 bits

abbrev beside_two_texts : List (Option Shape)
beside_two_texts = Some text ∷ Some (tuple (more text (more text none))) ∷ []

abbrev beside_long_numbers : List (Option Shape)
beside_long_numbers = Some text ∷ Some (tuple (more (scalar Scalar.u64) (more (scalar Scalar.u64) none))) ∷ []

of_two_texts : export_area width beside_two_texts (Some text) ≡ record { size = 16; align = 4 } ∷ []
of_two_texts = refl

of_long_numbers : export_area width beside_long_numbers (Some text) ≡ record { size = 16; align = 8 } ∷ []
of_long_numbers = refl

-- 3. Wrappers that take another area (`area` and `stands` of `ends`)

-- a run that is done asked for the area first
area_first : (resources : Resources) (names : ExportNames) (results : List (Option Shape)) (tree : Tree) (nth : ℕ) (x : RunOfExport texts tree nth) (v : List ℕ)
    → HonestImplementation width (Some text) v x.answer → x.run.stop ≡ stop.Done → IsExportFaithful resources names results tree nth texts
    → AreaInPlace (bill_of results texts x v).area (bill_of results texts x v).before x.run.requests
area_first resources names results tree nth x v honest done faithful =
    let gives = GivesExport width (bill_of results texts x v) x.choices.list (Some text) v honest.heap honest.own in
    let ended : IsDone (bill_of results texts x v) (calls_of resources texts x.run) gives x.run = subst (λ st. EndsBy st (bill_of results texts x v) x.choices.list (calls_of resources texts x.run) gives x.run) done (faithful.ends x v honest) in
    ended.area

-- for its own text alone: two texts have no room there
refuses_an_area_too_small_for_a_mate : (resources : Resources) (names : ExportNames) (tree : Tree) (nth : ℕ) (x : RunOfExport texts tree nth) (v : List ℕ)
    → HonestImplementation width (Some text) v x.answer → x.run.stop ≡ stop.Done → x.run.requests ≡ record { size = 8; align = 4 } ∷ [] → IsExportFaithful resources names beside_two_texts tree nth texts → ⊥
refuses_an_area_too_small_for_a_mate resources names tree nth x v honest done asked faithful =
    let same : record { size = 8; align = 4 } ≡ record { size = 16; align = 4 } = subst (AreaInPlace (record { size = 16; align = 4 } ∷ []) 0) asked (area_first resources names beside_two_texts tree nth x v honest done faithful) in
    omega (ap (λ (r : Request). r.size) same, arith)

-- of a pointer's alignment: the numbers may not stand there
refuses_an_area_misaligned_for_a_mate : (resources : Resources) (names : ExportNames) (tree : Tree) (nth : ℕ) (x : RunOfExport texts tree nth) (v : List ℕ)
    → HonestImplementation width (Some text) v x.answer → x.run.stop ≡ stop.Done → x.run.requests ≡ record { size = 16; align = 4 } ∷ [] → IsExportFaithful resources names beside_long_numbers tree nth texts → ⊥
refuses_an_area_misaligned_for_a_mate resources names tree nth x v honest done asked faithful =
    let same : record { size = 16; align = 4 } ≡ record { size = 16; align = 8 } = subst (AreaInPlace (record { size = 16; align = 8 } ∷ []) 0) asked (area_first resources names beside_long_numbers tree nth x v honest done faithful) in
    omega (ap (λ (r : Request). r.align) same, arith)

-- one that stands where the text may, and the numbers may not
refuses_a_place_misaligned_for_a_mate : (area : List Block) → IsArea (export_area width beside_long_numbers (Some text)) (Some (choice.At 516)) area → ⊥
refuses_a_place_misaligned_for_a_mate area stands =
    let place : 516 ≡ stands.block.address = ap chosen stands.chosen in
    omega (ap (λ a. a % 8) place, stands.aligned, arith)
