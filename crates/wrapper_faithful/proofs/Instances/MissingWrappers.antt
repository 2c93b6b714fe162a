-- What the clause `there` refuses: a wrapper that no item is, or that is of the other side.
use Rattle.std.proofs.Common.{◌≡◌, ℕ, false, List, Option, None, Some, sym}
use Rattle.std.proofs.lemmas.Bool.{true≢false}
use Rattle.rust_tree.specs.declared.export.ExportFn.{ExportFn}
use Rattle.wrapper_data.specs.declared.run.Target.{Target}
use Rattle.wrapper_meaning.specs.Shape.{Shape}
use Rattle.wrapper_run.specs.Entries.{ExportNames}
use Rattle.wrapper_faithful.specs.Export.{IsExportFaithful}
use Rattle.wrapper_faithful.specs.Import.{IsFaithful}
use Rattle.wrapper_faithful.specs.Passed.{Passed}
use Rattle.wrapper_faithful.specs.Resources.{Resources}
use Rattle.wrapper_faithful.proofs.Instances.PlainExport as plain_export
use Rattle.wrapper_faithful.proofs.Instances.PlainImport as plain_import

no_wrapper : (w : ℕ × ExportFn) → None ≡ Some w → ⊥
no_wrapper w there = absurd (cc)

-- a second wrapper of a tree that has one
refuses_a_second_import : (resources : Resources) (target : Target) (p : Passed) → IsFaithful resources target false plain_import.tree 1 p → ⊥
refuses_a_second_import resources target p faithful = true≢false (sym faithful.there)

refuses_a_second_export : (resources : Resources) (names : ExportNames) (results : List (Option Shape)) (p : Passed) → IsExportFaithful resources names results plain_export.tree 1 p → ⊥
refuses_a_second_export resources names results p faithful = no_wrapper (faithful.number, faithful.wrapper) faithful.there

-- the wrapper of an export as that of an import, and the other way round

refuses_an_export_as_import : (resources : Resources) (target : Target) (p : Passed) → IsFaithful resources target false plain_export.tree 0 p → ⊥
refuses_an_export_as_import resources target p faithful = true≢false (sym faithful.there)

refuses_an_import_as_export : (resources : Resources) (names : ExportNames) (results : List (Option Shape)) (p : Passed) → IsExportFaithful resources names results plain_import.tree 0 p → ⊥
refuses_an_import_as_export resources names results p faithful = no_wrapper (faithful.number, faithful.wrapper) faithful.there
