-- The item of a function has one code: its parts differ in their layouts alone, so that its bodies are equal.
use Rattle.std.proofs.Common.{◌≡◌, ◌<◌, Bool, true, false, ⊎_elim, List, Option, sym, ap, ap₂, ◌∙◌, arith}
use Rattle.std.proofs.lemmas.Bool.{cases_lt}
use mathlib.Core.Logic.{inl, inr}
use Rattle.wit_model.specs.Bytes.{Bytes}
use Rattle.wit_model.specs.declared.function.Function.{Function}
use Rattle.wit_model.specs.declared.types.TypeDef.{TypeDef}
use Rattle.rust_tree.specs.declared.export.CallBlock.{CallBlock}
use Rattle.rust_tree.specs.declared.export.CoreParam.{CoreParam}
use Rattle.rust_tree.specs.declared.runtime_item.RuntimeItem.{RuntimeItem}
use Rattle.rust_tree.specs.declared.stmt.Block.{Block}
use Rattle.wrapper_run.specs.Code.{code_of}
use Rattle.wrapper_meaning.proofs.Lists.{some_same}
use Rattle.abi_bindgen.specs.declared.bindgen.Asked.{Asked}
use Rattle.func_gen.specs.Scope.{is_used}
use Rattle.func_gen.specs.declared.body.Body.{Body}
use Rattle.func_gen.specs.declared.type_site.TypeSite.{TypeSite}
use Rattle.wrapper_closing.specs.ImportBlock.{block_of}
use Rattle.wrapper_closing.specs.Parts.{AreWrittenAs}
use Rattle.wrapper_closing.specs.declared.parts.BodyParts.{BodyParts}
use Rattle.wrapper_closing.proofs.OneBody.{export_has_one, import_has_one, post_return_has_one}
use Rattle.rust_gen.specs.Body.{AreExportParts, AreImportParts}
use Rattle.rust_gen.specs.FixedName.{IsFixedName, IsNumbered, fixed}
use Rattle.rust_gen.specs.OneCode.{ExportHasOneCode, ImportHasOneCode, ReturnHasOneCode}
use Rattle.rust_gen.specs.declared.export.ExportCode.{ExportCode}

-- 1. A fixed name is one

not_both : (b : Bool) → b ≡ true → b ≡ false → ⊥
not_both b h g = let e = sym h ∙ g in absurd cc

not_below : (params : List Bytes) (base one other : Bytes) (h : IsNumbered params base one) (g : IsNumbered params base other) → h.number < g.number → ⊥
not_below params base one other h g l = not_both (is_used params one) (ap (is_used params) h.is ∙ g.least h.number l) h.free

numbered_same : (params : List Bytes) (base one other : Bytes) → IsNumbered params base one → IsNumbered params base other → other ≡ one
numbered_same params base one other h g =
    let number : g.number ≡ h.number = ⊎_elim (λ l. absurd (not_below params base one other h g l))
    (λ k. ⊎_elim (λ l. absurd (not_below params base other one g h l)) (λ n. omega (arith, k, n)) (cases_lt g.number h.number)) (cases_lt h.number g.number) in
    g.is ∙ ap (fixed base) number ∙ sym h.is

fixed_same : (params : List Bytes) (base one other : Bytes) → IsFixedName params base one → IsFixedName params base other → other ≡ one
fixed_same params base one other (inl h) (inl g) = g.1 ∙ sym h.1
fixed_same params base one other (inl h) (inr g) = absurd (not_both (is_used params base) g.hidden h.0)
fixed_same params base one other (inr h) (inl g) = absurd (not_both (is_used params base) h.hidden g.0)
fixed_same params base one other (inr h) (inr g) = numbered_same params base one other h g

-- 2. Parts of one function

import_parts : (types : List TypeDef) (sites : List (Option TypeSite)) (f : Function) (parts others : BodyParts) → AreImportParts types sites f parts → AreImportParts types sites f others → AreWrittenAs parts others
import_parts types sites f parts others h g = record {
  home = g.home ∙ sym h.home;
  area = fixed_same _ _ parts.area others.area h.area g.area;
  cleanup = fixed_same _ _ parts.cleanup others.cleanup h.cleanup g.cleanup;
  params = g.params ∙ sym h.params;
  sites = g.written ∙ sym h.written;
}

export_parts : (types : List TypeDef) (sites : List (Option TypeSite)) (args : List CoreParam) (parts others : BodyParts) → AreExportParts types sites args parts → AreExportParts types sites args others → AreWrittenAs parts others
export_parts types sites args parts others h g = record {
  home = g.home ∙ sym h.home;
  area = g.area ∙ sym h.area;
  cleanup = g.cleanup ∙ sym h.cleanup;
  params = g.params ∙ sym h.params;
  sites = g.written ∙ sym h.written;
}

-- 3. The laws

pub import_code : ImportHasOneCode
import_code types sites func block other runtime asked h g =
    let written = import_parts types sites func.now h.parts g.parts h.made_of g.made_of in
    let same = import_has_one types func h.parts g.parts h.body g.body written h.makes g.makes in
    (g.is ∙ ap₂ block_of written.area same ∙ sym h.is, g.asks ∙ ap (λ (b : Body). b.runtime) same ∙ sym h.asks)

abbrev code_with : CallBlock → Block → Option Asked → List RuntimeItem → ExportCode
code_with call rest area runtime = record { call = call; rest = rest; area = area; runtime = runtime }

export_same : (x y : ExportCode) → x.call ≡ y.call → x.rest ≡ y.rest → x.area ≡ y.area → x.runtime ≡ y.runtime → x ≡ y
export_same x y call rest area runtime = ap₂ (λ c r. code_with c r x.area x.runtime) call rest ∙ ap₂ (code_with y.call y.rest) area runtime

pub export_code : ExportHasOneCode
export_code types sites func code other h g =
    let same = export_has_one types func h.parts g.parts h.body g.body (export_parts types sites _ h.parts g.parts h.made_of g.made_of) h.makes g.makes in
    export_same other code (some_same other.call code.call (sym g.is.call ∙ ap (λ (b : Body). b.call) same ∙ h.is.call)) (g.is.rest ∙ ap (λ (b : Body). code_of b.stmts b.tail) same ∙ sym h.is.rest)
    (g.is.area ∙ ap (λ (b : Body). b.area) same ∙ sym h.is.area) (g.is.asks ∙ ap (λ (b : Body). b.runtime) same ∙ sym h.is.asks)

pub return_code : ReturnHasOneCode
return_code types sites f block other runtime asked h g =
    let same = post_return_has_one types f h.parts g.parts h.body g.body (export_parts types sites _ h.parts g.parts h.made_of g.made_of) h.makes g.makes in
    (g.is ∙ ap (λ (b : Body). code_of b.stmts b.tail) same ∙ sym h.is, g.asks ∙ ap (λ (b : Body). b.runtime) same ∙ sym h.asks)
