-- The wrappers of functions have identifiers alone as names, where the functions and their types have.
use Rattle.std.proofs.Common.{◌≡◌, ℕ, ◌+◌, true, ◌&&◌, List, [], ◌∷◌, map, Option, inl, inr, refl, sym, ap, ◌∙◌, subst}
use Rattle.std.specs.List.{list_all}
use Rattle.std.proofs.lemmas.Bool.{and_from, and_parts}
use Rattle.wit_model.specs.Bytes.{Bytes}
use Rattle.wit_model.specs.WellFormed.{IsWellFormed}
use Rattle.wit_model.specs.declared.function.Function.{Function}
use Rattle.wit_model.specs.declared.function.Param.{Param}
use Rattle.wit_model.specs.declared.resolve.Resolve.{Resolve}
use Rattle.wit_model.specs.declared.types.WitType.{WitType}
use Rattle.wit_model.specs.declared.types.WitType.TheVariants as wit
use Rattle.wit_model.specs.declared.wasm_type.WasmType.{WasmType}
use Rattle.rust_tree.specs.declared.export.CoreParam.{CoreParam}
use Rattle.rust_tree.specs.declared.export.ExportFn.{ExportFn}
use Rattle.rust_tree.specs.declared.export.PostReturnFn.{PostReturnFn}
use Rattle.rust_tree.specs.declared.item.FnItem.{FnItem}
use Rattle.rust_tree.specs.declared.runtime_item.RuntimeItem.{RuntimeItem}
use Rattle.rust_tree.specs.Ident.{escaped_words, has_ident_form, is_ident, rust_ident}
use Rattle.rust_tree.specs.WellNamed.{are_named_core_params, is_absent_or, is_ident_part, is_line, is_named_block, is_named_call, is_named_export, is_named_fn, is_named_param, is_named_post_return, is_named_type, is_quotable}
use Rattle.rust_tree.proofs.NamedLemmas.{is_named-local, is_named-ref}
use Rattle.abi_bindgen.specs.declared.bindgen.Asked.{Asked}
use Rattle.func_gen.specs.declared.type_site.TypeSite.{TypeSite}
use Rattle.func_gen.specs.Forms.{operand_of}
use Rattle.type_defs.proofs.NamedTextLemmas.{docs-named}
use Rattle.type_facts.specs.Roots as roots
use Rattle.gen_accept.specs.DeclaredNames.{guest_name, param_idents}
use Rattle.wrapper_faithful.specs.Passed.{passed}
use Rattle.wrapper_closing.specs.Named.{AreNamedParams, AreNamedParts, AreNamedSites, IsNamedOperand}
use Rattle.wrapper_closing.specs.Params.{arg_name, arg_names, core_args, local_sites, param_types, result_types, ret_area}
use Rattle.wrapper_closing.specs.declared.parts.BodyParts.{BodyParts}
use Rattle.wrapper_closing.proofs.NamedBodies.{closed_named, export_body_named, import_block_named, import_body_named, post_return_body_named}
use Rattle.wrapper_closing.proofs.NumberedIdents.{numbered_ident}
use Rattle.rust_gen.specs.Body.{AreExportParts, AreImportParts, IsExportMade, IsImportMade, IsReturnMade, import_site, site_expr}
use Rattle.rust_gen.specs.FixedName.{IsFixedName}
use Rattle.rust_gen.specs.Wrapper.{root_module}
use Rattle.rust_gen.proofs.IdentLemmas.{arg_ident, args-named, guest_ident}
use Rattle.rust_gen.proofs.SignatureLemmas.{AreNamedTypes, printed_params-named, result-named}

-- 1. Of what bodies are made

root-quotable : is_quotable root_module ≡ true
unfolding root_module
root-quotable = refl

guest-quotable : is_quotable guest_name ≡ true
unfolding guest_name
guest-quotable = refl

area-ident : is_ident ret_area ≡ true
unfolding ret_area escaped_words
area-ident = refl

area-form : has_ident_form ret_area ≡ true
unfolding ret_area
area-form = refl

fixed-ident : (params : List Bytes) (name : Bytes) → IsFixedName params ret_area name → is_ident name ≡ true
fixed-ident params name h = elim h [ inl e ↦ ap is_ident e.1 ∙ area-ident | inr n ↦ ap is_ident n.is ∙ numbered_ident ret_area n.number area-form ]

site-named : (ty : WitType) (name : Bytes) → is_ident name ≡ true → IsNamedOperand (operand_of (site_expr ty name))
site-named wit.String name h = is_named-local name ∙ h
site-named (wit.Id id) name h = is_named-local name ∙ h
site-named _ name h = is_named-ref name ∙ h

import-sites-named : (params : List Param) → list_all is_ident (map (λ p. rust_ident p.name) params) ≡ true → AreNamedParams (map import_site params)
import-sites-named [] h = tt
import-sites-named (p ∷ params) h =
    let parts = and_parts (is_ident (rust_ident p.name)) (list_all is_ident (map (λ p. rust_ident p.name) params)) h in
    (site-named p.ty (rust_ident p.name) parts.0, import-sites-named params parts.1)

arg-sites-named : (n : ℕ) (types : List WasmType) → AreNamedParams (local_sites (arg_names (core_args n types)))
arg-sites-named n [] = tt
arg-sites-named n (ty ∷ types) = (is_named-local (arg_name n) ∙ arg_ident n, arg-sites-named (n + 1) types)

module _ (r : Resolve) (checked : IsWellFormed r) (sites : List (Option TypeSite)) (named : AreNamedSites sites) where
  import-parts-named : (f : Function) (parts : BodyParts) → list_all is_ident (param_idents f) ≡ true → AreImportParts r.types sites f parts → AreNamedParts parts
  import-parts-named f parts params p = record {
    home = ap is_quotable p.home ∙ root-quotable;
    area = fixed-ident (param_idents f) parts.area p.area;
    params = subst AreNamedParams (sym p.params) (import-sites-named f.params params);
    sites = subst AreNamedSites (sym p.written) named;
  }

  export-parts-named : (types : List WasmType) (parts : BodyParts) → AreExportParts r.types sites (core_args 0 types) parts → AreNamedParts parts
  export-parts-named types parts p = record {
    home = ap is_quotable p.home ∙ guest-quotable;
    area = ap is_ident p.area ∙ area-ident;
    params = subst AreNamedParams (sym p.params) (arg-sites-named 0 types);
    sites = subst AreNamedSites (sym p.written) named;
  }

  -- 2. Wrappers

  -- its docs, its signature and its block, each by the definition that it equals
  pub import-named : (f : Function) (w : FnItem) (runtime : List RuntimeItem) → is_ident (rust_ident f.name) ≡ true → list_all is_ident (param_idents f) ≡ true → is_quotable f.name.wit ≡ true → AreNamedTypes r.types (roots.param_types f) → AreNamedTypes r.types (roots.result_types f)
      → IsImportMade r.types sites f w runtime → is_named_fn w ≡ true
  import-named f w runtime name params quoted types answer made =
      let code = made.code in
      let parts = import-parts-named made.func.now code.parts (ap (λ f. list_all is_ident (param_idents f)) made.of ∙ params) code.made_of in
      let body = import_body_named r.types made.func code.parts code.body parts (ap (λ (f : Function). is_quotable f.name.wit) made.of ∙ quoted) code.makes in
      let out = made.outside in
      let docs : list_all is_line w.docs ≡ true = ap (list_all is_line) out.docs ∙ docs-named f.docs in
      let called : is_ident w.name ≡ true = ap is_ident out.name ∙ name in
      let printed : list_all is_named_param w.params ≡ true = ap (list_all is_named_param) out.params ∙ printed_params-named r checked f.params params types in
      let answered : is_named_type w.result ≡ true = ap is_named_type out.answer ∙ result-named r checked f.result answer in
      and_from (list_all is_line w.docs && is_ident w.name && list_all is_named_param w.params && is_named_type w.result) (is_named_block w.body)
      (and_from (list_all is_line w.docs && is_ident w.name && list_all is_named_param w.params) (is_named_type w.result)
      (and_from (list_all is_line w.docs && is_ident w.name) (list_all is_named_param w.params) (and_from (list_all is_line w.docs) (is_ident w.name) docs called) printed) answered)
      (ap is_named_block code.is ∙ import_block_named code.parts.area code.body parts.area body)

  -- what stands before the code of an export
  head-named : (f : Function) (base bound : Bytes) (params : List CoreParam) (types : List WasmType) → is_ident_part f.name.snake ≡ true → base ≡ f.name.snake → bound ≡ guest_name → params ≡ core_args 0 types → (is_ident_part base && is_ident bound && are_named_core_params params) ≡ true
  head-named f base bound params types part is_base is_bound are =
      and_from (is_ident_part base && is_ident bound) (are_named_core_params params) (and_from (is_ident_part base) (is_ident bound) (ap is_ident_part is_base ∙ part) (ap is_ident is_bound ∙ guest_ident))
      (ap are_named_core_params are ∙ args-named 0 types)

  -- its head, the block of its call, and what stands behind that
  pub export-named : (f : Function) (w : ExportFn) (area : Option Asked) (runtime : List RuntimeItem) → is_ident (rust_ident f.name) ≡ true → is_ident_part f.name.snake ≡ true → IsExportMade r.types sites f (record { wrapper = w; area = area; runtime = runtime }) → is_named_export w ≡ true
  export-named f w area runtime name part made =
      let code = made.code in
      let parts = export-parts-named (param_types (passed r.types made.func.now)) code.parts code.made_of in
      let body = export_body_named r.types made.func code.parts code.body parts (ap (λ (f : Function). is_ident (rust_ident f.name)) made.of ∙ name) code.makes in
      let out = made.outside in
      let head = head-named f w.base w.bound w.params (param_types (passed r.types f)) part out.base out.bound out.params in
      and_from (is_ident_part w.base && is_ident w.bound && are_named_core_params w.params && is_named_call w.call) (is_named_block w.rest)
      (and_from (is_ident_part w.base && is_ident w.bound && are_named_core_params w.params) (is_named_call w.call) head (sym (ap (is_absent_or is_named_call) code.is.call) ∙ body.call))
      (ap is_named_block code.is.rest ∙ closed_named code.body body)

  pub return-named : (f : Function) (p : PostReturnFn) (runtime : List RuntimeItem) → is_ident_part f.name.snake ≡ true → IsReturnMade r.types sites f p runtime → is_named_post_return p ≡ true
  return-named f p runtime part made =
      let code = made.code in
      let parts = export-parts-named (result_types (passed r.types f)) code.parts code.made_of in
      let body = post_return_body_named r.types f code.parts code.body parts code.makes in
      let out = made.outside in
      and_from (is_ident_part p.base && is_ident p.bound && are_named_core_params p.params) (is_named_block p.body) (head-named f p.base p.bound p.params (result_types (passed r.types f)) part out.base out.bound out.params)
      (ap is_named_block code.is ∙ closed_named code.body body)
