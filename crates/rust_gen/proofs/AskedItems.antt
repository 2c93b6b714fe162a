-- Each item of `_rt` that the body of a wrapper asks for is named by its item.
use Rattle.std.proofs.Common.{◌≡◌, true, List, [], ◌∷◌, ◌++◌, Option, ◌⊎◌, inl, inr, sym, ◌∙◌, subst}
use Rattle.std.specs.List.{Contains}
use Rattle.std.proofs.lemmas.Bool.{or_cases, or_right}
use Rattle.std.proofs.lemmas.List.Folds.{list_any-append}
use Rattle.wit_model.specs.declared.function.Function.{Function}
use Rattle.wit_model.specs.declared.types.TypeDef.{TypeDef}
use Rattle.rust_tree.specs.declared.export.ExportFn.{ExportFn}
use Rattle.rust_tree.specs.declared.export.PostReturnFn.{PostReturnFn}
use Rattle.rust_tree.specs.declared.item.FnItem.{FnItem}
use Rattle.rust_tree.specs.declared.runtime_item.RuntimeItem.{RuntimeItem}
use Rattle.rust_tree.specs.Asked.{asked_by_block, asked_by_call, asked_by_export, asked_by_fn, asked_by_signature}
use Rattle.wrapper_meaning.specs.Items.{AllIn}
use Rattle.abi_bindgen.specs.declared.bindgen.Asked.{Asked}
use Rattle.func_gen.specs.declared.type_site.TypeSite.{TypeSite}
use Rattle.wrapper_closing.proofs.AskedBodies.{export_body_asks, import_body_asks, post_return_body_asks}
use Rattle.rust_gen.specs.Body.{IsExportMade, IsImportMade, IsReturnMade}
use Rattle.rust_gen.specs.Runtime.{is_same_item}
use Rattle.rust_gen.proofs.AskedLemmas.{IsAmong, among-of, is-same}

-- one of some items that are all among others
in-among : (x : RuntimeItem) (xs whole : List RuntimeItem) → AllIn whole xs → IsAmong x xs → IsAmong x whole
in-among x [] whole all h = absurd (cc)
in-among x (y ∷ xs) whole all h = go (λ k. in-among x xs whole all.1 k) (or_cases (is_same_item y x) _ h)
  where
    go : (IsAmong x xs → IsAmong x whole) → (is_same_item y x ≡ true) ⊎ IsAmong x xs → IsAmong x whole
    go later (inl e) = among-of whole x (subst (Contains whole) (is-same y x e) all.0)
    go later (inr k) = later k

module _ (types : List TypeDef) (sites : List (Option TypeSite)) (f : Function) where
  pub import-asked : (w : FnItem) (runtime : List RuntimeItem) → IsImportMade types sites f w runtime → (x : RuntimeItem) → IsAmong x runtime → IsAmong x (asked_by_fn w)
  import-asked w runtime m x h =
      let code = m.code in
      let named = import_body_asks types m.func code.parts code.body code.made_of.are code.makes in
      let inside = in-among x code.body.runtime _ named (subst (IsAmong x) code.asks h) in
      list_any-append (λ i. is_same_item i x) (asked_by_signature w.params w.result) (asked_by_block w.body)
      ∙ or_right _ _ (subst (λ b. IsAmong x (asked_by_block b)) (sym code.is) inside)

  pub export-asked : (w : ExportFn) (area : Option Asked) (runtime : List RuntimeItem) → IsExportMade types sites f (record { wrapper = w; area = area; runtime = runtime }) → (x : RuntimeItem) → IsAmong x runtime → IsAmong x (asked_by_export w)
  export-asked w area runtime m x h =
      let code = m.code in
      let named = export_body_asks types m.func code.parts code.body w.call code.made_of.are code.makes code.is.call in
      let inside = in-among x code.body.runtime _ named (subst (IsAmong x) code.is.asks h) in
      subst (λ b. IsAmong x (asked_by_call w.call ++ asked_by_block b)) (sym code.is.rest) inside

  pub return-asked : (p : PostReturnFn) (runtime : List RuntimeItem) → IsReturnMade types sites f p runtime → (x : RuntimeItem) → IsAmong x runtime → IsAmong x (asked_by_block p.body)
  return-asked p runtime m x h =
      let code = m.code in
      let named = post_return_body_asks types f code.parts code.body code.made_of.are code.makes in
      subst (λ b. IsAmong x (asked_by_block b)) (sym code.is) (in-among x code.body.runtime _ named (subst (IsAmong x) code.asks h))
