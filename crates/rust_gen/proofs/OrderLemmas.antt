-- What the items of a file ask for in order is what they name, and what is asked so is served.
use Rattle.std.proofs.Common.{◌≡◌, Bool, true, false, List, [], ◌∷◌, ◌++◌, Option, ◌⊎◌, inl, inr, map, sym, ap, ap₂, subst, ◌∙◌, append-nil, append_assoc}
use Rattle.std.specs.List.{AllZip, flat_map, list_any}
use Rattle.std.proofs.lemmas.Bool.{or_cases, or_left, or_right}
use Rattle.std.proofs.lemmas.List.{map-append}
use Rattle.std.proofs.lemmas.List.Folds.{list_any-append}
use Rattle.std.proofs.lemmas.Grind.{flat_map-append}
use Rattle.wit_model.specs.declared.function.Function.{Function}
use Rattle.wit_model.specs.declared.types.TypeDef.{TypeDef}
use Rattle.wit_model.specs.declared.world.World.{World}
use Rattle.rust_tree.specs.declared.export.PostReturnFn.{PostReturnFn}
use Rattle.rust_tree.specs.declared.item.FnItem.{FnItem}
use Rattle.rust_tree.specs.declared.item.Item.{Item}
use Rattle.rust_tree.specs.declared.item.Item.TheVariants as item
use Rattle.rust_tree.specs.declared.runtime_item.RuntimeItem.{RuntimeItem}
use Rattle.rust_tree.specs.declared.type_item.TypeItem.{TypeItem}
use Rattle.rust_tree.specs.Asked.{asked_by_block, asked_by_export, asked_by_fn, asked_by_item, asked_by_signature, asked_in}
use Rattle.gen_accept.specs.Area.{needs_return}
use Rattle.gen_accept.specs.Emitted.{exported_functions, imported_functions}
use Rattle.func_gen.specs.declared.type_site.TypeSite.{TypeSite}
use Rattle.rust_gen.specs.Asking.{ExportAsks, ImportAsks, ReturnAsks, asked_order, asked_with, asking_items, bare}
use Rattle.rust_gen.specs.Body.{ArePartsWritten, IsWritten, ReturnWritten}
use Rattle.rust_gen.specs.Bound.{Parts, area_of, export_items, return_items}
use Rattle.rust_gen.specs.Exported.{trait_and_macro}
use Rattle.rust_gen.specs.Runtime.{is_same_item, runtime_items}
use Rattle.rust_gen.specs.Served.{Serves}
use Rattle.rust_gen.proofs.AskedItems.{export-asked, import-asked, return-asked}
use Rattle.rust_gen.proofs.AskedLemmas.{IsAmong}
use Rattle.rust_gen.proofs.ServedLemmas.{serves-items, serves-same}

-- among two lists behind one another

among-split : (x : RuntimeItem) (xs ys : List RuntimeItem) → IsAmong x (xs ++ ys) → IsAmong x xs ⊎ IsAmong x ys
among-split x xs ys h = or_cases (list_any (λ i. is_same_item i x) xs) _ (sym (list_any-append (λ i. is_same_item i x) xs ys) ∙ h)

among-left : (x : RuntimeItem) (xs ys : List RuntimeItem) → IsAmong x xs → IsAmong x (xs ++ ys)
among-left x xs ys h = list_any-append (λ i. is_same_item i x) xs ys ∙ or_left _ _ h

among-right : (x : RuntimeItem) (xs ys : List RuntimeItem) → IsAmong x ys → IsAmong x (xs ++ ys)
among-right x xs ys h = list_any-append (λ i. is_same_item i x) xs ys ∙ or_right (list_any (λ i. is_same_item i x) xs) _ h

-- what items ask for that stand before others, or behind

asked-left : (x : RuntimeItem) (is js : List Item) → IsAmong x (asked_in is) → IsAmong x (asked_in (is ++ js))
asked-left x is js h = subst (IsAmong x) (sym (flat_map-append asked_by_item is js)) (among-left x (asked_in is) (asked_in js) h)

asked-right : (x : RuntimeItem) (is js : List Item) → IsAmong x (asked_in js) → IsAmong x (asked_in (is ++ js))
asked-right x is js h = subst (IsAmong x) (sym (flat_map-append asked_by_item is js)) (among-right x (asked_in is) (asked_in js) h)

module _ (types : List TypeDef) (sites : List (Option TypeSite)) where
  import-among : (f : Function) (i : FnItem × List RuntimeItem) → ImportAsks types sites f i → (x : RuntimeItem) → IsAmong x i.1 → IsAmong x (asked_by_fn i.0)
  import-among f i a x h = go (among-split x named a.0.runtime (subst (IsAmong x) a.1 h))
    where
      named : List RuntimeItem
      named = asked_by_signature i.0.params i.0.result

      go : IsAmong x named ⊎ IsAmong x a.0.runtime → IsAmong x (asked_by_fn i.0)
      go (inl k) = among-left x named (asked_by_block i.0.body) k
      go (inr k) = import-asked types sites f i.0 a.0.runtime a.0.made x k

  imports-among : (fs : List Function) (is : List (FnItem × List RuntimeItem)) → AllZip (ImportAsks types sites) fs is → (x : RuntimeItem) → IsAmong x (asked_with is) → IsAmong x (asked_in (map item.Import (bare is)))
  imports-among [] [] z x h = h
  imports-among [] (i ∷ is) z x h = absurd z
  imports-among (f ∷ fs) [] z x h = absurd z
  imports-among (f ∷ fs) (i ∷ is) z x h = go (imports-among fs is z.1 x) (among-split x i.1 (asked_with is) h)
    where
      go : (IsAmong x (asked_with is) → IsAmong x (asked_in (map item.Import (bare is)))) → IsAmong x i.1 ⊎ IsAmong x (asked_with is) → IsAmong x (asked_in (map item.Import (bare (i ∷ is))))
      go later (inl k) = among-left x (asked_by_fn i.0) (asked_in (map item.Import (bare is))) (import-among f i z.0 x k)
      go later (inr k) = among-right x (asked_by_fn i.0) (asked_in (map item.Import (bare is))) (later k)

  return-among : (b : Bool) (f : Function) (p : Option PostReturnFn) (asked : List RuntimeItem) → ReturnAsks types sites b f p asked → (x : RuntimeItem) → IsAmong x asked → IsAmong x (asked_in (return_items p))
  return-among true f p asked (q, is, w, e) x h =
      subst (λ p. IsAmong x (asked_in (return_items p))) (sym is) (among-left x (asked_by_block q.body) [] (return-asked types sites f q w.runtime w.made x (subst (IsAmong x) e h)))
  return-among false f p asked (is, e) x h = let none : IsAmong x [] = subst (IsAmong x) e h in absurd (cc)

  export-among : (f : Function) (e : Parts × List RuntimeItem) → ExportAsks types sites f e → (x : RuntimeItem) → IsAmong x e.1 → IsAmong x (asked_in (export_items e.0))
  export-among f ((w, p, area), asked) (own, returning, is, wrapper, back) x h = go (among-split x own returning (subst (IsAmong x) is h))
    where
      go : IsAmong x own ⊎ IsAmong x returning → IsAmong x (asked_in (export_items (w, p, area)))
      go (inl k) = among-left x (asked_by_export w) (asked_in (return_items p)) (export-asked types sites f w area wrapper.0.runtime wrapper.0.made x (subst (IsAmong x) wrapper.1 k))
      go (inr k) = among-right x (asked_by_export w) (asked_in (return_items p)) (return-among (needs_return types f) f p returning back x k)

  exports-among : (fs : List Function) (es : List (Parts × List RuntimeItem)) → AllZip (ExportAsks types sites) fs es → (x : RuntimeItem) → IsAmong x (asked_with es) → IsAmong x (asked_in (flat_map export_items (bare es)))
  exports-among [] [] z x h = h
  exports-among [] (e ∷ es) z x h = absurd z
  exports-among (f ∷ fs) [] z x h = absurd z
  exports-among (f ∷ fs) (e ∷ es) z x h = go (exports-among fs es z.1 x) (among-split x e.1 (asked_with es) h)
    where
      go : (IsAmong x (asked_with es) → IsAmong x (asked_in (flat_map export_items (bare es)))) → IsAmong x e.1 ⊎ IsAmong x (asked_with es) → IsAmong x (asked_in (flat_map export_items (bare (e ∷ es))))
      go later (inl k) = asked-left x (export_items e.0) (flat_map export_items (bare es)) (export-among f e z.0 x k)
      go later (inr k) = asked-right x (export_items e.0) (flat_map export_items (bare es)) (later k)

  -- wrappers that ask so are written

  pub imports-written : (fs : List Function) (is : List (FnItem × List RuntimeItem)) → AllZip (ImportAsks types sites) fs is → AllZip (IsWritten types sites) fs (bare is)
  imports-written [] [] z = tt
  imports-written [] (i ∷ is) z = absurd z
  imports-written (f ∷ fs) [] z = absurd z
  imports-written (f ∷ fs) (i ∷ is) z = (z.0.0, imports-written fs is z.1)

  return-written : (b : Bool) (f : Function) (p : Option PostReturnFn) (asked : List RuntimeItem) → ReturnAsks types sites b f p asked → ReturnWritten types sites b f p
  return-written true f p asked (q, is, w, e) = (q, is, w)
  return-written false f p asked (is, e) = is

  pub exports-written : (fs : List Function) (es : List (Parts × List RuntimeItem)) → AllZip (ExportAsks types sites) fs es → AllZip (ArePartsWritten types sites) fs (bare es)
  exports-written [] [] z = tt
  exports-written [] (e ∷ es) z = absurd z
  exports-written (f ∷ fs) [] z = absurd z
  exports-written (f ∷ fs) (e ∷ es) z =
      let (own, returning, is, wrapper, back) = z.0 in ((wrapper.0, return-written (needs_return types f) f e.0.1 returning back), exports-written fs es z.1)

  -- the whole

  module _ (world : World) (defs : List TypeItem) (imports : List (FnItem × List RuntimeItem)) (exports : List (Parts × List RuntimeItem))
      (wraps : AllZip (ImportAsks types sites) (imported_functions world) imports) (exported : AllZip (ExportAsks types sites) (exported_functions world) exports) where
    abbrev own : List Item
    own = asking_items types world defs imports exports

    abbrev order : List RuntimeItem
    order = asked_order types world defs imports exports

    abbrev front : List Item
    front = map item.Type defs

    abbrev wrappers : List Item
    wrappers = map item.Import (bare imports)

    abbrev exporting : List Item
    exporting = flat_map export_items (bare exports)

    abbrev last : List Item
    last = trait_and_macro types world ++ area_of (bare exports)

    order-named : (x : RuntimeItem) → IsAmong x order → IsAmong x (asked_in own)
    order-named x h = by-types (among-split x (asked_in front) (asked_with imports ++ (asked_with exports ++ asked_in own)) h)
      where
        by-exports : IsAmong x (asked_with exports) ⊎ IsAmong x (asked_in own) → IsAmong x (asked_in own)
        by-exports (inl k) = asked-right x front (wrappers ++ (exporting ++ last)) (asked-right x wrappers (exporting ++ last) (asked-left x exporting last (exports-among (exported_functions world) exports exported x k)))
        by-exports (inr k) = k

        by-imports : IsAmong x (asked_with imports) ⊎ IsAmong x (asked_with exports ++ asked_in own) → IsAmong x (asked_in own)
        by-imports (inl k) = asked-right x front (wrappers ++ (exporting ++ last)) (asked-left x wrappers (exporting ++ last) (imports-among (imported_functions world) imports wraps x k))
        by-imports (inr k) = by-exports (among-split x (asked_with exports) (asked_in own) k)

        by-types : IsAmong x (asked_in front) ⊎ IsAmong x (asked_with imports ++ (asked_with exports ++ asked_in own)) → IsAmong x (asked_in own)
        by-types (inl k) = asked-left x front (wrappers ++ (exporting ++ last)) k
        by-types (inr k) = by-imports (among-split x (asked_with imports) (asked_with exports ++ asked_in own) k)

    named-ordered : (x : RuntimeItem) → IsAmong x (asked_in own) → IsAmong x order
    named-ordered x h =
        among-right x (asked_in front) (asked_with imports ++ (asked_with exports ++ asked_in own))
        (among-right x (asked_with imports) (asked_with exports ++ asked_in own) (among-right x (asked_with exports) (asked_in own) h))

    pub serves-order : Serves (asked_in own) (runtime_items order)
    serves-order = serves-same order (asked_in own) (runtime_items order) order-named named-ordered (serves-items order)

-- the order, as it was made step by step
pub order-made : (types : List TypeDef) (world : World) (defs : List TypeItem) (imports : List (FnItem × List RuntimeItem)) (exports : List (Parts × List RuntimeItem)) (asked0 asked1 named : List RuntimeItem)
    → asked0 ≡ asked_in (map item.Type defs) → asked1 ≡ (asked0 ++ asked_with imports) ++ asked_with exports → named ≡ asked_in (asking_items types world defs imports exports)
    → asked1 ++ named ≡ asked_order types world defs imports exports
order-made types world defs imports exports asked0 asked1 named a b c =
    let own = asked_in (asking_items types world defs imports exports) in
    let front = asked_in (map item.Type defs) in
    ap₂ (λ xs ys. xs ++ ys) (b ∙ ap (λ xs. (xs ++ asked_with imports) ++ asked_with exports) a) c
    ∙ append_assoc (front ++ asked_with imports) (asked_with exports) own ∙ append_assoc front (asked_with imports) (asked_with exports ++ own)

-- one more that asks

pub bare-more : {A : Type 0} (before : List (A × List RuntimeItem)) (x : A × List RuntimeItem) → bare (before ++ x ∷ []) ≡ bare before ++ x.0 ∷ []
bare-more before x = map-append (λ x. x.0) before (x ∷ [])

pub asked-more : {A : Type 0} (before : List (A × List RuntimeItem)) (x : A × List RuntimeItem) (old asked new : List RuntimeItem) → asked ≡ old ++ asked_with before → new ≡ asked ++ x.1
    → new ≡ old ++ asked_with (before ++ x ∷ [])
asked-more before x old asked new e f =
    f ∙ ap (λ xs. xs ++ x.1) e ∙ append_assoc old (asked_with before) x.1
    ∙ ap (λ xs. old ++ xs) (sym (flat_map-append (λ x. x.1) before (x ∷ []) ∙ ap (λ xs. asked_with before ++ xs) (append-nil x.1)))

-- a signature asks, and then a body
pub asked-both : (old asked new signature runtime slice : List RuntimeItem) → asked ≡ old ++ signature → new ≡ asked ++ slice → slice ≡ runtime → new ≡ old ++ (signature ++ runtime)
asked-both old asked new signature runtime slice a b c = b ∙ ap₂ (λ xs ys. xs ++ ys) a c ∙ append_assoc old signature runtime
