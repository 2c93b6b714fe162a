-- The names by which the types that functions use are written may stand in a tree, since their definitions have them.
use Rattle.std.proofs.Common.{◌≡◌, ℕ, suc, ◌+◌, Bool, true, false, not, ◌&&◌, List, [], ◌∷◌, map, Option, None, Some, is_some, refl, ap, ◌∙◌, subst, add-zero, arith}
use Rattle.std.specs.Prelude.{if◌then◌else◌, slice_get}
use Rattle.std.specs.List.{enumerate_from, list_all}
use Rattle.std.proofs.lemmas.Bool.{and_from, and_parts}
use Rattle.std.proofs.lemmas.List.Folds.{list_all-map}
use Rattle.wit_model.specs.Reaches.{reaches_itself}
use Rattle.wit_model.specs.declared.name.Name.{Name}
use Rattle.wit_model.specs.declared.name.TypeId.{TypeId}
use Rattle.wit_model.specs.declared.name.WorldId.{WorldId}
use Rattle.wit_model.specs.declared.resolve.Resolve.{Resolve}
use Rattle.wit_model.specs.declared.types.Case.{Case}
use Rattle.wit_model.specs.declared.types.Field.{Field}
use Rattle.wit_model.specs.declared.types.TypeDef.{TypeDef}
use Rattle.wit_model.specs.declared.types.TypeDefKind.{TypeDefKind}
use Rattle.wit_model.specs.declared.types.TypeDefKind.TheVariants as kind
use Rattle.wit_model.specs.declared.world.World.{World}
use Rattle.rust_tree.specs.declared.type_item.TypeItem.{TypeItem}
use Rattle.rust_tree.specs.Ident.{is_ident, is_primitive_name, rust_ident, type_ident}
use Rattle.rust_tree.specs.WellNamed.{are_path_names, is_absent_or}
use Rattle.type_defs.specs.declared.type_opts.TypeOpts.{TypeOpts}
use Rattle.type_defs.specs.Defined.{AreDefinitions}
use Rattle.type_defs.specs.DefinedNames.{AreDefinable, are_named_parts}
use Rattle.type_defs.specs.Used.{uses}
use Rattle.type_defs.specs.WitForm.{is_wit_form}
use Rattle.type_defs.proofs.NamedTextLemmas.{local_path-named}
use Rattle.type_defs.proofs.UsedNameLemmas.{used-named}
use Rattle.func_gen.specs.declared.type_site.TypeSite.{TypeSite}
use Rattle.wrapper_closing.specs.Named.{AreNamedSites, is_named_site}
use Rattle.type_sites.specs.SiteLaws.{SitesAreNamed}
use Rattle.type_sites.specs.Sites.{site_at, site_by, site_of, type_sites}
use Rattle.type_sites.proofs.SiteLemmas.{unnamed-site}

abbrev IsNamedOr : Option TypeSite → Type 0
IsNamedOr s = is_absent_or is_named_site s ≡ true

-- by the kind, where the type and its parts are named so
kind-named : (k : TypeDefKind) (name : Name) → is_ident (type_ident name) ≡ true → are_named_parts k ≡ true → IsNamedOr (site_by k (Some name))
kind-named k name own parts = go k parts
  where
    path : are_path_names (type_ident name ∷ []) ≡ true
    path = local_path-named (type_ident name) own

    fields : (fs : List Field) → list_all (λ f. is_ident (rust_ident f.name) && is_wit_form f.name.wit) fs ≡ true → list_all is_ident (map (λ f. rust_ident f.name) fs) ≡ true
    fields [] h = refl
    fields (f ∷ fs) h =
        let both = and_parts (is_ident (rust_ident f.name) && is_wit_form f.name.wit) (list_all (λ f. is_ident (rust_ident f.name) && is_wit_form f.name.wit) fs) h in
        and_from (is_ident (rust_ident f.name)) (list_all is_ident (map (λ f. rust_ident f.name) fs)) (and_parts (is_ident (rust_ident f.name)) (is_wit_form f.name.wit) both.0).0 (fields fs both.1)

    go : (k : TypeDefKind) → are_named_parts k ≡ true → IsNamedOr (site_by k (Some name))
    go (kind.Record fs) h =
        and_from (list_all is_ident (map (λ f. rust_ident f.name) fs)) (are_path_names (type_ident name ∷ []) && are_path_names (type_ident name ∷ [])) (fields fs h)
        (and_from (are_path_names (type_ident name ∷ [])) (are_path_names (type_ident name ∷ [])) path path)
    go (kind.Enum cases) h = path
    go (kind.Flags members) h = path
    go (kind.Variant cases) h =
        and_from (list_all is_ident (map (λ c. c.name.camel) cases)) (are_path_names (type_ident name ∷ [])) (list_all-map is_ident (λ (c : Case). c.name.camel) cases ∙ h) path
    go _ h = refl

module _ (opts : TypeOpts) (r : Resolve) (id : WorldId) (world : World) (defs : List TypeItem) (d : AreDefinable opts r id world) (are : AreDefinitions opts r id world defs) where
  used-site-named : (part : TypeId) (t : TypeDef) → uses r world part.0 ≡ true → slice_get r.types part.0 ≡ Some t → IsNamedOr (site_of t)
  used-site-named part t used at = go t.name refl
    where
      go : (n : Option Name) → t.name ≡ n → IsNamedOr (site_of t)
      go None e = ap (λ s. is_absent_or is_named_site s) (ap (site_by t.kind) e ∙ unnamed-site t.kind)
      go (Some name) e =
          let named = used-named opts r id world defs d are part t used at (ap is_some e) in
          let own = and_parts (is_ident (type_ident name)) (not (is_primitive_name (type_ident name))) (named.reached part t name reaches_itself at e) in
          ap (λ n. is_absent_or is_named_site (site_by t.kind n)) e ∙ kind-named t.kind name own.0 (named.parts t at)

  site-named : (k : ℕ) (t : TypeDef) → slice_get r.types k ≡ Some t → IsNamedOr (site_at r world (k, t))
  site-named k t at = go (uses r world k) refl
    where
      go : (b : Bool) → uses r world k ≡ b → IsNamedOr (site_at r world (k, t))
      go false e = ap (λ b. is_absent_or is_named_site (if b then site_of t else None)) e
      go true e = ap (λ b. is_absent_or is_named_site (if b then site_of t else None)) e ∙ used-site-named (record { 0 = k }) t e at

  all-named : (ts : List TypeDef) (n : ℕ) → ((k : ℕ) (t : TypeDef) → slice_get ts k ≡ Some t → IsNamedOr (site_at r world (n + k, t))) → AreNamedSites (map (site_at r world) (enumerate_from n ts))
  all-named [] n h = tt
  all-named (t ∷ ts) n h = (
    subst (λ m. IsNamedOr (site_at r world (m, t))) (add-zero n) (h 0 t refl),
    all-named ts (n + 1) (λ k t at. let next : n + suc k ≡ n + 1 + k = omega arith in subst (λ m. IsNamedOr (site_at r world (m, t))) next (h (suc k) t at)),
  )

  all-sites-named : AreNamedSites (type_sites r world)
  unfolding type_sites
  all-sites-named = all-named r.types 0 (λ k t at. let same : k ≡ 0 + k = omega arith in subst (λ m. IsNamedOr (site_at r world (m, t))) same (site-named k t at))

pub sites-are-named : SitesAreNamed
sites-are-named opts r id world defs d are = all-sites-named opts r id world defs d are
