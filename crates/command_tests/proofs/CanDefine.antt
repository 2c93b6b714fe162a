-- Some definition of a type is as the type is written.
use Rattle.std.proofs.Common.{◌≡◌, true, if◌then◌else◌, List, [], ◌∷◌, map, replicate, None, Some, refl, sym, ap, ◌∙◌, subst}
use Rattle.std.specs.Option.{option_map, option_or}
use Rattle.std.proofs.lemmas.List.{length-replicate}
use Rattle.wit_model.specs.Bytes.{Bytes}
use Rattle.wit_model.specs.Distinct.{is_distinct}
use Rattle.rust_tree.specs.declared.flags_item.FlagsItem.{FlagsItem}
use Rattle.rust_tree.specs.declared.item.Item.{Item}
use Rattle.rust_tree.specs.declared.path.Path.{Path}
use Rattle.rust_tree.specs.declared.type_item.TypeItem.{TypeItem}
use Rattle.rust_tree.specs.declared.type_item.TypeItem.TheVariants.{Flags, Variant}
use Rattle.rust_tree.specs.declared.variant_item.VariantCase.{VariantCase}
use Rattle.rust_tree.specs.declared.variant_item.VariantItem.{VariantItem}
use Rattle.type_defs.specs.Paths.{local_path}
use Rattle.wrapper_values.specs.Fields.{root_name, type_name, type_named}
use Rattle.wrapper_values.specs.Flags.{flags_in}
use Rattle.wrapper_run.proofs.LocalLemmas.{bytes_eq-same}
use Rattle.func_gen.specs.declared.flags_site.FlagsSite.{FlagsSite}
use Rattle.func_gen.specs.declared.type_site.TypeSite.TheVariants as site
use Rattle.func_gen.specs.declared.variant_site.VariantSite.{VariantSite}
use Rattle.func_gen.specs.TypeSites.{CanBeDefined, HasCaseNames, HasMembers, case_names, held_members, items_of, variant_in}

-- a definition is found under its name
found : (t : TypeItem) → type_named (items_of (t ∷ [])) (type_name t) ≡ Some t
found t = ap (λ b. option_or (if b then Some t else None) None) (bytes_eq-same (type_name t))

pub flags_can : (s : FlagsSite) (name : Bytes) → s.path ≡ local_path name → CanBeDefined (Some (site.Flags s) ∷ [])
flags_can s name is = (Flags defined ∷ [], (subst (λ path. HasMembers items (s.repr, s.members) (root_name path)) (sym is) held, tt))
  where
    defined : FlagsItem
    defined = record { bitflags = local_path []; docs = []; name = name; repr = s.repr; members = replicate s.members (record { docs = []; name = [] }) }

    items : List Item
    items = items_of (Flags defined ∷ [])

    held : HasMembers items (s.repr, s.members) (Some name)
    held = ap (λ o. option_map held_members (flags_in o)) (found (Flags defined)) ∙ ap (λ n. Some (s.repr, n)) (length-replicate s.members (record { docs = []; name = [] }))

pub variant_can : (s : VariantSite) (name : Bytes) → s.lifted ≡ local_path name → s.lowered ≡ local_path name → is_distinct s.cases ≡ true → CanBeDefined (Some (site.Variant s) ∷ [])
variant_can s name lifted lowered distinct = (Variant defined ∷ [], (record { lifted = subst by (sym lifted) held; lowered = subst by (sym lowered) held; distinct = distinct }, tt))
  where
    of_name : Bytes → VariantCase
    of_name n = record { docs = []; name = n; ty = None }

    defined : VariantItem
    defined = record { docs = []; derives = []; name = name; cases = map of_name s.cases; error = None }

    items : List Item
    items = items_of (Variant defined ∷ [])

    by : Path → Type 0
    by path = HasCaseNames items s.cases (root_name path)

    same_names : (names : List Bytes) → map (λ (c : VariantCase). c.name) (map of_name names) ≡ names
    same_names [] = refl
    same_names (n ∷ names) = ap (λ ns. n ∷ ns) (same_names names)

    held : HasCaseNames items s.cases (Some name)
    held = ap (λ o. option_map case_names (variant_in o)) (found (Variant defined)) ∙ ap (λ names. Some names) (same_names s.cases)
