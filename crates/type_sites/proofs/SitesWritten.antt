-- Each type that a function of a world reaches can be written: where it is of a kind that has sites, its site fits it.
use Rattle.std.proofs.Common.{◌≡◌, ℕ, zero, suc, ◌+◌, ◌*◌, ◌^◌, ◌<◌, Bool, true, false, cond, not, ◌||◌, nat_le, List, [], ◌∷◌, length, map, Option, None, Some, is_some, refl, sym, ap, ◌∙◌, subst, arith}
use Rattle.std.specs.Prelude.{IfSome, option_and_then, slice_get}
use Rattle.std.specs.List.{Contains, enumerate_from}
use Rattle.std.specs.Option.{option_to_list}
use Rattle.std.specs.Str.{bytes_eq}
use Rattle.std.proofs.Math.Bool.{not-not}
use Rattle.std.proofs.lemmas.Bool.{leb-true, or_parts}
use Rattle.std.proofs.lemmas.List.{length-map}
use Rattle.std.proofs.lemmas.List.Elements.{Contains-append_left, Contains-append_right}
use Rattle.wit_model.specs.declared.function.Function.{Function}
use Rattle.wit_model.specs.declared.name.Name.{Name}
use Rattle.wit_model.specs.declared.name.TypeId.{TypeId}
use Rattle.wit_model.specs.declared.name.WorldId.{WorldId}
use Rattle.wit_model.specs.declared.resolve.Resolve.{Resolve}
use Rattle.wit_model.specs.declared.types.Case.{Case}
use Rattle.wit_model.specs.declared.types.Field.{Field}
use Rattle.wit_model.specs.declared.types.Member.{Member}
use Rattle.wit_model.specs.declared.types.TypeDef.{TypeDef}
use Rattle.wit_model.specs.declared.types.TypeDefKind.{TypeDefKind}
use Rattle.wit_model.specs.declared.types.TypeDefKind.TheVariants as kind
use Rattle.wit_model.specs.declared.types.WitType.{WitType}
use Rattle.wit_model.specs.declared.world.World.{World}
use Rattle.wit_model.specs.Members.{has_members}
use Rattle.wit_model.proofs.AllLemmas.{all_at}
use Rattle.wit_model.proofs.WellFormedLemmas.{has_members_at}
use Rattle.wit_layout.specs.Extent.{discriminant_grain}
use Rattle.rust_tree.specs.Ident.{rust_ident, type_ident}
use Rattle.rust_tree.specs.declared.expr.CastType.{CastType}
use Rattle.rust_tree.specs.declared.expr.CastType.TheVariants as cast
use Rattle.rust_tree.specs.declared.repr.Repr.TheVariants as repr
use Rattle.type_facts.specs.Roots.{param_types, result_types}
use Rattle.type_defs.specs.declared.type_opts.TypeOpts.{TypeOpts}
use Rattle.type_defs.specs.Defined.{is_defined_kind}
use Rattle.type_defs.specs.DefinedNames.{AreDefinable}
use Rattle.type_defs.specs.EnumDef.{enum_repr}
use Rattle.type_defs.specs.ListedTypes.{listed_types}
use Rattle.type_defs.specs.PrintedTypes.{name_or_none, type_name}
use Rattle.type_defs.specs.TypeNames.{are_type_names, needs_name}
use Rattle.type_defs.specs.Used.{IsUsed, UsesTypes, defined_types, is_wanted_at, uses}
use Rattle.type_defs.proofs.UsedLemmas.{reached_uses}
use Rattle.wrapper_run.specs.Run.{runtime_module_name}
use Rattle.wrapper_values.specs.Flags.{repr_bits}
use Rattle.abi_bindgen.specs.HasList.{IsKindOf}
use Rattle.abi_bindgen.specs.Written.{WritesReached, WritesReachedEach, WritesReachedOf, WritesReachedPart}
use Rattle.func_gen.specs.declared.type_site.TypeSite.{TypeSite}
use Rattle.func_gen.specs.CalledCases.{is_other_module}
use Rattle.func_gen.specs.CaseForms.{variant_site_in}
use Rattle.func_gen.specs.EnumForms.{case_cast, enum_site_in}
use Rattle.func_gen.specs.FlagsForms.{flags_site_in}
use Rattle.func_gen.specs.RecordForms.{record_in}
use Rattle.func_gen.specs.TypeSites as written
use Rattle.func_gen.specs.Written.{CanWrite, WritesEnum, WritesFlags, WritesKind, WritesRecord, WritesVariant}
use Rattle.type_sites.specs.SiteLaws.{SitesCanBeWritten, have_own_names}
use Rattle.type_sites.specs.Sites.{enum_site, flags_site, record_site, site_at, site_by, site_of, type_sites, variant_site}
use Rattle.type_sites.proofs.PrintedTypes.{flags-held}
use Rattle.type_sites.proofs.SitesDefined.{used-listed, used-wanted, wanted-passes}

-- 1. Enums

-- an enum is held by the number of its tag
enum-held : (n : ℕ) → repr_bits (enum_repr n) ≡ 8 * 2 ^ discriminant_grain n
enum-held n = go (nat_le n 256) (nat_le n 65536)
  where
    go : (a b : Bool) → repr_bits (cond a repr.U8 (cond b repr.U16 repr.U32)) ≡ 8 * 2 ^ cond a 0 (cond b 1 2)
    go true b = refl
    go false true = refl
    go false false = refl

-- to which a word can be cast
enum-cast : (n : ℕ) → (to : CastType) × (case_cast (enum_repr n) ≡ Some to)
enum-cast n = go (nat_le n 256) (nat_le n 65536)
  where
    go : (a b : Bool) → (to : CastType) × (case_cast (cond a repr.U8 (cond b repr.U16 repr.U32)) ≡ Some to)
    go true b = (cast.U8, refl)
    go false true = (cast.U16, refl)
    go false false = (cast.U32, refl)

-- flags have a member
one-at-least : (members : List Member) → has_members (kind.Flags members) ≡ true → 0 < length members
unfolding has_members
one-at-least [] h = absurd cc
one-at-least (m ∷ members) h = omega arith

-- 2. The sites of a table

module _ (r : Resolve) (world : World) where
  site-from : (ts : List TypeDef) (n k : ℕ) (t : TypeDef) → slice_get ts k ≡ Some t → slice_get (map (site_at r world) (enumerate_from n ts)) k ≡ Some (site_at r world (n + k, t))
  site-from [] n k t at = absurd (cc)
  site-from (u ∷ ts) n zero t at =
      let is : u ≡ t = cc in
      let same : n ≡ n + 0 = omega arith in
      ap (λ u. Some (site_at r world (n, u))) is ∙ ap (λ m. Some (site_at r world (m, t))) same
  site-from (u ∷ ts) n (suc k) t at =
      let same : n + 1 + k ≡ n + suc k = omega arith in
      site-from ts (n + 1) k t at ∙ ap (λ m. Some (site_at r world (m, t))) same

  -- that of an entry which a function uses is the one of its kind and its name
  site-used : (id : ℕ) (t : TypeDef) → uses r world id ≡ true → slice_get r.types id ≡ Some t → written.site_at (type_sites r world) id ≡ site_of t
  unfolding type_sites
  site-used id t used at =
      let same : 0 + id ≡ id = omega arith in
      ap (option_and_then (λ s. s)) (site-from r.types 0 id t at ∙ ap (λ m. Some (site_at r world (m, t))) same) ∙ ap (λ b. cond b (site_of t) None) used

-- 3. Each fits

module _ (opts : TypeOpts) (r : Resolve) (w : WorldId) (world : World) (d : AreDefinable opts r w world) (names : are_type_names r.types ≡ true) (own : have_own_names (defined_types opts r world) ≡ true) where
  abbrev sites : List (Option TypeSite)
  sites = type_sites r world

  module _ (id : TypeId) (t : TypeDef) (used : uses r world id.0 ≡ true) (at : slice_get r.types id.0 ≡ Some t) where
    module _ (name : Name) (named : t.name ≡ Some name) where
      -- a definition has a name of its own
      own-name : is_other_module (type_ident name) ≡ false
      own-name =
          let passed : not (is_other_module (type_name t)) ≡ true =
          wanted-passes (λ t. not (is_other_module (type_name t))) r.types (λ id. is_wanted_at opts r world id) (listed_types world) id.0 t own (used-listed opts r w world d id t name used at named)
          (used-wanted opts r w world d id.0 used) at in
          sym (not-not (is_other_module (type_ident name))) ∙ ap not (ap (λ n. not (is_other_module (name_or_none n))) (sym named) ∙ passed)

      no-runtime : bytes_eq (type_ident name) runtime_module_name ≡ false
      unfolding is_other_module runtime_module_name
      no-runtime = (or_parts (bytes_eq (type_ident name) runtime_module_name) _ own-name).0

      module _ (k : TypeDefKind) (is : t.kind ≡ k) where
        there : written.site_at sites id.0 ≡ site_by k (Some name)
        there = site-used r world id.0 t used at ∙ ap (λ k. site_by k t.name) is ∙ ap (site_by k) named

        of-kind : IsKindOf r.types id.0 k
        of-kind = record { entry = t; stands = at; kind = is }

      writes-record : (fields : List Field) → t.kind ≡ kind.Record fields → WritesRecord r.types sites id.0
      writes-record fields is = record {
        site = record_site (type_ident name) fields;
        is_site = record {
          at = ap (option_and_then record_in) (there (kind.Record fields) is);
          count = (fields, record { entry = t; at = at; kind = is }, length-map fields (λ f. rust_ident f.name));
        };
      }

      writes-flags : (members : List Member) → t.kind ≡ kind.Flags members → WritesFlags r.types sites id.0
      writes-flags members is = record {
        site = flags_site (type_ident name) members;
        is_site = record {
          at = ap (option_and_then flags_site_in) (there (kind.Flags members) is);
          count = (members, of-kind (kind.Flags members) is, refl);
          some = one-at-least members (subst (λ k. has_members k ≡ true) is (has_members_at r id.0 t d.checked.unbroken at));
          within = leb-true (length members) 128 (ap is_defined_kind (sym is) ∙ all_at (λ t. is_defined_kind t.kind) r.types id.0 t d.kinds at);
          held = flags-held (length members);
        };
      }

      writes-enum : (cases : List Member) → t.kind ≡ kind.Enum cases → WritesEnum r.types sites id.0
      writes-enum cases is =
          let casts = enum-cast (length cases) in
          record {
            site = enum_site (type_ident name) cases;
            is_site = record {
              at = ap (option_and_then enum_site_in) (there (kind.Enum cases) is);
              count = (cases, of-kind (kind.Enum cases) is, refl);
              held = enum-held (length cases);
            };
            name = type_ident name;
            root = refl;
            typed = no-runtime;
            to = casts.0;
            cast = casts.1;
          }

      writes-variant : (cases : List Case) → t.kind ≡ kind.Variant cases → WritesVariant r.types sites id.0 (length cases)
      writes-variant cases is = record {
        site = variant_site (type_ident name) cases;
        at = ap (option_and_then variant_site_in) (there (kind.Variant cases) is);
        name = type_ident name;
        root = refl;
        many = length-map cases (λ c. c.name.camel);
        typed = own-name;
      }

    -- an entry of a kind that needs a name has one
    has-name : (k : TypeDefKind) → t.kind ≡ k → needs_name k ≡ true → (name : Name) × (t.name ≡ Some name)
    unfolding are_type_names
    has-name k is needs = go t.name refl (ap (λ k. not (needs_name k) || is_some t.name) (sym is) ∙ all_at (λ (t : TypeDef). not (needs_name t.kind) || is_some t.name) r.types id.0 t names at)
      where
        go : (n : Option Name) → t.name ≡ n → (not (needs_name k) || is_some t.name) ≡ true → (name : Name) × (t.name ≡ Some name)
        go (Some name) e h = (name, e)
        go None e h = let no : false ≡ true = sym (ap (λ n. not (needs_name k) || is_some n) e ∙ ap (λ b. not b || false) needs) ∙ h in absurd (cc)

    writes-kind : (k : TypeDefKind) → t.kind ≡ k → WritesKind r.types sites id.0 k
    writes-kind (kind.Record fields) is = let n = has-name (kind.Record fields) is refl in writes-record n.0 n.1 fields is
    writes-kind (kind.Flags members) is = let n = has-name (kind.Flags members) is refl in writes-flags n.0 n.1 members is
    writes-kind (kind.Enum cases) is = let n = has-name (kind.Enum cases) is refl in writes-enum n.0 n.1 cases is
    writes-kind (kind.Variant cases) is = let n = has-name (kind.Variant cases) is refl in writes-variant n.0 n.1 cases is
    writes-kind _ is = tt

  can-write : (id : TypeId) → uses r world id.0 ≡ true → CanWrite r.types sites id.0
  can-write id used = go (slice_get r.types id.0) refl
    where
      go : (o : Option TypeDef) → slice_get r.types id.0 ≡ o → CanWrite r.types sites id.0
      go None at = subst (λ o. IfSome o (λ (t : TypeDef). WritesKind r.types sites id.0 t.kind)) (sym at) tt
      go (Some t) at = subst (λ o. IfSome o (λ (t : TypeDef). WritesKind r.types sites id.0 t.kind)) (sym at) (writes-kind id t used at t.kind refl)

  -- 4. Functions

  abbrev Writes : WitType → Type 0
  Writes ty = WritesReached r.types (CanWrite r.types sites) ty

  used-written : (ty : WitType) → IsUsed r world ty → Writes ty
  used-written ty u = λ part reaches. can-write part (reached_uses r world part d.shallow (record { root = ty; is_root = u.used; reached = reaches }))

  all-written : (tys : List WitType) → ((ty : WitType) → Contains tys ty → IsUsed r world ty) → WritesReachedEach r.types (CanWrite r.types sites) tys
  all-written [] h = tt
  all-written (ty ∷ tys) h = (used-written ty (h ty (0, omega arith, refl)), all-written tys (λ t has. h t (suc has.0, omega arith, has.2)))

  function-written : (f : Function) → UsesTypes r world f → WritesReachedOf r.types (CanWrite r.types sites) f
  function-written f uses = record {
    params = all-written (param_types f) (λ ty has. uses ty (Contains-append_left (param_types f) (result_types f) ty has));
    result = go f.result (λ ty has. uses ty (Contains-append_right (param_types f) (result_types f) ty has));
  }
    where
      go : (o : Option WitType) → ((ty : WitType) → Contains (option_to_list o) ty → IsUsed r world ty) → WritesReachedPart r.types (CanWrite r.types sites) o
      go None h = tt
      go (Some ty) h = used-written ty (h ty (0, omega arith, refl))

pub sites-can-be-written : SitesCanBeWritten
sites-can-be-written opts r w world d names own = function-written opts r w world d names own
