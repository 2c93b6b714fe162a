-- No type of a world that is known has the name of `_rt` or of a number type, so what its functions reach can be written.
use Rattle.std.proofs.Common.{◌≡◌, true, false, not, List, [], ◌∷◌, map, refl, sym, ap, ◌∙◌}
use Rattle.std.specs.Prelude.{codes}
use Rattle.std.specs.List.{list_all, list_any}
use Rattle.std.specs.Str.{bytes_eq}
use Rattle.std.proofs.lemmas.Bool.{and_from, and_parts, false_from_ne_true, or_from, or_parts}
use Rattle.std.proofs.lemmas.Slice.Eq.{bytes_eq-Decides}
use Rattle.wit_model.specs.Bytes.{Bytes}
use Rattle.wit_model.specs.declared.name.WorldId.{WorldId}
use Rattle.wit_model.specs.declared.resolve.Resolve.{Resolve}
use Rattle.wit_model.specs.declared.types.TypeDef.{TypeDef}
use Rattle.wit_model.specs.declared.world.World.{World}
use Rattle.rust_tree.specs.Ident.{is_ident, is_primitive_name, is_type_name, primitive_names}
use Rattle.type_defs.specs.PrintedTypes.{type_name}
use Rattle.type_defs.specs.Used.{defined_types}
use Rattle.gen_accept.specs.DeclaredNames.{runtime_ident}
use Rattle.gen_accept.specs.Emitted.{exported_functions, imported_functions}
use Rattle.gen_accept.specs.TypeOpts.{type_opts}
use Rattle.gen_accept.specs.declared.opts.Opts.{Opts}
use Rattle.gen_accept.proofs.DeclaredLemmas.{apart_types, type_idents}
use Rattle.func_gen.specs.CalledCases.{is_other_module}
use Rattle.type_sites.specs.SiteLaws.{have_own_names}
use Rattle.type_sites.specs.Sites.{type_sites}
use Rattle.type_sites.proofs.SitesWritten.{sites-can-be-written}
use Rattle.rust_gen.specs.Known.{CanWriteFunctions, IsKnown}

-- a name that a type may have is no primitive type's
no-primitive : (name primitive : Bytes) → is_type_name name ≡ true → is_primitive_name primitive ≡ true → bytes_eq name primitive ≡ false
no-primitive name primitive h p =
    false_from_ne_true (bytes_eq name primitive)
    (λ e.
    let is : name ≡ primitive = (bytes_eq-Decides name primitive).0 e in
    let no : false ≡ true = sym (ap not (ap is_primitive_name is ∙ p)) ∙ (and_parts (is_ident name) (not (is_primitive_name name)) h).1 in
    cc)

own-name : (name : Bytes) → is_type_name name ≡ true → bytes_eq name runtime_ident ≡ false → not (is_other_module name) ≡ true
unfolding is_other_module runtime_ident primitive_names
own-name name h apart =
    ap not (or_from (bytes_eq name (codes "_rt")) _ apart
    (or_from (bytes_eq name (codes "i64")) _ (no-primitive name (codes "i64") h refl)
    (or_from (bytes_eq name (codes "f32")) _ (no-primitive name (codes "f32") h refl) (no-primitive name (codes "f64") h refl))))

own-names : (types : List TypeDef) → list_all is_type_name (map type_name types) ≡ true → list_any (λ u. bytes_eq u runtime_ident) (map type_name types) ≡ false → have_own_names types ≡ true
own-names [] h apart = refl
own-names (t ∷ types) h apart =
    let a = and_parts (is_type_name (type_name t)) (list_all is_type_name (map type_name types)) h in
    let b = or_parts (bytes_eq (type_name t) runtime_ident) (list_any (λ u. bytes_eq u runtime_ident) (map type_name types)) apart in
    and_from _ _ (own-name (type_name t) a.0 b.0) (own-names types a.1 b.1)

module _ (opts : Opts) (r : Resolve) (id : WorldId) (world : World) (k : IsKnown opts r id world) where
  abbrev defined : List TypeDef
  defined = defined_types (type_opts opts) r world

  have-own : have_own_names defined ≡ true
  have-own = own-names defined (type_idents opts r world k.declared) (apart_types opts r world k.declared)

  pub imports-can-be-written : CanWriteFunctions r.types (type_sites r world) (imported_functions world)
  imports-can-be-written nth f at = sites-can-be-written (type_opts opts) r id world k.types k.names have-own f (k.imports_use nth f at)

  pub exports-can-be-written : CanWriteFunctions r.types (type_sites r world) (exported_functions world)
  exports-can-be-written nth f at = sites-can-be-written (type_opts opts) r id world k.types k.names have-own f (k.exports_use nth f at)
