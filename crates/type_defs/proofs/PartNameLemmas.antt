-- The types that a type reaches are printed with names that may stand in a tree, as parts and as parameters, where each named one has
-- such a name.
use Rattle.std.proofs.Common.{◌≡◌, ℕ, zero, suc, Bool, true, not, List, [], ◌∷◌, Option, None, Some, map, refl, ap, subst, ◌∙◌}
use Rattle.std.specs.Prelude.{slice_get}
use Rattle.std.specs.List.{list_all}
use Rattle.std.proofs.lemmas.Bool.{and_from, and_parts, cond_both}
use Rattle.std.specs.Option.{option_map}
use Rattle.std.proofs.lemmas.Option.{slice_get-map}
use Rattle.std.proofs.lemmas.List.Folds.{list_all-map}
use Rattle.wit_model.specs.Bytes.{Bytes}
use Rattle.wit_model.specs.declared.name.Name.{Name}
use Rattle.wit_model.specs.declared.name.TypeId.{TypeId}
use Rattle.wit_model.specs.declared.resolve.Resolve.{Resolve}
use Rattle.wit_model.specs.declared.types.Case.{Case}
use Rattle.wit_model.specs.declared.types.Field.{Field}
use Rattle.wit_model.specs.declared.types.TypeDef.{TypeDef}
use Rattle.wit_model.specs.declared.types.TypeDefKind.{TypeDefKind}
use Rattle.wit_model.specs.declared.types.TypeDefKind.TheVariants as kind
use Rattle.wit_model.specs.declared.types.WitType.{WitType}
use Rattle.wit_model.specs.declared.types.WitType.TheVariants as wit
use Rattle.wit_model.specs.Members.{has_members, has_one}
use Rattle.wit_model.specs.Parts.{parts}
use Rattle.wit_model.specs.Reaches.{Reaches, reaches_itself}
use Rattle.wit_model.specs.WellFormed.{IsWellFormed}
use Rattle.wit_model.proofs.ReachLemmas.{reaches_on}
use Rattle.wit_model.proofs.WellFormedLemmas.{has_members_at}
use Rattle.rust_tree.specs.declared.type_expr.TypeExpr.{TypeExpr}
use Rattle.rust_tree.specs.declared.type_expr.TypeExpr.TheVariants as type
use Rattle.rust_tree.specs.Ident.{is_ident, is_primitive_name, is_type_name, type_ident}
use Rattle.rust_tree.specs.WellNamed.{are_path_names, is_named_type, is_nonempty}
use Rattle.rust_tree.proofs.NamedTypeLemmas.{is_named-lent, is_named-option, is_named-path, is_named-result, is_named-str, is_named-tuple, is_named-unit}
use Rattle.type_defs.specs.NamedParts.{HasNamedParts}
use Rattle.type_defs.specs.ParamType.{has_list, is_text, lent_by, lent_entry, lent_found, lent_type, lent_unnamed, lent_within, param_type, text_or}
use Rattle.type_defs.specs.PartType.{entry_type, found_type, levels_of, part_type, payload_type, result_type, type_within, unnamed_type}
use Rattle.type_defs.specs.Paths.{local_path}
use Rattle.type_defs.specs.Printed.{printed_type}
use Rattle.type_defs.proofs.NamedTextLemmas.{local_path-named}
use Rattle.type_defs.proofs.PrintedLemmas.{type-named}

-- lists

pub all_from : {A : Type 0} (p : A → Bool) (xs : List A) → ((k : ℕ) (x : A) → slice_get xs k ≡ Some x → p x ≡ true) → list_all p xs ≡ true
all_from p [] h = refl
all_from p (x ∷ xs) h = and_from (p x) (list_all p xs) (h 0 x refl) (all_from p xs (λ k y e. h (suc k) y e))

nonempty-map : {A B : Type 0} (g : A → B) (xs : List A) → has_one xs ≡ true → is_nonempty (map g xs) ≡ true
nonempty-map g [] h = absurd (cc)
nonempty-map g (x ∷ xs) h = refl

-- what a kind names

pub tuple-part : (members : List WitType) (k : ℕ) (ty : WitType) → slice_get members k ≡ Some ty → slice_get (parts (kind.Tuple members)) k ≡ Some (Some ty)
unfolding parts
tuple-part members k ty e = slice_get-map (λ ty. Some ty) members k ∙ ap (option_map (λ ty. Some ty)) e

pub field-part : (fields : List Field) (k : ℕ) (f : Field) → slice_get fields k ≡ Some f → slice_get (parts (kind.Record fields)) k ≡ Some (Some f.ty)
unfolding parts
field-part fields k f e = slice_get-map (λ f. Some f.ty) fields k ∙ ap (option_map (λ f. Some f.ty)) e

pub alias-part : (ty : WitType) → slice_get (parts (kind.Alias ty)) 0 ≡ Some (Some ty)
unfolding parts
alias-part ty = refl

pub option-part : (ty : WitType) → slice_get (parts (kind.Option ty)) 0 ≡ Some (Some ty)
unfolding parts
option-part ty = refl

pub ok-part : (ty : WitType) (err : Option WitType) → slice_get (parts (kind.Result (Some ty) err)) 0 ≡ Some (Some ty)
unfolding parts
ok-part ty err = refl

pub err-part : (ok : Option WitType) (ty : WitType) → slice_get (parts (kind.Result ok (Some ty))) 1 ≡ Some (Some ty)
unfolding parts
err-part ok ty = refl

pub case-part : (cases : List Case) (k : ℕ) (c : Case) → slice_get cases k ≡ Some c → slice_get (parts (kind.Variant cases)) k ≡ Some c.ty
unfolding parts
case-part cases k c e = slice_get-map (λ c. c.ty) cases k ∙ ap (option_map (λ c. c.ty)) e

pub tuple-members : (members : List WitType) → has_members (kind.Tuple members) ≡ true → has_one members ≡ true
unfolding has_members
tuple-members members h = h

-- printed types

path-named : (name : Bytes) → is_type_name name ≡ true → is_named_type (type.Path (local_path name)) ≡ true
path-named name h =
    let own = and_parts (is_ident name) (not (is_primitive_name name)) h in
    is_named-path (local_path name) ∙ and_from (are_path_names (name ∷ [])) (not (is_primitive_name name)) (local_path-named name own.0) own.1

pub tuple-named : (printed : WitType → TypeExpr) (members : List WitType) → has_one members ≡ true → ((k : ℕ) (ty : WitType) → slice_get members k ≡ Some ty → is_named_type (printed ty) ≡ true)
    → is_named_type (type.Tuple (map printed members)) ≡ true
tuple-named printed members some each =
    is_named-tuple (map printed members)
    ∙ and_from (is_nonempty (map printed members)) (list_all is_named_type (map printed members)) (nonempty-map printed members some)
    (list_all-map is_named_type printed members ∙ all_from (λ ty. is_named_type (printed ty)) members each)

pub option-named : (ty : TypeExpr) → is_named_type ty ≡ true → is_named_type (type.Optional ty) ≡ true
option-named ty h = is_named-option ty ∙ h

-- a payload that is printed, if there is one
pub payload-named : (printed : WitType → TypeExpr) (payload : Option WitType) → ((ty : WitType) → payload ≡ Some ty → is_named_type (printed ty) ≡ true) → is_named_type (payload_type printed payload) ≡ true
payload-named printed None h = is_named-unit
payload-named printed (Some ty) h = h ty refl

pub result-named : (printed : WitType → TypeExpr) (ok err : Option WitType) → ((ty : WitType) → ok ≡ Some ty → is_named_type (printed ty) ≡ true) → ((ty : WitType) → err ≡ Some ty → is_named_type (printed ty) ≡ true)
    → is_named_type (result_type printed ok err) ≡ true
result-named printed ok err first second =
    is_named-result (payload_type printed ok) (payload_type printed err)
    ∙ and_from (is_named_type (payload_type printed ok)) (is_named_type (payload_type printed err)) (payload-named printed ok first) (payload-named printed err second)

-- the types that one type reaches

module _ (r : Resolve) (checked : IsWellFormed r) (root : WitType) (named : HasNamedParts r.types root) where
  abbrev Reached : WitType → Type 0
  Reached ty = Reaches r.types root ty

  -- all types that are reached, printed in some way
  abbrev AllNamed : (WitType → TypeExpr) → Type 0
  AllNamed printed = (ty : WitType) → Reached ty → is_named_type (printed ty) ≡ true

  -- an entry that is reached
  module _ (part : TypeId) (entry : TypeDef) (reached : Reached (wit.Id part)) (e : slice_get r.types part.0 ≡ Some entry) where
    on : (k : TypeDefKind) (nth : ℕ) (ty : WitType) → entry.kind ≡ k → slice_get (parts k) nth ≡ Some (Some ty) → Reached ty
    on k nth ty is at = reaches_on reached (record { id = part; entry = entry; nth = nth; is_entry = refl; entry_at = e; part_at = ap (λ k. slice_get (parts k) nth) is ∙ at })

    target : (ty : WitType) → entry.kind ≡ kind.Alias ty → Reached ty
    target ty is = on (kind.Alias ty) 0 ty is (alias-part ty)

    members-named : (printed : WitType → TypeExpr) → AllNamed printed → (ms : List WitType) → entry.kind ≡ kind.Tuple ms → is_named_type (type.Tuple (map printed ms)) ≡ true
    members-named printed below ms is =
        tuple-named printed ms (tuple-members ms (subst (λ k. has_members k ≡ true) is (has_members_at r part.0 entry checked.unbroken e)))
        (λ k ty at. below ty (on (kind.Tuple ms) k ty is (tuple-part ms k ty at)))

    payload : (ty : WitType) → entry.kind ≡ kind.Option ty → Reached ty
    payload ty is = on (kind.Option ty) 0 ty is (option-part ty)

    results-named : (printed : WitType → TypeExpr) → AllNamed printed → (ok err : Option WitType) → entry.kind ≡ kind.Result ok err → is_named_type (result_type printed ok err) ≡ true
    results-named printed below ok err is =
        result-named printed ok err
        (λ ty at. below ty (on (kind.Result (Some ty) err) 0 ty (is ∙ ap (λ o. kind.Result o err) at) (ok-part ty err)))
        (λ ty at. below ty (on (kind.Result ok (Some ty)) 1 ty (is ∙ ap (λ o. kind.Result ok o) at) (err-part ok ty)))

    entry-named : (printed : WitType → TypeExpr) → AllNamed printed → is_named_type (entry_type printed entry.kind entry.name) ≡ true
    entry-named printed below = by_name entry.name refl
      where
        unnamed : (k : TypeDefKind) → entry.kind ≡ k → is_named_type (unnamed_type printed k) ≡ true
        unnamed (kind.Alias ty) is = below ty (target ty is)
        unnamed (kind.Tuple ms) is = members-named printed below ms is
        unnamed (kind.Option ty) is = option-named (printed ty) (below ty (payload ty is))
        unnamed (kind.Result ok err) is = results-named printed below ok err is
        unnamed _ is = is_named-unit

        by_name : (o : Option Name) → entry.name ≡ o → is_named_type (entry_type printed entry.kind o) ≡ true
        by_name None is = unnamed entry.kind refl
        by_name (Some name) is = path-named (type_ident name) (named part entry name reached e is)

    lent-entry-named : (lent : WitType → TypeExpr) → AllNamed lent → AllNamed (part_type r.types) → is_named_type (lent_entry r.types lent entry.kind entry.name) ≡ true
    lent-entry-named lent below owned = by_name entry.name refl
      where
        unnamed : (k : TypeDefKind) → entry.kind ≡ k → is_named_type (lent_unnamed r.types lent k) ≡ true
        unnamed (kind.Alias ty) is = cond_both (has_list r.types ty) (lent ty) (part_type r.types ty) (λ p. is_named_type p ≡ true) (λ _. below ty (target ty is)) (λ _. owned ty (target ty is))
        unnamed (kind.Tuple ms) is = members-named lent below ms is
        unnamed (kind.Option ty) is = option-named (lent ty) (below ty (payload ty is))
        unnamed (kind.Result ok err) is = results-named lent below ok err is
        unnamed _ is = is_named-unit

        by_name : (o : Option Name) → entry.name ≡ o → is_named_type (lent_entry r.types lent entry.kind o) ≡ true
        by_name None is = unnamed entry.kind refl
        by_name (Some name) is = is_named-lent (type.Path (local_path (type_ident name))) ∙ path-named (type_ident name) (named part entry name reached e is)

  found-named : (printed : WitType → TypeExpr) → AllNamed printed → (part : TypeId) → Reached (wit.Id part) → (o : Option TypeDef) → slice_get r.types part.0 ≡ o → is_named_type (found_type printed o) ≡ true
  found-named printed below part reached None e = is_named-unit
  found-named printed below part reached (Some entry) e = entry-named part entry reached e printed below

  within-named : (levels : ℕ) → AllNamed (type_within r.types levels)
  within-named zero (wit.Id part) reached = is_named-unit
  within-named (suc levels) (wit.Id part) reached = found-named (type_within r.types levels) (within-named levels) part reached (slice_get r.types part.0) refl
  within-named zero ty reached = type-named ty
  within-named (suc levels) ty reached = type-named ty

  -- as a part
  pub part-named : (ty : WitType) → Reached ty → is_named_type (part_type r.types ty) ≡ true
  unfolding part_type
  part-named ty reached = within-named (levels_of ty) ty reached

  text-or-named : (b : Bool) (otherwise : TypeExpr) → is_named_type otherwise ≡ true → is_named_type (text_or b otherwise) ≡ true
  text-or-named b otherwise h = cond_both b (type.Ref type.Str) otherwise (λ p. is_named_type p ≡ true) (λ _. is_named-lent type.Str ∙ is_named-str) (λ _. h)

  lent-found-named : (lent : WitType → TypeExpr) → AllNamed lent → (part : TypeId) → Reached (wit.Id part) → (o : Option TypeDef) → slice_get r.types part.0 ≡ o → is_named_type (lent_found r.types lent o) ≡ true
  lent-found-named lent below part reached None e = is_named-unit
  lent-found-named lent below part reached (Some entry) e = lent-entry-named part entry reached e lent below part-named

  lent-by-named : (lent : WitType → TypeExpr) → AllNamed lent → AllNamed (lent_by r.types lent)
  lent-by-named lent below (wit.Id part) reached = lent-found-named lent below part reached (slice_get r.types part.0) refl
  lent-by-named lent below ty reached = type-named ty

  lent-within-named : (levels : ℕ) → AllNamed (lent_within r.types levels)
  lent-within-named zero ty reached = text-or-named (is_text r.types ty) (printed_type ty) (type-named ty)
  lent-within-named (suc levels) ty reached =
      text-or-named (is_text r.types ty) (lent_by r.types (lent_within r.types levels) ty) (lent-by-named (lent_within r.types levels) (lent-within-named levels) ty reached)

  lent-named : (ty : WitType) → Reached ty → is_named_type (lent_type r.types ty) ≡ true
  unfolding lent_type
  lent-named ty reached = lent-within-named (levels_of ty) ty reached

  -- as a parameter
  pub param-named : (ty : WitType) → Reached ty → is_named_type (param_type r.types ty) ≡ true
  param-named ty reached = cond_both (has_list r.types ty) (lent_type r.types ty) (part_type r.types ty) (λ p. is_named_type p ≡ true) (λ _. lent-named ty reached) (λ _. part-named ty reached)

-- a type itself, as a result and as a parameter

pub type-part-named : (r : Resolve) (ty : WitType) → IsWellFormed r → HasNamedParts r.types ty → is_named_type (part_type r.types ty) ≡ true
type-part-named r ty checked named = part-named r checked ty named ty reaches_itself

pub type-param-named : (r : Resolve) (ty : WitType) → IsWellFormed r → HasNamedParts r.types ty → is_named_type (param_type r.types ty) ≡ true
type-param-named r ty checked named = param-named r checked ty named ty reaches_itself
