-- Under which names the functions of the world's macro export: the WIT names, and names that no WIT name is.
use Rattle.std.proofs.Common.{◌≡◌, ℕ, Bool, true, false, cond, List, [], ◌∷◌, ◌++◌, Some, map, refl, sym, ap, ◌∙◌, append-nil}
use Rattle.std.specs.Prelude.{codes, filter, slice_get}
use Rattle.std.specs.List.{flat_map, list_all}
use Rattle.std.specs.Str.{bytes_eq}
use Rattle.std.proofs.lemmas.Bool.{and_from, and_parts}
use Rattle.std.proofs.lemmas.List.Elements.{filter-append}
use Rattle.std.proofs.lemmas.Slice.Eq.{bytes_eq-Decides}
use Rattle.wit_model.specs.Distinct.{is_distinct}
use Rattle.wit_model.specs.declared.function.Function.{Function}
use Rattle.wit_model.specs.declared.types.TypeDef.{TypeDef}
use Rattle.wit_model.specs.declared.world.WorldItem.TheVariants as entry
use Rattle.rust_tree.specs.declared.macros.ExportEntry.{ExportEntry}
use Rattle.gen_accept.specs.Area.{needs_return}
use Rattle.gen_accept.specs.Emitted.{functions_in}
use Rattle.type_defs.specs.ListedTypes.{Entries}
use Rattle.rust_gen.specs.Exported.{entries_of, export_entry, post_return_name, return_entry, where_returned}
use Rattle.gen_accept.specs.NameText.{is_written_entry, is_written_function, is_written_key}
use Rattle.type_defs.specs.WitForm.{is_name_char, is_nonempty, is_wit_form}
use Rattle.rust_gen.proofs.ItemLemmas.{alone-named}
use Rattle.wit_model.specs.Bytes.{Bytes}
use Rattle.wrapper_closing.proofs.NumberedIdents.{unlike}

-- the functions of written entries have written names
pub wit-forms : (entries : Entries) → list_all is_written_entry entries ≡ true → list_all (λ f. is_wit_form f.name.wit) (functions_in entries) ≡ true
wit-forms [] h = refl
wit-forms ((k, entry.Interface i) ∷ entries) h = wit-forms entries (and_parts (is_written_entry (k, entry.Interface i)) (list_all is_written_entry entries) h).1
wit-forms ((k, entry.Named i) ∷ entries) h = wit-forms entries (and_parts (is_written_entry (k, entry.Named i)) (list_all is_written_entry entries) h).1
wit-forms ((k, entry.Function f) ∷ entries) h =
    let parts = and_parts (is_written_entry (k, entry.Function f)) (list_all is_written_entry entries) h in
    let function = (and_parts (is_written_key k) (is_written_function f) parts.0).1 in
    and_from (is_wit_form f.name.wit) (list_all (λ f. is_wit_form f.name.wit) (functions_in entries)) (and_parts (is_wit_form f.name.wit) _ function).0 (wit-forms entries parts.1)

-- names

same-truth : (a b : Bytes) (c d : Bytes) → (a ≡ b → c ≡ d) → (c ≡ d → a ≡ b) → bytes_eq a b ≡ bytes_eq c d
same-truth a b c d f g = go (bytes_eq a b) (bytes_eq c d) refl refl
  where
    go : (x y : Bool) → bytes_eq a b ≡ x → bytes_eq c d ≡ y → bytes_eq a b ≡ bytes_eq c d
    go true true p q = p ∙ sym q
    go false false p q = p ∙ sym q
    go true false p q =
        let same : bytes_eq c d ≡ true = (bytes_eq-Decides c d).1 (f ((bytes_eq-Decides a b).0 p)) in
        absurd (cc)
    go false true p q =
        let same : bytes_eq a b ≡ true = (bytes_eq-Decides a b).1 (g ((bytes_eq-Decides c d).0 q)) in
        absurd (cc)

-- `_` stands in no WIT name
no_wit_name : (f : Function) (name : Bytes) → is_wit_form name ≡ true → post_return_name f ≡ name → ⊥
unfolding post_return_name
no_wit_name f name h e =
    let chars = (and_parts (is_nonempty name) (list_all is_name_char name) h).1 in
    let wrong : list_all is_name_char (post_return_name f) ≡ true = ap (list_all is_name_char) e ∙ chars in
    absurd (cc)

without_prefix : (f g : Function) → post_return_name g ≡ post_return_name f → g.name.wit ≡ f.name.wit
unfolding post_return_name
without_prefix f g e = cc

same-named : (f g : Function) → bytes_eq (post_return_name g) (post_return_name f) ≡ bytes_eq g.name.wit f.name.wit
unfolding post_return_name
same-named f g = same-truth (post_return_name g) (post_return_name f) g.name.wit f.name.wit (without_prefix f g) (λ e. ap (λ n. codes "cabi_post_" ++ n) e)

-- entries of a name are those of the functions that have it

module _ (types : List TypeDef) where
  picked : (p : ExportEntry → Bool) (q : Function → Bool) (pick : Function → List ExportEntry) (fs : List Function)
      → ((g : Function) → is_wit_form g.name.wit ≡ true → filter p (entries_of types g) ≡ cond (q g) (pick g) []) → list_all (λ f. is_wit_form f.name.wit) fs ≡ true
      → filter p (flat_map (entries_of types) fs) ≡ flat_map pick (filter q fs)
  picked p q pick [] h forms = refl
  picked p q pick (g ∷ fs) h forms =
      let parts = and_parts (is_wit_form g.name.wit) (list_all (λ f. is_wit_form f.name.wit) fs) forms in
      filter-append p (entries_of types g) (flat_map (entries_of types) fs) ∙ ap (λ es. es ++ filter p (flat_map (entries_of types) fs)) (h g parts.0) ∙ ap (λ es. cond (q g) (pick g) [] ++ es) (picked p q pick fs h parts.1) ∙ go (q g)
    where
      go : (b : Bool) → cond b (pick g) [] ++ flat_map pick (filter q fs) ≡ flat_map pick (cond b (g ∷ filter q fs) (filter q fs))
      go true = refl
      go false = refl

  -- under its WIT name a function is exported by its wrapper alone
  pub alone-wrapper : (fs : List Function) (nth : ℕ) (f : Function) → is_distinct (map (λ f. f.name.wit) fs) ≡ true → list_all (λ f. is_wit_form f.name.wit) fs ≡ true → slice_get fs nth ≡ Some f → is_wit_form f.name.wit ≡ true
      → filter (λ x. bytes_eq x.export_name f.name.wit) (flat_map (entries_of types) fs) ≡ export_entry types f ∷ []
  alone-wrapper fs nth f d forms e form =
      picked (λ x. bytes_eq x.export_name f.name.wit) (λ g. bytes_eq g.name.wit f.name.wit) (λ g. export_entry types g ∷ []) fs each forms
      ∙ ap (flat_map (λ g. export_entry types g ∷ [])) (alone-named (λ g. g.name.wit) fs nth f d e)
    where
      behind : (g : Function) (b : Bool) → filter (λ x. bytes_eq x.export_name f.name.wit) (cond b (return_entry types g ∷ []) []) ≡ []
      behind g true = ap (λ b. cond b (return_entry types g ∷ []) []) (unlike (post_return_name g) f.name.wit (no_wit_name g f.name.wit form))
      behind g false = refl

      each : (g : Function) → is_wit_form g.name.wit ≡ true → filter (λ x. bytes_eq x.export_name f.name.wit) (entries_of types g) ≡ cond (bytes_eq g.name.wit f.name.wit) (export_entry types g ∷ []) []
      each g h = ap (λ es. cond (bytes_eq g.name.wit f.name.wit) (export_entry types g ∷ es) es) (behind g (needs_return types g))

  -- under its post-return name by its post-return function, if it has one
  pub alone-return : (fs : List Function) (nth : ℕ) (f : Function) → is_distinct (map (λ f. f.name.wit) fs) ≡ true → list_all (λ f. is_wit_form f.name.wit) fs ≡ true → slice_get fs nth ≡ Some f
      → filter (λ x. bytes_eq x.export_name (post_return_name f)) (flat_map (entries_of types) fs) ≡ where_returned types f (return_entry types f)
  alone-return fs nth f d forms e =
      picked (λ x. bytes_eq x.export_name (post_return_name f)) (λ g. bytes_eq g.name.wit f.name.wit) (λ g. where_returned types g (return_entry types g)) fs each forms
      ∙ ap (flat_map (λ g. where_returned types g (return_entry types g))) (alone-named (λ g. g.name.wit) fs nth f d e)
      ∙ append-nil (where_returned types f (return_entry types f))
    where
      behind : (g : Function) (b c : Bool) → bytes_eq (post_return_name g) (post_return_name f) ≡ c → filter (λ x. bytes_eq x.export_name (post_return_name f)) (cond b (return_entry types g ∷ []) []) ≡ cond c (cond b (return_entry types g ∷ []) []) []
      behind g true c h = ap (λ b. cond b (return_entry types g ∷ []) []) h ∙ go c
        where
          go : (c : Bool) → cond c (return_entry types g ∷ []) [] ≡ cond c (return_entry types g ∷ []) []
          go c = refl
      behind g false true h = refl
      behind g false false h = refl

      each : (g : Function) → is_wit_form g.name.wit ≡ true → filter (λ x. bytes_eq x.export_name (post_return_name f)) (entries_of types g) ≡ cond (bytes_eq g.name.wit f.name.wit) (where_returned types g (return_entry types g)) []
      each g h =
          ap (λ b. cond b (export_entry types g ∷ rest g) (rest g)) (unlike g.name.wit (post_return_name f) (λ e. no_wit_name f g.name.wit h (sym e)))
          ∙ behind g (needs_return types g) (bytes_eq g.name.wit f.name.wit) (same-named f g)
        where
          rest : Function → List ExportEntry
          rest g = filter (λ x. bytes_eq x.export_name (post_return_name f)) (where_returned types g (return_entry types g))
