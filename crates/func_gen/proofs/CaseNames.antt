-- The cases of a variant of the file have the numbers of their places.
use Rattle.std.proofs.Common.{◌≡◌, ◌+◌, ◌<◌, ◌^◌, ◌++◌, ◌||◌, ℕ, suc, Bool, true, false, cond, not, List, [], ◌∷◌, length, map, Option, None, Some, is_some, refl, sym, ap, ◌∙◌, subst, arith, append_assoc}
use Rattle.std.specs.Prelude.{nat_lt, option_and_then, position}
use Rattle.std.specs.List.{AllByRecursion, list_any, position_or_len}
use Rattle.std.specs.Option.{option_map}
use Rattle.std.specs.Str.{bytes_eq}
use Rattle.std.proofs.lemmas.Bool.{and_parts, lt-ltb}
use Rattle.std.proofs.lemmas.List.{length-append, length-map}
use Rattle.std.proofs.lemmas.Slice.Eq.{bytes_eq-Decides}
use Rattle.wit_model.specs.Bytes.{Bytes}
use Rattle.wit_model.specs.Distinct.{is_distinct}
use Rattle.wit_model.specs.declared.types.Case.{Case}
use Rattle.wit_model.specs.declared.types.TypeDef.{TypeDef}
use Rattle.wit_model.specs.declared.types.TypeDefKind.TheVariants as kind
use Rattle.wit_model.specs.declared.types.WitType.{WitType}
use Rattle.rust_tree.specs.declared.item.Item.{Item}
use Rattle.rust_tree.specs.declared.type_item.TypeItem.{TypeItem}
use Rattle.rust_tree.specs.declared.type_item.TypeItem.TheVariants.{Alias, Enum, Flags, Struct, Variant}
use Rattle.rust_tree.specs.declared.variant_item.VariantCase.{VariantCase}
use Rattle.rust_tree.specs.declared.variant_item.VariantItem.{VariantItem}
use Rattle.wrapper_meaning.specs.Shape.{is_nothing, payload_in, payloads_in, shape_of, shapes}
use Rattle.wrapper_meaning.proofs.Lists.{some_same}
use Rattle.abi_bindgen.specs.Cases.{case_shapes, payloads_at, payloads_of, payloads_or}
use Rattle.wrapper_values.specs.Enums.{enum_in, is_enum}
use Rattle.wrapper_values.specs.Fields.{type_named}
use Rattle.wrapper_values.specs.Variants.{case_number, in_32_bits, number_at_root, number_in, number_in_variant}
use Rattle.wrapper_run.proofs.LocalLemmas.{bytes_eq-same}
use Rattle.func_gen.specs.declared.case_form.CaseForm.{CaseForm}
use Rattle.func_gen.specs.declared.type_site.TypeSite.{TypeSite}
use Rattle.func_gen.specs.declared.type_site.TypeSite.TheVariants as site
use Rattle.func_gen.specs.declared.variant_site.VariantSite.{VariantSite}
use Rattle.func_gen.specs.CaseForms.{AreVariantForms, IsSome, member_form, member_forms, member_path, variant_site_in}
use Rattle.func_gen.specs.MatchForms.{case_path}
use Rattle.func_gen.specs.TypeSites.{AreDefined, Defines, DefinesVariant, HasCaseNames, case_names, variant_in}
use Rattle.func_gen.proofs.CaseArms.{AreNumbered}
use Rattle.func_gen.proofs.CaseFits.{full_fits, kind_shapes}
use Rattle.func_gen.proofs.CaseRows.{FitForms, FitsForm}
use Rattle.func_gen.proofs.FieldOrder.{defined_as}

-- 1. Places of names

there_behind : (pre : List Bytes) (n : Bytes) (rest : List Bytes) → list_any (λ u. bytes_eq u n) (pre ++ n ∷ rest) ≡ true
there_behind [] n rest = ap (λ b. b || list_any (λ u. bytes_eq u n) rest) (bytes_eq-same n)
there_behind (p ∷ pre) n rest = either (bytes_eq p n) (there_behind pre n rest)
  where
    either : (b : Bool) → list_any (λ u. bytes_eq u n) (pre ++ n ∷ rest) ≡ true → (b || list_any (λ u. bytes_eq u n) (pre ++ n ∷ rest)) ≡ true
    either true h = refl
    either false h = h

other_first : (p n : Bytes) (names : List Bytes) → list_any (λ u. bytes_eq u p) names ≡ false → list_any (λ u. bytes_eq u n) names ≡ true → bytes_eq p n ≡ false
other_first p n names out there = go (bytes_eq p n) refl
  where
    go : (c : Bool) → bytes_eq p n ≡ c → c ≡ false
    go false e = refl
    go true e = absurd (let no : true ≡ false = sym there ∙ ap (λ m. list_any (λ u. bytes_eq u m) names) (sym ((bytes_eq-Decides p n).0 e)) ∙ out in cc)

not_true : (b : Bool) → not b ≡ true → b ≡ false
not_true false h = refl
not_true true h = absurd cc

place_from : (xs : List VariantCase) (pre : List Bytes) (n : Bytes) (rest : List Bytes) → map (λ (c : VariantCase). c.name) xs ≡ pre ++ n ∷ rest → is_distinct (pre ++ n ∷ rest) ≡ true → position_or_len (λ (c : VariantCase). bytes_eq c.name n) xs ≡ length pre
place_from [] [] n rest e d = absurd cc
place_from [] (p ∷ pre) n rest e d = absurd cc
place_from (x ∷ xs) [] n rest e d =
    let is : x.name ≡ n = cc in
    ap (λ b. cond (not b) (1 + position_or_len (λ (c : VariantCase). bytes_eq c.name n) xs) 0) (ap (λ m. bytes_eq m n) is ∙ bytes_eq-same n)
place_from (x ∷ xs) (p ∷ pre) n rest e d =
    let is : x.name ≡ p = cc in
    let more : map (λ (c : VariantCase). c.name) xs ≡ pre ++ n ∷ rest = cc in
    let two = and_parts (not (list_any (λ u. bytes_eq u p) (pre ++ n ∷ rest))) (is_distinct (pre ++ n ∷ rest)) d in
    let other : bytes_eq x.name n ≡ false = ap (λ m. bytes_eq m n) is ∙ other_first p n (pre ++ n ∷ rest) (not_true (list_any (λ u. bytes_eq u p) (pre ++ n ∷ rest)) two.0) (there_behind pre n rest) in
    let later : 1 + position_or_len (λ (c : VariantCase). bytes_eq c.name n) xs ≡ suc (length pre) = omega (arith, place_from xs pre n rest more two.1) in
    ap (λ b. cond (not b) (1 + position_or_len (λ (c : VariantCase). bytes_eq c.name n) xs) 0) other ∙ later

place_of : (xs : List VariantCase) (pre : List Bytes) (n : Bytes) (rest : List Bytes) → map (λ (c : VariantCase). c.name) xs ≡ pre ++ n ∷ rest → is_distinct (pre ++ n ∷ rest) ≡ true → position (λ (c : VariantCase). bytes_eq c.name n) xs ≡ Some (length pre)
place_of xs pre n rest e d =
    let at = place_from xs pre n rest e d in
    let many : length xs ≡ length (pre ++ n ∷ rest) = sym (length-map xs (λ (c : VariantCase). c.name)) ∙ ap length e in
    ap (λ k. cond (nat_lt k (length xs)) (Some k) None) at ∙ ap (λ b. cond b (Some (length pre)) None) (lt-ltb (length pre) (length xs) (omega (arith, many, length-append pre (n ∷ rest))))

-- 2. Numbers of cases

low_number : (k n : ℕ) → k < n → n < 2 ^ 32 → in_32_bits k ≡ Some k
low_number k n below small = ap (λ b. cond b (Some k) None) (lt-ltb k (2 ^ 32) (omega (arith, below, small)))

length-names : (v : VariantItem) → length (case_names v) ≡ length v.cases
length-names v = length-map v.cases (λ (c : VariantCase). c.name)

module _ (items : List Item) (ty : Bytes) (cases : List Bytes) (has : HasCaseNames items cases (Some ty)) (distinct : is_distinct cases ≡ true) (small : length cases < 2 ^ 32) where
  case_at : (pre : List Bytes) (n : Bytes) (rest : List Bytes) → cases ≡ pre ++ n ∷ rest → number_at_root items ty n ≡ Some (length pre)
  unfolding number_in_variant
  case_at pre n rest e = go (type_named items ty) has
    where
      below : length pre < length cases
      below = omega (arith, ap length e, length-append pre (n ∷ rest))

      go : (o : Option TypeItem) → option_map case_names (variant_in o) ≡ Some cases → number_in n o ≡ Some (length pre)
      go (Some (Variant v)) h =
          let names : case_names v ≡ cases = some_same (case_names v) cases h in
          ap (option_and_then in_32_bits) (place_of v.cases pre n rest (names ∙ e) (ap is_distinct (sym e) ∙ distinct)) ∙ low_number (length pre) (length cases) below small
      go (Some (Struct s)) h = absurd cc
      go (Some (Alias a)) h = absurd cc
      go (Some (Enum x)) h = absurd cc
      go (Some (Flags f)) h = absurd cc
      go None h = absurd cc

  form_number : (case : Bytes) (payload : Option WitType) → case_number items (case_path (member_form ty case payload)) ≡ number_at_root items ty case
  form_number case None = refl
  form_number case (Some p) = refl

  -- from a place on
  numbers_from : (pre names : List Bytes) (members : List Case) → cases ≡ pre ++ names → length names ≡ length members → AreNumbered items (length pre) (member_forms ty names members)
  numbers_from pre [] [] e many = tt
  numbers_from pre [] (c ∷ members) e many = tt
  numbers_from pre (n ∷ names) [] e many = tt
  numbers_from pre (n ∷ names) (c ∷ members) e many =
      let next : cases ≡ (pre ++ n ∷ []) ++ names = e ∙ sym (append_assoc pre (n ∷ []) names) in
      let place : length (pre ++ n ∷ []) ≡ suc (length pre) = omega (arith, length-append pre (n ∷ [])) in
      (form_number n c.ty ∙ case_at pre n names e, subst (λ k. AreNumbered items k (member_forms ty names members)) place (numbers_from (pre ++ n ∷ []) names members next (omega (arith, many))))

  pub member_numbers : (members : List Case) → length cases ≡ length members → AreNumbered items 0 (member_forms ty cases members)
  member_numbers members many = numbers_from [] cases members refl many

-- 3. Payloads

member_fits : (types : List TypeDef) (ty case : Bytes) (payload : Option WitType) → IsSome types payload → FitsForm (is_nothing (payload_in (shapes types) payload)) (member_form ty case payload)
member_fits types ty case None some = tt
member_fits types ty case (Some p) some = full_fits (is_nothing (shape_of types p)) (member_path ty case) some

pub members_fit : (types : List TypeDef) (ty : Bytes) (names : List Bytes) (members : List Case) → length names ≡ length members → AllByRecursion (λ (c : Case). IsSome types c.ty) members
    → FitForms (payloads_in (shapes types) (map (λ (c : Case). c.ty) members)) (member_forms ty names members)
members_fit types ty [] [] many some = tt
members_fit types ty [] (c ∷ members) many some = absurd (omega (arith, many))
members_fit types ty (n ∷ names) [] many some = absurd (omega (arith, many))
members_fit types ty (n ∷ names) (c ∷ members) many some = (member_fits types ty n c.ty some.0, members_fit types ty names members (omega (arith, many)) some.1)

pub members_count : (ty : Bytes) (names : List Bytes) (members : List Case) → length names ≡ length members → length (member_forms ty names members) ≡ length members
members_count ty [] [] many = refl
members_count ty [] (c ∷ members) many = absurd (omega (arith, many))
members_count ty (n ∷ names) [] many = absurd (omega (arith, many))
members_count ty (n ∷ names) (c ∷ members) many = ap suc (members_count ty names members (omega (arith, many)))

-- 4. The forms of a site

variant_defined : (items : List Item) (t : TypeSite) (s : VariantSite) → Defines items t → variant_site_in t ≡ Some s → DefinesVariant items s
variant_defined items (site.Record r) s d is = absurd cc
variant_defined items (site.Enum r) s d is = absurd cc
variant_defined items (site.Flags r) s d is = absurd cc
variant_defined items (site.Variant r) s d is = subst (DefinesVariant items) (some_same r s is) d

no_enum : (t : Option TypeItem) (cases : List Bytes) → option_map case_names (variant_in t) ≡ Some cases → is_some (enum_in t) ≡ false
no_enum None cases h = refl
no_enum (Some (Enum e)) cases h = absurd cc
no_enum (Some (Struct r)) cases h = refl
no_enum (Some (Alias a)) cases h = refl
no_enum (Some (Flags f)) cases h = refl
no_enum (Some (Variant v)) cases h = refl

module _ (types : List TypeDef) (sites : List (Option TypeSite)) (id : ℕ) (forms : List CaseForm) (f : AreVariantForms types sites id forms) where
  defined : (items : List Item) → AreDefined items sites → DefinesVariant items f.site
  defined items all = defined_as items variant_site_in (DefinesVariant items) (variant_defined items) sites id f.site all f.at

  pub variant_numbers : (items : List Item) → AreDefined items sites → AreNumbered items 0 forms
  variant_numbers items all =
      let d = defined items all in
      let has = subst (HasCaseNames items f.site.cases) f.root d.lowered in
      subst (AreNumbered items 0) (sym f.are) (member_numbers items f.name f.site.cases has d.distinct (omega (arith, f.many, f.low)) f.members f.many)

  pub variant_no_enum : (items : List Item) → AreDefined items sites → is_enum items f.name ≡ false
  variant_no_enum items all = no_enum (type_named items f.name) f.site.cases (subst (HasCaseNames items f.site.cases) f.root (defined items all).lowered)

  pub variant_fits : FitForms (case_shapes types id) forms
  variant_fits = subst (λ ts. FitForms ts forms) (sym (kind_shapes types id (kind.Variant f.members) f.kind)) (subst (FitForms (payloads_in (shapes types) (map (λ (c : Case). c.ty) f.members))) (sym f.are) (members_fit types f.name f.site.cases f.members f.many f.some))

  pub each_formed : length forms ≡ length f.members
  each_formed = ap length f.are ∙ members_count f.name f.site.cases f.members f.many

  pub variant_count : length (payloads_at types id) ≡ length forms
  variant_count = ap length (ap payloads_or f.kind.stands ∙ ap payloads_of f.kind.kind) ∙ length-map f.members (λ (c : Case). c.ty) ∙ sym each_formed

  pub variant_low : length forms < 2 ^ 32
  variant_low = omega (arith, each_formed, f.low)
