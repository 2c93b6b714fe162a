-- Fields that are written in the order of their struct are arranged as they stand.
use Rattle.std.proofs.Common.{◌≡◌, ℕ, zero, suc, Bool, true, false, cond, not, ◌&&◌, ◌||◌, List, [], ◌∷◌, ◌++◌, length, map, Option, None, Some, refl, sym, ap, ap₂, ◌∙◌, subst, arith}
use Rattle.std.specs.Prelude.{decimal, find, option_and_then, zip}
use Rattle.std.specs.List.{list_any}
use Rattle.std.specs.Option.{option_map}
use Rattle.std.specs.Str.{bytes_eq}
use Rattle.std.proofs.lemmas.Bool.{and_parts, eq-eqb, not-true, or_parts}
use Rattle.std.proofs.lemmas.List.{append_cancel_right}
use Rattle.std.proofs.lemmas.Slice.Eq.{bytes_eq-Decides}
use Rattle.wit_model.specs.Bytes.{Bytes}
use Rattle.wit_model.specs.Distinct.{is_distinct}
use Rattle.rust_tree.specs.declared.item.Item.{Item}
use Rattle.rust_tree.specs.declared.path.Path.{Path}
use Rattle.rust_tree.specs.declared.repr.Repr.{Repr}
use Rattle.rust_tree.specs.declared.type_item.StructField.{StructField}
use Rattle.wrapper_meaning.proofs.Lists.{some_same}
use Rattle.wrapper_run.proofs.LocalLemmas.{bytes_eq-same}
use Rattle.wrapper_values.specs.Enums.{enum_in}
use Rattle.wrapper_values.specs.Flags.{flags_in}
use Rattle.wrapper_values.specs.Fields.{arranged, arranged_by, each_named, field_named, fields_in, in_order, root_name, type_named}
use Rattle.func_gen.specs.declared.record_site.RecordSite.{RecordSite}
use Rattle.func_gen.specs.declared.scope.Scope.{Scope}
use Rattle.func_gen.specs.declared.type_site.TypeSite.{TypeSite}
use Rattle.func_gen.specs.declared.type_site.TypeSite.TheVariants as site
use Rattle.func_gen.specs.RecordForms.{DeclaresFields, locals_for, record_at, record_in}
use Rattle.func_gen.specs.TypeSites.{AreDefined, Defines, DefinesRecord, HasCaseNames, HasCases, HasFields, HasMembers, case_names, field_names, held_cases, held_members, site_at, variant_in}

-- 1. The order

other_field : (n k : Bytes) → bytes_eq k n ≡ false → bytes_eq n k ≡ false
other_field n k e = go (bytes_eq n k) refl
  where
    go : (c : Bool) → bytes_eq n k ≡ c → c ≡ false
    go false f = refl
    go true f = absurd (let no : true ≡ false = sym (ap (λ m. bytes_eq m n) (sym ((bytes_eq-Decides n k).0 f)) ∙ bytes_eq-same n) ∙ e in cc)

-- a field of another name is passed over
passed_over : {A : Type 0} (of : List StructField) (n : Bytes) (x : A) (more : List (Bytes × A)) → list_any (λ u. bytes_eq u n) (field_names of) ≡ false → each_named of ((n, x) ∷ more) ≡ each_named of more
passed_over [] n x more h = refl
passed_over {A} (f ∷ of) n x more h =
    let two = or_parts (bytes_eq f.name n) (list_any (λ u. bytes_eq u n) (field_names of)) h in
    let here : field_named f.name ((n, x) ∷ more) ≡ field_named f.name more = ap (λ c. option_map (λ (g : Bytes × A). g.1) (cond c (Some (n, x)) (find (λ (g : Bytes × A). bytes_eq g.0 f.name) more))) (other_field n f.name two.0) in
    ap₂ (λ (o : Option A) (rest : Option (List A)). option_and_then (λ a. option_map (λ xs. a ∷ xs) rest) o) here (passed_over of n x more two.1)

each_in_order : {A : Type 0} (of : List StructField) (xs : List A) → is_distinct (field_names of) ≡ true → length of ≡ length xs → each_named of (zip (field_names of) xs) ≡ Some xs
each_in_order [] [] d len = refl
each_in_order [] (x ∷ xs) d len = absurd (omega (arith, len))
each_in_order (f ∷ of) [] d len = absurd (omega (arith, len))
each_in_order {A} (f ∷ of) (x ∷ xs) d len =
    let two = and_parts (not (list_any (λ u. bytes_eq u f.name) (field_names of))) (is_distinct (field_names of)) d in
    let more = zip (field_names of) xs in
    let here : field_named f.name ((f.name, x) ∷ more) ≡ Some x = ap (λ c. option_map (λ (g : Bytes × A). g.1) (cond c (Some (f.name, x)) (find (λ (g : Bytes × A). bytes_eq g.0 f.name) more))) (bytes_eq-same f.name) in
    let later = passed_over of f.name x more (not-true (list_any (λ u. bytes_eq u f.name) (field_names of)) two.0) ∙ each_in_order of xs two.1 (omega (arith, len)) in
    ap₂ (λ (o : Option A) (rest : Option (List A)). option_and_then (λ a. option_map (λ xs. a ∷ xs) rest) o) here later

length-zip : {A B : Type 0} (ns : List A) (xs : List B) → length ns ≡ length xs → length (zip ns xs) ≡ length ns
length-zip [] xs len = refl
length-zip (n ∷ ns) [] len = absurd (omega (arith, len))
length-zip (n ∷ ns) (x ∷ xs) len = ap suc (length-zip ns xs (omega (arith, len)))

seconds : {A B : Type 0} (ns : List A) (xs : List B) → length ns ≡ length xs → map (λ (f : A × B). f.1) (zip ns xs) ≡ xs
seconds [] [] len = refl
seconds [] (x ∷ xs) len = absurd (omega (arith, len))
seconds (n ∷ ns) [] len = absurd (omega (arith, len))
seconds (n ∷ ns) (x ∷ xs) len = ap (λ ys. x ∷ ys) (seconds ns xs (omega (arith, len)))

length-names : (of : List StructField) → length (field_names of) ≡ length of
length-names [] = refl
length-names (f ∷ of) = ap suc (length-names of)

all_in_order : {A : Type 0} (of : List StructField) (xs : List A) → is_distinct (field_names of) ≡ true → length (field_names of) ≡ length xs → in_order of (zip (field_names of) xs) ≡ Some xs
all_in_order of xs d len =
    let same : length of ≡ length (zip (field_names of) xs) = sym (length-zip (field_names of) xs len ∙ length-names of) in
    ap (λ c. cond c (each_named of (zip (field_names of) xs)) None) (eq-eqb (length of) (length (zip (field_names of) xs)) same) ∙ each_in_order of xs d (sym (length-names of) ∙ len)

-- what stands for fields in the order of their struct is arranged so
pub arranged_fields : {A : Type 0} (items : List Item) (path : Path) (fields : List Bytes) (xs : List A) → HasFields items fields (root_name path) → is_distinct fields ≡ true → length fields ≡ length xs → arranged items path (zip fields xs) ≡ Some xs
arranged_fields {A} items path fields xs has d len = go (root_name path) has
  where
    ordered : (o : Option (List StructField)) → option_map field_names o ≡ Some fields → option_and_then (λ of. in_order of (zip fields xs)) o ≡ Some xs
    ordered None h = absurd cc
    ordered (Some of) h =
        let same : field_names of ≡ fields = some_same (field_names of) fields h in
        ap (λ ns. in_order of (zip ns xs)) (sym same) ∙ all_in_order of xs (ap is_distinct same ∙ d) (ap length same ∙ len)

    go : (o : Option Bytes) → HasFields items fields o → arranged_by items o (zip fields xs) ≡ Some xs
    go None h = ap Some (seconds fields xs len)
    go (Some name) h = ordered (fields_in (type_named items name)) h

-- 2. The record of a site

-- what holds of each site that is defined holds of one that is looked up
pub defined_as : {S : Type 0} (items : List Item) (one : TypeSite → Option S) (D : S → Type 0) → ((t : TypeSite) (s : S) → Defines items t → one t ≡ Some s → D s) → (sites : List (Option TypeSite)) (id : ℕ) (s : S) → AreDefined items sites → option_and_then one (site_at sites id) ≡ Some s → D s
defined_as items one D is [] id s all at = absurd cc
defined_as items one D is (None ∷ sites) zero s all at = absurd cc
defined_as items one D is (Some t ∷ sites) zero s all at = is t s all.0 at
defined_as items one D is (None ∷ sites) (suc id) s all at = defined_as items one D is sites id s all.1 at
defined_as items one D is (Some t ∷ sites) (suc id) s all at = defined_as items one D is sites id s all.1 at

record_defined : (items : List Item) (t : TypeSite) (r : RecordSite) → Defines items t → record_in t ≡ Some r → DefinesRecord items r
record_defined items (site.Record s) r d is = subst (DefinesRecord items) (some_same s r is) d
record_defined items (site.Enum s) r d is = absurd cc
record_defined items (site.Flags s) r d is = absurd cc
record_defined items (site.Variant s) r d is = absurd cc

pub defined_at : (items : List Item) (sites : List (Option TypeSite)) (id : ℕ) (r : RecordSite) → AreDefined items sites → record_at sites id ≡ Some r → DefinesRecord items r
defined_at items = defined_as items record_in (DefinesRecord items) (record_defined items)

-- where the same names are defined alike
pub still_defined : (items all : List Item) → ((name : Bytes) → type_named all name ≡ type_named items name) → (sites : List (Option TypeSite)) → AreDefined items sites → AreDefined all sites
still_defined items all same = each
  where
    still : (fields : List Bytes) (o : Option Bytes) → HasFields items fields o → HasFields all fields o
    still fields None h = tt
    still fields (Some name) h = ap (λ t. option_map field_names (fields_in t)) (same name) ∙ h

    of_cases : (held : Repr × ℕ) (o : Option Bytes) → HasCases items held o → HasCases all held o
    of_cases held None h = tt
    of_cases held (Some name) h = ap (λ t. option_map held_cases (enum_in t)) (same name) ∙ h

    of_members : (held : Repr × ℕ) (o : Option Bytes) → HasMembers items held o → HasMembers all held o
    of_members held None h = tt
    of_members held (Some name) h = ap (λ t. option_map held_members (flags_in t)) (same name) ∙ h

    of_names : (cases : List Bytes) (o : Option Bytes) → HasCaseNames items cases o → HasCaseNames all cases o
    of_names cases None h = tt
    of_names cases (Some name) h = ap (λ t. option_map case_names (variant_in t)) (same name) ∙ h

    of_site : (s : TypeSite) → Defines items s → Defines all s
    of_site (site.Record s) d = record { lifted = still s.fields (root_name s.lifted) d.lifted; lowered = still s.fields (root_name s.lowered) d.lowered; distinct = d.distinct }
    of_site (site.Enum s) d = of_cases (s.repr, s.cases) (root_name s.path) d
    of_site (site.Flags s) d = of_members (s.repr, s.members) (root_name s.path) d
    of_site (site.Variant s) d = record { lifted = of_names s.cases (root_name s.lifted) d.lifted; lowered = of_names s.cases (root_name s.lowered) d.lowered; distinct = d.distinct }

    each : (sites : List (Option TypeSite)) → AreDefined items sites → AreDefined all sites
    each [] h = tt
    each (None ∷ sites) h = (tt, each sites h.1)
    each (Some s ∷ sites) h = (of_site s h.0, each sites h.1)

-- 3. Names of locals

appended_same : (n k end : Bytes) → bytes_eq (n ++ end) (k ++ end) ≡ bytes_eq n k
appended_same n k end = go (bytes_eq n k) refl
  where
    differ : bytes_eq n k ≡ false → (b : Bool) → bytes_eq (n ++ end) (k ++ end) ≡ b → b ≡ false
    differ e false f = refl
    differ e true f =
        let same : n ≡ k = append_cancel_right n k end ((bytes_eq-Decides (n ++ end) (k ++ end)).0 f) in
        absurd (let no : true ≡ false = sym (ap (bytes_eq n) (sym same) ∙ bytes_eq-same n) ∙ e in cc)

    go : (c : Bool) → bytes_eq n k ≡ c → bytes_eq (n ++ end) (k ++ end) ≡ c
    go true e = ap (λ m. bytes_eq (n ++ end) (m ++ end)) (sym ((bytes_eq-Decides n k).0 e)) ∙ bytes_eq-same (n ++ end)
    go false e = differ e (bytes_eq (n ++ end) (k ++ end)) refl

any_appended : (ns : List Bytes) (n end : Bytes) → list_any (λ u. bytes_eq u (n ++ end)) (map (λ f. f ++ end) ns) ≡ list_any (λ u. bytes_eq u n) ns
any_appended [] n end = refl
any_appended (k ∷ ns) n end = ap₂ (λ b c. b || c) (appended_same k n end) (any_appended ns n end)

pub locals_distinct : (fields : List Bytes) (t : ℕ) → is_distinct fields ≡ true → is_distinct (locals_for fields t) ≡ true
locals_distinct fields t d = all fields ∙ d
  where
    all : (ns : List Bytes) → is_distinct (locals_for ns t) ≡ is_distinct ns
    all [] = refl
    all (n ∷ ns) = ap₂ (λ b c. not b && c) (any_appended ns n (decimal t)) (all ns)

pub fields_named : {before after : Scope} {fields names : List Bytes} (d : DeclaresFields before fields names after) → names ≡ locals_for fields d.declares.number
fields_named d = d.declares.are ∙ d.named d.declares.number

pub locals_many : (fields : List Bytes) (t : ℕ) → length (locals_for fields t) ≡ length fields
locals_many [] t = refl
locals_many (n ∷ ns) t = ap suc (locals_many ns t)
