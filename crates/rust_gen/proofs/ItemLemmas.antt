-- What is found in the items of a world's file: the items of `_rt`, the methods, the wrappers and the export names.
use Rattle.std.proofs.Common.{◌≡◌, ℕ, zero, suc, Bool, true, false, cond, not, ◌||◌, ◌&&◌, List, ◌∷◌, ◌++◌, Option, None, Some, map, refl, sym, ap, subst, ◌∙◌, append-nil, []}
use Rattle.std.specs.Prelude.{filter, find, slice_get}
use Rattle.std.specs.List.{flat_map, list_any}
use Rattle.std.specs.Option.{option_or}
use Rattle.std.specs.Str.{bytes_eq}
use Rattle.std.proofs.lemmas.Bool.{and_parts, not-true, or_parts}
use Rattle.std.proofs.lemmas.Slice.Eq.{bytes_eq-Decides}
use Rattle.wit_model.specs.declared.function.Function.{Function}
use Rattle.wit_model.specs.Distinct.{is_distinct}
use Rattle.rust_tree.specs.declared.area.StaticArea.{StaticArea}
use Rattle.rust_tree.specs.declared.macros.ModuleMacro.{ModuleMacro}
use Rattle.rust_tree.specs.declared.macros.RootMacro.{RootMacro}
use Rattle.rust_tree.specs.declared.trait_item.TraitFn.{TraitFn}
use Rattle.rust_tree.specs.declared.trait_item.TraitItem.{TraitItem}
use Rattle.rust_tree.specs.declared.item.FnItem.{FnItem}
use Rattle.rust_tree.specs.declared.item.Item.{Item}
use Rattle.rust_tree.specs.declared.runtime_item.RuntimeItem.{RuntimeItem}
use Rattle.wrapper_run.specs.Entries.{entries_in}
use Rattle.wrapper_values.specs.Owning.{listed}
use Rattle.wrapper_run.specs.Places.{area_in}
use Rattle.wrapper_run.specs.ExportRun.{method_in, method_named, method_of}
use Rattle.wrapper_run.specs.Run.{found_in, runtime_item_named, bound}
use Rattle.wrapper_run.proofs.LocalLemmas.{bytes_eq-same, option_or-assoc}
use Rattle.rust_gen.specs.Bound.{Parts, area_items, export_items}
use Rattle.rust_gen.specs.Exported.{where_any}
use Rattle.rust_gen.specs.Runtime.{runtime_module}
use Rattle.rust_tree.specs.declared.item.Item.TheVariants as item
use Rattle.wit_model.specs.Bytes.{Bytes}

-- items of `_rt`

pub runtime-append : (xs ys : List Item) (name : Bytes) → runtime_item_named (xs ++ ys) name ≡ option_or (runtime_item_named xs name) (runtime_item_named ys name)
runtime-append [] ys name = refl
runtime-append (x ∷ xs) ys name = ap (option_or (found_in x name)) (runtime-append xs ys name) ∙ sym (option_or-assoc (found_in x name) (runtime_item_named xs name) (runtime_item_named ys name))

no_runtime-imports : (ws : List FnItem) (name : Bytes) → runtime_item_named (map item.Import ws) name ≡ None
no_runtime-imports [] name = refl
no_runtime-imports (w ∷ ws) name = no_runtime-imports ws name

no_runtime-exports : (es : List Parts) (name : Bytes) → runtime_item_named (flat_map export_items es) name ≡ None
no_runtime-exports [] name = refl
no_runtime-exports ((e, None, a) ∷ es) name = no_runtime-exports es name
no_runtime-exports ((e, Some p, a) ∷ es) name = no_runtime-exports es name

no_runtime-area : (o : Option StaticArea) (name : Bytes) → runtime_item_named (area_items o) name ≡ None
no_runtime-area None name = refl
no_runtime-area (Some a) name = refl

no_runtime-trait : (fs : List Function) (t : TraitItem) (m : ModuleMacro) (name : Bytes) → runtime_item_named (where_any fs (item.Trait t ∷ item.ModuleMacro m ∷ [])) name ≡ None
no_runtime-trait [] t m name = refl
no_runtime-trait (f ∷ fs) t m name = refl

-- an item of the module is found in the file
pub runtime-found : (ws : List FnItem) (es : List Parts) (fs : List Function) (o : Option StaticArea) (t : TraitItem) (m : ModuleMacro) (asked : List RuntimeItem) (last : List Item) (name : Bytes) (x : RuntimeItem)
    → runtime_item_named (runtime_module asked) name ≡ Some x
    → runtime_item_named (map item.Import ws ++ (flat_map export_items es ++ (where_any fs (item.Trait t ∷ item.ModuleMacro m ∷ []) ++ (area_items o ++ (runtime_module asked ++ last))))) name ≡ Some x
runtime-found ws es fs o t m asked last name x h =
    past (map item.Import ws) (flat_map export_items es ++ (traits ++ (area_items o ++ behind))) (no_runtime-imports ws name)
    ∙ past (flat_map export_items es) (traits ++ (area_items o ++ behind)) (no_runtime-exports es name)
    ∙ past traits (area_items o ++ behind) (no_runtime-trait fs t m name) ∙ past (area_items o) behind (no_runtime-area o name)
    ∙ runtime-append (runtime_module asked) last name ∙ ap (λ o. option_or o (runtime_item_named last name)) h
  where
    traits : List Item
    traits = where_any fs (item.Trait t ∷ item.ModuleMacro m ∷ [])

    behind : List Item
    behind = runtime_module asked ++ last

    past : (xs ys : List Item) → runtime_item_named xs name ≡ None → runtime_item_named (xs ++ ys) name ≡ runtime_item_named ys name
    past xs ys e = runtime-append xs ys name ∙ ap (λ o. option_or o (runtime_item_named ys name)) e

-- methods

method-append : (xs ys : List Item) (bound name : Bytes) → method_named (xs ++ ys) bound name ≡ option_or (method_named xs bound name) (method_named ys bound name)
method-append [] ys bound name = refl
method-append (x ∷ xs) ys bound name =
    ap (option_or (method_of x bound name)) (method-append xs ys bound name) ∙ sym (option_or-assoc (method_of x bound name) (method_named xs bound name) (method_named ys bound name))

no_method-imports : (ws : List FnItem) (bound name : Bytes) → method_named (map item.Import ws) bound name ≡ None
no_method-imports [] bound name = refl
no_method-imports (w ∷ ws) bound name = no_method-imports ws bound name

no_method-exports : (es : List Parts) (bound name : Bytes) → method_named (flat_map export_items es) bound name ≡ None
no_method-exports [] bound name = refl
no_method-exports ((e, None, a) ∷ es) bound name = no_method-exports es bound name
no_method-exports ((e, Some p, a) ∷ es) bound name = no_method-exports es bound name

-- a function of the trait is found in the file
pub method-found : (ws : List FnItem) (es : List Parts) (f : Function) (fs : List Function) (t : TraitItem) (m : ModuleMacro) (behind : List Item) (name : Bytes) (x : TraitFn) → method_in t.functions name ≡ Some x
    → method_named (map item.Import ws ++ (flat_map export_items es ++ (where_any (f ∷ fs) (item.Trait t ∷ item.ModuleMacro m ∷ []) ++ behind))) t.name name ≡ Some x
method-found ws es f fs t m behind name x h =
    let traits : List Item = item.Trait t ∷ item.ModuleMacro m ∷ [] in
    method-append (map item.Import ws) (flat_map export_items es ++ (traits ++ behind)) t.name name ∙ ap (λ o. option_or o (method_named (flat_map export_items es ++ (traits ++ behind)) t.name name)) (no_method-imports ws t.name name)
    ∙ method-append (flat_map export_items es) (traits ++ behind) t.name name ∙ ap (λ o. option_or o (method_named (traits ++ behind) t.name name)) (no_method-exports es t.name name)
    ∙ ap (λ b. option_or (cond b (method_in t.functions name) None) (method_named (item.ModuleMacro m ∷ behind) t.name name)) (bytes_eq-same t.name)
    ∙ ap (λ o. option_or o (method_named (item.ModuleMacro m ∷ behind) t.name name)) h

-- the one of a name among those of distinct names

none-named : {A : Type 0} (key : A → Bytes) (xs : List A) (name : Bytes) → list_any (λ u. bytes_eq u name) (map key xs) ≡ false → filter (λ y. bytes_eq (key y) name) xs ≡ []
none-named key [] name h = refl
none-named key (x ∷ xs) name h =
    let parts = or_parts (bytes_eq (key x) name) (list_any (λ u. bytes_eq u name) (map key xs)) h in
    ap (λ b. cond b (x ∷ filter (λ y. bytes_eq (key y) name) xs) (filter (λ y. bytes_eq (key y) name) xs)) parts.0 ∙ none-named key xs name parts.1

-- a later one has another name than an earlier one
pub apart : {A : Type 0} (key : A → Bytes) (xs : List A) (nth : ℕ) (x : A) (name : Bytes) → list_any (λ u. bytes_eq u name) (map key xs) ≡ false → slice_get xs nth ≡ Some x → bytes_eq name (key x) ≡ false
apart key [] nth x name h e = absurd (cc)
apart key (y ∷ xs) zero x name h e =
    let is : y ≡ x = cc in
    go (bytes_eq name (key x)) refl (ap (λ y. bytes_eq (key y) name) (sym is) ∙ (or_parts (bytes_eq (key y) name) (list_any (λ u. bytes_eq u name) (map key xs)) h).0)
  where
    go : (b : Bool) → bytes_eq name (key x) ≡ b → bytes_eq (key x) name ≡ false → bytes_eq name (key x) ≡ false
    go true p q =
        let same : name ≡ key x = (bytes_eq-Decides name (key x)).0 p in
        let twice : bytes_eq (key x) name ≡ true = (bytes_eq-Decides (key x) name).1 (sym same) in
        absurd (cc)
    go false p q = p
apart key (y ∷ xs) (suc nth) x name h e = apart key xs nth x name (or_parts (bytes_eq (key y) name) (list_any (λ u. bytes_eq u name) (map key xs)) h).1 e

pub alone-named : {A : Type 0} (key : A → Bytes) (xs : List A) (nth : ℕ) (x : A) → is_distinct (map key xs) ≡ true → slice_get xs nth ≡ Some x → filter (λ y. bytes_eq (key y) (key x)) xs ≡ x ∷ []
alone-named key [] nth x d e = absurd (cc)
alone-named key (y ∷ xs) zero x d e =
    let is : y ≡ x = cc in
    let parts = and_parts (not (list_any (λ u. bytes_eq u (key y)) (map key xs))) (is_distinct (map key xs)) d in
    subst (λ x. filter (λ y. bytes_eq (key y) (key x)) (y ∷ xs) ≡ x ∷ []) is
    (ap (λ b. cond b (y ∷ filter (λ z. bytes_eq (key z) (key y)) xs) (filter (λ z. bytes_eq (key z) (key y)) xs)) (bytes_eq-same (key y))
    ∙ ap (λ ys. y ∷ ys) (none-named key xs (key y) (not-true (list_any (λ u. bytes_eq u (key y)) (map key xs)) parts.0)))
alone-named key (y ∷ xs) (suc nth) x d e =
    let parts = and_parts (not (list_any (λ u. bytes_eq u (key y)) (map key xs))) (is_distinct (map key xs)) d in
    ap (λ b. cond b (y ∷ filter (λ z. bytes_eq (key z) (key x)) xs) (filter (λ z. bytes_eq (key z) (key x)) xs)) (apart key xs nth x (key y) (not-true (list_any (λ u. bytes_eq u (key y)) (map key xs)) parts.0) e)
    ∙ alone-named key xs nth x parts.1 e

-- the first that passes, where at most one does
pub found_of : {A : Type 0} (p : A → Bool) (xs : List A) (o : Option A) → filter p xs ≡ listed o → find p xs ≡ o
found_of p [] None h = refl
found_of p [] (Some x) h = absurd (cc)
found_of {A = A} p (y ∷ xs) o h = go (p y) refl (found_of p xs o)
  where
    only : (o : Option A) → y ∷ filter p xs ≡ listed o → Some y ≡ o
    only None k = absurd (cc)
    only (Some x) k = let is : y ≡ x = cc in ap Some is

    go : (b : Bool) → p y ≡ b → (filter p xs ≡ listed o → find p xs ≡ o) → find p (y ∷ xs) ≡ o
    go true e later = ap (λ b. cond b (Some y) (find p xs)) e ∙ only o (ap (λ b. cond b (y ∷ filter p xs) (filter p xs)) (sym e) ∙ h)
    go false e later = ap (λ b. cond b (Some y) (find p xs)) e ∙ later (ap (λ b. cond b (y ∷ filter p xs) (filter p xs)) (sym e) ∙ h)

pub find-named : {A : Type 0} (key : A → Bytes) (xs : List A) (nth : ℕ) (x : A) → is_distinct (map key xs) ≡ true → slice_get xs nth ≡ Some x → find (λ y. bytes_eq (key y) (key x)) xs ≡ Some x
find-named key xs nth x d e = found_of (λ y. bytes_eq (key y) (key x)) xs (Some x) (alone-named key xs nth x d e)

-- lists of texts

-- texts whose images are distinct are distinct

any-image : (g : Bytes → Bytes) (xs : List Bytes) (x : Bytes) → list_any (λ u. bytes_eq u (g x)) (map g xs) ≡ false → list_any (λ u. bytes_eq u x) xs ≡ false
any-image g [] x h = refl
any-image g (y ∷ xs) x h =
    let parts = or_parts (bytes_eq (g y) (g x)) (list_any (λ u. bytes_eq u (g x)) (map g xs)) h in
    go (bytes_eq y x) refl parts.0 (any-image g xs x parts.1)
  where
    go : (b : Bool) → bytes_eq y x ≡ b → bytes_eq (g y) (g x) ≡ false → list_any (λ u. bytes_eq u x) xs ≡ false → list_any (λ u. bytes_eq u x) (y ∷ xs) ≡ false
    go true e none later =
        let same : y ≡ x = (bytes_eq-Decides y x).0 e in
        let twice : bytes_eq (g y) (g x) ≡ true = (bytes_eq-Decides (g y) (g x)).1 (ap g same) in
        absurd (cc)
    go false e none later = ap (λ b. b || list_any (λ u. bytes_eq u x) xs) e ∙ later

pub distinct-image : (g : Bytes → Bytes) (xs : List Bytes) → is_distinct (map g xs) ≡ true → is_distinct xs ≡ true
distinct-image g [] d = refl
distinct-image g (x ∷ xs) d =
    let parts = and_parts (not (list_any (λ u. bytes_eq u (g x)) (map g xs))) (is_distinct (map g xs)) d in
    ap (λ b. not b && is_distinct xs) (any-image g xs x (not-true (list_any (λ u. bytes_eq u (g x)) (map g xs)) parts.0)) ∙ distinct-image g xs parts.1

-- the functions of the macros

entries-imports : (ws : List FnItem) (ys : List Item) → entries_in (map item.Import ws ++ ys) ≡ entries_in ys
entries-imports [] ys = refl
entries-imports (w ∷ ws) ys = entries-imports ws ys

entries-exports : (es : List Parts) (ys : List Item) → entries_in (flat_map export_items es ++ ys) ≡ entries_in ys
entries-exports [] ys = refl
entries-exports ((e, None, a) ∷ es) ys = entries-exports es ys
entries-exports ((e, Some p, a) ∷ es) ys = entries-exports es ys

entries-area : (o : Option StaticArea) (ys : List Item) → entries_in (area_items o ++ ys) ≡ entries_in ys
entries-area None ys = refl
entries-area (Some a) ys = refl

entries-behind : (gs : List Function) (asked : List RuntimeItem) (r : RootMacro) → entries_in (runtime_module asked ++ where_any gs (item.RootMacro r ∷ [])) ≡ []
entries-behind [] [] r = refl
entries-behind [] (a ∷ asked) r = refl
entries-behind (g ∷ gs) [] r = refl
entries-behind (g ∷ gs) (a ∷ asked) r = refl

pub entries-are : (ws : List FnItem) (es : List Parts) (f : Function) (fs gs : List Function) (o : Option StaticArea) (t : TraitItem) (m : ModuleMacro) (asked : List RuntimeItem) (r : RootMacro)
    → entries_in (map item.Import ws ++ (flat_map export_items es ++ (where_any (f ∷ fs) (item.Trait t ∷ item.ModuleMacro m ∷ []) ++ (area_items o ++ (runtime_module asked ++ where_any gs (item.RootMacro r ∷ [])))))) ≡ m.entries
entries-are ws es f fs gs o t m asked r =
    entries-imports ws _ ∙ entries-exports es _ ∙ ap (λ xs. m.entries ++ xs) (entries-area o _ ∙ entries-behind gs asked r) ∙ append-nil m.entries

-- the static area

area-imports : (ws : List FnItem) (ys : List Item) → area_in (map item.Import ws ++ ys) ≡ area_in ys
area-imports [] ys = refl
area-imports (w ∷ ws) ys = area-imports ws ys

area-exports : (es : List Parts) (ys : List Item) → area_in (flat_map export_items es ++ ys) ≡ area_in ys
area-exports [] ys = refl
area-exports ((e, None, a) ∷ es) ys = area-exports es ys
area-exports ((e, Some p, a) ∷ es) ys = area-exports es ys

area-trait : (fs : List Function) (t : TraitItem) (m : ModuleMacro) (ys : List Item) → area_in (where_any fs (item.Trait t ∷ item.ModuleMacro m ∷ []) ++ ys) ≡ area_in ys
area-trait [] t m ys = refl
area-trait (f ∷ fs) t m ys = refl

area-behind : (asked : List RuntimeItem) (gs : List Function) (r : RootMacro) → area_in (runtime_module asked ++ where_any gs (item.RootMacro r ∷ [])) ≡ None
area-behind [] [] r = refl
area-behind [] (g ∷ gs) r = refl
area-behind (a ∷ asked) [] r = refl
area-behind (a ∷ asked) (g ∷ gs) r = refl

area-is : (o : Option StaticArea) (ys : List Item) → area_in ys ≡ None → area_in (area_items o ++ ys) ≡ o
area-is None ys none = none
area-is (Some a) ys none = refl

pub area-found : (ws : List FnItem) (es : List Parts) (fs gs : List Function) (o : Option StaticArea) (t : TraitItem) (m : ModuleMacro) (asked : List RuntimeItem) (r : RootMacro)
    → area_in (map item.Import ws ++ (flat_map export_items es ++ (where_any fs (item.Trait t ∷ item.ModuleMacro m ∷ []) ++ (area_items o ++ (runtime_module asked ++ where_any gs (item.RootMacro r ∷ [])))))) ≡ o
area-found ws es fs gs o t m asked r =
    area-imports ws _ ∙ area-exports es _ ∙ area-trait fs t m _ ∙ area-is o (runtime_module asked ++ where_any gs (item.RootMacro r ∷ [])) (area-behind asked gs r)
