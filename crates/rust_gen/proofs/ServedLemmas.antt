-- The module `_rt` has each item that is due, once, and no other.
use Rattle.std.proofs.Common.{◌≡◌, ℕ, ◌<◌, ◌≤◌, Bool, true, false, cond, not, ◌||◌, List, [], ◌∷◌, ◌++◌, map, ◌⊎◌, inl, inr, Option, None, Some, append_assoc, append-nil, refl, sym, ap, subst, ◌∙◌, arith}
use Rattle.std.specs.Prelude.{fold}
use Rattle.std.specs.List.{flat_map, list_any}
use Rattle.std.specs.Str.{bytes_eq}
use Rattle.std.proofs.lemmas.Bool.{and_from, and_parts, not-true, or_cases, or_left, or_parts, or_right}
use Rattle.std.proofs.lemmas.List.{map-append}
use Rattle.std.proofs.lemmas.Grind.{flat_map-append}
use Rattle.std.proofs.lemmas.List.Folds.{list_any-append}
use Rattle.std.proofs.lemmas.Slice.Eq.{bytes_eq-Decides}
use Rattle.wit_model.specs.Distinct.{is_distinct}
use Rattle.wit_model.specs.Bytes.{Bytes}
use Rattle.wit_model.specs.declared.function.Function.{Function}
use Rattle.wit_model.specs.declared.name.WorldId.{WorldId}
use Rattle.wit_model.specs.declared.resolve.Resolve.{Resolve}
use Rattle.wit_model.specs.declared.world.World.{World}
use Rattle.rust_tree.specs.declared.area.StaticArea.{StaticArea}
use Rattle.rust_tree.specs.declared.item.FnItem.{FnItem}
use Rattle.rust_tree.specs.declared.item.Item.{Item}
use Rattle.rust_tree.specs.declared.item.Item.TheVariants as item
use Rattle.rust_tree.specs.declared.runtime_item.RuntimeItem.{RuntimeItem}
use Rattle.rust_tree.specs.declared.runtime_item.RuntimeItem.TheVariants.{AsI32, AsI64, AsF32, AsF64, AllocCrate, StringType, VecType, BoolLift, CharLift, StringLift, StdAllocModule, CabiDealloc, InvalidEnumDiscriminant}
use Rattle.rust_tree.specs.declared.type_item.TypeItem.{TypeItem}
use Rattle.rust_tree.specs.Asked.{asked_by_item, asked_in}
use Rattle.rust_tree.specs.Runtime.{item_name, needed_items}
use Rattle.rust_tree.specs.declared.macros.RootMacro.{RootMacro}
use Rattle.rust_tree.specs.Tree.{Tree}
use Rattle.gen_accept.specs.declared.opts.Opts.{Opts}
use Rattle.type_sites.specs.Sites.{type_sites}
use Rattle.rust_gen.specs.Body.{ArePartsWritten, IsWritten}
use Rattle.rust_gen.specs.Bound.{Binds, Parts, area_items, area_of, areas_of, export_items, file_area, own_items}
use Rattle.gen_accept.specs.Emitted.{exported_functions}
use Rattle.rust_gen.specs.Exported.{last_macro, trait_and_macro, where_any, guest_trait, world_macro, file_macro}
use Rattle.rust_gen.specs.Runtime.{is_same_item, runtime_items, runtime_module, with_asked, with_needed}
use Rattle.rust_gen.specs.Served.{IsDue, Serves, asked_for, needed_by, runtime_in}
use Rattle.rust_gen.proofs.TreeLemmas.{own-first}
use Rattle.rust_gen.proofs.SkipLemmas.{skip-runtime}
use Rattle.rust_gen.proofs.AskedLemmas.{IsAmong, among-of, asked-all, is-same, same-function, same-refl, needed-stays, of-among}

-- what stands there after asking

asked-one : (x y : RuntimeItem) (items : List RuntimeItem) → IsAmong x (with_asked items y) → IsAmong x items ⊎ (y ≡ x)
asked-one x y items h = go (list_any (λ i. is_same_item i y) items) h
  where
    last : (is_same_item y x ≡ true) ⊎ IsAmong x [] → IsAmong x items ⊎ (y ≡ x)
    last (inl e) = inr (is-same y x e)
    last (inr e) = absurd (cc)

    behind : IsAmong x items ⊎ IsAmong x (y ∷ []) → IsAmong x items ⊎ (y ≡ x)
    behind (inl k) = inl k
    behind (inr k) = last (or_cases (is_same_item y x) false k)

    go : (b : Bool) → IsAmong x (cond b items (items ++ y ∷ [])) → IsAmong x items ⊎ (y ≡ x)
    go true k = inl k
    go false k = behind (or_cases (list_any (λ i. is_same_item i x) items) _ (sym (list_any-append (λ i. is_same_item i x) items (y ∷ [])) ∙ k))

asked-from : (x : RuntimeItem) (asked items : List RuntimeItem) → IsAmong x (fold with_asked items asked) → IsAmong x items ⊎ IsAmong x asked
asked-from x [] items h = inl h
asked-from x (y ∷ asked) items h = go (asked-from x asked (with_asked items y) h)
  where
    here : IsAmong x items ⊎ (y ≡ x) → IsAmong x items ⊎ IsAmong x (y ∷ asked)
    here (inl k) = inl k
    here (inr e) = inr (or_left (is_same_item y x) _ (subst (λ z. is_same_item y z ≡ true) e (same-refl y)))

    go : IsAmong x (with_asked items y) ⊎ IsAmong x asked → IsAmong x items ⊎ IsAmong x (y ∷ asked)
    go (inl k) = here (asked-one x y items k)
    go (inr k) = inr (or_right (is_same_item y x) _ k)

-- no name stands there twice

eq-sym : (a b : Bytes) → bytes_eq a b ≡ false → bytes_eq b a ≡ false
eq-sym a b h = go (bytes_eq b a) refl
  where
    go : (t : Bool) → bytes_eq b a ≡ t → bytes_eq b a ≡ false
    go true e =
        let same : b ≡ a = (bytes_eq-Decides b a).0 e in
        let twice : bytes_eq a b ≡ true = (bytes_eq-Decides a b).1 (sym same) in
        absurd (cc)
    go false e = e

distinct-push : (names : List Bytes) (name : Bytes) → is_distinct names ≡ true → list_any (λ u. bytes_eq u name) names ≡ false → is_distinct (names ++ name ∷ []) ≡ true
distinct-push [] name d h = refl
distinct-push (n ∷ names) name d h =
    let parts = and_parts (not (list_any (λ u. bytes_eq u n) names)) (is_distinct names) d in
    let apart = or_parts (bytes_eq n name) (list_any (λ u. bytes_eq u name) names) h in
    let none : list_any (λ u. bytes_eq u n) (names ++ name ∷ []) ≡ false =
    list_any-append (λ u. bytes_eq u n) names (name ∷ []) ∙ ap (λ b. b || list_any (λ u. bytes_eq u n) (name ∷ [])) (not-true (list_any (λ u. bytes_eq u n) names) parts.0)
    ∙ ap (λ b. b || false) (eq-sym n name apart.0) in
    and_from (not (list_any (λ u. bytes_eq u n) (names ++ name ∷ []))) (is_distinct (names ++ name ∷ [])) (ap not none) (distinct-push names name parts.1 apart.1)

named-among : (items : List RuntimeItem) (y : RuntimeItem) → list_any (λ u. bytes_eq u (item_name y)) (map item_name items) ≡ list_any (λ i. is_same_item i y) items
named-among [] y = refl
named-among (i ∷ items) y = ap (λ b. b || list_any (λ u. bytes_eq u (item_name y)) (map item_name items)) (same-function i y) ∙ ap (λ b. is_same_item i y || b) (named-among items y)

abbrev AreOnce : List RuntimeItem → Type 0
AreOnce items = is_distinct (map item_name items) ≡ true

once-one : (items : List RuntimeItem) (y : RuntimeItem) → AreOnce items → AreOnce (with_asked items y)
once-one items y h = go (list_any (λ i. is_same_item i y) items) refl
  where
    go : (b : Bool) → list_any (λ i. is_same_item i y) items ≡ b → AreOnce (cond b items (items ++ y ∷ []))
    go true e = h
    go false e = ap is_distinct (map-append item_name items (y ∷ [])) ∙ distinct-push (map item_name items) (item_name y) h (named-among items y ∙ e)

once-all : (asked items : List RuntimeItem) → AreOnce items → AreOnce (fold with_asked items asked)
once-all [] items h = h
once-all (y ∷ asked) items h = once-all asked (with_asked items y) (once-one items y h)

-- what an item needs lies below it, and nothing lies three below

level : RuntimeItem → ℕ
level StringType = 1
level VecType = 1
level StdAllocModule = 1
level StringLift = 2
level CabiDealloc = 2
level _ = 0

one-of : (x y : RuntimeItem) → IsAmong y (x ∷ []) → x ≡ y
one-of x y h = go (or_cases (is_same_item x y) false h)
  where
    go : (is_same_item x y ≡ true) ⊎ (false ≡ true) → x ≡ y
    go (inl e) = is-same x y e
    go (inr e) = absurd (cc)

lower : (i j : RuntimeItem) → IsAmong j (needed_items i) → level j < level i
unfolding level
lower StringType j h = subst (λ j. level j < 1) (one-of AllocCrate j h) (omega arith)
lower VecType j h = subst (λ j. level j < 1) (one-of AllocCrate j h) (omega arith)
lower StdAllocModule j h = subst (λ j. level j < 1) (one-of AllocCrate j h) (omega arith)
lower CabiDealloc j h = subst (λ j. level j < 2) (one-of StdAllocModule j h) (omega arith)
lower StringLift j h = go (or_cases (is_same_item StringType j) _ h)
  where
    go : (is_same_item StringType j ≡ true) ⊎ IsAmong j (VecType ∷ []) → level j < 2
    go (inl e) = subst (λ j. level j < 2) (is-same StringType j e) (omega arith)
    go (inr k) = subst (λ j. level j < 2) (one-of VecType j k) (omega arith)
lower AsI32 j h = absurd (cc)
lower AsI64 j h = absurd (cc)
lower AsF32 j h = absurd (cc)
lower AsF64 j h = absurd (cc)
lower AllocCrate j h = absurd (cc)
lower BoolLift j h = absurd (cc)
lower CharLift j h = absurd (cc)
lower InvalidEnumDiscriminant j h = absurd (cc)

highest : (i : RuntimeItem) → level i ≤ 2
unfolding level
highest StringType = omega arith
highest VecType = omega arith
highest StdAllocModule = omega arith
highest StringLift = omega arith
highest CabiDealloc = omega arith
highest _ = omega arith

-- who needs an item among others
abbrev Needer : RuntimeItem → List RuntimeItem → Type 0
Needer x items = (i : RuntimeItem) × IsAmong i items × IsAmong x (needed_items i)

needer : (x : RuntimeItem) (items : List RuntimeItem) → IsAmong x (flat_map needed_items items) → Needer x items
needer x [] h = absurd (cc)
needer x (i ∷ items) h = go (λ k. needer x items k) (or_cases (list_any (λ j. is_same_item j x) (needed_items i)) _ (sym (list_any-append (λ j. is_same_item j x) (needed_items i) (flat_map needed_items items)) ∙ h))
  where
    go : (IsAmong x (flat_map needed_items items) → Needer x items) → IsAmong x (needed_items i) ⊎ IsAmong x (flat_map needed_items items) → Needer x (i ∷ items)
    go later (inl k) = (i, or_left (is_same_item i i) _ (same-refl i), k)
    go later (inr k) = let n = later k in (n.0, or_right (is_same_item i n.0) _ n.1, n.2)

needed-among : (x i : RuntimeItem) (items : List RuntimeItem) → IsAmong i items → IsAmong x (needed_items i) → IsAmong x (flat_map needed_items items)
needed-among x i [] h k = absurd (cc)
needed-among x i (j ∷ items) h k = list_any-append (λ u. is_same_item u x) (needed_items j) (flat_map needed_items items) ∙ go (λ e. needed-among x i items e k) (or_cases (is_same_item j i) _ h)
  where
    go : (IsAmong i items → IsAmong x (flat_map needed_items items)) → (is_same_item j i ≡ true) ⊎ IsAmong i items → (list_any (λ u. is_same_item u x) (needed_items j) || list_any (λ u. is_same_item u x) (flat_map needed_items items)) ≡ true
    go later (inl e) = or_left _ _ (subst (λ j. IsAmong x (needed_items j)) (sym (is-same j i e)) k)
    go later (inr e) = or_right (list_any (λ u. is_same_item u x) (needed_items j)) _ (later e)

-- a round adds what is needed, and nothing else
round : (x : RuntimeItem) (items : List RuntimeItem) → IsAmong x (with_needed items) → IsAmong x items ⊎ Needer x items
round x items h = go (asked-from x (flat_map needed_items items) items h)
  where
    go : IsAmong x items ⊎ IsAmong x (flat_map needed_items items) → IsAmong x items ⊎ Needer x items
    go (inl k) = inl k
    go (inr k) = inr (needer x items k)

adds : (x i : RuntimeItem) (items : List RuntimeItem) → IsAmong i items → IsAmong x (needed_items i) → IsAmong x (with_needed items)
adds x i items h k = asked-all x (flat_map needed_items items) items (inr (needed-among x i items h k))

module _ (asked : List RuntimeItem) where
  abbrev first : List RuntimeItem
  first = fold with_asked [] asked

  abbrev second : List RuntimeItem
  second = with_needed first

  abbrev third : List RuntimeItem
  third = with_needed second

  -- two rounds leave nothing out
  closed : (i j : RuntimeItem) → IsAmong i third → IsAmong j (needed_items i) → IsAmong j third
  closed i j h k = go (round i second h)
    where
      deep : (n : Needer i second) → IsAmong n.0 first ⊎ Needer n.0 first → IsAmong j third
      deep n (inl in_first) = adds j i second (adds i n.0 first in_first n.2) k
      deep n (inr m) =
          let a = lower m.0 n.0 m.2 in
          let b = lower n.0 i n.2 in
          let c = lower i j k in
          absurd (omega (arith, highest m.0))

      go : IsAmong i second ⊎ Needer i second → IsAmong j third
      go (inl in_second) = adds j i second in_second k
      go (inr n) = deep n (round n.0 first n.1)

  has_due : (i : RuntimeItem) → IsDue asked i → IsAmong i third
  has_due i (asked_for _ h) = needed-stays i second (needed-stays i first (asked-all i asked [] (inr (among-of asked i h))))
  has_due j (needed_by i _ d h) = closed i j (has_due i d) (among-of (needed_items i) j h)

  due-first : (i : RuntimeItem) → IsAmong i first → IsDue asked i
  due-first i h = go (asked-from i asked [] h)
    where
      go : IsAmong i [] ⊎ IsAmong i asked → IsDue asked i
      go (inl k) = absurd (cc)
      go (inr k) = asked_for i (of-among asked i k)

  due-round : (items : List RuntimeItem) → ((i : RuntimeItem) → IsAmong i items → IsDue asked i) → (i : RuntimeItem) → IsAmong i (with_needed items) → IsDue asked i
  due-round items are i h = go (round i items h)
    where
      go : IsAmong i items ⊎ Needer i items → IsDue asked i
      go (inl k) = are i k
      go (inr n) = needed_by n.0 i (are n.0 n.1) (of-among (needed_items n.0) i n.2)

  serves-asked : Serves asked third
  serves-asked = record {
    once = once-all (flat_map needed_items second) second (once-all (flat_map needed_items first) first (once-all asked [] refl));
    all = λ i d. of-among third i (has_due i d);
    no_other = λ i c. due-round second (due-round first due-first) i (among-of third i c);
  }

pub serves-items : (asked : List RuntimeItem) → Serves asked (runtime_items asked)
unfolding runtime_items
serves-items asked = serves-asked asked

-- what is asked for may be told in another order

due-in : (xs ys : List RuntimeItem) → ((x : RuntimeItem) → IsAmong x xs → IsAmong x ys) → (i : RuntimeItem) → IsDue xs i → IsDue ys i
due-in xs ys h i (asked_for _ c) = asked_for i (of-among ys i (h i (among-of xs i c)))
due-in xs ys h j (needed_by i _ d c) = needed_by i j (due-in xs ys h i d) c

pub serves-same : (xs ys parts : List RuntimeItem) → ((x : RuntimeItem) → IsAmong x xs → IsAmong x ys) → ((x : RuntimeItem) → IsAmong x ys → IsAmong x xs) → Serves xs parts → Serves ys parts
serves-same xs ys parts to from s = record { once = s.once; all = λ i d. s.all i (due-in ys xs from i d); no_other = λ i c. due-in xs ys to i (s.no_other i c) }

-- the items of a file that stand in `_rt`

runtime-append : (xs ys : List Item) → runtime_in (xs ++ ys) ≡ runtime_in xs ++ runtime_in ys
runtime-append [] ys = refl
runtime-append (item.Import f ∷ xs) ys = runtime-append xs ys
runtime-append (item.Export e ∷ xs) ys = runtime-append xs ys
runtime-append (item.Trait t ∷ xs) ys = runtime-append xs ys
runtime-append (item.ModuleMacro m ∷ xs) ys = runtime-append xs ys
runtime-append (item.RootMacro r ∷ xs) ys = runtime-append xs ys
runtime-append (item.PostReturn p ∷ xs) ys = runtime-append xs ys
runtime-append (item.Area a ∷ xs) ys = runtime-append xs ys
runtime-append (item.Type t ∷ xs) ys = runtime-append xs ys
runtime-append (item.Runtime parts ∷ xs) ys = ap (λ is. parts ++ is) (runtime-append xs ys) ∙ sym (append_assoc parts (runtime_in xs) (runtime_in ys))

none-imports : (ws : List FnItem) → runtime_in (map item.Import ws) ≡ []
none-imports [] = refl
none-imports (w ∷ ws) = none-imports ws

none-exports : (es : List Parts) → runtime_in (flat_map export_items es) ≡ []
none-exports [] = refl
none-exports ((e, None, a) ∷ es) = none-exports es
none-exports ((e, Some p, a) ∷ es) = none-exports es

none-any : (fs : List Function) (items : List Item) → runtime_in items ≡ [] → runtime_in (where_any fs items) ≡ []
none-any [] items h = refl
none-any (f ∷ fs) items h = h

none-area : (o : Option StaticArea) → runtime_in (area_items o) ≡ []
none-area None = refl
none-area (Some a) = refl

of-module : (parts : List RuntimeItem) → runtime_in (runtime_module parts) ≡ parts
of-module [] = refl
of-module (i ∷ parts) = append-nil (i ∷ parts)

past : (xs ys : List Item) → runtime_in xs ≡ [] → runtime_in (xs ++ ys) ≡ runtime_in ys
past xs ys e = runtime-append xs ys ∙ ap (λ is. is ++ runtime_in ys) e

-- what stands in `_rt` asks for nothing, and neither does the last macro

asked-module : (parts : List RuntimeItem) → asked_in (runtime_module parts) ≡ []
asked-module [] = refl
asked-module (i ∷ parts) = refl

asked-last : (fs : List Function) (m : RootMacro) → asked_in (where_any fs (item.RootMacro m ∷ [])) ≡ []
asked-last [] m = refl
asked-last (f ∷ fs) m = refl

module _ (opts : Opts) (r : Resolve) (id : WorldId) (world : World) (tree : Tree) (b : Binds (IsWritten r.types (type_sites r world)) (ArePartsWritten r.types (type_sites r world)) opts r id world tree) where
  abbrev ts : List TypeItem
  ts = b.items.types

  abbrev fs : List Function
  fs = exported_functions world

  abbrev own : List Item
  own = own_items r.types ts b.items.wrappers b.items.exports world

  abbrev asked_part : List RuntimeItem
  asked_part = b.items.runtime

  abbrev last : List Item
  last = runtime_module asked_part ++ last_macro world

  runtime-is : runtime_in tree.items ≡ asked_part
  runtime-is =
      ap runtime_in (b.items.are ∙ own-first r.types ts b.items.wrappers b.items.exports world last)
      ∙ skip-runtime ts (map item.Import b.items.wrappers ++ (flat_map export_items b.items.exports ++ (trait_and_macro r.types world ++ (area_of b.items.exports ++ last))))
      ∙ past (map item.Import b.items.wrappers) (flat_map export_items b.items.exports ++ (trait_and_macro r.types world ++ (area_of b.items.exports ++ last))) (none-imports b.items.wrappers)
      ∙ past (flat_map export_items b.items.exports) (trait_and_macro r.types world ++ (area_of b.items.exports ++ last)) (none-exports b.items.exports)
      ∙ past (trait_and_macro r.types world) (area_of b.items.exports ++ last) (none-any fs (item.Trait (guest_trait r.types fs) ∷ item.ModuleMacro (world_macro r.types world) ∷ []) refl)
      ∙ past (area_of b.items.exports) last (none-area (file_area (areas_of b.items.exports)))
      ∙ runtime-append (runtime_module asked_part) (last_macro world)
      ∙ ap (λ is. runtime_in (runtime_module asked_part) ++ is) (none-any fs (item.RootMacro (file_macro world) ∷ []) refl)
      ∙ append-nil (runtime_in (runtime_module asked_part)) ∙ of-module asked_part

  asked-is : asked_in tree.items ≡ asked_in own
  asked-is =
      ap asked_in b.items.are ∙ flat_map-append asked_by_item own last
      ∙ ap (λ is. asked_in own ++ is)
      (flat_map-append asked_by_item (runtime_module asked_part) (last_macro world)
      ∙ ap (λ is. is ++ asked_in (last_macro world)) (asked-module asked_part) ∙ asked-last fs (file_macro world))
      ∙ append-nil (asked_in own)

  pub serves : Serves (asked_in tree.items) (runtime_in tree.items)
  serves = subst (λ a. Serves a (runtime_in tree.items)) (sym asked-is) (subst (Serves (asked_in own)) (sym runtime-is) b.items.serves)
