-- An item of `_rt` that a file's items name is found in the file.
use Rattle.std.proofs.Common.{◌≡◌, ℕ, zero, suc, Bool, true, false, cond, ◌||◌, List, [], ◌∷◌, ◌++◌, None, Some, ◌⊎◌, inl, inr, refl, sym, ap, subst, ◌∙◌, arith}
use Rattle.std.specs.Prelude.{find, fold, slice_get}
use Rattle.std.specs.List.{Contains, flat_map, list_any}
use Rattle.std.specs.Str.{bytes_eq}
use Rattle.std.proofs.lemmas.Bool.{or_cases, or_left, or_right}
use Rattle.std.proofs.lemmas.List.Folds.{list_any-append}
use Rattle.std.proofs.lemmas.Grind.{flat_map-append}
use Rattle.rust_tree.specs.declared.item.Item.{Item}
use Rattle.rust_tree.specs.declared.runtime_item.RuntimeItem.{RuntimeItem}
use Rattle.rust_tree.specs.declared.runtime_item.RuntimeItem.TheVariants.{AsI32, AsI64, AsF32, AsF64, AllocCrate, StringType, VecType, BoolLift, CharLift, StringLift, StdAllocModule, CabiDealloc, InvalidEnumDiscriminant}
use Rattle.rust_tree.specs.Runtime.{item_name, needed_items}
use Rattle.wrapper_run.specs.Run.{runtime_item_named}
use Rattle.rust_tree.specs.Asked.{asked_by_block, asked_by_export, asked_by_item, asked_in}
use Rattle.rust_tree.specs.declared.export.PostReturnFn.{PostReturnFn}
use Rattle.func_gen.specs.Meaning as bodies
use Rattle.rust_gen.specs.Bound.{Parts, export_items}
use Rattle.rust_gen.specs.Runtime.{is_same_item, runtime_module, with_asked, with_needed}
use Rattle.rust_gen.specs.Served.{Serves, asked_for}
use Rattle.wrapper_run.proofs.LocalLemmas.{option_or-None}

abbrev pub IsAmong : RuntimeItem → List RuntimeItem → Type 0
IsAmong x items = list_any (λ i. is_same_item i x) items ≡ true

pub same-refl : (x : RuntimeItem) → is_same_item x x ≡ true
same-refl AsI32 = refl
same-refl AsI64 = refl
same-refl AsF32 = refl
same-refl AsF64 = refl
same-refl AllocCrate = refl
same-refl StringType = refl
same-refl VecType = refl
same-refl BoolLift = refl
same-refl CharLift = refl
same-refl StringLift = refl
same-refl StdAllocModule = refl
same-refl CabiDealloc = refl
same-refl InvalidEnumDiscriminant = refl

-- each has a name of its own
pub same-function : (i x : RuntimeItem) → bytes_eq (item_name i) (item_name x) ≡ is_same_item i x
unfolding item_name
same-function AsI32 AsI32 = refl
same-function AsI64 AsI64 = refl
same-function AsF32 AsF32 = refl
same-function AsF64 AsF64 = refl
same-function AllocCrate AllocCrate = refl
same-function StringType StringType = refl
same-function VecType VecType = refl
same-function BoolLift BoolLift = refl
same-function CharLift CharLift = refl
same-function StringLift StringLift = refl
same-function StdAllocModule StdAllocModule = refl
same-function CabiDealloc CabiDealloc = refl
same-function InvalidEnumDiscriminant InvalidEnumDiscriminant = refl
same-function _ _ = refl

pub is-same : (i x : RuntimeItem) → is_same_item i x ≡ true → i ≡ x
is-same AsI32 AsI32 e = refl
is-same AsI64 AsI64 e = refl
is-same AsF32 AsF32 e = refl
is-same AsF64 AsF64 e = refl
is-same AllocCrate AllocCrate e = refl
is-same StringType StringType e = refl
is-same VecType VecType e = refl
is-same BoolLift BoolLift e = refl
is-same CharLift CharLift e = refl
is-same StringLift StringLift e = refl
is-same StdAllocModule StdAllocModule e = refl
is-same CabiDealloc CabiDealloc e = refl
is-same InvalidEnumDiscriminant InvalidEnumDiscriminant e = refl
is-same _ _ e = absurd (cc)

-- an element of a list, and one that a test finds there

pub among-of : (xs : List RuntimeItem) (x : RuntimeItem) → Contains xs x → IsAmong x xs
among-of [] x (k, below, e) = absurd (omega arith)
among-of (y ∷ xs) x (zero, below, e) = or_left (is_same_item y x) _ (subst (λ z. is_same_item y z ≡ true) e (same-refl y))
among-of (y ∷ xs) x (suc k, below, e) = or_right (is_same_item y x) _ (among-of xs x (k, omega arith, e))

pub of-among : (xs : List RuntimeItem) (x : RuntimeItem) → IsAmong x xs → Contains xs x
of-among [] x h = absurd (cc)
of-among (y ∷ xs) x h = go (λ k. of-among xs x k) (or_cases (is_same_item y x) _ h)
  where
    go : (IsAmong x xs → Contains xs x) → (is_same_item y x ≡ true) ⊎ IsAmong x xs → Contains (y ∷ xs) x
    go later (inl e) = (0, omega arith, is-same y x e)
    go later (inr k) = let c = later k in (suc c.0, omega (arith, c.1), c.2)

-- in a module

abbrev found_by : RuntimeItem → RuntimeItem → Bool
found_by x i = bytes_eq (item_name i) (item_name x)

find-here : (x i : RuntimeItem) (items : List RuntimeItem) (b : Bool) → is_same_item i x ≡ b → (b ≡ false → find (found_by x) items ≡ Some x) → find (found_by x) (i ∷ items) ≡ Some x
find-here x i items true e h = ap (λ b. cond b (Some i) (find (found_by x) items)) (same-function i x ∙ e) ∙ ap Some (is-same i x e)
find-here x i items false e h = ap (λ b. cond b (Some i) (find (found_by x) items)) (same-function i x ∙ e) ∙ h refl

among-later : (x i : RuntimeItem) (items : List RuntimeItem) → IsAmong x (i ∷ items) → is_same_item i x ≡ false → IsAmong x items
among-later x i items h e = sym (ap (λ b. b || list_any (λ i. is_same_item i x) items) e) ∙ h

find-among : (x : RuntimeItem) (items : List RuntimeItem) → IsAmong x items → find (found_by x) items ≡ Some x
find-among x [] h = absurd (cc)
find-among x (i ∷ items) h = find-here x i items (is_same_item i x) refl (λ e. find-among x items (among-later x i items h e))

found-in_module : (x : RuntimeItem) (items : List RuntimeItem) → IsAmong x items → runtime_item_named (runtime_module items) (item_name x) ≡ Some x
found-in_module x [] h = absurd (cc)
found-in_module x (i ∷ items) h = option_or-None (find (found_by x) (i ∷ items)) ∙ find-among x (i ∷ items) h

-- among what was asked for

asked-stays : (x y : RuntimeItem) (items : List RuntimeItem) → IsAmong x items → IsAmong x (with_asked items y)
asked-stays x y items h = go (list_any (λ i. is_same_item i y) items)
  where
    go : (b : Bool) → IsAmong x (cond b items (items ++ y ∷ []))
    go true = h
    go false = list_any-append (λ i. is_same_item i x) items (y ∷ []) ∙ or_left (list_any (λ i. is_same_item i x) items) _ h

asked-new : (x y : RuntimeItem) (items : List RuntimeItem) → is_same_item y x ≡ true → IsAmong x (with_asked items y)
asked-new x y items e = go (list_any (λ i. is_same_item i y) items) refl
  where
    is : y ≡ x
    is = is-same y x e

    go : (b : Bool) → list_any (λ i. is_same_item i y) items ≡ b → IsAmong x (cond b items (items ++ y ∷ []))
    go true h = ap (λ z. list_any (λ i. is_same_item i z) items) (sym is) ∙ h
    go false h = list_any-append (λ i. is_same_item i x) items (y ∷ []) ∙ or_right (list_any (λ i. is_same_item i x) items) _ (or_left (is_same_item y x) false e)

pub asked-all : (x : RuntimeItem) (asked items : List RuntimeItem) → IsAmong x items ⊎ IsAmong x asked → IsAmong x (fold with_asked items asked)
asked-all x [] items (inl h) = h
asked-all x [] items (inr h) = absurd (cc)
asked-all x (y ∷ asked) items (inl h) = asked-all x asked (with_asked items y) (inl (asked-stays x y items h))
asked-all x (y ∷ asked) items (inr h) = asked-all x asked (with_asked items y) (go (or_cases (is_same_item y x) _ h))
  where
    go : (is_same_item y x ≡ true) ⊎ IsAmong x asked → IsAmong x (with_asked items y) ⊎ IsAmong x asked
    go (inl e) = inl (asked-new x y items e)
    go (inr e) = inr e

-- what one of many asks for
pub asked-at : {A : Type 0} (asks : A → List RuntimeItem) (x : RuntimeItem) (fs : List A) (nth : ℕ) (f : A) → slice_get fs nth ≡ Some f → IsAmong x (asks f) → IsAmong x (flat_map asks fs)
asked-at asks x [] nth f e h = absurd (cc)
asked-at asks x (g ∷ fs) zero f e h =
    let is : g ≡ f = cc in
    list_any-append (λ i. is_same_item i x) (asks g) (flat_map asks fs) ∙ or_left _ _ (ap (λ g. list_any (λ i. is_same_item i x) (asks g)) is ∙ h)
asked-at asks x (g ∷ fs) (suc nth) f e h =
    list_any-append (λ i. is_same_item i x) (asks g) (flat_map asks fs) ∙ or_right (list_any (λ i. is_same_item i x) (asks g)) _ (asked-at asks x fs nth f e h)

-- what is asked for is found
abbrev pub Found : List Item → List RuntimeItem → Type 0
Found items asked = (x : RuntimeItem) → IsAmong x asked → runtime_item_named items (item_name x) ≡ Some x

pub found-left : (items : List Item) (xs ys : List RuntimeItem) → Found items (xs ++ ys) → Found items xs
found-left items xs ys h x k = h x (list_any-append (λ i. is_same_item i x) xs ys ∙ or_left _ _ k)

pub found-right : (items : List Item) (xs ys : List RuntimeItem) → Found items (xs ++ ys) → Found items ys
found-right items xs ys h x k = h x (list_any-append (λ i. is_same_item i x) xs ys ∙ or_right (list_any (λ i. is_same_item i x) xs) _ k)

pub needed-stays : (x : RuntimeItem) (items : List RuntimeItem) → IsAmong x items → IsAmong x (with_needed items)
needed-stays x items h = asked-all x (flat_map needed_items items) items (inl h)

-- what is asked for is found in a module that serves it
pub found_all : (asked parts : List RuntimeItem) → Serves asked parts → (x : RuntimeItem) → IsAmong x asked → runtime_item_named (runtime_module parts) (item_name x) ≡ Some x
found_all asked parts serves x h = found-in_module x parts (among-of parts x (serves.all x (asked_for x (of-among asked x h))))

-- what parts of a tree ask for

-- of two parts that stand behind one another
pub found-parts : {A : Type 0} (items : List Item) (asks : A → List RuntimeItem) (xs ys zs : List A) → zs ≡ xs ++ ys → Found items (flat_map asks zs) → Found items (flat_map asks xs) × Found items (flat_map asks ys)
found-parts items asks xs ys zs e h =
    let both = subst (Found items) (ap (flat_map asks) e ∙ flat_map-append asks xs ys) h in
    (found-left items (flat_map asks xs) (flat_map asks ys) both, found-right items (flat_map asks xs) (flat_map asks ys) both)

-- of one among many
pub found-at : {A : Type 0} (items : List Item) (asks : A → List RuntimeItem) (xs : List A) (nth : ℕ) (x : A) → slice_get xs nth ≡ Some x → Found items (flat_map asks xs) → Found items (asks x)
found-at items asks xs nth x e h i k = h i (asked-at asks i xs nth x e k)

-- of one export among all
pub found-export : (items : List Item) (es : List Parts) (nth : ℕ) (parts : Parts) → slice_get es nth ≡ Some parts → Found items (asked_in (flat_map export_items es)) → Found items (asked_in (export_items parts))
found-export items [] nth parts e h = absurd (cc)
found-export items (x ∷ es) zero parts e h =
    let is : x ≡ parts = cc in subst (λ x. Found items (asked_in (export_items x))) is (found-parts items asked_by_item (export_items x) (flat_map export_items es) (flat_map export_items (x ∷ es)) refl h).0
found-export items (x ∷ es) (suc nth) parts e h =
    found-export items es nth parts e (found-parts items asked_by_item (export_items x) (flat_map export_items es) (flat_map export_items (x ∷ es)) refl h).1

-- its wrapper, and its post-return function
pub found-wrapper : (items : List Item) (parts : Parts) → Found items (asked_in (export_items parts)) → Found items (asked_by_export parts.0)
found-wrapper items (e, None, a) h = found-left items (asked_by_export e) [] h
found-wrapper items (e, Some p, a) h = found-left items (asked_by_export e) (asked_by_block p.body ++ []) h

pub found-return : (items : List Item) (parts : Parts) (p : PostReturnFn) → parts.1 ≡ Some p → Found items (asked_in (export_items parts)) → Found items (asked_by_block p.body)
found-return items (e, None, a) p is h = absurd (cc)
found-return items (e, Some q, a) p is h =
    let same : q ≡ p = cc in
    subst (λ q. Found items (asked_by_block q.body)) same (found-left items (asked_by_block q.body) [] (found-right items (asked_by_export e) (asked_by_block q.body ++ []) h))

-- what a body asks for, where its item names it
pub found-asked : (items : List Item) (named runtime : List RuntimeItem) → ((x : RuntimeItem) → IsAmong x runtime → IsAmong x named) → Found items named → bodies.Found items runtime
found-asked items named [] h f = tt
found-asked items named (r ∷ runtime) h f =
    (f r (h r (or_left (is_same_item r r) _ (same-refl r))), found-asked items named runtime (λ x k. h x (or_right (is_same_item r x) _ k)) f)
