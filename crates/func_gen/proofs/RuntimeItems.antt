-- A file may have more runtime items: what served before still does.
use Rattle.std.proofs.Common.{◌≡◌, Bool, true, false, cond, List, [], ◌∷◌, ◌++◌, Option, None, Some, refl, sym, ap, ◌∙◌, subst, append_assoc, append-nil}
use Rattle.std.specs.Prelude.{IfSome}
use Rattle.std.specs.Option.{option_or}
use Rattle.std.specs.Str.{bytes_eq}
use Rattle.std.proofs.lemmas.Slice.Eq.{bytes_eq-Decides}
use Rattle.wit_model.specs.Bytes.{Bytes}
use Rattle.rust_tree.specs.declared.export.CallBlock.{CallBlock}
use Rattle.rust_tree.specs.declared.item.Item.{Item}
use Rattle.rust_tree.specs.declared.item.Item.TheVariants as item
use Rattle.rust_tree.specs.declared.runtime_item.RuntimeItem.{RuntimeItem}
use Rattle.rust_tree.specs.declared.runtime_item.RuntimeItem.TheVariants.{AsI32, AsI64, AsF32, AsF64, AllocCrate, StringType, VecType, BoolLift, CharLift, StringLift, StdAllocModule, CabiDealloc, InvalidEnumDiscriminant}
use Rattle.rust_tree.specs.declared.trait_item.TraitFn.{TraitFn}
use Rattle.rust_tree.specs.declared.type_expr.TypeExpr.TheVariants as type
use Rattle.rust_tree.specs.Runtime.{item_name, item_of_name}
use Rattle.wrapper_values.specs.Fields.{type_named}
use Rattle.wrapper_run.specs.ExportRun.{method_named}
use Rattle.wrapper_run.specs.Places.{area_in}
use Rattle.wrapper_run.specs.Run.{runtime_item_named}
use Rattle.wrapper_run.proofs.LocalLemmas.{bytes_eq-same}
use Rattle.func_gen.specs.declared.function_bindgen.OpenBlock.{OpenBlock}
use Rattle.func_gen.specs.Meaning.{AllAsCalled, Found, GivesAsCalled}
use Rattle.func_gen.specs.Opened.{is_closed}

-- an item is told by its name
named_item : (i : RuntimeItem) → item_of_name (item_name i) ≡ Some i
unfolding item_name item_of_name
named_item AsI32 = refl
named_item AsI64 = refl
named_item AsF32 = refl
named_item AsF64 = refl
named_item AllocCrate = refl
named_item StringType = refl
named_item VecType = refl
named_item BoolLift = refl
named_item CharLift = refl
named_item StringLift = refl
named_item StdAllocModule = refl
named_item CabiDealloc = refl
named_item InvalidEnumDiscriminant = refl

abbrev with_item : RuntimeItem → List Item → List Item
with_item i items = item.Runtime (i ∷ []) ∷ items

still_named : (i j : RuntimeItem) (items : List Item) → runtime_item_named items (item_name j) ≡ Some j → runtime_item_named (with_item i items) (item_name j) ≡ Some j
still_named i j items h = go (bytes_eq (item_name i) (item_name j)) refl
  where
    go : (b : Bool) → bytes_eq (item_name i) (item_name j) ≡ b → option_or (cond b (Some i) None) (runtime_item_named items (item_name j)) ≡ Some j
    go false e = h
    go true e = sym (named_item i) ∙ ap item_of_name ((bytes_eq-Decides (item_name i) (item_name j)).0 e) ∙ named_item j

found_with : (i : RuntimeItem) (items : List Item) (parts : List RuntimeItem) → Found items parts → Found (with_item i items) parts
found_with i items [] h = tt
found_with i items (j ∷ parts) h = (still_named i j items h.0, found_with i items parts h.1)

found_last : (i : RuntimeItem) (items : List Item) (parts : List RuntimeItem) → Found (with_item i items) parts → Found (with_item i items) (parts ++ i ∷ [])
found_last i items [] h = (ap (λ b. option_or (cond b (Some i) None) (runtime_item_named items (item_name i))) (bytes_eq-same (item_name i)), tt)
found_last i items (j ∷ parts) h = (h.0, found_last i items parts h.1)

pub found_left : (items : List Item) (xs ys : List RuntimeItem) → Found items (xs ++ ys) → Found items xs
found_left items [] ys h = tt
found_left items (x ∷ xs) ys h = (h.0, found_left items xs ys h.1)

pub found_right : (items : List Item) (xs ys : List RuntimeItem) → Found items (xs ++ ys) → Found items ys
found_right items [] ys h = h
found_right items (x ∷ xs) ys h = found_right items xs ys h.1

-- a method is called for no value as before, where the file has the same methods
pub gives_as_called : (items all : List Item) (named : Bytes) (call : Option CallBlock) → ((name : Bytes) → method_named all named name ≡ method_named items named name) → GivesAsCalled items named call → GivesAsCalled all named call
gives_as_called items all named None same h = tt
gives_as_called items all named (Some c) same h = λ none. subst (λ t. IfSome t (λ (f : TraitFn). f.result ≡ type.Unit)) (sym (same c.method)) (h none)

-- and so in the codes that open blocks suspend
pub suspended_from : (items all : List Item) (named : Bytes) → ((call : Option CallBlock) → GivesAsCalled items named call → GivesAsCalled all named call) → (opened : List OpenBlock) → AllAsCalled items named opened → AllAsCalled all named opened
suspended_from items all named from [] h = tt
suspended_from items all named from (o ∷ opened) h = (from o.code.call h.0, suspended_from items all named from opened h.1)

-- where no block is open, none is suspended
pub none_suspended : (items : List Item) (named : Bytes) (opened : List OpenBlock) → is_closed opened ≡ true → AllAsCalled items named opened
none_suspended items named [] e = tt
none_suspended items named (o ∷ opened) e = absurd cc

-- items that have these parts too, and the static area, the types and the methods as before
pub record More (items : List Item) (parts more : List RuntimeItem) : Type 0 where
  pub all : List Item
  pub found : Found all (parts ++ more)
  pub area : area_in all ≡ area_in items
  pub types : (name : Bytes) → type_named all name ≡ type_named items name
  pub methods : (named name : Bytes) → method_named all named name ≡ method_named items named name

pub has_more : (items : List Item) (parts more : List RuntimeItem) → Found items parts → More items parts more
has_more items parts [] h = record { all = items; found = subst (Found items) (sym (append-nil parts)) h; area = refl; types = λ name. refl; methods = λ named name. refl }
has_more items parts (i ∷ more) h =
    let later = has_more (with_item i items) (parts ++ i ∷ []) more (found_last i items parts (found_with i items parts h)) in
    record { all = later.all; found = subst (Found later.all) (append_assoc parts (i ∷ []) more) later.found; area = later.area; types = later.types; methods = later.methods }
