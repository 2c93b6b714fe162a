-- How a type may hold itself through `List`: the list's elements are what it holds, in their order.
use mathlib.Core.Path.{◌≡◌, refl, sym}
use mathlib.Core.List.{List, []}
use mathlib.Core.Former.{Former, this, list, via, children}
use base.Stored.{code_map}
use denote.RattleType.{RattleType}
use denote.HoleLaws.{Alike}
use denote.HolePlaces.{Recodes, struct_places, laid}
use denote.Hole.Carrier.{listed, list-listed}
use denote.Hole.Fix.{over}
use denote.Param.Weighed.{Weighed, w_list}
use denote.Model.Placed.{view_places}
use Rattle.std.specs.formers.vec.Vec as std_vec
use Rattle.std.specs.declared.alloc.Global.{Global}
use Rattle.std.specs.contracts.alloc.Global as global
use Rattle.std.specs.contracts.impls.GlobalAllocator.TheImpl.{ghosts}
use Rattle.wit_model.specs.declared.list.List.TheInside.{Inside}
use Rattle.wit_model.specs.declared.list.List.TheView.{view, invariant}
use Rattle.wit_model.specs.contracts.list.List as items
use Rattle.wit_model.specs.contracts.list.List.TheInside as inside

abbrev pub the_former : Former {0} → Former {0}
the_former held = list held

abbrev pub the_weighed : {held : Former {0}} → Weighed held → Weighed (the_former held)
the_weighed weight = w_list weight

pub the_empty : List ⊥
the_empty = []

abbrev pub the_items : (X : Type 0) → List X → List X
the_items X xs = xs

pub the_items_listed : (X : Type 0) (xs : List X) → listed _ (children (the_former this) X xs) ≡ the_items X xs
the_items_listed X xs = list-listed X xs

-- the one field is a vector
abbrev parts : Former {0}
parts = via (std_vec.the_former this Global) Inside (λ X l. l.items) (λ X v. record { items = v }) (λ X l. refl) (λ X v. refl)

module _ (From To : RattleType) (h : From.Denot → To.Denot) where
  pub the_places : Alike From To h → Alike (items.the_row From) (items.the_row To) ((the_former this).map From.Denot To.Denot h)
  the_places same = view_places parts (list this) view (λ X Y k u. refl) (λ X u. refl) From.Denot To.Denot h (items.the_row From).coded (items.the_row To).coded
      (invariant From.Denot) (invariant To.Denot) (λ u p q. refl) (λ u p q. refl) (λ u e. tt) (λ u e. tt)
      (over (inside.the_row From)) (over (inside.the_row To))
      (struct_places (inside.the_type From) (inside.the_type To) (std_vec.mapped h, tt) _ (λ d. refl) refl (laid _ _ _ (std_vec.the_places global.the_row ghosts From To h same), tt))

  pub the_codes_placed : Recodes From To h → Recodes (items.the_row From) (items.the_row To) ((the_former this).map From.Denot To.Denot h)
  the_codes_placed same xs = sym (code_map From.coded.code To.coded.code h (λ x. sym (same x)) xs)
