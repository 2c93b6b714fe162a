-- How a type may hold itself through `Boxed`: the box's value is the one thing that it holds.
use mathlib.Core.Path.{refl}
use mathlib.Core.Former.{Former, this, const, pair, via}
use base.Stored.{gnil}
use base.Fml.{ftrue}
use denote.RattleType.{RattleType}
use denote.Memory.{part_of}
use denote.RawPtr.{Ptr}
use denote.Sharing.{nothing}
use denote.HoleLaws.{Alike}
use denote.HolePlaces.{Recodes, struct_places, laid, one_value}
use denote.Hole.Fix.{over}
use denote.Param.Weighed.{Weighed}
use denote.Model.Placed.{view_places}
use Rattle.std.specs.declared.boxed.Box.{Box}
use Rattle.std.specs.declared.alloc.Global.{Global}
use Rattle.std.specs.contracts.alloc.Global as global
use Rattle.std.specs.contracts.boxed.Box as std_box
use Rattle.std.specs.contracts.impls.GlobalAllocator.TheImpl.{ghosts}
use Rattle.wit_model.specs.declared.boxed.Boxed.TheInside.{Inside}
use Rattle.wit_model.specs.declared.boxed.Boxed.TheView.{view, invariant}
use Rattle.wit_model.specs.contracts.boxed.Boxed as boxed
use Rattle.wit_model.specs.contracts.boxed.Boxed.TheInside as inside

abbrev pub the_former : Former {0} → Former {0}
the_former held = held

abbrev pub the_weighed : {held : Former {0}} → Weighed held → Weighed (the_former held)
the_weighed weight = weight

-- the fields: where the value lies, and the value
abbrev parts : Former {0}
parts = via (pair (const (Ptr × Global)) this) Inside (λ X b. ((b.inner.ptr, b.inner.alloc), b.inner.value))
    (λ X p. record { inner = record { ptr = p.0.0; alloc = p.0.1; value = p.1 } }) (λ X b. refl) (λ X p. refl)

-- the same place, with another value
abbrev replaced : {X Y : Type 0} → Y → Box X Global → Box Y Global
replaced y b = record { ptr = b.ptr; alloc = b.alloc; value = y }

module _ (From To : RattleType) (h : From.Denot → To.Denot) where
  abbrev row_at : RattleType → RattleType
  row_at T = std_box.the_row T global.the_row ghosts

  inner_alike : Alike From To h → Alike (row_at From) (row_at To) (λ b. replaced (h b.value) b)
  unfolding part_of
  inner_alike same = record {
    mir_same = λ i. (row_at (one_value From (same.mir_same i) (λ _. ftrue) (λ _ _. nothing) gnil)).mir;
    own_same = λ b i. (row_at (one_value From (same.mir_same i) (same.own_same b.value i) (same.shr_same b.value i) gnil)).own_val (replaced tt b);
    shr_same = λ b i. (row_at (one_value From (same.mir_same i) (same.own_same b.value i) (same.shr_same b.value i) gnil)).shr_at (replaced tt b);
  }

  pub the_places : Alike From To h → Alike (boxed.the_row From) (boxed.the_row To) ((the_former this).map From.Denot To.Denot h)
  the_places same = view_places parts this view (λ X Y k u. refl) (λ X u. refl) From.Denot To.Denot h (boxed.the_row From).coded (boxed.the_row To).coded
      (invariant From.Denot) (invariant To.Denot) (λ u p q. refl) (λ u p q. refl) (λ u e. tt) (λ u e. tt)
      (over (inside.the_row From)) (over (inside.the_row To))
      (struct_places (inside.the_type From) (inside.the_type To) ((λ b. replaced (h b.value) b), tt) _ (λ d. refl) refl (laid _ _ _ (inner_alike same), tt))

  pub the_codes_placed : Recodes From To h → Recodes (boxed.the_row From) (boxed.the_row To) ((the_former this).map From.Denot To.Denot h)
  the_codes_placed same d = same d
