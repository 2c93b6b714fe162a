-- Locals of names that were not used when a block was opened hide nothing from its code.
use Rattle.std.proofs.Common.{◌≡◌, Bool, true, false, cond, List, [], ◌∷◌, ◌++◌, Option, None, Some, refl, sym, ap, ap₂, ◌∙◌}
use Rattle.std.specs.Option.{option_or}
use Rattle.wit_model.specs.Bytes.{Bytes}
use Rattle.wrapper_values.specs.declared.state.Local.{Local}
use Rattle.wrapper_values.specs.declared.state.Val.{Val}
use Rattle.wrapper_values.specs.Locals.{local_named, value_of}
use Rattle.wrapper_run.specs.OuterLocals.{IsInReach}
use Rattle.wrapper_run.proofs.OuterLemmas.{named-append}
use Rattle.func_gen.specs.Entered.{reached}
use Rattle.func_gen.specs.Scope.{is_used}
use Rattle.func_gen.proofs.Opening.{other_name, reached_in, reached_none}

abbrev pub Unused : List Bytes → List Local → Type 0
Unused used [] = Unit {0}
Unused used (l ∷ ls) = (is_used used l.name ≡ false) × Unused used ls

unused_none : (used : List Bytes) (n : Bytes) → is_used used n ≡ true → (ls : List Local) → Unused used ls → local_named n ls ≡ None
unused_none used n u [] h = refl
unused_none used n u (l ∷ ls) h =
    ap₂ (λ o b. option_or o (let p : Option Local = cond b (Some l) None in p)) (unused_none used n u ls h.1) (other_name used l n false h.0 u)

pub reached_beside : (used : List Bytes) (ls extra : List Local) → Unused used extra → IsInReach (reached used ls) (ls ++ extra)
reached_beside used ls extra h = record { plain = (reached_in used ls).plain; same = λ n v e. go n v e (is_used used n) refl }
  where
    go : (n : Bytes) (v : Val) → value_of (local_named n (reached used ls)) ≡ Some v → (b : Bool) → is_used used n ≡ b → value_of (local_named n (ls ++ extra)) ≡ Some v
    go n v e false u = absurd (let none : (let o : Option Val = None in o ≡ Some v) = sym (ap value_of (reached_none used n u ls)) ∙ e in cc)
    go n v e true u = ap value_of (named-append n ls extra ∙ ap (λ o. option_or o (local_named n ls)) (unused_none used n u extra h)) ∙ (reached_in used ls).same n v e
