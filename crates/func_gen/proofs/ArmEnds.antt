-- An arm of a match whose code is inward: it ends as its code does where the block is entered, and leaves what is outside as it was.
use Rattle.std.proofs.Common.{◌≡◌, ℕ, List, [], ◌∷◌, ◌++◌, length, refl, sym, ap, ap₂, ◌∙◌, subst, drop, take, append_assoc}
use Rattle.std.specs.Prelude.{◌≢◌, None}
use Rattle.std.specs.List.{flat_map}
use Rattle.std.proofs.Math.Seq.{drop-append_seam, take-append_seam}
use Rattle.wrapper_data.specs.declared.run.Stop.{Stop}
use Rattle.wrapper_data.specs.declared.run.Stop.TheVariants as stop_of
use Rattle.wrapper_values.specs.declared.state.Local.{Local}
use Rattle.wrapper_values.specs.declared.state.State.{State}
use Rattle.wrapper_values.specs.Act.{Act, Outcome, Done, Stopped, ◌>>◌, and_then, pure}
use Rattle.wrapper_values.specs.Owning.{owned_in}
use Rattle.wrapper_values.specs.Setting.{Setting}
use Rattle.wrapper_run.specs.Blocks.{drop_locals, in_scope, keep_locals, leave_to}
use Rattle.wrapper_run.specs.OuterLocals.{EndsBehind, IsInReach, OwnNothing, RunsBehind, behind_all}
use Rattle.wrapper_run.specs.Inward.{CallsNothing}
use Rattle.wrapper_run.proofs.OuterLemmas.{add_locals}
use Rattle.wrapper_run.proofs.OwningLemmas.{drops_plain}
use Rattle.wrapper_run.proofs.QuietActs.{calls_at, quiet_scope, quiet_then}

-- 1. Locals that own nothing

pub plain_both : (xs ys : List Local) → OwnNothing xs → OwnNothing ys → OwnNothing (xs ++ ys)
plain_both [] ys p q = q
plain_both (x ∷ xs) ys p q = (p.0, plain_both xs ys p.1 q)

both_none : (xs ys : List ℕ) → xs ++ ys ≡ [] → (xs ≡ []) × (ys ≡ [])
both_none [] ys e = (refl, e)
both_none (x ∷ xs) ys e = absurd cc

pub plain_from : (ls : List Local) → flat_map (λ (l : Local). owned_in l.value) ls ≡ [] → OwnNothing ls
plain_from [] e = tt
plain_from (l ∷ ls) e = let both = both_none (owned_in l.value) (flat_map (λ (l : Local). owned_in l.value) ls) e in (both.0, plain_from ls both.1)

-- 2. The end of a scope

pub leaves_plain : (w : Setting) (front more : List Local) (s : State) → s.locals ≡ front ++ more → OwnNothing more → leave_to w (length front) s ≡ Done tt (record s { locals = front })
unfolding leave_to
leaves_plain w front more s e plain =
    ap (λ ls. and_then (drop_locals w (drop (length front) ls) (record s { locals = [] })) (λ _. keep_locals (take (length front) ls))) e
    ∙ ap₂ (λ gone kept. and_then (drop_locals w gone (record s { locals = [] })) (λ _. keep_locals kept)) (drop-append_seam front more) (take-append_seam front more)
    ∙ ap (λ o. and_then o (λ _. keep_locals front)) (drops_plain w more (record s { locals = [] }) plain)

-- 3. An arm

-- a block finds locals that are in reach, and begins with some of its own. Where its code stands in an arm, there are those of the code
-- around it, and those that the arm has beside the block's own
module _ {A : Type 0} (w : Setting) (found extra added : List Local) (s : State) (act : Act A) (reach : IsInReach found (s.locals ++ extra)) (plain : OwnNothing extra) (behind : RunsBehind act) where
  abbrev pub at_block : State
  at_block = record s { locals = found ++ added; place = None }

  abbrev pub arm_scope : Act (Unit {0}) → Outcome A
  arm_scope enter = in_scope w (enter >> act) s

  -- entering the arm binds those, and does nothing else
  abbrev pub Enters : Act (Unit {0}) → Type 0
  Enters enter = enter s ≡ Done tt (record s { locals = s.locals ++ (extra ++ added) })

  abbrev leaving : Outcome A → Outcome A
  leaving o = and_then o (λ a. leave_to w (length s.locals) >> pure a)

  -- in the arm the code begins behind all locals
  abbrev outer : State
  outer = record s { locals = (s.locals ++ extra) ++ added }

  alike : EndsBehind found (s.locals ++ extra) s.place (act at_block) (act outer)
  alike = behind.alike found (s.locals ++ extra) added s.place at_block reach (record { locals = refl; place = refl })

  begins : (enter : Act (Unit {0})) → Enters enter → arm_scope enter ≡ leaving (act outer)
  begins enter h = ap (λ o. leaving (and_then o (λ _. act))) h ∙ ap (λ ls. leaving (act (record s { locals = ls }))) (sym (append_assoc s.locals extra added))

  -- where the locals that it made own nothing, those from outside and the area's place are as they were
  pub arm_ends : (enter : Act (Unit {0})) → Enters enter → (a : A) (u : State) → act at_block ≡ Done a u → flat_map (λ (l : Local). owned_in l.value) (drop (length found) u.locals) ≡ []
      → arm_scope enter ≡ Done a (record u { locals = s.locals; place = s.place })
  arm_ends enter h a u done none =
      let (later, there, same) = subst (λ o. EndsBehind found (s.locals ++ extra) s.place o (act outer)) done alike in
      let made : drop (length found) u.locals ≡ later = ap (drop (length found)) there.locals ∙ drop-append_seam found later in
      let own = plain_from later (ap (flat_map (λ (l : Local). owned_in l.value)) (sym made) ∙ none) in
      begins enter h ∙ ap leaving same
      ∙ ap (λ o. and_then o (λ _. pure a)) (leaves_plain w s.locals (extra ++ later) (behind_all (s.locals ++ extra) later s.place u) (append_assoc s.locals extra later) (plain_both extra later plain own))

  -- where it is stopped, and not stuck, so it is in the arm
  pub arm_stops : (enter : Act (Unit {0})) → Enters enter → (e : Stop) (t : State) → ((n : ℕ) → e ≢ stop_of.Stuck n) → act at_block ≡ Stopped e t
      → (locals : List Local) × (arm_scope enter ≡ Stopped e (record t { locals = locals; place = s.place }))
  arm_stops enter h e t ns stopped =
      let (locals, same) = subst (λ o. EndsBehind found (s.locals ++ extra) s.place o (act outer)) stopped alike ns in (locals, begins enter h ∙ ap leaving same)

  -- an arm makes no call
  pub arm_quiet : CallsNothing act → (enter : Act (Unit {0})) → Enters enter → calls_at (arm_scope enter) ≡ s.calls
  arm_quiet quiet enter h =
      let adds : CallsNothing (add_locals (extra ++ added)) = record { quiet = λ t. refl } in
      subst (λ o. calls_at (leaving (and_then o (λ _. act))) ≡ s.calls) (sym h)
      ((quiet_scope w (add_locals (extra ++ added) >> act) (quiet_then (add_locals (extra ++ added)) (λ _. act) adds (λ _. quiet))).quiet s)
