-- The declaration of an area: it takes the first choice, or misses it.
use Rattle.std.proofs.Common.{◌≡◌, ◌⊎◌, inl, inr, ◌<◌, ℕ, Bool, true, false, ◌||◌, cond, nat_eq, List, [], ◌∷◌, ◌++◌, Some, slice_get, refl, sym, ap, ◌∙◌, subst, arith}
use Rattle.std.proofs.lemmas.Bool.Decides.{nat_tests}
use Rattle.rust_tree.specs.declared.area.ReturnArea.{ReturnArea}
use Rattle.rust_tree.specs.declared.stmt.Stmt.TheVariants as stmt
use Rattle.wrapper_data.specs.declared.choice.Choice.{Choice}
use Rattle.wrapper_data.specs.declared.choice.Choice.TheVariants as choice
use Rattle.wrapper_data.specs.declared.choice.Request.{Request}
use Rattle.wrapper_data.specs.declared.run.Stop.TheVariants as stop_of
use Rattle.wrapper_meaning.specs.Ends.{Misfits, fits}
use Rattle.wrapper_values.specs.declared.state.State.{State}
use Rattle.wrapper_values.specs.declared.state.Val.TheVariants as val
use Rattle.wrapper_values.specs.Act.{Done, Outcome, Stopped, and_then}
use Rattle.wrapper_values.specs.Locals.{bind}
use Rattle.wrapper_values.specs.Setting.{Setting, stuck}
use Rattle.wrapper_run.specs.Places.{area_block, is_fitting, place_area, place_at, request_of}
use Rattle.wrapper_run.proofs.StmtSteps.{run-area}
use Rattle.wrapper_run.specs.Run.{run_stmt}

abbrev pub asking : Request → State → State
asking r s = record s { requests = s.requests ++ r ∷ [] }

-- a state with the area, in a local
abbrev pub placed : ReturnArea → ℕ → List Choice → State → State
placed a address left s =
    let r = request_of a.size a.align in
    record s {
      heap = record { blocks = s.heap.blocks ++ area_block address r ∷ [] };
      choices = left;
      requests = s.requests ++ r ∷ [];
      taken = s.taken ++ address ∷ [];
      locals = s.locals ++ record { name = a.name; value = Some (val.Area address r.size) } ∷ [];
    }

pub record Places (w : Setting) (a : ReturnArea) (s : State) : Type 0 where
  pub address : ℕ
  pub left : List Choice
  pub chosen : s.choices ≡ choice.At address ∷ left
  pub fit : fits (request_of a.size a.align) address s.heap.blocks ≡ true
  pub runs : run_stmt w (stmt.Area a) s ≡ Done tt (placed a address left s)

pub record Misses (w : Setting) (a : ReturnArea) (s : State) : Type 0 where
  pub misfit : Misfits true s.heap.blocks (request_of a.size a.align) (slice_get s.choices 0)
  pub stops : run_stmt w (stmt.Area a) s ≡ Stopped stop_of.BadChoice (asking (request_of a.size a.align) s)

pub no_zero : (n : ℕ) → 0 < n → nat_eq n 0 ≡ false
no_zero n h = go (nat_eq n 0) refl
  where
    go : (c : Bool) → nat_eq n 0 ≡ c → c ≡ false
    go true e = absurd (grind (arith, nat_tests))
    go false e = refl

pub places : (w : Setting) (a : ReturnArea) (s : State) → 0 < (request_of a.size a.align).size → 0 < (request_of a.size a.align).align → Places w a s ⊎ Misses w a s
unfolding place_area bind
places w a s some aligned = go s.choices refl
  where
    r : Request
    r = request_of a.size a.align

    given : Outcome (ℕ × ℕ) → Outcome (Unit {0})
    given o = and_then o (λ p. bind a.name (val.Area p.0 p.1))

    asks : run_stmt w (stmt.Area a) s ≡ given (place_at r s.choices (asking r s))
    asks =
        ap (λ act. act s) (run-area w a)
        ∙ ap (λ c. given (cond (c || nat_eq r.align 0) (Stopped (stuck w) s) (place_at r s.choices (asking r s)))) (no_zero r.size some)
        ∙ ap (λ c. given (cond c (Stopped (stuck w) s) (place_at r s.choices (asking r s)))) (no_zero r.align aligned)

    go : (cs : List Choice) → s.choices ≡ cs → Places w a s ⊎ Misses w a s
    go [] e = inr (record { misfit = subst (λ cs. Misfits true s.heap.blocks r (slice_get cs 0)) (sym e) tt; stops = asks ∙ ap (λ cs. given (place_at r cs (asking r s))) e })
    go (choice.Refuse ∷ cs) e = inr (record { misfit = subst (λ cs. Misfits true s.heap.blocks r (slice_get cs 0)) (sym e) refl; stops = asks ∙ ap (λ cs. given (place_at r cs (asking r s))) e })
    go (choice.At address ∷ cs) e = test (is_fitting address r s.heap.blocks) refl
      where
        after : Bool → Outcome (ℕ × ℕ)
        after t = cond t (Done (address, r.size) (record (asking r s) { heap = record { blocks = s.heap.blocks ++ area_block address r ∷ [] }; taken = s.taken ++ address ∷ []; choices = cs })) (Stopped stop_of.BadChoice (asking r s))

        test : (t : Bool) → is_fitting address r s.heap.blocks ≡ t → Places w a s ⊎ Misses w a s
        test true h = inl (record { address = address; left = cs; chosen = e; fit = h; runs = asks ∙ ap (λ c. given (place_at r c (asking r s))) e ∙ ap (λ t. given (after t)) h })
        test false h = inr (record { misfit = subst (λ cs. Misfits true s.heap.blocks r (slice_get cs 0)) (sym e) (aligned, h); stops = asks ∙ ap (λ c. given (place_at r c (asking r s))) e ∙ ap (λ t. given (after t)) h })
