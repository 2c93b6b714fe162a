-- Code that uses finished blocks up is code that was added, and leaves the blocks before them.
use Rattle.std.proofs.Common.{◌≡◌, ℕ, suc, false, List, [], ◌∷◌, length, drop, reverse, sym, ap, ◌∙◌, subst, arith}
use Rattle.std.proofs.Math.Seq.{drop-append_seam}
use Rattle.wit_model.specs.Bytes.{Bytes}
use Rattle.rust_tree.specs.declared.runtime_item.RuntimeItem.{RuntimeItem}
use Rattle.rust_tree.specs.declared.stmt.Stmt.{Stmt}
use Rattle.wrapper_values.specs.Setting.{Setting}
use Rattle.wrapper_run.specs.Run.{run_stmts}
use Rattle.wrapper_run.specs.Inward.{CallsNothing}
use Rattle.abi_bindgen.specs.Instructions.{AddsCode}
use Rattle.abi_bindgen.specs.Laws as law
use Rattle.func_gen.specs.declared.function_bindgen.FinishedBlock.{FinishedBlock}
use Rattle.func_gen.specs.declared.function_bindgen.FunctionBindgen.{FunctionBindgen}
use Rattle.func_gen.specs.Added.{Appends}
use Rattle.func_gen.specs.Meaning.{File, Serves, func_meaning}
use Rattle.func_gen.specs.Scope.{is_used}
use Rattle.func_gen.specs.Uses.{Uses}
use Rattle.func_gen.proofs.CaseMatch.{but, known_but}
use Rattle.func_gen.proofs.Steps.{func_adds}

module _ (b : FunctionBindgen) (f : List FinishedBlock) where
  -- a whole serves it with other finished blocks, too
  serves_but : (w : File) → Serves w b → Serves w (but b f)
  serves_but w h = record { runtime = h.runtime; sites = h.sites; room = h.room; sized = h.sized; static = h.static; bound = h.bound; called = h.called; suspended = h.suspended }

  but_serves : (w : File) → Serves w (but b f) → Serves w b
  but_serves w h = record { runtime = h.runtime; sites = h.sites; room = h.room; sized = h.sized; static = h.static; bound = h.bound; called = h.called; suspended = h.suspended }

  grows_but : (new : FunctionBindgen) → law.Grows func_meaning (but b f) new → law.Grows func_meaning b new
  grows_but new g = record {
    serves = λ w h. but_serves w (g.serves w h);
    more = λ w h. g.more w (serves_but w h);
    stops = λ w p s h. g.stops w p s h;
    imports = g.imports;
    exports = g.exports;
    arguments = g.arguments;
    knows = g.knows;
    writes = g.writes;
    target = g.target;
    crosses = λ w x. g.crosses w x;
    opened = g.opened;
    known = λ w facts s d. g.known w facts s (known_but b f w facts s d);
  }

module _ (old mid new : FunctionBindgen) (n : ℕ) (used : List FinishedBlock) (uses : Uses used n old mid) (stmts : List Stmt) (items : List RuntimeItem) (a : Appends mid new stmts items)
    (names : (k : Bytes) → is_used new.scope.used k ≡ false → is_used mid.scope.used k ≡ false) (quiet : (w : Setting) → CallsNothing (run_stmts w stmts)) where
  adds : law.Adds func_meaning mid new
  adds = func_adds mid new stmts items a names quiet

  pub grows_used : law.Grows func_meaning old new
  grows_used = grows_but old mid.finished new (subst (λ b. law.Grows func_meaning b new) uses.rest adds.grows)

  pub quiet_used : law.Quiet func_meaning old new
  quiet_used = subst (λ b. law.Quiet func_meaning b new) uses.rest adds.quiet

  pub uncalled_used : law.StaysUncalled func_meaning old new
  uncalled_used = subst (λ (b : FunctionBindgen). law.StaysUncalled func_meaning (record b { finished = old.finished }) new) uses.rest (λ h. adds.uncalled (record { here = h.here; around = h.around }))

  -- an instruction that uses up at least one
  pub adds_used : (ks : List ℕ) → length ks ≡ n → (m : ℕ) → n ≡ suc m → AddsCode func_meaning false ks old new
  adds_used [] many m some = absurd (omega (arith, many, some))
  adds_used (k ∷ ks) many m some = (grows_used, quiet_used, uncalled_used)

  pub blocks_left : func_meaning.blocks new ≡ drop n (func_meaning.blocks old)
  blocks_left =
      ap reverse a.finished ∙ sym (drop-append_seam used (reverse mid.finished)) ∙ sym (ap (drop (length used)) uses.taken) ∙ ap (λ k. drop k (reverse old.finished)) uses.many

  pub asked_still : new.asked ≡ old.asked
  asked_still = a.asked ∙ ap (λ (b : FunctionBindgen). b.asked) uses.rest

  pub returned_still : new.returned ≡ old.returned
  returned_still = a.returned ∙ ap (λ (b : FunctionBindgen). b.returned) uses.rest
