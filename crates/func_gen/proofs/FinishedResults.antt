-- The results of a block are evaluated one after the other: they are what its operands denote, and own what that owns.
use Rattle.std.proofs.Common.{◌≡◌, ℕ, ◌+◌, Bool, true, false, List, [], ◌∷◌, ◌++◌, length, map, Option, None, Some, refl, ap, ap₂, ◌∙◌, arith}
use Rattle.std.specs.Prelude.{option_and_then, option_map}
use Rattle.std.specs.List.{flat_map}
use Rattle.std.proofs.lemmas.Bool.{and_parts}
use Rattle.wrapper_data.specs.declared.value.RustValue.{RustValue}
use Rattle.wrapper_meaning.specs.Items.{total}
use Rattle.wrapper_meaning.proofs.PostReturn.{total-append}
use Rattle.wrapper_values.specs.declared.state.State.{State}
use Rattle.wrapper_values.specs.declared.state.Val.{Val}
use Rattle.wrapper_values.specs.declared.state.Val.TheVariants as val
use Rattle.wrapper_values.specs.Act as machine
use Rattle.wrapper_values.specs.Locals.{usable}
use Rattle.wrapper_values.specs.Owning.{owned, owned_by}
use Rattle.wrapper_values.specs.Setting.{Setting}
use Rattle.wrapper_run.specs.Run.{eval}
use Rattle.wrapper_run.specs.Inward.{CallsNothing}
use Rattle.wrapper_run.proofs.QuietActs.{quiet_cons, quiet_pure}
use Rattle.abi_bindgen.specs.Blocks.{owned_datum}
use Rattle.abi_bindgen.specs.Laws.{Data, Facts, ofs}
use Rattle.abi_bindgen.specs.Meaning.{Datum, item, word}
use Rattle.func_gen.specs.declared.function_bindgen.FunctionBindgen.{FunctionBindgen}
use Rattle.func_gen.specs.declared.operand.ExprOperand.{ExprOperand}
use Rattle.func_gen.specs.FactLemmas.{item_rust}
use Rattle.func_gen.specs.Facts.{Hold, val_of}
use Rattle.func_gen.specs.Finished.{data_of, datum_of, evaluated}
use Rattle.func_gen.specs.Meaning.{account_of, func_meaning, owns_of}
use Rattle.func_gen.specs.Operand.{is_operand}
use Rattle.func_gen.specs.PartForms.{are_operands}
use Rattle.func_gen.specs.Read.{item_of, kept_value}
use Rattle.func_gen.proofs.FlushRow.{is_given}
use Rattle.func_gen.proofs.PartRows.{owned_is}
use Rattle.func_gen.proofs.Quiet.{quiet_operand}
use Rattle.func_gen.proofs.Several.{one_more}

-- 1. One value

same_item : (o : Option RustValue) (d : Datum RustValue) → option_map val.Value o ≡ Some (val_of d) → option_map (λ r. item r) o ≡ Some d
same_item None d h = absurd cc
same_item (Some r) (word x) h = absurd cc
same_item (Some r) (item q) h = let e : r ≡ q = cc in ap (λ z. Some (item z)) e

-- what is denoted is the datum of the value
datum_is : (kept : Bool) (v : Val) (d : Datum RustValue) → kept_value kept (option_and_then usable (Some v)) ≡ Some (val_of d) → datum_of kept v ≡ Some d
datum_is false (val.Word x) (word y) h = let e : x ≡ y = cc in ap (λ z. Some (word z)) e
datum_is false (val.Word x) (item r) h = absurd cc
datum_is false (val.Value q) (word y) h = absurd cc
datum_is false (val.Value q) (item r) h = let e : q ≡ r = cc in ap (λ z. Some (item z)) e
datum_is false (val.Area a n) d h = absurd cc
datum_is true (val.Word x) d h = same_item (item_of (val.Word x)) d h
datum_is true (val.Value q) d h = same_item (Some q) d h
datum_is true (val.Area a n) d h = absurd cc

item_owns : (v : Val) (o : Option RustValue) → item_of v ≡ o → (d : Datum RustValue) → option_map (λ r. item r) o ≡ Some d → owned v ≡ owned_datum func_meaning d
item_owns v None e d h = absurd cc
item_owns v (Some r) e (word x) h = absurd cc
item_owns v (Some r) e (item q) h = let same : r ≡ q = cc in owned_is v r (item_rust v r e) ∙ ap owned_by same

-- and owns what it does
owns_as : (kept : Bool) (v : Val) (d : Datum RustValue) → datum_of kept v ≡ Some d → owned v ≡ owned_datum func_meaning d
owns_as false (val.Word x) (word y) h = refl
owns_as false (val.Word x) (item r) h = absurd cc
owns_as false (val.Value q) (word y) h = absurd cc
owns_as false (val.Value q) (item r) h = let e : q ≡ r = cc in ap owned_by e
owns_as false (val.Area a n) d h = absurd cc
owns_as true v d h = item_owns v (item_of v) refl d h

-- 2. One after the other

pub record Results (w : Setting) (os : List ExprOperand) (ds : Data func_meaning) (s : State) : Type 0 where
  pub given : List Val
  pub then : State
  pub runs : evaluated w os s ≡ machine.Done given then
  pub are : data_of os given ≡ Some ds
  pub account : account_of then ≡ account_of s
  -- what the data own, the locals own no more
  pub owns : (f : ℕ → ℕ) → total f (owns_of then) + total f (flat_map (owned_datum func_meaning) ds) ≡ total f (owns_of s)

pub results_given : (w : Setting) (b : FunctionBindgen) (os : List ExprOperand) (ds : Data func_meaning) (others : Facts func_meaning) (s : State) → length ds ≡ length os → Hold w.items b (ofs func_meaning os ds ++ others) s → Results w os ds s
results_given w b [] [] others s len h = record { given = []; then = s; runs = refl; are = refl; account = refl; owns = λ f. omega arith }
results_given w b [] (d ∷ ds) others s len h = absurd (omega (arith, len))
results_given w b (o ∷ os) [] others s len h = absurd (omega (arith, len))
results_given w b (o ∷ os) (d ∷ ds) others s len h =
    let one = is_given w b o d (ofs func_meaning os ds ++ others) s h in
    let later = results_given w b os ds others one.then (omega (arith, len)) one.holds in
    let is = datum_is o.kept one.given d one.is in
    record {
      given = one.given ∷ later.given;
      then = later.then;
      runs = one_more (eval w o.expr) (map (λ (p : ExprOperand). eval w p.expr) os) one.given later.given s one.then later.then one.evaluated later.runs;
      are = ap₂ (λ x xs. option_and_then (λ y. option_map (λ ys. y ∷ ys) xs) x) is later.are;
      account = later.account ∙ one.account;
      owns = λ f.
          let same = ap (total f) (owns_as o.kept one.given d is) in
          omega (arith, same, one.owns f, later.owns f, total-append f (owned_datum func_meaning d) (flat_map (owned_datum func_meaning) ds));
    }

-- 3. No call is made

pub quiet_results : (w : Setting) (os : List ExprOperand) → are_operands os ≡ true → CallsNothing (evaluated w os)
quiet_results w [] h = quiet_pure []
quiet_results w (o ∷ os) h =
    let two = and_parts (is_operand o.expr) (are_operands os) h in
    quiet_cons (eval w o.expr) (map (λ (o : ExprOperand). eval w o.expr) os) (quiet_operand w o.expr two.0) (quiet_results w os two.1)
