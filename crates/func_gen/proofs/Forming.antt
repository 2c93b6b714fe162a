-- The form of a step: what it emitted, by what was added.
use Rattle.std.proofs.Common.{◌≡◌, ℕ, List, [], ◌∷◌, drop, length, map, Option, None, Some, refl, sym, ap, ◌∙◌, subst, arith}
use Rattle.std.specs.Prelude.{IfSome}
use Rattle.wit_model.specs.Bytes.{Bytes}
use Rattle.wit_model.specs.declared.types.TypeDef.{TypeDef}
use Rattle.wit_layout.specs.Tree.{Scalar}
use Rattle.rust_tree.specs.declared.expr.Expr.{Expr}
use Rattle.rust_tree.specs.declared.expr.Expr.TheVariants as expr
use Rattle.rust_tree.specs.declared.runtime_item.RuntimeItem.{RuntimeItem}
use Rattle.rust_tree.specs.declared.stmt.Stmt.{Stmt}
use Rattle.rust_tree.specs.declared.stmt.Stmt.TheVariants as stmt
use Rattle.abi_bindgen.specs.declared.instruction.Instruction.{Instruction}
use Rattle.abi_bindgen.specs.declared.instruction.Instruction.TheVariants.{Bitcasts, CallInterface, CallWasm, GuestDeallocateVariant, OptionLift, OptionLower, ResultLift, ResultLower, Return, VariantLift, VariantLower}
use Rattle.abi_bindgen.specs.Instructions.{block_results, lifted_scalar, lowered_scalar}
use Rattle.abi_bindgen.specs.Sent.{Sent, sends}
use Rattle.abi_bindgen.specs.Touches.{Touch, touch}
use Rattle.abi_bindgen.proofs.Ordinary.{IsOrdinary}
use Rattle.func_gen.specs.declared.function_bindgen.FinishedBlock.{FinishedBlock}
use Rattle.func_gen.specs.declared.function_bindgen.FunctionBindgen.{FunctionBindgen}
use Rattle.func_gen.specs.declared.operand.ExprOperand.{ExprOperand}
use Rattle.func_gen.specs.declared.scope.Scope.{Scope}
use Rattle.func_gen.specs.Added.{Appends}
use Rattle.func_gen.specs.CodeOf.{context, emitted}
use Rattle.func_gen.specs.Emission.{Emission, Writes, effect, one_local}
use Rattle.func_gen.specs.Forms.{operand_of}
use Rattle.func_gen.specs.PartForms.{exprs_of, locals_of}
use Rattle.func_gen.specs.Scope.{Takes, TakesOne}
use Rattle.func_gen.specs.Formed.{Becomes, Formed, called, no_call, told_count}
use Rattle.func_gen.specs.Still.{StillOf}

-- 1. Steps that give nothing and call nothing

pub record IsPlain (step : Sent) : Type 0 where
  pub gives : told_count step ≡ None
  pub calls : called step ≡ no_call

-- an instruction of a scalar or of a word in memory is none of those whose code the table does not tell
is_plain : (i : Instruction) → (lowered_scalar i ≡ None → lifted_scalar i ≡ None → touch i ≡ None → ⊥) → IsPlain (sends i)
is_plain (CallWasm f) none_of = absurd (none_of refl refl refl)
is_plain (CallInterface f) none_of = absurd (none_of refl refl refl)
is_plain (Return n) none_of = absurd (none_of refl refl refl)
is_plain (Bitcasts casts) none_of = absurd (none_of refl refl refl)
is_plain (VariantLower id n) none_of = absurd (none_of refl refl refl)
is_plain (OptionLower id n) none_of = absurd (none_of refl refl refl)
is_plain (ResultLower id n) none_of = absurd (none_of refl refl refl)
is_plain (VariantLift id) none_of = absurd (none_of refl refl refl)
is_plain (OptionLift id) none_of = absurd (none_of refl refl refl)
is_plain (ResultLift id) none_of = absurd (none_of refl refl refl)
is_plain (GuestDeallocateVariant n) none_of = absurd (none_of refl refl refl)
is_plain _ none_of = record { gives = refl; calls = refl }

pub lowers_plain : (i : Instruction) (s : Scalar) → lowered_scalar i ≡ Some s → IsPlain (sends i)
lowers_plain i s e = is_plain i (λ one two three. let no : (let o : Option Scalar = None in o ≡ Some s) = sym one ∙ e in cc)

pub lifts_plain : (i : Instruction) (s : Scalar) → lifted_scalar i ≡ Some s → IsPlain (sends i)
lifts_plain i s e = is_plain i (λ one two three. let no : (let o : Option Scalar = None in o ≡ Some s) = sym two ∙ e in cc)

pub touches_plain : (i : Instruction) (t : Touch) → touch i ≡ Some t → IsPlain (sends i)
touches_plain i t e = is_plain i (λ one two three. let no : (let o : Option Touch = None in o ≡ Some t) = sym three ∙ e in cc)

-- and such a step uses no finished block up
pub still_blocks : (i : Instruction) → IsOrdinary i → (types : List TypeDef) (before after : List FinishedBlock) → after ≡ before → after ≡ drop (length (block_results types i)) before
still_blocks i o types before after e = e ∙ ap (λ (used : List ℕ). drop (length used) before) (sym (o.whole types))

-- 2. No name, or one, is declared

pub takes_none : (before after : Scope) → after ≡ before → Takes before (λ k. []) before.next after
takes_none before after e = record {
  locals = [];
  named = λ k. refl;
  declares = record {
    number = record { reached = omega arith; free = refl; least = λ k at below. absurd (omega (arith, at, below)) };
    leaves = e;
  };
}

pub takes_since : (a b c : Scope) (names : ℕ → List Bytes) (t : ℕ) → b ≡ a → Takes b names t c → Takes a names t c
takes_since a b c names t e h = subst (λ s. Takes s names t c) e h

pub one_since : (a b c : Scope) (prefix name : Bytes) → b ≡ a → TakesOne b prefix name c → TakesOne a prefix name c
one_since a b c prefix name e h = subst (λ s. TakesOne s prefix name c) e h

-- 3. What was emitted

pub locals_are : (names : List Bytes) → locals_of names ≡ map operand_of (map (λ n. expr.Local n) names)
locals_are [] = refl
locals_are (n ∷ names) = ap (λ os. operand_of (expr.Local n) ∷ os) (locals_are names)

pub still_of : (old new : FunctionBindgen) (added : List Stmt) (items : List RuntimeItem) → Appends old new added items → StillOf old new
still_of old new added items a = record { import = a.import; home = a.home; area = a.area; params = a.params; sites = a.sites; sizes = a.sizes }

pub exprs_operands : (es : List Expr) → exprs_of (map operand_of es) ≡ es
exprs_operands [] = refl
exprs_operands (e ∷ es) = ap (λ xs. e ∷ xs) (exprs_operands es)

pub written_as : (old new : FunctionBindgen) (rs : List ExprOperand) (code : ℕ → Emission) (t : ℕ) → Takes old.scope (λ k. (code k).names) t new.scope → Appends old new (code t).stmts (code t).items
    → exprs_of rs ≡ (code t).results → Writes code rs old new
written_as old new rs code t takes a same = record { number = t; takes = takes; call = a.call; stmts = a.stmts; runtime = a.runtime; results = same; opened = a.opened; finished = a.finished }

pub written : (old new : FunctionBindgen) (rs : List ExprOperand) (code : ℕ → Emission) (t : ℕ) → Takes old.scope (λ k. (code k).names) t new.scope → Appends old new (code t).stmts (code t).items
    → rs ≡ map operand_of (code t).results → Writes code rs old new
written old new rs code t takes a same = written_as old new rs code t takes a (ap exprs_of same ∙ exprs_operands (code t).results)

-- whatever the table is
module _ {types : List TypeDef} (step : Sent) (plain : IsPlain step) (os : List ExprOperand) (old new : FunctionBindgen) where
  pub form_of : (rs : List ExprOperand) (code : ℕ → Emission) → emitted (context old) step (exprs_of os) ≡ Some code → StillOf old new → Writes code rs old new → Formed types step os rs old new
  form_of rs code is still writes = record {
    still = still;
    given = subst (λ o. IfSome o (λ n. length os ≡ n)) (sym plain.gives) tt;
    code = subst (λ o. Becomes types o step os rs old new) (sym plain.calls) (record { code = code; is = is; writes = writes });
  }

  -- names are declared
  pub form_as : (rs : List ExprOperand) (code : ℕ → Emission) (t : ℕ) → emitted (context old) step (exprs_of os) ≡ Some code → Takes old.scope (λ k. (code k).names) t new.scope → Appends old new (code t).stmts (code t).items
      → exprs_of rs ≡ (code t).results → Formed types step os rs old new
  form_as rs code t is takes a same = form_of rs code is (still_of old new (code t).stmts (code t).items a) (written_as old new rs code t takes a same)

  pub form_by : (rs : List ExprOperand) (code : ℕ → Emission) (t : ℕ) → emitted (context old) step (exprs_of os) ≡ Some code → Takes old.scope (λ k. (code k).names) t new.scope → Appends old new (code t).stmts (code t).items
      → rs ≡ map operand_of (code t).results → Formed types step os rs old new
  form_by rs code t is takes a same = form_of rs code is (still_of old new (code t).stmts (code t).items a) (written old new rs code t takes a same)

  -- no name is
  pub form_one : (o : ExprOperand) (items : List RuntimeItem) → emitted (context old) step (exprs_of os) ≡ Some (λ t. record { names = []; stmts = []; results = o.expr ∷ []; items = items }) → new.scope ≡ old.scope → Appends old new [] items → Formed types step os (o ∷ []) old new
  form_one o items is scope a = form_as (o ∷ []) (λ t. record { names = []; stmts = []; results = o.expr ∷ []; items = items }) old.scope.next is (takes_none old.scope new.scope scope) a refl

  pub form_alone : (e : Expr) (items : List RuntimeItem) → emitted (context old) step (exprs_of os) ≡ Some (λ t. record { names = []; stmts = []; results = e ∷ []; items = items }) → new.scope ≡ old.scope → Appends old new [] items → Formed types step os (operand_of e ∷ []) old new
  form_alone e items is scope a = form_one (operand_of e) items is scope a

  pub form_effect : (s : Stmt) (items : List RuntimeItem) → emitted (context old) step (exprs_of os) ≡ Some (λ t. effect s items) → new.scope ≡ old.scope → Appends old new (s ∷ []) items → Formed types step os [] old new
  form_effect s items is scope a = form_by [] (λ t. effect s items) old.scope.next is (takes_none old.scope new.scope scope) a refl

  -- a local is
  pub form_let : (prefix n : Bytes) (e : Expr) (items : List RuntimeItem) → emitted (context old) step (exprs_of os) ≡ Some (one_local prefix e items) → TakesOne old.scope prefix n new.scope → Appends old new (stmt.Let n e ∷ []) items
      → Formed types step os (operand_of (expr.Local n) ∷ []) old new
  form_let prefix n e items is one a =
      form_by (operand_of (expr.Local n) ∷ []) (one_local prefix e items) one.number is one.takes (subst (λ x. Appends old new (stmt.Let x e ∷ []) items) one.is a) (ap (λ x. operand_of (expr.Local x) ∷ []) one.is)
