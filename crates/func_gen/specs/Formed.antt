-- What is promised of the code of a step: what it is, beside what it does.
use Rattle.std.specs.Prelude.{◌≡◌, ℕ, suc, List, [], ◌∷◌, ◌++◌, length, Option, None, Some, IfSome, option_to_list}
use Rattle.wit_model.specs.declared.function.Function.{Function}
use Rattle.wit_model.specs.declared.types.TypeDef.{TypeDef}
use Rattle.wit_model.specs.declared.types.WitType.{WitType}
use Rattle.wit_model.specs.declared.wasm_type.WasmType.{WasmType}
use Rattle.rust_tree.specs.declared.expr.Expr.{Expr}
use Rattle.rust_tree.specs.declared.stmt.Stmt.{Stmt}
use Rattle.wit_model.specs.Bytes.{Bytes}
use Rattle.abi_bindgen.specs.declared.instruction.Instruction.TheVariants.{Bitcasts, CallInterface, CallWasm, GuestDeallocateVariant, OptionLift, OptionLower, ResultLift, ResultLower, Return, VariantLift, VariantLower}
use Rattle.abi_bindgen.specs.Calls.{import_params, import_results}
use Rattle.abi_bindgen.specs.Sent.{Sent, closes, opens, sends}
use Rattle.func_gen.specs.declared.case_form.CaseForm.{CaseForm}
use Rattle.func_gen.specs.declared.function_bindgen.FinishedBlock.{FinishedBlock}
use Rattle.func_gen.specs.declared.function_bindgen.FunctionBindgen.{FunctionBindgen}
use Rattle.func_gen.specs.declared.function_bindgen.OpenBlock.{OpenBlock}
use Rattle.func_gen.specs.declared.operand.ExprOperand.{ExprOperand}
use Rattle.func_gen.specs.CaseForms.{AreFormsOf, CasedType, a_result, a_variant, an_option}
use Rattle.func_gen.specs.CodeOf.{calls_core, context, emitted}
use Rattle.func_gen.specs.Emission.{Emission, Writes}
use Rattle.func_gen.specs.LiftedCases.{FreesBy, LiftsBy, LiftsVariantBy}
use Rattle.func_gen.specs.MatchForms.{LowersBy}
use Rattle.func_gen.specs.MethodForms.{call_block, value_local}
use Rattle.func_gen.specs.PartForms.{exprs_of, locals_of}
use Rattle.func_gen.specs.Scope.{Takes}
use Rattle.func_gen.specs.Slot.{block_names}
use Rattle.func_gen.specs.Still.{StillOf}

-- how many operands a step has, where its form tells: those that the code gives, and words that are cast
abbrev pub told_count : Sent → Option ℕ
told_count (sends (Return n)) = Some n
told_count (sends (Bitcasts casts)) = Some (length casts.now)
told_count _ = None

-- what a step calls, where it calls something
pub data Called : Type 0 where
  no_call : Called
  core_call : Function → Called
  method_call : Function → Called
  -- or that it opens a block, or closes one
  block_begins : Called
  block_ends : Called
  -- or that it takes the cases of a value of a type apart, for so many results
  cases_match : CasedType → ℕ → Called
  -- or that it makes a case of a type of a number, where every other number ends the run, or is that of the last case
  case_lifts : CasedType → Called
  last_lifts : CasedType → Called
  -- or that it runs the one of so many blocks that free
  cases_free : ℕ → Called

abbrev pub called : Sent → Called
called (sends (CallWasm f)) = core_call f.now
called (sends (CallInterface f)) = method_call f.now
called (sends (VariantLower id n)) = cases_match (a_variant id.0) n
called (sends (OptionLower id n)) = cases_match (an_option id.0) n
called (sends (ResultLower id n)) = cases_match (a_result id.0) n
called opens = block_begins
called (sends (OptionLift id)) = case_lifts (an_option id.0)
called (sends (ResultLift id)) = case_lifts (a_result id.0)
called (sends (VariantLift id)) = last_lifts (a_variant id.0)
called (sends (GuestDeallocateVariant n)) = cases_free n
called closes = block_ends
called _ = no_call

-- it becomes what the table says
pub record BecomesTold (step : Sent) (os rs : List ExprOperand) (old new : FunctionBindgen) : Type 0 where
  pub code : ℕ → Emission
  pub is : emitted (context old) step (exprs_of os) ≡ Some code
  pub writes : Writes code rs old new

-- the core import of a function of the table is declared, with its core words, and called, with an operand for each word that it is passed
pub record CallsImported (types : List TypeDef) (f : Function) (os rs : List ExprOperand) (old new : FunctionBindgen) : Type 0 where
  pub answer : Option WasmType
  pub answers : option_to_list answer ≡ import_results types f
  pub many : length os ≡ length (import_params types f)
  pub writes : Writes (calls_core old.home f (import_params types f) answer (exprs_of os)) rs old new

-- all code so far becomes the block of a method's call, and the value that is due is a local
pub record CallsMethod (due : Option WitType) (f : Function) (os rs : List ExprOperand) (old new : FunctionBindgen) : Type 0 where
  pub number : ℕ
  pub takes : Takes old.scope (λ k. option_to_list (value_local due k)) number new.scope
  pub first : old.code.call ≡ None
  pub code : new.code ≡ record { call = Some (call_block f old.code.stmts (exprs_of os) (value_local due number)); stmts = [] }
  pub runtime : new.runtime ≡ old.runtime
  pub results : rs ≡ locals_of (option_to_list (value_local due number))
  pub opened : new.opened ≡ old.opened
  pub finished : new.finished ≡ old.finished

-- a block is opened, whose names take one number; the code so far is suspended
pub record OpensBlock (old new : FunctionBindgen) : Type 0 where
  pub number : ℕ
  pub takes : Takes old.scope block_names number new.scope
  pub opened : new.opened ≡ old.opened ++ record { number = number; names = old.scope.used; code = old.code } ∷ []
  pub code : new.code ≡ record { call = None; stmts = [] }
  pub runtime : new.runtime ≡ old.runtime
  pub finished : new.finished ≡ old.finished

-- what a block is, once it is closed with these statements and results
abbrev pub block_of : OpenBlock → List Stmt → List ExprOperand → FinishedBlock
block_of o stmts os = record { number = o.number; names = o.names; stmts = stmts; results = os }

-- the innermost block is closed, of whose code no method was called. It is the last finished one, and the code that it suspended is gone on
-- with; all names stay used
pub record ClosesBlock (os : List ExprOperand) (old new : FunctionBindgen) : Type 0 where
  pub block : OpenBlock
  pub opened : old.opened ≡ new.opened ++ block ∷ []
  pub code : new.code ≡ block.code
  pub uncalled : old.code.call ≡ None
  pub finished : new.finished ≡ old.finished ++ block_of block old.code.stmts os ∷ []
  pub scope : new.scope ≡ old.scope
  pub runtime : new.runtime ≡ old.runtime

-- the last finished blocks become the arms of a match of the operand, by the cases of its type. The results are locals
pub record MatchesCases (types : List TypeDef) (ty : CasedType) (n : ℕ) (os rs : List ExprOperand) (old new : FunctionBindgen) : Type 0 where
  pub forms : List CaseForm
  pub are : AreFormsOf types old.sites ty forms
  pub operand : Expr
  pub only : exprs_of os ≡ operand ∷ []
  pub names : List Bytes
  pub lowers : LowersBy forms operand n names old new
  pub results : rs ≡ locals_of names

-- the last finished blocks become the arms of a match of the number, which gives the case of the type
pub record LiftsCases (types : List TypeDef) (ty : CasedType) (os rs : List ExprOperand) (old new : FunctionBindgen) : Type 0 where
  pub forms : List CaseForm
  pub are : AreFormsOf types old.sites ty forms
  pub operand : Expr
  pub only : exprs_of os ≡ operand ∷ []
  pub name : Bytes
  pub lifts : LiftsBy forms operand name old new
  pub results : rs ≡ locals_of (name ∷ [])

pub record LiftsLast (types : List TypeDef) (ty : CasedType) (os rs : List ExprOperand) (old new : FunctionBindgen) : Type 0 where
  pub forms : List CaseForm
  pub last : CaseForm
  pub are : AreFormsOf types old.sites ty (forms ++ last ∷ [])
  pub operand : Expr
  pub only : exprs_of os ≡ operand ∷ []
  pub number : Bytes
  pub name : Bytes
  pub lifts : LiftsVariantBy forms last operand number name old new
  pub results : rs ≡ locals_of (name ∷ [])

-- and so many that free
pub record FreesCases (n : ℕ) (os rs : List ExprOperand) (old new : FunctionBindgen) : Type 0 where
  pub first : ℕ
  pub many : n ≡ suc first
  pub operand : Expr
  pub only : exprs_of os ≡ operand ∷ []
  pub frees : FreesBy first operand old new
  pub results : rs ≡ []

abbrev pub Becomes : List TypeDef → Called → Sent → (os rs : List ExprOperand) → (old new : FunctionBindgen) → Type 0
Becomes types no_call step os rs old new = BecomesTold step os rs old new
Becomes types (core_call f) step os rs old new = CallsImported types f os rs old new
Becomes types (method_call f) step os rs old new = CallsMethod f.result f os rs old new
Becomes types block_begins step os rs old new = OpensBlock old new
Becomes types block_ends step os rs old new = ClosesBlock os old new
Becomes types (cases_match ty n) step os rs old new = MatchesCases types ty n os rs old new
Becomes types (case_lifts ty) step os rs old new = LiftsCases types ty os rs old new
Becomes types (last_lifts ty) step os rs old new = LiftsLast types ty os rs old new
Becomes types (cases_free n) step os rs old new = FreesCases n os rs old new

pub record Formed (types : List TypeDef) (step : Sent) (os rs : List ExprOperand) (old new : FunctionBindgen) : Type 0 where
  pub still : StillOf old new
  pub given : IfSome (told_count step) (λ n. length os ≡ n)
  pub code : Becomes types (called step) step os rs old new
