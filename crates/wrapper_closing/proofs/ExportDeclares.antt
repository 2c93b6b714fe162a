-- The body that was made for an export calls its method, and declares no area, before the call and behind it.
use Rattle.std.proofs.Common.{◌≡◌, true, List, [], ◌∷◌, ◌++◌, length, map, Option, Some, refl, sym, ap, ◌∙◌, subst}
use Rattle.std.specs.Borrow.{Bor}
use Rattle.wit_model.specs.declared.function.Function.{Function}
use Rattle.wit_model.specs.declared.types.TypeDef.{TypeDef}
use Rattle.wit_layout.specs.declared.signature.AbiVariant.TheVariants.{GuestExport}
use Rattle.wit_layout.specs.Signature.{core_results}
use Rattle.wrapper_meaning.specs.Represents.{result_words}
use Rattle.wrapper_meaning.specs.Shape.{result_shape}
use Rattle.rust_tree.specs.declared.export.CallBlock.{CallBlock}
use Rattle.abi_bindgen.specs.declared.instruction.Instruction.TheVariants.{Return}
use Rattle.abi_bindgen.specs.Code.{call_code, give_code, take_code}
use Rattle.abi_bindgen.specs.Flow.{Flow, emit}
use Rattle.abi_bindgen.specs.Flows.{Flows}
use Rattle.abi_bindgen.proofs.QuietFlows.{give_quiet, take_quiet}
use Rattle.func_gen.specs.declared.function_bindgen.Code.{Code}
use Rattle.func_gen.specs.declared.function_bindgen.FunctionBindgen.{FunctionBindgen}
use Rattle.func_gen.specs.declared.operand.ExprOperand.{ExprOperand}
use Rattle.func_gen.specs.Formed.{CallsMethod}
use Rattle.func_gen.specs.Meaning.{func_meaning}
use Rattle.func_gen.specs.MethodForms.{call_block, value_local}
use Rattle.func_gen.specs.PartForms.{exprs_of}
use Rattle.wrapper_closing.specs.Bodies.{is_plain_call}
use Rattle.wrapper_closing.specs.Declares.{Area, declare_none}
use Rattle.wrapper_closing.proofs.CallsKept.{quiet_keep}
use Rattle.wrapper_closing.proofs.StepsDeclare.{HasDeclared, Outer, closed_still, declares_still, outside_of}
use Rattle.wrapper_closing.proofs.Undeclared.{AreBare, Declare, no_stmts}

-- 1. The call

module _ (f : Function) (os rs : List ExprOperand) (old new : FunctionBindgen) (none : old.opened ≡ []) (h : HasDeclared Area [] old) (c : CallsMethod f.result f os rs old new) where
  abbrev block : CallBlock
  block = call_block f old.code.stmts (exprs_of os) (value_local f.result c.number)

  block_plain : declare_none Area old.code.stmts ≡ true
  block_plain = (outside_of Area [] old none h).none refl

  block_made : new.code.call ≡ Some block
  block_made = ap (λ (k : Code). k.call) c.code

  none_still : new.opened ≡ []
  none_still = c.opened ∙ none

  call_declares : HasDeclared Area [] new
  call_declares = record {
    outer = subst (λ o. Outer Area [] o new.code.stmts) (sym none_still) (subst (Declare Area []) (sym (ap (λ (k : Code). k.stmts) c.code)) (no_stmts Area));
    blocks = subst (AreBare Area) (sym c.finished) h.blocks;
  }

-- 2. The whole code of an export

module _ (types : List TypeDef) (func : Bor Function) (gives : List ExprOperand) (old new : FunctionBindgen) (h : Flows func_meaning types (call_code types GuestExport func) [] gives old new) (none : old.opened ≡ []) where
  abbrev before : Flow
  before = take_code types (map (λ p. p.ty) func.now.params)

  abbrev ends_with : Flow
  ends_with = emit (Return (length (core_results GuestExport (result_words (result_shape types func.now)))))

  pub export_closed : new.opened ≡ []
  export_closed = closed_still types (call_code types GuestExport func) [] gives old new h none

  pub export_declares : old.code.stmts ≡ [] → old.finished ≡ [] → (is_plain_call new.code.call ≡ true) × (declare_none Area new.code.stmts ≡ true)
  export_declares empty unfinished =
      let begins : HasDeclared Area [] old = record { outer = subst (λ o. Outer Area [] o old.code.stmts) (sym none) (subst (Declare Area []) (sym empty) (no_stmts Area)); blocks = subst (AreBare Area) (sym unfinished) tt } in
      let (given, last, (answer, called, (values, mid, takes, e), answers), returns) = h in
      let open_at_call = closed_still types before [] values old mid takes none in
      let taken = take_quiet types (map (λ p. p.ty) func.now.params) in
      let has = declares_still Area types [] before [] values old mid taken takes begins in
      let call = e.form.code in
      let made : Option CallBlock = Some (block func.now values answer mid called open_at_call has call) in
      let at_call = none_still func.now values answer mid called open_at_call has call in
      let kept = quiet_keep types made (give_code types func.now.result) answer given called last (give_quiet types func.now.result) answers at_call (block_made func.now values answer mid called open_at_call has call) in
      let open_at_end = closed_still types (give_code types func.now.result) answer given called last answers at_call in
      let kept_all = quiet_keep types made ends_with given gives last new refl returns open_at_end kept in
      let has_call = call_declares func.now values answer mid called open_at_call has call in
      let has_given = declares_still Area types [] (give_code types func.now.result) answer given called last (give_quiet types func.now.result) answers has_call in
      let has_all = declares_still Area types [] ends_with given gives last new refl returns has_given in
      (ap is_plain_call kept_all ∙ block_plain func.now values answer mid called open_at_call has call, (outside_of Area [] new export_closed has_all).none refl)
