-- The body that was made for an import declares one core import, which is that of its function.
use Rattle.std.proofs.Common.{◌≡◌, true, List, [], ◌∷◌, ◌++◌, length, map, Option, None, Some, refl, sym, ap, ◌∙◌, subst}
use Rattle.std.specs.Prelude.{option_to_list}
use Rattle.std.specs.Borrow.{Bor}
use Rattle.wit_model.specs.Bytes.{Bytes}
use Rattle.wit_model.specs.declared.function.Function.{Function}
use Rattle.wit_model.specs.declared.types.TypeDef.{TypeDef}
use Rattle.wit_model.specs.declared.wasm_type.WasmType.{WasmType}
use Rattle.wit_layout.specs.declared.signature.AbiVariant.TheVariants.{GuestImport}
use Rattle.rust_tree.specs.declared.stmt.Arm.{Arm}
use Rattle.rust_tree.specs.declared.stmt.Block.{Block, Block-F}
use Rattle.rust_tree.specs.declared.stmt.ImportDecl.{ImportDecl}
use Rattle.rust_tree.specs.declared.stmt.Stmt.{Stmt}
use Rattle.wrapper_run.proofs.StmtSteps.{code-opened}
use Rattle.abi_bindgen.specs.declared.bindgen.Asked.{Asked}
use Rattle.abi_bindgen.specs.declared.instruction.Instruction.TheVariants.{Return}
use Rattle.abi_bindgen.specs.Calls.{import_params, import_results}
use Rattle.abi_bindgen.specs.Code.{call_code, pass_code, point_code, read_code}
use Rattle.abi_bindgen.specs.Flow.{Flow, both, emit}
use Rattle.abi_bindgen.specs.Flows.{Flows}
use Rattle.abi_bindgen.proofs.QuietFlows.{is_quiet, pass_quiet, point_quiet, quiet_two, read_quiet}
use Rattle.func_gen.specs.declared.body.Body.{Body}
use Rattle.func_gen.specs.declared.function_bindgen.Code.{Code}
use Rattle.func_gen.specs.declared.function_bindgen.FunctionBindgen.{FunctionBindgen}
use Rattle.func_gen.specs.declared.operand.ExprOperand.{ExprOperand}
use Rattle.func_gen.specs.CallForms.{import_name, import_of}
use Rattle.func_gen.specs.CodeOf.{calls_core}
use Rattle.func_gen.specs.Emission.{Writes}
use Rattle.func_gen.specs.Formed.{CallsImported}
use Rattle.func_gen.specs.Meaning.{func_meaning}
use Rattle.func_gen.specs.PartForms.{exprs_of}
use Rattle.func_gen.proofs.StillFlows.{still_flows}
use Rattle.wrapper_closing.specs.Bodies.{MakesImport}
use Rattle.wrapper_closing.specs.Declares.{DeclaresOne, Import, IsImportOf}
use Rattle.wrapper_closing.specs.ImportBlock.{block_of as block_with, local_area}
use Rattle.wrapper_closing.specs.declared.parts.BodyParts.{BodyParts}
use Rattle.wrapper_closing.proofs.StepsDeclare.{HasDeclared, Outer, closed_before, closed_still, declares_still, outside_of}
use Rattle.wrapper_closing.proofs.Undeclared.{AreBare, Declare, area_one, declare_behind, expr_one, import_then, let_one, no_stmts}

-- 1. The call

call_declares : (types : List TypeDef) (f : Function) (os rs : List ExprOperand) (old new : FunctionBindgen) → old.opened ≡ [] → HasDeclared Import [] old → CallsImported types f os rs old new → (decl : ImportDecl) × IsImportOf types old.home f decl × HasDeclared Import (decl ∷ []) new
call_declares types f os rs old new none h c = go c.answer c.answers c.writes
  where
    before : Declare Import [] old.code.stmts
    before = outside_of Import [] old none h

    after : (d : ImportDecl) (added : List Stmt) → Declare Import (d ∷ []) added → new.code.stmts ≡ old.code.stmts ++ added → new.opened ≡ old.opened → new.finished ≡ old.finished → HasDeclared Import (d ∷ []) new
    after d added g stmts opened finished = record {
      outer = subst (λ o. Outer Import (d ∷ []) o new.code.stmts) (sym (opened ∙ none)) (subst (Declare Import (d ∷ [])) (sym stmts) (declare_behind Import (d ∷ []) old.code.stmts added before g));
      blocks = subst (AreBare Import) (sym finished) h.blocks;
    }

    go : (answer : Option WasmType) → option_to_list answer ≡ import_results types f → Writes (calls_core old.home f (import_params types f) answer (exprs_of os)) rs old new → (decl : ImportDecl) × IsImportOf types old.home f decl × HasDeclared Import (decl ∷ []) new
    go None answers w =
        let t = w.number in
        let d = import_of old.home f (import_params types f) None (import_name t) in
        (d, record { of_home = refl; of_name = refl; params = refl; answer = answers }, after d _ (import_then Import d _ (expr_one Import _)) w.stmts w.opened w.finished)
    go (Some ty) answers w =
        let t = w.number in
        let d = import_of old.home f (import_params types f) (Some ty) (import_name t) in
        (d, record { of_home = refl; of_name = refl; params = refl; answer = answers }, after d _ (import_then Import d _ (let_one Import _ _)) w.stmts w.opened w.finished)

-- 2. The whole code of an import

module _ (types : List TypeDef) (func : Bor Function) (gives : List ExprOperand) (old new : FunctionBindgen) (h : Flows func_meaning types (call_code types GuestImport func) [] gives old new) (none : old.opened ≡ []) where
  abbrev before : Flow
  before = both (pass_code types (map (λ p. p.ty) func.now.params)) (point_code types func.now.result)

  before_quiet : is_quiet before ≡ true
  before_quiet = quiet_two _ _ (pass_quiet types (map (λ p. p.ty) func.now.params)) (point_quiet types func.now.result)

  pub import_closed : new.opened ≡ []
  import_closed = closed_still types (call_code types GuestImport func) [] gives old new h none

  code_declares : old.code.stmts ≡ [] → old.finished ≡ [] → (decl : ImportDecl) × IsImportOf types old.home func.now decl × Declare Import (decl ∷ []) new.code.stmts
  code_declares empty unfinished =
      let begins : HasDeclared Import [] old = record { outer = subst (λ o. Outer Import [] o old.code.stmts) (sym none) (subst (Declare Import []) (sym empty) (no_stmts Import)); blocks = subst (AreBare Import) (sym unfinished) tt } in
      let (given, last, (answer, called, (passed, mid, first, (back, pointer, next, e, stays, is)), reads), ends) = h in
      let open_at_call = closed_still types before [] passed old mid first none in
      let (decl, is_import, has) = call_declares types func.now passed back mid next open_at_call (declares_still Import types [] before [] passed old mid before_quiet first begins) e.form.code in
      let has_still = subst (HasDeclared Import (decl ∷ [])) (sym stays.1) has in
      let has_read = declares_still Import types (decl ∷ []) (read_code types func.now.result) answer given called last (read_quiet types func.now.result) reads has_still in
      let has_all = declares_still Import types (decl ∷ []) (emit (Return (length (option_to_list func.now.result)))) given gives last new refl ends has_read in
      (decl, subst (λ home. IsImportOf types home func.now decl) (still_flows types before [] passed old mid first).home is_import, outside_of Import (decl ∷ []) new import_closed has_all)

-- 3. The block of the body, with its area in front

area_before : (name : Bytes) (area : Option Asked) → Declare Import [] (local_area name area)
area_before name None = no_stmts Import
area_before name (Some a) = area_one (record { name = name; size = a.size; align = a.align })

pub import_body_declares : (types : List TypeDef) (func : Bor Function) (parts : BodyParts) (body : Body) → MakesImport types func parts body → DeclaresOne types parts.home func.now (block_with parts.area body).stmts
import_body_declares types func parts body m =
    let (decl, is, has) = code_declares types func [] m.old m.new m.flows (closed_before types (call_code types GuestImport func) [] [] m.old m.new m.flows m.body_of.closed) (ap (λ (c : Code). c.stmts) m.made.empty) m.made.unfinished in
    let whole = declare_behind Import (decl ∷ []) (local_area parts.area body.area) body.stmts (area_before parts.area body.area) (subst (Declare Import (decl ∷ [])) (sym m.body_of.stmts) has) in
    let same : (block_with parts.area body).stmts ≡ local_area parts.area body.area ++ body.stmts = ap (λ (l : Block-F Stmt Arm Block). l.stmts) (code-opened (local_area parts.area body.area ++ body.stmts) body.tail) in
    subst (DeclaresOne types parts.home func.now) (sym same) (decl, whole.outside, subst (λ home. IsImportOf types home func.now decl) m.made.of_home is, whole.arms)
