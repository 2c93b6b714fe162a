-- The body that was made for a function has identifiers alone as names, where its parts have.
use Rattle.std.proofs.Common.{◌≡◌, ℕ, Bool, true, false, List, [], ◌∷◌, ◌++◌, length, map, Option, None, Some, refl, sym, ap, ◌∙◌, subst}
use Rattle.std.specs.Prelude.{option_to_list}
use Rattle.std.specs.Borrow.{Bor}
use Rattle.std.specs.List.{AllByRecursion, list_all}
use Rattle.std.proofs.lemmas.Bool.{and_parts}
use Rattle.wit_model.specs.Bytes.{Bytes}
use Rattle.wit_model.specs.declared.function.Function.{Function}
use Rattle.wit_model.specs.declared.function.Param.{Param}
use Rattle.wit_model.specs.declared.types.TypeDef.{TypeDef}
use Rattle.wit_model.specs.declared.types.WitType.{WitType}
use Rattle.wit_layout.specs.Signature.{core_results}
use Rattle.wit_layout.specs.declared.signature.AbiVariant.TheVariants.{GuestExport}
use Rattle.rust_tree.specs.declared.area.ReturnArea.{ReturnArea}
use Rattle.rust_tree.specs.declared.expr.Expr.{Expr}
use Rattle.rust_tree.specs.declared.stmt.Stmt.TheVariants as stmt
use Rattle.rust_tree.specs.Ident.{is_ident, rust_ident}
use Rattle.rust_tree.specs.WellNamed.{is_absent_or, is_named_block, is_named_call, is_named_expr, is_named_stmt, is_quotable}
use Rattle.wrapper_meaning.specs.Represents.{result_words}
use Rattle.wrapper_meaning.specs.Shape.{result_shape}
use Rattle.wrapper_run.specs.Code.{code_of}
use Rattle.abi_bindgen.specs.declared.bindgen.Asked.{Asked}
use Rattle.abi_bindgen.specs.declared.instruction.Instruction.{Instruction}
use Rattle.abi_bindgen.specs.declared.instruction.Instruction.TheVariants.{CallInterface, CallWasm, Return}
use Rattle.abi_bindgen.specs.Calls.{is_call}
use Rattle.abi_bindgen.specs.Code.{free_result_code, give_code, pass_code, passed_count, point_code, read_code, take_code}
use Rattle.abi_bindgen.specs.Flow.{Flow, behind, both, emit, ◌>>>◌}
use Rattle.abi_bindgen.specs.Flows.{Flows}
use Rattle.abi_bindgen.specs.Instructions.{Emits}
use Rattle.abi_bindgen.proofs.QuietFlows.{give_quiet, is_quiet, pass_quiet, point_quiet, post_return_quiet, read_quiet, take_quiet}
use Rattle.func_gen.specs.declared.body.Body.{Body}
use Rattle.func_gen.specs.declared.function_bindgen.FunctionBindgen.{FunctionBindgen}
use Rattle.func_gen.specs.declared.function_bindgen.OpenBlock.{OpenBlock}
use Rattle.func_gen.specs.declared.operand.ExprOperand.{ExprOperand}
use Rattle.func_gen.specs.Body.{Gives, IsBodyOf}
use Rattle.func_gen.specs.Meaning.{func_meaning}
use Rattle.wrapper_closing.specs.ImportBlock.{block_of, local_area}
use Rattle.wrapper_closing.specs.NameLaws.{ExportBodyIsNamed, ImportBodyIsNamed, PostReturnBodyIsNamed}
use Rattle.wrapper_closing.specs.Named.{AreNamedParams, AreNamedParts, AreNamedSites, IsNamedBody, IsNamedOperand}
use Rattle.wrapper_closing.specs.Parts.{IsMadeFrom}
use Rattle.wrapper_closing.specs.declared.parts.BodyParts.{BodyParts}
use Rattle.wrapper_closing.proofs.NamedBindgens.{IsNamed, IsNamedBlock, IsNamedCode, KeepsNames}
use Rattle.wrapper_closing.proofs.NamedSteps.{code_named}
use Rattle.wrapper_closing.proofs.NamedStmts.{AreNamed, area_named, block_named, more_named, one_named}
use Rattle.wrapper_closing.proofs.StepsKeep.{CodeFits, quiet_fits}

-- 1. What begins, and what ends

module _ (import : Bool) (parts : BodyParts) (b : FunctionBindgen) (p : AreNamedParts parts) (m : IsMadeFrom import parts b) where
  named_start : IsNamed b
  named_start = record {
    home = ap is_quotable m.of_home ∙ p.home;
    area = ap is_ident m.of_area ∙ p.area;
    params = subst AreNamedParams (sym m.of_params) p.params;
    sites = subst AreNamedSites (sym m.of_sites) p.sites;
    code = subst IsNamedCode (sym m.empty) (record { call = refl; stmts = refl });
    opened = subst (AllByRecursion (λ (o : OpenBlock). IsNamedCode o.code)) (sym m.closed) tt;
    finished = subst (AllByRecursion IsNamedBlock) (sym m.unfinished) tt;
  }

tail_named : (given : List ExprOperand) (tail : Option Expr) → Gives (Some given) tail → AllByRecursion IsNamedOperand given → is_absent_or is_named_expr tail ≡ true
tail_named [] tail g all = ap (is_absent_or is_named_expr) g
tail_named (o ∷ []) tail g all = ap (is_absent_or is_named_expr) g ∙ all.0
tail_named (o ∷ _ ∷ _) tail g all = absurd g

quiet_step : (i : Instruction) (n : ℕ) → is_call i ≡ false → KeepsNames i n
quiet_step (CallWasm f) n q = absurd (let wrong = q in cc)
quiet_step (CallInterface f) n q = absurd (let wrong = q in cc)
quiet_step _ n q = tt

module _ (types : List TypeDef) where
  quiet : (code : Flow) (n : ℕ) → is_quiet code ≡ true → CodeFits types KeepsNames n code
  quiet code n q = quiet_fits types KeepsNames quiet_step code n q

  -- what the code gives is given by its last step
  finishes : (front : Flow) (n : ℕ) (given : List ExprOperand) (old last new : FunctionBindgen) (body : Body) → CodeFits types KeepsNames 0 front → Flows func_meaning types front [] given old last → Emits func_meaning types (Return n) given [] last new
      → IsNamed old → IsBodyOf new body → IsNamedBody body
  finishes front n given old last new body fits flows ends start b =
      let first = code_named types front [] given old last fits flows tt start in
      let whole = code_named types (emit (Return n)) given [] last new tt ends first.1 first.0 in
      record {
        call = ap (is_absent_or is_named_call) b.call ∙ whole.0.code.call;
        stmts = ap (list_all is_named_stmt) b.stmts ∙ whole.0.code.stmts;
        tail = tail_named given body.tail (subst (λ r. Gives r body.tail) ends.returned b.tail) first.1;
      }

-- 2. Bodies

module _ (types : List TypeDef) (func : Bor Function) where
  abbrev passed : List WitType
  passed = map (λ (p : Param). p.ty) func.now.params

  -- all but the last step
  abbrev import_front : Flow
  import_front = both (pass_code types passed) (point_code types func.now.result) >>> both (emit (CallWasm func)) (behind (passed_count types passed)) >>> read_code types func.now.result

  import_fits : is_quotable func.now.name.wit ≡ true → CodeFits types KeepsNames 0 import_front
  import_fits quoted =
      let passes = quiet types (pass_code types passed) 0 (pass_quiet types passed) in
      let points = quiet types (point_code types func.now.result) 0 (point_quiet types func.now.result) in
      (((passes, points), (λ n many. (quoted, tt))), (λ n many. quiet types (read_code types func.now.result) n (read_quiet types func.now.result)))

  abbrev export_front : Flow
  export_front = take_code types passed >>> emit (CallInterface func) >>> give_code types func.now.result

  export_fits : is_ident (rust_ident func.now.name) ≡ true → CodeFits types KeepsNames 0 export_front
  export_fits name = ((quiet types (take_code types passed) 0 (take_quiet types passed), (λ n many. name)), (λ n many. quiet types (give_code types func.now.result) n (give_quiet types func.now.result)))

pub import_body_named : ImportBodyIsNamed
import_body_named types func parts body p quoted m =
    let (given, last, flows, ends) = m.flows in
    finishes types (import_front types func) (length (option_to_list func.now.result)) given m.old last m.new body (import_fits types func quoted) flows ends (named_start true parts m.old p m.made) m.body_of

pub export_body_named : ExportBodyIsNamed
export_body_named types func parts body p name m =
    let (given, last, flows, ends) = m.flows in
    finishes types (export_front types func) (length (core_results GuestExport (result_words (result_shape types func.now)))) given m.old last m.new body (export_fits types func name) flows ends (named_start false parts m.old p m.made) m.body_of

pub post_return_body_named : PostReturnBodyIsNamed
post_return_body_named types f parts body p m =
    let (given, last, flows, ends) = m.flows in
    let calm = (and_parts (is_quiet (free_result_code types f.result)) (is_quiet (emit (Return 0))) (post_return_quiet types f.result)).0 in
    finishes types (free_result_code types f.result) 0 given m.old last m.new body (quiet types (free_result_code types f.result) 0 calm) flows ends (named_start false parts m.old p m.made) m.body_of

-- 3. Blocks that close them

area_stmts_named : (name : Bytes) (area : Option Asked) → is_ident name ≡ true → AreNamed (local_area name area)
area_stmts_named name None h = refl
area_stmts_named name (Some a) h = let area : ReturnArea = record { name = name; size = a.size; align = a.align } in one_named (stmt.Area area) (area_named area h)

pub closed_named : (body : Body) → IsNamedBody body → is_named_block (code_of body.stmts body.tail) ≡ true
closed_named body b = block_named body.stmts body.tail b.stmts b.tail

pub import_block_named : (area : Bytes) (body : Body) → is_ident area ≡ true → IsNamedBody body → is_named_block (block_of area body) ≡ true
import_block_named area body h b =
    block_named (local_area area body.area ++ body.stmts) body.tail (more_named (local_area area body.area) body.stmts (area_stmts_named area body.area h) b.stmts) b.tail
