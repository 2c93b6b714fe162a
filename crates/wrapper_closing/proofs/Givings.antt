-- What a bindgen was begun with that was made of parts, and what a body gives.
use Rattle.wrapper_run.specs.Code.{code_of}
use Rattle.std.proofs.Common.{◌≡◌, Bool, true, List, [], ◌∷◌, Option, Some, refl, sym, ap, ap₂, ◌∙◌, subst}
use Rattle.std.specs.Prelude.{◌&&◌, IfSome}
use Rattle.std.specs.List.{AllByRecursion}
use Rattle.rust_tree.specs.declared.expr.Expr.{Expr}
use Rattle.rust_tree.specs.declared.stmt.Block.{Block}
use Rattle.rust_tree.specs.declared.stmt.Stmt.{Stmt}
use Rattle.wit_model.specs.Distinct.{is_distinct}
use Rattle.wit_model.specs.declared.types.TypeDef.{TypeDef}
use Rattle.func_gen.specs.Body.{Gives}
use Rattle.func_gen.specs.Operand.{is_operand}
use Rattle.func_gen.specs.PartForms.{are_operands}
use Rattle.func_gen.proofs.Starting.{unused_first}
use Rattle.func_gen.specs.Scope.{is_used}
use Rattle.func_gen.specs.Sites.{IsSite, site_names}
use Rattle.func_gen.specs.declared.function_bindgen.FunctionBindgen.{FunctionBindgen}
use Rattle.func_gen.specs.declared.operand.ExprOperand.{ExprOperand}
use Rattle.wrapper_closing.specs.Begun.{IsBegun}
use Rattle.wrapper_closing.specs.ImportBlock.{tail_of}
use Rattle.wrapper_closing.specs.Parts.{AreParts, IsMadeFrom}
use Rattle.wrapper_closing.specs.declared.parts.BodyParts.{BodyParts}

pub begun_of : (types : List TypeDef) (import : Bool) (parts : BodyParts) (b : FunctionBindgen) → AreParts types parts → IsMadeFrom import parts b → IsBegun b
begun_of types import parts b p m =
    let names : b.area ∷ site_names b.params ≡ parts.area ∷ site_names parts.params = ap₂ (λ a ps. a ∷ site_names ps) m.of_area m.of_params in
    record {
      distinct = ap is_distinct names ∙ p.distinct;
      sites = subst (AllByRecursion IsSite) (sym m.of_params) p.sites;
      used = λ n free. ap (λ ns. is_used ns n) names ∙ unused_first parts.area parts.cleanup (site_names parts.params) b.scope.used m.used n free;
      empty = m.empty;
      unasked = m.unasked;
    }

pub operands_given : (os : List ExprOperand) (tail : Option Expr) → Gives (Some os) tail → IfSome tail (λ e. is_operand e ≡ true) → are_operands os ≡ true
operands_given [] tail h k = refl
operands_given (o ∷ []) tail h k = ap (λ b. b && true) (subst (λ t. IfSome t (λ e. is_operand e ≡ true)) h k)
operands_given (o ∷ _ ∷ _) tail h k = absurd h

pub tail_given : (os : List ExprOperand) (tail : Option Expr) → Gives (Some os) tail → tail ≡ tail_of os
tail_given [] tail h = h
tail_given (o ∷ []) tail h = h
tail_given (o ∷ _ ∷ _) tail h = absurd h

abbrev pub block_with : List Stmt → Option Expr → Block
block_with stmts tail = code_of stmts tail
