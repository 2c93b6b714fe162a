-- Operands and their expressions.
use Rattle.std.proofs.Common.{◌≡◌, ◌&&◌, List, [], ◌∷◌, refl, subst}
use Rattle.std.specs.List.{list_all}
use Rattle.func_gen.specs.declared.operand.ExprOperand.{ExprOperand}
use Rattle.func_gen.specs.Operand.{is_operand}
use Rattle.func_gen.specs.PartForms.{are_operands, exprs_of}

pub same_operands : (os : List ExprOperand) → list_all is_operand (exprs_of os) ≡ are_operands os
same_operands [] = refl
same_operands (o ∷ os) = subst (λ b. list_all is_operand (exprs_of (o ∷ os)) ≡ (is_operand o.expr && b)) (same_operands os) refl
