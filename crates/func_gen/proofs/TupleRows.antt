-- The row of tuples that are taken apart.
use Rattle.std.proofs.Common.{◌≡◌, ℕ, ◌<◌, ◌^◌, true, List, [], ◌∷◌, length, reverse, Some, refl, sym, ap, ◌∙◌, arith, subst}
use Rattle.wit_model.specs.Bytes.{Bytes}
use Rattle.wit_model.specs.Distinct.{is_distinct}
use Rattle.wit_model.specs.declared.types.TypeDef.{TypeDef}
use Rattle.rust_tree.specs.declared.expr.Expr.{Expr}
use Rattle.rust_tree.specs.declared.pattern.Pattern.TheVariants as pattern
use Rattle.rust_tree.specs.declared.stmt.Stmt.TheVariants as stmt
use Rattle.wrapper_values.specs.Whole.{given_names}
use Rattle.abi_bindgen.specs.Instructions.{Emits}
use Rattle.abi_bindgen.specs.declared.instruction.Instruction.TheVariants.{TupleLower}
use Rattle.abi_bindgen.specs.Sent.{sends}
use Rattle.func_gen.specs.declared.function_bindgen.FunctionBindgen.{FunctionBindgen}
use Rattle.func_gen.specs.Added.{Appends}
use Rattle.func_gen.specs.CallForms.{FreshAll}
use Rattle.func_gen.specs.Forms.{operand_of}
use Rattle.func_gen.specs.Meaning.{File, Serves, func_meaning}
use Rattle.func_gen.specs.Operand.{is_operand}
use Rattle.func_gen.specs.PartForms.{locals_of, names_from, part_prefix}
use Rattle.func_gen.specs.Scope.{Takes}
use Rattle.func_gen.specs.CodeOf.{splits_tuple}
use Rattle.func_gen.proofs.Forming.{form_by, locals_are}
use Rattle.func_gen.proofs.PartNames.{names_many, parts_distinct}
use Rattle.func_gen.proofs.PartsTaken.{apart_adds, apart_lowers, locals_many}

pub apart_row : (types : List TypeDef) (old new : FunctionBindgen) (t k : ℕ) (names : List Bytes) (e : Expr) → is_operand e ≡ true → k < 2 ^ 32 → names ≡ names_from part_prefix t 0 k → Appends old new (stmt.LetParts (pattern.Tuple names) e ∷ []) [] → FreshAll old new names → Takes old.scope (λ x. names_from part_prefix x 0 k) t new.scope
    → Emits func_meaning types (TupleLower k) (operand_of e ∷ []) (locals_of names) old new
apart_row types old new t k names e ok small is a fresh takes =
    let fits : (w : File) → Serves w new → (given_names w.items (pattern.Tuple names) ≡ Some names) × (is_distinct names ≡ true) = λ w h. (refl, ap is_distinct is ∙ parts_distinct part_prefix t 0 k (omega arith)) in
    let many : length names ≡ k = ap length is ∙ names_many part_prefix t 0 k in
    record {
      adds = apart_adds old new (pattern.Tuple names) names e a fresh fits ok;
      blocks = ap reverse a.finished;
      returned = a.returned;
      asked = a.asked;
      form = form_by (sends (TupleLower k)) (record { gives = refl; calls = refl }) (operand_of e ∷ []) old new (locals_of names) (splits_tuple k e) t refl takes (subst (λ ns. Appends old new (stmt.LetParts (pattern.Tuple ns) e ∷ []) []) is a) (ap locals_of is ∙ locals_are (names_from part_prefix t 0 k));
      results = locals_many names ∙ many;
      row = λ ts same dir v r own (stands, normal). apart_lowers old new (pattern.Tuple names) names e a fresh fits ts (many ∙ sym same) dir v r own stands normal;
    }
