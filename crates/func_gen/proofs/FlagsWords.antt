-- Words of flags, and words that are shifted, one after another.
use Rattle.std.proofs.Common.{◌≡◌, ℕ, suc, ◌+◌, ◌-◌, ◌*◌, ◌<◌, List, [], ◌∷◌, ◌++◌, sym, ap, ◌∙◌, append_assoc, arith}
use Rattle.wit_model.specs.Bytes.{Bytes}
use Rattle.rust_tree.specs.declared.expr.Expr.{Expr}
use Rattle.rust_tree.specs.declared.expr.Expr.TheVariants as expr
use Rattle.func_gen.specs.declared.operand.ExprOperand.{ExprOperand}
use Rattle.func_gen.specs.FlagsForms.{operands_of, shifted_from, words_of}
use Rattle.func_gen.specs.Forms.{operand_of}

-- with one more word
pub one_more_word : (name : Bytes) (word count : ℕ) (before after : List ExprOperand) → word < count → after ≡ before ++ operand_of (expr.FlagsBits name (32 * word)) ∷ []
    → after ++ operands_of (words_of name (32 * (word + 1)) (count - (word + 1))) ≡ before ++ operands_of (words_of name (32 * word) (count - word))
one_more_word name word count before after l is =
    let left : count - word ≡ suc (count - (word + 1)) = omega (arith, l) in
    let by : 32 * (word + 1) ≡ 32 + 32 * word = omega arith in
    let m = count - (word + 1) in
    let o = operand_of (expr.FlagsBits name (32 * word)) in
    ap (λ xs. xs ++ operands_of (words_of name (32 * (word + 1)) m)) is ∙ append_assoc before (o ∷ []) (operands_of (words_of name (32 * (word + 1)) m))
    ∙ ap (λ b. before ++ o ∷ operands_of (words_of name b m)) by ∙ sym (ap (λ k. before ++ operands_of (words_of name (32 * word) k)) left)

-- with one more that is shifted
pub one_more_shifted : (at : ℕ) (e : Expr) (es : List Expr) (before after : List (ℕ × Expr)) → after ≡ before ++ (32 * at, e) ∷ [] → after ++ shifted_from (32 * (at + 1)) es ≡ before ++ shifted_from (32 * at) (e ∷ es)
one_more_shifted at e es before after is =
    let by : 32 * (at + 1) ≡ 32 + 32 * at = omega arith in
    ap (λ xs. xs ++ shifted_from (32 * (at + 1)) es) is ∙ append_assoc before ((32 * at, e) ∷ []) (shifted_from (32 * (at + 1)) es) ∙ ap (λ b. before ++ (32 * at, e) ∷ shifted_from b es) by
