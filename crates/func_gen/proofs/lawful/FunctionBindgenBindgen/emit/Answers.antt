use Rattle.std.proofs.Common.{◌≡◌, ℤ, List, [], ◌∷◌, OnOk, length, refl, sym, subst, w32}
use Rattle.std.proofs.lemmas.Int.{to_z-of_z}
use borrow.Author.Rules.{sfits_of}
use Rattle.abi_bindgen.specs.declared.instruction.Instruction.TheVariants as instruction
use Rattle.abi_bindgen.specs.Instructions.{Emits, Reads, Suits}
use Rattle.func_gen.specs.declared.operand.ExprOperand.{ExprOperand}
use Rattle.func_gen.specs.Meaning.{func_meaning}
use Rattle.func_gen.proofs.WholeLemmas.{none_open}
use Rattle.func_gen.proofs.lawful.FunctionBindgenBindgen.emit.Goals as goal

none_of : {A : Type 0} (xs : List A) → length xs ≡ 0 → xs ≡ []
none_of [] e = refl
none_of (x ∷ xs) e = absurd cc

pub returns-in-I32Const : goal.returns-in-I32Const
returns-in-I32Const c =
    let types = c.args.resolve.now.types in
    let os : List ExprOperand = c.args.operands.now in
    let n = c.in-I32Const.n in
    let none : os ≡ [] = none_of os (subst (λ i. Reads types i (length os)) c.in-I32Const.is c.requires.sendable.operands) in
    let read = subst (λ (z : ℤ). OnOk c.make_number.result (Emits func_meaning types (instruction.I32Const z) [] c.make_number.new.results c.args.self.now c.make_number.new.self)) (to_z-of_z w32 n (sfits_of c.in-I32Const.n-in-I32Const-2-1-given)) c.make_number.ensures in
    subst (λ i. OnOk c.make_number.result (Emits func_meaning types i os c.make_number.new.results c.args.self.now c.make_number.new.self)) (sym c.in-I32Const.is)
    (subst (λ xs. OnOk c.make_number.result (Emits func_meaning types (instruction.I32Const n) xs c.make_number.new.results c.args.self.now c.make_number.new.self)) (sym none) read)

pub call_core-requires-clause-closed : goal.call_core-requires-clause-closed
call_core-requires-clause-closed c =
    let b = c.args.self.now in
    let suits = subst (λ i. Suits func_meaning c.args.resolve.now i b) c.in-CallWasm.is c.requires.sendable.suits in
    none_open b.opened suits.3
