use Rattle.std.proofs.Common.{refl, [], ◌∷◌, ◌≡◌, ◌-◌, ◌+◌, suc, replicate, ℕ, arith, subst}
use Rattle.abi_bindgen.specs.Instructions.{Emits, HasBlocks}
use Rattle.abi_bindgen.specs.declared.instruction.Instruction.TheVariants as instruction
use Rattle.func_gen.specs.Forms.{operand_of}
use Rattle.func_gen.specs.Meaning.{func_meaning}
use Rattle.func_gen.proofs.LiftedEmits.{variant_freed}
use Rattle.func_gen.proofs.PlainOperands.{emits_plainly}
use Rattle.func_gen.proofs.function_bindgen.FunctionBindgen.free_variant.Goals as goal

pub free_cases-requires : goal.free_cases-requires
free_cases-requires c =
    let same : c.args.count ≡ c.args.count - 1 + 1 = omega (arith, c.requires.sendable.suits.0) in
    let none : ℕ = 0 in
    record { operand = c.only_expr-e.ensures.operand; blocks = subst (λ n. HasBlocks func_meaning (replicate n none) c.args.self.now) same c.requires.sendable.suits.1 }

pub returns : goal.returns
returns c =
    let types = c.args.resolve.now.types in
    let e = c.only_expr-e.result.now in
    let before = c.args.count - 1 in
    let many : suc before ≡ c.args.count = omega (arith, c.requires.sendable.suits.0) in
    let freed = variant_freed types before e _ _ c.in_ok-free_cases.ensures c.only_expr-e.ensures.operand in
    emits_plainly types (instruction.GuestDeallocateVariant c.args.count) _ _ _ _ _ _ refl c.only_expr-e.ensures.only c.requires.empty
    (subst (λ n. Emits func_meaning types (instruction.GuestDeallocateVariant n) (operand_of e ∷ []) [] c.args.self.now c.free_cases.new.self) many freed)
