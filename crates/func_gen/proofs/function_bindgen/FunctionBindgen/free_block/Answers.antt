use Rattle.std.proofs.Common.{[], ◌∷◌, ◌++◌, ◌^◌, ◌≡◌, ◌∙◌, ap, subst, sym, true, refl}
use Rattle.std.proofs.lemmas.Bool.{lt-ltb, and_from}
use Rattle.wit_model.specs.Size.{bytes_at}
use Rattle.rust_tree.specs.declared.expr.Expr.TheVariants as expr
use Rattle.rust_tree.specs.declared.runtime_item.RuntimeItem.TheVariants.{CabiDealloc}
use Rattle.rust_tree.specs.declared.stmt.Stmt.TheVariants as stmt
use Rattle.abi_bindgen.specs.declared.instruction.Instruction.TheVariants as instruction
use Rattle.func_gen.specs.Added.{Appends}
use Rattle.func_gen.specs.Forms.{runtime_path}
use Rattle.func_gen.specs.MemoryForms.{align_size, bytes_freed, is_length}
use Rattle.func_gen.proofs.FreeRow.{block_row}
use Rattle.std.specs.List.{list_all}
use Rattle.wrapper_run.specs.Inward.{is_inward_expr}
use Rattle.func_gen.proofs.InwardForms.{one_inward, operand_inward, size_inward}
use Rattle.func_gen.proofs.PlainOperands.{emits_plainly}
use Rattle.func_gen.proofs.function_bindgen.FunctionBindgen.free_block.Goals as goal

pub returns : goal.returns
returns c =
    let types = c.args.resolve.now.types in
    let size = c.args.size in
    let e = c.only_expr-address.result.now in
    let same = c.align_size.ensures.same in
    let sized : is_length size ≡ true = lt-ltb (bytes_at size 4) (2 ^ 32) c.requires.sendable.suits in
    let aligned : is_length (align_size c.args.align) ≡ true = sym (ap is_length same) ∙ c.align_size.ensures.length in
    let adds = subst (λ align. Appends c.args.self.now c.add_free.new.self (stmt.Expr (bytes_freed e (expr.Size size) align) ∷ []) (CabiDealloc ∷ [])) same
    (subst (λ bs. Appends c.args.self.now c.add_free.new.self (stmt.Expr (expr.Call (runtime_path CabiDealloc) (bs ++ expr.Size c.align_size.result ∷ [])) ∷ []) (CabiDealloc ∷ [])) c.in_ok-block.ensures c.in_ok-add_free.ensures.adds) in
    emits_plainly types (instruction.GuestDeallocate size c.args.align) _ _ _ _ _ _ refl c.only_expr-address.ensures.only c.requires.empty
    (block_row types c.args.self.now c.add_free.new.self e c.only_expr-address.ensures.operand c.in_ok-add_free.ensures.scope size c.args.align sized aligned adds)

pub add_free-requires : goal.add_free-requires
add_free-requires c =
    let size = expr.Size c.args.size in
    record { inward = ap (list_all is_inward_expr) c.in_ok-block.ensures ∙ and_from _ _ (operand_inward c.only_expr-address.result.now c.only_expr-address.ensures.operand) (one_inward size (size_inward c.args.size)) }
