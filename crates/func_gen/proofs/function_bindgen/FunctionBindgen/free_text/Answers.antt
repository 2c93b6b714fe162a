use Rattle.std.proofs.Common.{[], ◌∷◌, ◌++◌, subst, ap, ◌∙◌, refl}
use Rattle.rust_tree.specs.declared.expr.Expr.TheVariants as expr
use Rattle.rust_tree.specs.declared.runtime_item.RuntimeItem.TheVariants.{CabiDealloc}
use Rattle.rust_tree.specs.declared.stmt.Stmt.TheVariants as stmt
use Rattle.abi_bindgen.specs.declared.instruction.Instruction.TheVariants as instruction
use Rattle.func_gen.specs.Added.{Appends}
use Rattle.func_gen.specs.Forms.{runtime_path}
use Rattle.func_gen.specs.MemoryForms.{bytes_freed}
use Rattle.func_gen.proofs.FreeRow.{free_row}
use Rattle.std.specs.List.{list_all}
use Rattle.std.proofs.lemmas.Bool.{and_from}
use Rattle.wrapper_run.specs.Inward.{is_inward_expr}
use Rattle.func_gen.proofs.InwardForms.{one_inward, operand_inward}
use Rattle.func_gen.proofs.PlainOperands.{emits_plainly}
use Rattle.func_gen.proofs.function_bindgen.FunctionBindgen.free_text.Goals as goal

pub returns : goal.returns
returns c =
    let types = c.args.resolve.now.types in
    let given = c.both_exprs.ensures in
    let e = c.both_exprs.result.0.now in
    let f = c.both_exprs.result.1.now in
    let adds = subst (λ align. Appends c.args.self.now c.add_free.new.self (stmt.Expr (bytes_freed e f align) ∷ []) (CabiDealloc ∷ [])) c.align_size.ensures.same
    (subst (λ bs. Appends c.args.self.now c.add_free.new.self (stmt.Expr (expr.Call (runtime_path CabiDealloc) (bs ++ expr.Size c.align_size.result ∷ [])) ∷ []) (CabiDealloc ∷ [])) c.in_ok-bytes.ensures c.in_ok-add_free.ensures.adds) in
    emits_plainly types instruction.GuestDeallocateString _ _ _ _ _ _ refl given.both c.requires.empty
    (free_row types c.args.self.now c.add_free.new.self e given.first c.in_ok-add_free.ensures.scope f given.second adds)

pub add_free-requires : goal.add_free-requires
add_free-requires c =
    let given = c.both_exprs.ensures in
    let n = c.both_exprs.result.1.now in
    record { inward = ap (list_all is_inward_expr) c.in_ok-bytes.ensures ∙ and_from _ _ (operand_inward c.both_exprs.result.0.now given.first) (one_inward n (operand_inward n given.second)) }
