use Rattle.std.proofs.Common.{refl, [], ◌∷◌, sym, ap, ◌∙◌, subst}
use Rattle.rust_tree.specs.declared.expr.Expr.TheVariants as expr
use Rattle.rust_tree.specs.declared.runtime_item.RuntimeItem.TheVariants.{StringLift, VecType}
use Rattle.abi_bindgen.specs.declared.instruction.Instruction.TheVariants as instruction
use Rattle.func_gen.specs.TextForms.{taken_names, taken_stmts, taking_items, text_name}
use Rattle.func_gen.specs.Scope.{Takes}
use Rattle.func_gen.proofs.Declared.{fresh_after, still_fresh}
use Rattle.func_gen.proofs.Forming.{takes_since}
use Rattle.func_gen.proofs.Rows.{appends_both, pushed as pushed_text}
use Rattle.func_gen.proofs.TakenRow.{lift_row}
use Rattle.func_gen.proofs.PlainOperands.{emits_plainly}
use Rattle.func_gen.proofs.function_bindgen.FunctionBindgen.lift_text.Goals as goal

pub returns : goal.returns
returns c =
    let types = c.args.resolve.now.types in
    let old = c.args.self.now in
    let mid = c.ask-2.new.self in
    let named = c.declare_three.new.self in
    let new = c.push_taken.new.self in
    let given = c.both_exprs.ensures in
    let address = c.both_exprs.result.0.now in
    let n = c.both_exprs.result.1.now in
    let t = c.in_ok-t.t in
    let since = c.in_ok-ask-2.ensures.scope ∙ c.in_ok-ask.ensures.scope in
    let pushed = c.in_ok-push_taken.ensures in
    let asked = appends_both old c.ask.new.self mid [] [] (VecType ∷ []) (StringLift ∷ []) c.in_ok-ask.ensures.asks c.in_ok-ask-2.ensures.asks in
    let taken = appends_both mid named new [] (taken_stmts t address n) [] [] c.in_ok-t.ensures.adds pushed.adds in
    let added = appends_both old mid new [] (taken_stmts t address n) taking_items [] asked taken in
    let fresh = fresh_after old mid named (taken_names t) since c.in_ok-t.ensures.fresh in
    let takes = takes_since old.scope mid.scope named.scope (λ k. taken_names k) t since c.in_ok-t.ensures.takes in
    emits_plainly types instruction.StringLift _ _ _ _ _ _ refl given.both (pushed_text c.args.results.now _ _ (expr.Local (text_name t)) c.in_ok-push.ensures.ok c.requires.empty (ap (λ n. expr.Local n) c.in_ok-name.ensures))
    (lift_row types old new address n t given.first given.second added
    (still_fresh old named new (taken_names t) pushed.scope fresh)
    (subst (Takes old.scope (λ k. taken_names k) t) (sym pushed.scope) takes))
