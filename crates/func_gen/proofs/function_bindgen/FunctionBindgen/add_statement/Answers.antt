use Rattle.std.proofs.Common.{[], ◌∷◌, None, refl, sym, ap, ◌∙◌, subst}
use Rattle.rust_tree.specs.declared.expr.Expr.TheVariants as expr
use Rattle.rust_tree.specs.declared.stmt.Stmt.TheVariants as stmt
use Rattle.func_gen.specs.Added.{Appends}
use Rattle.func_gen.specs.CallForms.{import_name, import_of}
use Rattle.func_gen.specs.Scope.{Takes}
use Rattle.func_gen.specs.BindgenSeen.{seen_bindgen}
use Rattle.func_gen.proofs.CallRows.{declared_as}
use Rattle.func_gen.proofs.Declared.{still_fresh}
use Rattle.func_gen.proofs.Rows.{appends_both, no_code}
use Rattle.func_gen.proofs.KeptNames.{still_whole}
use Rattle.func_gen.specs.declared.function_bindgen.FunctionBindgen.{FunctionBindgen}
use Rattle.func_gen.proofs.function_bindgen.FunctionBindgen.add_statement.Goals as goal

pub returns : goal.returns
returns c =
    let old = seen_bindgen c.self.inside in
    let mid = record old { scope = c.declare.new.self } in
    let imported = c.push_import.new.self in
    let new = c.add_outside.new.self in
    let name = c.in_ok-name.name in
    let t = c.in_ok-t.t in
    let declares = stmt.Import (import_of old.home c.args.func.now c.args.params None name) in
    let scope = c.in_ok-add_outside.ensures.scope ∙ c.in_ok-push_import.ensures.scope in
    let first = appends_both old mid imported [] (declares ∷ []) [] [] (no_code old mid refl) c.in_ok-push_import.ensures.adds in
    let both = appends_both old imported new (declares ∷ []) (stmt.Expr (expr.Call c.in_ok-path.path c.args.arguments) ∷ []) [] [] first c.in_ok-add_outside.ensures.adds in
    rw (← c.self.view_is) (record {
      import = name;
      stmts = subst (λ p. Appends old new (declares ∷ stmt.Expr (expr.Call p c.args.arguments) ∷ []) []) c.in_ok-path.ensures both;
      number = t;
      is = c.in_ok-name.ensures;
      takes = subst (Takes old.scope (λ k. import_name k ∷ []) t) (sym scope) (record { locals = _; named = λ k. refl; declares = c.in_ok-t.ensures.declares });
      names = still_fresh old mid new (name ∷ []) scope (declared_as old mid _ t (name ∷ []) c.in_ok-t.ensures.declares (ap (λ n. n ∷ []) c.in_ok-name.ensures));
    })

pub invariant_of-self : goal.invariant_of-self
invariant_of-self c = still_whole c.in_err-t.ensures.keeps c.self.invariant

pub invariant_of-self-in_err-name : goal.invariant_of-self-in_err-name
invariant_of-self-in_err-name c = still_whole c.in_ok-t.ensures.keeps c.self.invariant

pub invariant_of-self-in_err-path : goal.invariant_of-self-in_err-path
invariant_of-self-in_err-path c = still_whole c.in_ok-t.ensures.keeps c.self.invariant

pub invariant_of-self-2 : goal.invariant_of-self-2
invariant_of-self-2 c = still_whole c.in_ok-t.ensures.keeps c.self.invariant

pub add_outside-requires : goal.add_outside-requires
add_outside-requires c = record { closed = c.in_ok-push_import.ensures.adds.opened ∙ ap (λ (b : FunctionBindgen). b.opened) c.self.view_is ∙ c.requires.closed }
