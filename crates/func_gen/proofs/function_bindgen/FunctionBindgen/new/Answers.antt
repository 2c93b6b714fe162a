use Rattle.std.proofs.Common.{◌∷◌, List, None, refl, ap, ◌∙◌}
use Rattle.rust_tree.specs.declared.stmt.Stmt.{Stmt}
use Rattle.func_gen.specs.declared.function_bindgen.Code.{Code}
use Rattle.func_gen.specs.Sites.{site_names}
use Rattle.func_gen.proofs.Starting.{func_new, unused_first}
use Rattle.func_gen.proofs.function_bindgen.FunctionBindgen.new.Goals as goal

abbrev code_of : List Stmt → Code
code_of stmts = record { call = None; stmts = stmts }

pub returns-clause-begins : goal.returns-clause-begins
returns-clause-begins c =
    func_new _ c.new-5.ensures (unused_first c.args.area c.args.cleanup _ _ (c.in_ok-used.ensures ∙ ap (λ ps. c.args.area ∷ c.args.cleanup ∷ site_names ps) c.as_slice.ensures)) c.requires.distinct c.requires.sites (ap code_of c.new.ensures) refl c.new-4.ensures c.new-2.ensures c.new-3.ensures c.requires.defined
