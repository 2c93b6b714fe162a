use Rattle.std.proofs.Common.{[], ◌∷◌, ◌++◌, ◌≡◌, ℕ, refl, sym, ap, ap₂, ◌∙◌, append-nil, subst}
use Rattle.rust_tree.specs.declared.stmt.Stmt.TheVariants as stmt
use Rattle.func_gen.specs.BindgenSeen.{seen_bindgen}
use Rattle.func_gen.specs.MatchForms.{match_names, result_names}
use Rattle.func_gen.specs.Scope.{Declares, names_at}
use Rattle.func_gen.proofs.CallRows.{declared_as}
use Rattle.func_gen.proofs.KeptNames.{added_whole, still_whole}
use Rattle.wrapper_run.specs.Inward.{is_inward_expr}
use Rattle.func_gen.proofs.InwardForms.{match_inward, operand_inward}
use Rattle.func_gen.proofs.function_bindgen.FunctionBindgen.bind_match.Goals as goal

pub returns : goal.returns
returns c =
    let old = seen_bindgen c.self.inside in
    let d = c.in_ok-names.ensures.declares in
    let named : (k : ℕ) → names_at c.in_ok-locals.locals k ≡ result_names c.args.count k = c.in_ok-locals.ensures in
    let bound = c.in_ok-bound.ensures ∙ ap match_names c.as_slice-2.ensures in
    rw (← c.self.view_is) (record {
      adds = record {
        call = refl;
        stmts = c.in_ok-push.ensures.ok ∙ ap₂ (λ names e. old.code.stmts ++ stmt.Match names e c.args.arms ∷ []) bound c.in_ok-e.ensures;
        runtime = sym (append-nil old.runtime);
        import = refl;
        home = refl;
        area = refl;
        params = refl;
        sites = refl;
        sizes = refl;
        asked = refl;
        returned = refl;
        opened = refl;
        finished = refl;
      };
      fresh = declared_as old _ _ d.number c.in_ok-names.names d.declares d.are;
      takes = record {
        number = d.number;
        are = d.are ∙ ap (λ ns. names_at ns d.number) c.as_slice.ensures ∙ named d.number;
        takes = record { locals = c.in_ok-locals.locals; named = named; declares = subst (λ ns. Declares old.scope ns d.number c.declare_all.new.self) c.as_slice.ensures d.declares };
      };
    })

pub invariant_of-self : goal.invariant_of-self
invariant_of-self c = still_whole c.in_err-names.ensures.keeps c.self.invariant

pub invariant_of-self-in_err-bound : goal.invariant_of-self-in_err-bound
invariant_of-self-in_err-bound c = still_whole c.in_ok-names.ensures.keeps c.self.invariant

pub invariant_of-self-in_err-e : goal.invariant_of-self-in_err-e
invariant_of-self-in_err-e c = still_whole c.in_ok-names.ensures.keeps c.self.invariant

pub invariant_of-self-in_err-push : goal.invariant_of-self-in_err-push
invariant_of-self-in_err-push c = rw c.in_err-push.ensures.err (still_whole c.in_ok-names.ensures.keeps c.self.invariant)

pub invariant_of-self-2 : goal.invariant_of-self-2
invariant_of-self-2 c =
    rw c.in_ok-push.ensures.ok (added_whole c.self.inside.code _ (match_inward c.in_ok-e.e (ap is_inward_expr c.in_ok-e.ensures ∙ operand_inward c.args.e.now c.requires.operand) c.in_ok-bound.bound c.args.arms c.requires.inward) (still_whole c.in_ok-names.ensures.keeps c.self.invariant))
