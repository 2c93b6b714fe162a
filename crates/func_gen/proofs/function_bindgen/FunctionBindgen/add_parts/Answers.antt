use Rattle.std.proofs.Common.{[], ◌∷◌, ◌++◌, refl, sym, ap, ◌∙◌, append-nil, ◌≡◌, ℕ, subst}
use Rattle.rust_tree.specs.declared.pattern.Pattern.TheVariants as pattern
use Rattle.rust_tree.specs.declared.stmt.Stmt.TheVariants as stmt
use Rattle.func_gen.specs.PartForms.{part_prefix, names_from}
use Rattle.func_gen.specs.Scope.{names_at, Declares}
use Rattle.func_gen.specs.BindgenSeen.{seen_bindgen}
use Rattle.func_gen.proofs.CallRows.{declared_as}
use Rattle.func_gen.proofs.KeptNames.{added_whole, still_whole}
use Rattle.func_gen.proofs.InwardForms.{apart_inward, operand_inward}
use Rattle.func_gen.proofs.function_bindgen.FunctionBindgen.add_parts.Goals as goal

pub returns-clause-adds : goal.returns-clause-adds
returns-clause-adds c =
    let same = c.in_ok-taken.ensures ∙ ap (λ ns. stmt.LetParts (pattern.Tuple ns) c.args.e.now) c.as_slice-2.ensures in
    rw (← c.self.view_is) (record {
      call = refl;
      stmts = c.in_ok-push.ensures.ok ∙ ap (λ s. (seen_bindgen c.self.inside).code.stmts ++ s ∷ []) same;
      runtime = sym (append-nil (seen_bindgen c.self.inside).runtime);
      import = refl;
      home = refl;
      area = refl;
      params = refl;
      sites = refl;
      sizes = refl;
      asked = refl;
      returned = refl;
      opened = refl;
      finished = refl;
    })

pub returns-clause-fresh : goal.returns-clause-fresh
returns-clause-fresh c =
    let d = c.in_ok-names.ensures.declares in
    rw (← c.self.view_is) (declared_as (seen_bindgen c.self.inside) _ _ d.number c.in_ok-names.names d.declares d.are)

pub returns-clause-takes : goal.returns-clause-takes
unfolding part_prefix
returns-clause-takes c =
    let d = c.in_ok-names.ensures.declares in
    let named : (k : ℕ) → names_at c.in_ok-parts.parts k ≡ names_from part_prefix k 0 c.args.count = c.in_ok-parts.ensures in
    rw (← c.self.view_is) (record {
      number = d.number;
      are = d.are ∙ ap (λ ns. names_at ns d.number) c.as_slice.ensures ∙ named d.number;
      takes = record { locals = c.in_ok-parts.parts; named = named; declares = subst (λ ns. Declares (seen_bindgen c.self.inside).scope ns d.number c.declare_all.new.self) c.as_slice.ensures d.declares };
    })

pub invariant_of-self : goal.invariant_of-self
invariant_of-self c = still_whole c.in_err-names.ensures.keeps c.self.invariant

pub invariant_of-self-in_err-taken : goal.invariant_of-self-in_err-taken
invariant_of-self-in_err-taken c = still_whole c.in_ok-names.ensures.keeps c.self.invariant

pub invariant_of-self-in_err-push : goal.invariant_of-self-in_err-push
invariant_of-self-in_err-push c = rw c.in_err-push.ensures.err (still_whole c.in_ok-names.ensures.keeps c.self.invariant)

pub invariant_of-self-2 : goal.invariant_of-self-2
invariant_of-self-2 c =
    rw c.in_ok-push.ensures.ok (added_whole c.self.inside.code _ (rw c.in_ok-taken.ensures (apart_inward c.args.e.now (operand_inward c.args.e.now c.requires.operand) _)) (still_whole c.in_ok-names.ensures.keeps c.self.invariant))
