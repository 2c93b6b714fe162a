use Rattle.std.proofs.Common.{◌++◌, refl, sym, ap, ◌∙◌, append-nil, subst}
use Rattle.func_gen.specs.BindgenSeen.{seen_bindgen}
use Rattle.func_gen.specs.CastForms.{stmts_from}
use Rattle.func_gen.specs.Scope.{names_at, Declares}
use Rattle.func_gen.proofs.CallRows.{declared_as}
use Rattle.func_gen.proofs.KeptNames.{added_whole, still_whole}
use Rattle.func_gen.proofs.InwardForms.{slots_inward}
use Rattle.func_gen.proofs.function_bindgen.FunctionBindgen.add_slots.Goals as goal

pub returns-clause-adds : goal.returns-clause-adds
returns-clause-adds c =
    let old = seen_bindgen c.self.inside in
    rw (← c.self.view_is) (record {
      call = refl;
      stmts = c.in_ok-append.ensures.ok ∙ ap (λ ss. old.code.stmts ++ ss) (c.in_ok-push_slots.ensures ∙ ap (λ ss. ss ++ stmts_from 0 c.args.casts.now c.args.es.now c.in_ok-t.t) c.new-stmts.ensures);
      runtime = sym (append-nil old.runtime);
      import = refl;
      home = refl;
      area = refl;
      params = refl;
      sites = refl;
      sizes = refl;
      asked = refl;
      returned = refl;
      opened = refl;
      finished = refl;
    })

pub returns-clause-fresh : goal.returns-clause-fresh
returns-clause-fresh c =
    rw (← c.self.view_is) (declared_as (seen_bindgen c.self.inside) _ _ c.in_ok-t.t _ c.in_ok-t.ensures.declares (sym (ap (λ ns. names_at ns c.in_ok-t.t) c.as_slice.ensures ∙ c.in_ok-names.ensures c.in_ok-t.t)))

pub returns-clause-takes : goal.returns-clause-takes
returns-clause-takes c =
    let old = seen_bindgen c.self.inside in
    rw (← c.self.view_is) (record { locals = c.in_ok-names.names; named = c.in_ok-names.ensures; declares = subst (λ ns. Declares old.scope ns c.in_ok-t.t c.declare.new.self) c.as_slice.ensures c.in_ok-t.ensures.declares })

pub invariant_of-self : goal.invariant_of-self
invariant_of-self c = still_whole c.in_err-t.ensures.keeps c.self.invariant

pub invariant_of-self-in_err-push_slots : goal.invariant_of-self-in_err-push_slots
invariant_of-self-in_err-push_slots c = still_whole c.in_ok-t.ensures.keeps c.self.invariant

pub invariant_of-self-2 : goal.invariant_of-self-2
invariant_of-self-2 c =
    let slots = c.in_ok-push_slots.ensures ∙ ap (λ ss. ss ++ stmts_from 0 c.args.casts.now c.args.es.now c.in_ok-t.t) c.new-stmts.ensures in
    rw (c.in_ok-append.ensures.ok, slots) (added_whole c.self.inside.code _ (slots_inward 0 c.args.casts.now c.args.es.now c.in_ok-t.t c.requires.operands) (still_whole c.in_ok-t.ensures.keeps c.self.invariant))

pub invariant_of-self-in_err-append : goal.invariant_of-self-in_err-append
invariant_of-self-in_err-append c = rw c.in_err-append.ensures.err (still_whole c.in_ok-t.ensures.keeps c.self.invariant)
