use Rattle.std.proofs.Common.{◌++◌, length, ap, ◌∙◌, sym, ◌≡◌, ℕ, subst}
use Rattle.func_gen.specs.BindgenSeen.{seen_bindgen}
use Rattle.func_gen.specs.FlushForms.{flush_prefix, lets_of}
use Rattle.func_gen.specs.Scope.{names_at, Declares}
use Rattle.func_gen.specs.PartForms.{names_from}
use Rattle.func_gen.proofs.CallRows.{declared_as}
use Rattle.func_gen.proofs.PartNames.{names_many}
use Rattle.func_gen.proofs.KeptNames.{added_whole, still_whole}
use Rattle.func_gen.proofs.InwardForms.{lets_inward}
use Rattle.func_gen.proofs.function_bindgen.FunctionBindgen.add_lets.Goals as goal

pub push_lets-requires : goal.push_lets-requires
unfolding flush_prefix
push_lets-requires c =
    let d = c.in_ok-names.ensures.declares in
    let named = c.as_slice-2.ensures ∙ d.are ∙ ap (λ ns. names_at ns d.number) c.as_slice.ensures ∙ c.in_ok-parts.ensures d.number in
    record { operands = c.requires.operands; many = ap length named ∙ names_many flush_prefix d.number 0 c.args.count ∙ sym c.requires.many }

pub returns-clause-takes : goal.returns-clause-takes
unfolding flush_prefix
returns-clause-takes c =
    let d = c.in_ok-names.ensures.declares in
    let named : (k : ℕ) → names_at c.in_ok-parts.parts k ≡ names_from flush_prefix k 0 c.args.count = c.in_ok-parts.ensures in
    rw (← c.self.view_is) (record {
      number = d.number;
      are = d.are ∙ ap (λ ns. names_at ns d.number) c.as_slice.ensures ∙ named d.number;
      takes = record { locals = c.in_ok-parts.parts; named = named; declares = subst (λ ns. Declares (seen_bindgen c.self.inside).scope ns d.number c.declare_all.new.self) c.as_slice.ensures d.declares };
    })

pub returns-clause-fresh : goal.returns-clause-fresh
returns-clause-fresh c =
    let d = c.in_ok-names.ensures.declares in
    rw (← c.self.view_is) (declared_as (seen_bindgen c.self.inside) _ _ d.number c.in_ok-names.names d.declares d.are)

pub invariant_of-self : goal.invariant_of-self
invariant_of-self c = still_whole c.in_err-names.ensures.keeps c.self.invariant

pub invariant_of-self-in_err-push_lets : goal.invariant_of-self-in_err-push_lets
invariant_of-self-in_err-push_lets c = still_whole c.in_ok-names.ensures.keeps c.self.invariant

pub invariant_of-self-2 : goal.invariant_of-self-2
invariant_of-self-2 c =
    let lets = c.in_ok-push_lets.ensures ∙ ap (λ ss. ss ++ lets_of c.as_slice-2.result.now c.args.es.now) c.new-lets.ensures in
    rw (c.in_ok-append.ensures.ok, lets) (added_whole c.self.inside.code _ (lets_inward c.as_slice-2.result.now c.args.es.now c.requires.operands) (still_whole c.in_ok-names.ensures.keeps c.self.invariant))

pub invariant_of-self-in_err-append : goal.invariant_of-self-in_err-append
invariant_of-self-in_err-append c = rw c.in_err-append.ensures.err (still_whole c.in_ok-names.ensures.keeps c.self.invariant)
