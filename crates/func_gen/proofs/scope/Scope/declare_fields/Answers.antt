use Rattle.std.proofs.Common.{subst}
use Rattle.func_gen.specs.Scope.{DeclaresAs}
use Rattle.func_gen.proofs.scope.Scope.declare_fields.Goals as goal

pub returns-clause-declares : goal.returns-clause-declares
returns-clause-declares c =
    let d = subst (λ ls. DeclaresAs c.args.self.now ls c.in_ok-names.names c.declare_all.new.self) c.as_slice.ensures c.in_ok-names.ensures.declares in
    record { locals = c.in_ok-locals.locals; named = c.in_ok-locals.ensures; declares = d }
