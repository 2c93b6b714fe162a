use Rattle.std.proofs.Common.{[], ◌∷◌, subst, reverse, ap, ◌∙◌}
use Rattle.func_gen.specs.Added.{Appends}
use Rattle.func_gen.specs.MatchForms.{match_of}
use Rattle.std.specs.List.{list_all}
use Rattle.func_gen.specs.InwardCode.{is_inward_arm}
use Rattle.func_gen.proofs.InwardArms.{lowered_inward}
use Rattle.func_gen.proofs.function_bindgen.FunctionBindgen.lower_cases.Goals as goal

pub returns : goal.returns
returns c =
    let arms = c.in_ok-arms.ensures in
    let binds = c.in_ok-names.ensures in
    record {
      used = arms.used;
      mid = c.use_arms.new.self;
      uses = arms.uses;
      fit = arms.fit;
      adds = subst (λ xs. Appends c.use_arms.new.self c.bind_match.new.self (match_of c.in_ok-names.names c.args.e.now xs ∷ []) []) arms.are binds.adds;
      fresh = binds.fresh;
      takes = binds.takes;
    }

pub bind_match-requires-clause-inward : goal.bind_match-requires-clause-inward
bind_match-requires-clause-inward c =
    let arms = c.in_ok-arms.ensures in
    ap (list_all is_inward_arm) arms.are ∙ lowered_inward c.args.count c.args.cases.now (reverse arms.used) arms.fit
