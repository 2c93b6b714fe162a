use Rattle.std.proofs.Common.{◌≡◌, length, subst, sym, ap, ◌∙◌, refl}
use Rattle.std.proofs.lemmas.List.{length-map}
use Rattle.std.specs.List.{AllByRecursion}
use Rattle.func_gen.specs.Sites.{IsSite, site_names}
use Rattle.wrapper_closing.specs.Params.{arg_names, local_sites}
use Rattle.wrapper_closing.proofs.LocalSites.{are_sites, ended, named_so, sites_many}
use Rattle.wrapper_closing.proofs.sites.core_sites.Goals as goal

all_made : (c : goal.After-loop-param) → c.loop-param.sites ≡ local_sites (arg_names c.args.params.now)
all_made c = ended (λ ps. local_sites (arg_names ps)) refl c.loop-param.sites c.args.params.now c.loop-param.param-index c.loop-param-test.false c.loop-param.invariant

pub returns-clause-sites : goal.returns-clause-sites
returns-clause-sites c = subst (AllByRecursion IsSite) (sym (all_made c)) (are_sites (arg_names c.args.params.now))

pub returns-clause-names : goal.returns-clause-names
returns-clause-names c = ap site_names (all_made c) ∙ named_so (arg_names c.args.params.now)

pub returns-clause-many : goal.returns-clause-many
returns-clause-many c = ap length (all_made c) ∙ sites_many (arg_names c.args.params.now) ∙ length-map c.args.params.now (λ p. p.name)
