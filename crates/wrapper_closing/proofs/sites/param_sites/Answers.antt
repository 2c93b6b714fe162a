use Rattle.std.proofs.Common.{◌≡◌, length, subst, sym, ap, ◌∙◌, refl}
use Rattle.std.specs.List.{AllByRecursion}
use Rattle.func_gen.specs.Sites.{IsSite, site_names}
use Rattle.wrapper_closing.specs.Params.{local_sites}
use Rattle.wrapper_closing.proofs.LocalSites.{are_sites, ended, named_so, sites_many}
use Rattle.wrapper_closing.proofs.sites.param_sites.Goals as goal

all_made : (c : goal.After-loop-name) → c.loop-name.sites ≡ local_sites c.args.names.now
all_made c = ended local_sites refl c.loop-name.sites c.args.names.now c.loop-name.name-index c.loop-name-test.false c.loop-name.invariant

pub returns-clause-sites : goal.returns-clause-sites
returns-clause-sites c = subst (AllByRecursion IsSite) (sym (all_made c)) (are_sites c.args.names.now)

pub returns-clause-names : goal.returns-clause-names
returns-clause-names c = ap site_names (all_made c) ∙ named_so c.args.names.now

pub returns-clause-many : goal.returns-clause-many
returns-clause-many c = ap length (all_made c) ∙ sites_many c.args.names.now
