use Rattle.std.proofs.Common.{◌≡◌, false, List, [], ◌∷◌, ◌++◌, Option, Some, refl, sym, ap, ◌∙◌, subst}
use Rattle.std.specs.Prelude.{codes}
use Rattle.func_gen.specs.declared.type_site.TypeSite.{TypeSite}
use Rattle.func_gen.specs.declared.type_site.TypeSite.TheVariants as site
use Rattle.func_gen.specs.CalledCases.{is_other_module}
use Rattle.func_gen.specs.TypeSites.{CanBeDefined}
use Rattle.func_gen.specs.Written.{CanWrite}
use Rattle.command_tests.proofs.Written.{variant_written}
use Rattle.command_tests.proofs.bodies.sites.variant_sites.Goals as goal

pub returns-clause-defined : goal.returns-clause-defined
returns-clause-defined c =
    let pushed = c.in_ok-push.ensures.ok ∙ ap (λ (xs : List (Option TypeSite)). xs ++ Some (site.Variant c.in_ok-site.site) ∷ []) c.new-sites.ensures in
    subst CanBeDefined (sym pushed) c.in_ok-site.ensures.defined

no_module : is_other_module (codes "V") ≡ false
unfolding is_other_module
no_module = refl

pub returns-clause-written : goal.returns-clause-written
returns-clause-written c =
    let pushed = c.in_ok-push.ensures.ok ∙ ap (λ (xs : List (Option TypeSite)). xs ++ Some (site.Variant c.in_ok-site.site) ∷ []) c.new-sites.ensures in
    let (t, members, one, is, many) = c.are_a_variant.ensures c.if-not-are_a_variant.false in
    λ id. subst (λ (sites : List (Option TypeSite)). CanWrite c.args.types.now sites id) (sym pushed) (variant_written c.args.types.now t members c.in_ok-site.site (codes "V") one is (c.in_ok-site.ensures.many ∙ sym many) c.in_ok-site.ensures.path no_module id)
