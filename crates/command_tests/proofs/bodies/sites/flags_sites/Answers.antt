use Rattle.std.proofs.Common.{List, [], ◌∷◌, ◌++◌, Option, Some, sym, ap, ◌∙◌, subst}
use Rattle.std.specs.Prelude.{codes}
use Rattle.rust_tree.specs.declared.repr.Repr.TheVariants.{U64}
use Rattle.func_gen.specs.declared.flags_site.FlagsSite.{FlagsSite}
use Rattle.func_gen.specs.declared.type_site.TypeSite.{TypeSite}
use Rattle.func_gen.specs.declared.type_site.TypeSite.TheVariants as site
use Rattle.func_gen.specs.TypeSites.{CanBeDefined}
use Rattle.func_gen.specs.Written.{CanWrite}
use Rattle.command_tests.proofs.CanDefine.{flags_can}
use Rattle.command_tests.proofs.Written.{flags_written}
use Rattle.command_tests.proofs.bodies.sites.flags_sites.Goals as goal

pub returns-clause-defined : goal.returns-clause-defined
returns-clause-defined c =
    let s : FlagsSite = record { path = c.in_ok-path.path; repr = U64; members = 40 } in
    let pushed = c.in_ok-push.ensures.ok ∙ ap (λ (xs : List (Option TypeSite)). xs ++ Some (site.Flags s) ∷ []) c.new-sites.ensures in
    subst CanBeDefined (sym pushed) (flags_can s (codes "Fl") c.in_ok-path.ensures)

pub returns-clause-written : goal.returns-clause-written
returns-clause-written c =
    let s : FlagsSite = record { path = c.in_ok-path.path; repr = U64; members = 40 } in
    let pushed = c.in_ok-push.ensures.ok ∙ ap (λ (xs : List (Option TypeSite)). xs ++ Some (site.Flags s) ∷ []) c.new-sites.ensures in
    let (t, members, one, is, many) = c.are_flags.ensures c.if-not-are_flags.false in
    λ id. subst (λ (sites : List (Option TypeSite)). CanWrite c.args.types.now sites id) (sym pushed) (flags_written c.args.types.now t members c.in_ok-path.path one is many id)
