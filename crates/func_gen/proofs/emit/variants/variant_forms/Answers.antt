use Rattle.std.proofs.Common.{◌≡◌, length, ◌∙◌, ap}
use Rattle.std.proofs.lemmas.Result.{IfOk-weaker}
use Rattle.func_gen.specs.CaseForms.{member_forms}
use Rattle.func_gen.proofs.PayloadsThere.{members_low, members_some}
use Rattle.func_gen.proofs.WrittenVariants.{variant_many, variant_rooted, variant_written}
use Rattle.func_gen.proofs.emit.variants.variant_forms.Goals as goal

pub variant_site-site-requires : goal.variant_site-site-requires
variant_site-site-requires c =
    let (members, here) = c.requires.kind in
    let w = variant_written c.args.resolve.now.types c.args.sites.now c.args.id.0 c.requires.site members here in
    (w.site, w.at)

pub name_at_root-name-requires : goal.name_at_root-name-requires
name_at_root-name-requires c =
    let types = c.args.resolve.now.types in
    let sites = c.args.sites.now in
    let id = c.args.id.0 in
    let (members, here) = c.requires.kind in
    ((variant_written types sites id c.requires.site members here).name, variant_rooted types sites id c.requires.site members here c.variant_site-site.result.now c.variant_site-site.ensures)

pub member_forms-requires : goal.member_forms-requires
member_forms-requires c =
    ap length c.as_slice.ensures
    ∙ variant_many c.args.resolve.now.types c.args.sites.now c.args.id.0 c.requires.site c.variant_cases-members.result.now c.variant_cases-members.ensures c.variant_site-site.result.now c.variant_site-site.ensures

pub returns : goal.returns
returns c =
    let here = c.variant_cases-members.ensures in
    let r = c.args.resolve.now in
    let id = c.args.id.0 in
    let site = c.variant_site-site.result.now in
    let name = c.name_at_root-name.result.now in
    let members = c.variant_cases-members.result.now in
    IfOk-weaker c.member_forms.result (λ forms. forms ≡ member_forms c.name_at_root-name.result.now c.as_slice.result.now c.variant_cases-members.result.now) _ (λ forms is. record {
      site = site;
      at = c.variant_site-site.ensures;
      name = name;
      root = c.name_at_root-name.ensures;
      members = members;
      kind = here;
      many = variant_many r.types c.args.sites.now id c.requires.site members here site c.variant_site-site.ensures;
      low = members_low r c.requires.well id members here;
      some = members_some r c.requires.well id members here;
      are = is ∙ ap (λ names. member_forms name names members) c.as_slice.ensures;
    }) c.member_forms.ensures
