use Rattle.std.proofs.Common.{◌≡◌, ◌≤◌, Some, refl, sym, ap, ap₂, ◌∙◌, length, subst}
use Rattle.rust_tree.specs.declared.expr.Expr.TheVariants as expr
use Rattle.func_gen.specs.declared.function_bindgen.FunctionBindgen.{FunctionBindgen}
use Rattle.func_gen.specs.FlagsForms.{flags_at, shifted_from}
use Rattle.func_gen.specs.PartForms.{are_operands, exprs_of}
use Rattle.func_gen.proofs.FlagsRows.{words_fit, words_many}
use Rattle.func_gen.proofs.WrittenSites.{flags_found}
use Rattle.func_gen.proofs.function_bindgen.FunctionBindgen.flags_expr.Goals as goal

pub flags_site-site-requires : goal.flags_site-site-requires
flags_site-site-requires c =
    let w = c.requires.site in
    let same = c.as_slice.ensures ∙ ap (λ (b : FunctionBindgen). b.sites) c.self.view_is in
    (w.site, subst (λ ss. flags_at ss c.args.id.0 ≡ Some w.site) (sym same) w.is_site.at)

pub shifted_exprs-requires : goal.shifted_exprs-requires
shifted_exprs-requires c =
    let site = c.flags_site-site.result.now in
    let same = c.as_slice.ensures ∙ ap (λ (b : FunctionBindgen). b.sites) c.self.view_is in
    let at : flags_at c.args.self.now.sites c.args.id.0 ≡ Some site = subst (λ ss. flags_at ss c.args.id.0 ≡ Some site) same c.flags_site-site.ensures in
    let is_site = flags_found c.args.resolve.now.types c.args.self.now.sites c.args.id.0 site c.requires.site at in
    let many = ap length c.as_slice-2.ensures ∙ c.requires.reads site.members is_site.count ∙ words_many site.members in
    subst (λ n. n ≤ 4) (sym many) (words_fit (record { site = site; is_site = is_site; is = refl }))

pub returns : goal.returns
returns c =
    let types = c.args.resolve.now.types in
    let sites = c.args.self.now.sites in
    let site = c.flags_site-site.result.now in
    let same = c.as_slice.ensures ∙ ap (λ (b : FunctionBindgen). b.sites) c.self.view_is in
    let at : flags_at sites c.args.id.0 ≡ Some site = subst (λ ss. flags_at ss c.args.id.0 ≡ Some site) same c.flags_site-site.ensures in
    let is_site = flags_found types sites c.args.id.0 site c.requires.site at in
    record {
      site = site;
      is_site = is_site;
      many = c.requires.reads site.members is_site.count ∙ words_many site.members;
      operands = sym (ap are_operands c.as_slice-2.ensures) ∙ c.in_ok-words.ensures.operands;
      is = ap₂ (λ path es. expr.FlagsOfWords path site.repr es) c.in_ok-path.ensures (c.in_ok-words.ensures.same ∙ ap (λ os. shifted_from 0 (exprs_of os)) c.as_slice-2.ensures);
    }
