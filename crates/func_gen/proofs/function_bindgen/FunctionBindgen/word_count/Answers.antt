use Rattle.std.proofs.Common.{◌≡◌, Some, sym, ap, ◌∙◌, subst}
use Rattle.func_gen.specs.declared.function_bindgen.FunctionBindgen.{FunctionBindgen}
use Rattle.func_gen.specs.FlagsForms.{flags_at}
use Rattle.func_gen.proofs.FlagsRows.{ceil_words}
use Rattle.func_gen.proofs.WrittenSites.{flags_found}
use Rattle.func_gen.proofs.function_bindgen.FunctionBindgen.word_count.Goals as goal

pub flags_site-site-requires : goal.flags_site-site-requires
flags_site-site-requires c =
    let w = c.requires in
    let same = c.as_slice.ensures ∙ ap (λ (b : FunctionBindgen). b.sites) c.self.view_is in
    (w.site, subst (λ ss. flags_at ss c.args.id.0 ≡ Some w.site) (sym same) w.is_site.at)

pub returns : goal.returns
returns c =
    let site = c.flags_site-site.result.now in
    let same = c.as_slice.ensures ∙ ap (λ (b : FunctionBindgen). b.sites) c.self.view_is in
    let at : flags_at c.args.self.now.sites c.args.id.0 ≡ Some site = subst (λ ss. flags_at ss c.args.id.0 ≡ Some site) same c.flags_site-site.ensures in
    record {
      site = site;
      is_site = flags_found c.args.resolve.now.types c.args.self.now.sites c.args.id.0 site c.requires at;
      is = c.div_ceil.ensures ∙ ceil_words site.members;
    }
