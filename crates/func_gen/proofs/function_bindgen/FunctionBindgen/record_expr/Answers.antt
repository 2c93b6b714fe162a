use Rattle.std.proofs.Common.{◌≡◌, Some, sym, ap, ap₂, ◌∙◌, length, subst}
use Rattle.std.specs.Prelude.{zip}
use Rattle.rust_tree.specs.declared.expr.Expr.TheVariants as expr
use Rattle.func_gen.specs.declared.function_bindgen.FunctionBindgen.{FunctionBindgen}
use Rattle.func_gen.specs.PartForms.{are_operands, exprs_of}
use Rattle.func_gen.specs.RecordForms.{record_at}
use Rattle.func_gen.proofs.WrittenSites.{record_found}
use Rattle.func_gen.proofs.function_bindgen.FunctionBindgen.record_expr.Goals as goal

pub record_site-site-requires : goal.record_site-site-requires
record_site-site-requires c =
    let w = c.requires.site in
    let same = c.as_slice.ensures ∙ ap (λ (b : FunctionBindgen). b.sites) c.self.view_is in
    (w.site, subst (λ ss. record_at ss c.args.id.0 ≡ Some w.site) (sym same) w.is_site.at)

pub field_exprs-requires : goal.field_exprs-requires
field_exprs-requires c =
    let same = c.as_slice.ensures ∙ ap (λ (b : FunctionBindgen). b.sites) c.self.view_is in
    let site = c.record_site-site.result.now in
    let at : record_at c.args.self.now.sites c.args.id.0 ≡ Some site = subst (λ ss. record_at ss c.args.id.0 ≡ Some site) same c.record_site-site.ensures in
    let is_site = record_found c.args.resolve.now.types c.args.self.now.sites c.args.id.0 site c.requires.site at in
    ap length c.as_slice-3.ensures ∙ c.requires.reads is_site.count.0 is_site.count.1 ∙ sym is_site.count.2 ∙ sym (ap length c.as_slice-2.ensures)

pub returns : goal.returns
returns c =
    let types = c.args.resolve.now.types in
    let sites = c.args.self.now.sites in
    let site = c.record_site-site.result.now in
    let same = c.as_slice.ensures ∙ ap (λ (b : FunctionBindgen). b.sites) c.self.view_is in
    let at : record_at sites c.args.id.0 ≡ Some site = subst (λ ss. record_at ss c.args.id.0 ≡ Some site) same c.record_site-site.ensures in
    let is_site = record_found types sites c.args.id.0 site c.requires.site at in
    let fields = c.in_ok-fields.ensures.same ∙ ap₂ (λ fs os. zip fs (exprs_of os)) c.as_slice-2.ensures c.as_slice-3.ensures in
    record {
      site = site;
      is_site = is_site;
      many = c.requires.reads is_site.count.0 is_site.count.1 ∙ sym is_site.count.2;
      operands = sym (ap are_operands c.as_slice-3.ensures) ∙ c.in_ok-fields.ensures.operands;
      is = ap₂ (λ path fs. expr.Record path fs) c.in_ok-path.ensures fields;
    }
