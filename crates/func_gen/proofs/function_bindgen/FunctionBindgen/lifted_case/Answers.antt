use Rattle.std.proofs.Common.{◌≡◌, [], ◌∷◌, Some, false, sym, ap, ◌∙◌, subst}
use Rattle.std.specs.Str.{bytes_eq}
use Rattle.std.proofs.lemmas.Result.{IfOk-weaker}
use Rattle.rust_tree.specs.declared.expr.Expr.{Expr}
use Rattle.rust_tree.specs.declared.expr.Expr.TheVariants as expr
use Rattle.func_gen.specs.declared.enum_site.EnumSite.{EnumSite}
use Rattle.func_gen.specs.declared.function_bindgen.FunctionBindgen.{FunctionBindgen}
use Rattle.wrapper_run.specs.Run.{runtime_module_name}
use Rattle.wrapper_values.specs.Fields.{root_name}
use Rattle.wrapper_meaning.proofs.Lists.{some_same}
use Rattle.func_gen.specs.EnumForms.{IsEnumSite, LiftsBy, LiftsEnumAt, case_cast, enum_at}
use Rattle.func_gen.proofs.WrittenSites.{enum_found}
use Rattle.func_gen.proofs.function_bindgen.FunctionBindgen.lifted_case.Goals as goal

pub enum_site-site-requires : goal.enum_site-site-requires
enum_site-site-requires c =
    let w = c.requires.site in
    let same = c.as_slice.ensures ∙ ap (λ (b : FunctionBindgen). b.sites) c.self.view_is in
    (w.site, subst (λ ss. enum_at ss c.args.id.0 ≡ Some w.site) (sym same) w.is_site.at)

pub case_cast-to-requires : goal.case_cast-to-requires
case_cast-to-requires c =
    let w = c.requires.site in
    let same = c.as_slice.ensures ∙ ap (λ (b : FunctionBindgen). b.sites) c.self.view_is in
    let at = subst (λ ss. enum_at ss c.args.id.0 ≡ Some c.enum_site-site.result.now) same c.enum_site-site.ensures in
    (w.to, subst (λ (s : EnumSite). case_cast s.repr ≡ Some w.to) (enum_found c.args.resolve.now.types c.args.self.now.sites c.args.id.0 c.enum_site-site.result.now w at) w.cast)

pub name_at_root-requires : goal.name_at_root-requires
name_at_root-requires c =
    let w = c.requires.site in
    let same = c.as_slice.ensures ∙ ap (λ (b : FunctionBindgen). b.sites) c.self.view_is in
    let at = subst (λ ss. enum_at ss c.args.id.0 ≡ Some c.enum_site-site.result.now) same c.enum_site-site.ensures in
    (w.name, subst (λ (s : EnumSite). root_name s.path ≡ Some w.name) (enum_found c.args.resolve.now.types c.args.self.now.sites c.args.id.0 c.enum_site-site.result.now w at) w.root)

pub returns : goal.returns
returns c =
    let types = c.args.resolve.now.types in
    let sites = c.args.self.now.sites in
    let id = c.args.id.0 in
    let w = c.requires.site in
    let site = c.enum_site-site.result.now in
    let name = c.name_at_root.result.now in
    let same = c.as_slice.ensures ∙ ap (λ (b : FunctionBindgen). b.sites) c.self.view_is in
    let at : enum_at sites id ≡ Some site = subst (λ ss. enum_at ss id ≡ Some site) same c.enum_site-site.ensures in
    let is = enum_found types sites id site w at in
    let named : root_name site.path ≡ Some name = c.name_at_root.ensures in
    let one : w.name ≡ name = some_same w.name name (sym (subst (λ (s : EnumSite). root_name s.path ≡ Some w.name) is w.root) ∙ named) in
    let by : LiftsBy site.path c.in_ok-path.path = record {
      name = name;
      root = named;
      typed = subst (λ n. bytes_eq n runtime_module_name ≡ false) one w.typed;
      is = c.in_ok-path.ensures;
    } in
    IfOk-weaker c.call_of.result (λ e. e ≡ expr.Call c.in_ok-path.path (c.in_ok-number.number ∷ [])) (LiftsEnumAt types sites id c.args.e.now) (λ e made. record {
      site = site;
      is_site = subst (IsEnumSite types sites id) is w.is_site;
      path = c.in_ok-path.path;
      by = by;
      to = c.case_cast-to.result;
      cast = c.case_cast-to.ensures;
      is = made ∙ ap (λ (n : Expr). expr.Call c.in_ok-path.path (n ∷ [])) (c.in_ok-number.ensures ∙ ap (λ (x : Expr). expr.Cast x c.case_cast-to.result) c.in_ok-copy_expr.ensures);
    }) c.call_of.ensures
