use Rattle.std.proofs.Common.{◌≡◌, [], ◌∷◌, ◌++◌, length, Some, refl, sym, ap, ◌∙◌, subst, append-nil}
use Rattle.std.specs.Prelude.{zip}
use Rattle.rust_tree.specs.declared.pattern.Pattern.TheVariants as pattern
use Rattle.rust_tree.specs.declared.stmt.Stmt.TheVariants as stmt
use Rattle.func_gen.specs.declared.function_bindgen.FunctionBindgen.{FunctionBindgen}
use Rattle.func_gen.specs.RecordForms.{DeclaresFields, record_at}
use Rattle.func_gen.specs.Written.{WritesRecord}
use Rattle.func_gen.specs.BindgenSeen.{seen_bindgen}
use Rattle.func_gen.proofs.CallRows.{declared_as}
use Rattle.func_gen.proofs.WrittenSites.{record_found}
use Rattle.func_gen.proofs.FieldOrder.{fields_named, locals_many}
use Rattle.func_gen.proofs.KeptNames.{added_whole, still_whole}
use Rattle.func_gen.proofs.InwardForms.{apart_inward, operand_inward}
use Rattle.func_gen.proofs.function_bindgen.FunctionBindgen.add_fields.Goals as goal

pub let_fields-requires-clause-many : goal.let_fields-requires-clause-many
let_fields-requires-clause-many c =
    let d = c.in_ok-names.ensures.declares in
    ap length (c.as_slice-3.ensures ∙ fields_named d) ∙ locals_many c.as_slice-2.result.now d.declares.number ∙ ap length c.as_slice-2.ensures

pub returns : goal.returns
returns c =
    let old = seen_bindgen c.self.inside in
    let site = c.record_site-site.result.now in
    let at : record_at old.sites c.args.id.0 ≡ Some site = subst (λ ss. record_at ss c.args.id.0 ≡ Some site) c.as_slice.ensures c.record_site-site.ensures in
    let written = subst (λ (b : FunctionBindgen). WritesRecord c.args.resolve.now.types b.sites c.args.id.0) (sym c.self.view_is) c.requires.site in
    let names = c.in_ok-names.names in
    let d = c.in_ok-names.ensures.declares in
    let same = c.in_ok-parts.ensures ∙ ap (λ ns. stmt.LetParts (pattern.Record site.lowered (zip site.fields ns)) c.args.e.now) c.as_slice-3.ensures in
    rw (← c.self.view_is) (record {
      site = site;
      is_site = record_found c.args.resolve.now.types old.sites c.args.id.0 site written at;
      declares = subst (λ fs. DeclaresFields old.scope fs names c.declare_fields.new.self) c.as_slice-2.ensures d;
      stmts = record {
        call = refl;
        stmts = c.in_ok-push.ensures.ok ∙ ap (λ s. old.code.stmts ++ s ∷ []) same;
        runtime = sym (append-nil old.runtime);
        import = refl;
        home = refl;
        area = refl;
        params = refl;
        sites = refl;
        sizes = refl;
        asked = refl;
        returned = refl;
        opened = refl;
        finished = refl;
      };
      fresh = declared_as old _ d.locals d.declares.number names d.declares.declares d.declares.are;
    })

pub record_site-site-requires : goal.record_site-site-requires
record_site-site-requires c =
    let w = c.requires.site in
    let same = c.as_slice.ensures ∙ ap (λ (b : FunctionBindgen). b.sites) c.self.view_is in
    (w.site, subst (λ ss. record_at ss c.args.id.0 ≡ Some w.site) (sym same) w.is_site.at)

pub invariant_of-self : goal.invariant_of-self
invariant_of-self c = still_whole c.in_err-names.ensures.keeps c.self.invariant

pub invariant_of-self-in_err-parts : goal.invariant_of-self-in_err-parts
invariant_of-self-in_err-parts c = still_whole c.in_ok-names.ensures.keeps c.self.invariant

pub invariant_of-self-in_err-push : goal.invariant_of-self-in_err-push
invariant_of-self-in_err-push c = rw c.in_err-push.ensures.err (still_whole c.in_ok-names.ensures.keeps c.self.invariant)

pub invariant_of-self-2 : goal.invariant_of-self-2
invariant_of-self-2 c =
    rw c.in_ok-push.ensures.ok (added_whole c.self.inside.code _ (rw c.in_ok-parts.ensures (apart_inward c.args.e.now (operand_inward c.args.e.now c.requires.operand) _)) (still_whole c.in_ok-names.ensures.keeps c.self.invariant))
