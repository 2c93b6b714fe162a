-- Two bodies that are made for one function, of parts that differ in their layouts alone, are equal.
use Rattle.std.proofs.Common.{◌≡◌, ℕ, Bool, true, false, List, [], ◌∷◌, map, Option, None, Some, option_map, refl, sym, ap, ap₂, ◌∙◌}
use Rattle.wit_model.specs.Bytes.{Bytes}
use Rattle.wit_layout.specs.declared.signature.AbiVariant.TheVariants.{GuestExport, GuestImport}
use Rattle.rust_tree.specs.declared.export.CallBlock.{CallBlock}
use Rattle.rust_tree.specs.declared.expr.Expr.{Expr}
use Rattle.rust_tree.specs.declared.runtime_item.RuntimeItem.{RuntimeItem}
use Rattle.rust_tree.specs.declared.stmt.Stmt.{Stmt}
use Rattle.abi_bindgen.specs.declared.bindgen.Asked.{Asked}
use Rattle.abi_bindgen.specs.Code.{call_code, post_return_code}
use Rattle.func_gen.specs.Body.{Gives, IsBodyOf, needed}
use Rattle.func_gen.specs.PartForms.{exprs_of}
use Rattle.func_gen.specs.declared.body.Body.{Body}
use Rattle.func_gen.specs.Sites.{site_names}
use Rattle.func_gen.specs.declared.function_bindgen.FunctionBindgen.{FunctionBindgen}
use Rattle.func_gen.specs.declared.function_bindgen.ParamSite.{ParamSite}
use Rattle.func_gen.specs.declared.operand.ExprOperand.{ExprOperand}
use Rattle.func_gen.specs.declared.scope.Scope.{Scope}
use Rattle.func_gen.proofs.SameCode.{Same, flows_same}
use Rattle.func_gen.proofs.SameForms.{unkept}
use Rattle.func_gen.proofs.SameLists.{first_same}
use Rattle.wrapper_meaning.proofs.Lists.{some_same}
use Rattle.wrapper_closing.specs.OneBody.{ExportHasOneBody, ImportHasOneBody, PostReturnHasOneBody}
use Rattle.wrapper_closing.specs.Parts.{AreWrittenAs, IsMadeFrom}
use Rattle.wrapper_closing.specs.declared.parts.BodyParts.{BodyParts}

-- 1. Bindgens that are made of such parts

abbrev scope_of : List Bytes → ℕ → Scope
scope_of used next = record { used = used; next = next }

scope_same : (x y : Scope) → x.used ≡ y.used → x.next ≡ y.next → x ≡ y
scope_same x y used next = ap₂ scope_of used next

made_same : (import : Bool) (parts others : BodyParts) (a c : FunctionBindgen) → AreWrittenAs parts others → IsMadeFrom import parts a → IsMadeFrom import others c → Same a c
made_same import parts others a c w h g = record {
  alike = record {
    still = record {
      import = g.of_import ∙ sym h.of_import;
      home = g.of_home ∙ w.home ∙ sym h.of_home;
      area = g.of_area ∙ w.area ∙ sym h.of_area;
      params = g.of_params ∙ w.params ∙ sym h.of_params;
      sites = g.of_sites ∙ w.sites ∙ sym h.of_sites;
    };
    scope = scope_same c.scope a.scope (g.used ∙ names ∙ sym h.used) (g.counted ∙ sym h.counted);
    code = g.empty ∙ sym h.empty;
    opened = g.closed ∙ sym h.closed;
    runtime = g.unnamed ∙ sym h.unnamed;
    finished = ap (map unkept) (g.unfinished ∙ sym h.unfinished);
  };
  asked = g.unasked ∙ sym h.unasked;
  returned = ap (option_map exprs_of) (g.unreturned ∙ sym h.unreturned);
}
  where
    names : others.area ∷ others.cleanup ∷ site_names others.params ≡ parts.area ∷ parts.cleanup ∷ site_names parts.params
    names = ap₂ (λ x xs. x ∷ xs) w.area (ap₂ (λ x (ps : List ParamSite). x ∷ site_names ps) w.cleanup w.params)

-- 2. Their bodies, where they are alike behind the code

gives_same : (x y : Option (List ExprOperand)) (tail other : Option Expr) → option_map exprs_of y ≡ option_map exprs_of x → Gives x tail → Gives y other → other ≡ tail
gives_same None None tail other e h g = g ∙ sym h
gives_same (Some []) (Some []) tail other e h g = g ∙ sym h
gives_same (Some (o ∷ [])) (Some (p ∷ [])) tail other e h g =
    g ∙ ap (λ x. Some x) (first_same p.expr o.expr [] [] (some_same (p.expr ∷ []) (o.expr ∷ []) e)) ∙ sym h
gives_same (Some (o ∷ q ∷ os)) y tail other e h g = absurd h
gives_same x (Some (p ∷ q ∷ ps)) tail other e h g = absurd g
gives_same None (Some []) tail other e h g = g ∙ sym h
gives_same None (Some (p ∷ [])) tail other e h g = absurd cc
gives_same (Some []) None tail other e h g = g ∙ sym h
gives_same (Some []) (Some (p ∷ [])) tail other e h g = absurd cc
gives_same (Some (o ∷ [])) None tail other e h g = absurd cc
gives_same (Some (o ∷ [])) (Some []) tail other e h g = absurd cc

abbrev body_with : Option CallBlock → List Stmt → Option Expr → Option Asked → List RuntimeItem → Body
body_with call stmts tail area runtime = record { call = call; stmts = stmts; tail = tail; area = area; runtime = runtime }

parts_same : (x y : Body) → x.call ≡ y.call → x.stmts ≡ y.stmts → x.tail ≡ y.tail → x.area ≡ y.area → x.runtime ≡ y.runtime → x ≡ y
parts_same x y call stmts tail area runtime =
    ap₂ (λ c ss. body_with c ss x.tail x.area x.runtime) call stmts ∙ ap₂ (λ t a. body_with y.call y.stmts t a x.runtime) tail area ∙ ap (body_with y.call y.stmts y.tail y.area) runtime

bodies_same : (a c : FunctionBindgen) (body other : Body) → Same a c → IsBodyOf a body → IsBodyOf c other → other ≡ body
bodies_same a c body other s h g =
    parts_same other body (g.call ∙ ap (λ code. code.call) s.alike.code ∙ sym h.call) (g.stmts ∙ ap (λ code. code.stmts) s.alike.code ∙ sym h.stmts)
    (gives_same a.returned c.returned body.tail other.tail s.returned h.tail g.tail) (g.area ∙ ap needed s.asked ∙ sym h.area) (g.runtime ∙ s.alike.runtime ∙ sym h.runtime)

-- 3. The laws

pub import_has_one : ImportHasOneBody
import_has_one types func parts others body other w h g =
    bodies_same h.new g.new body other (flows_same types (call_code types GuestImport func) [] [] [] [] h.old h.new g.old g.new (made_same true parts others h.old g.old w h.made g.made) refl h.flows g.flows).same h.body_of g.body_of

pub export_has_one : ExportHasOneBody
export_has_one types func parts others body other w h g =
    bodies_same h.new g.new body other (flows_same types (call_code types GuestExport func) [] [] [] [] h.old h.new g.old g.new (made_same false parts others h.old g.old w h.made g.made) refl h.flows g.flows).same h.body_of g.body_of

pub post_return_has_one : PostReturnHasOneBody
post_return_has_one types f parts others body other w h g =
    bodies_same h.new g.new body other (flows_same types (post_return_code types f.result) [] [] [] [] h.old h.new g.old g.new (made_same false parts others h.old g.old w h.made g.made) refl h.flows g.flows).same h.body_of g.body_of
