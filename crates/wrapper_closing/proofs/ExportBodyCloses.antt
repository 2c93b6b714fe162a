-- An item that closes the body which was made for an export closes the driver's code, and so it is faithful.
use Rattle.std.proofs.Common.{ℕ, false, List, [], length, Option, Some, sym, ap, ap₂, ◌∙◌, subst}
use Rattle.std.specs.Borrow.{Bor}
use Rattle.rust_tree.specs.Ident.{rust_ident}
use Rattle.rust_tree.specs.Tree.{Tree}
use Rattle.wit_model.specs.declared.function.Function.{Function}
use Rattle.wit_model.specs.declared.types.TypeDef.{TypeDef}
use Rattle.wit_layout.specs.declared.signature.AbiVariant.TheVariants.{GuestExport}
use Rattle.wrapper_data.specs.declared.run.Target.TheVariants as target
use Rattle.wrapper_meaning.specs.Shape.{Shape, param_shapes, result_shape}
use Rattle.wrapper_run.specs.Entries.{ExportNames}
use Rattle.abi_bindgen.specs.Calls.{PassesAsItIs}
use Rattle.abi_bindgen.specs.Code.{call_code}
use Rattle.func_gen.specs.Body.{Gives}
use Rattle.func_gen.specs.Meaning.{Found, GivesAsCalled, func_meaning}
use Rattle.func_gen.specs.TypeSites.{AreDefined}
use Rattle.func_gen.specs.Sites.{site_names}
use Rattle.func_gen.specs.declared.body.Body.{Body}
use Rattle.func_gen.proofs.StillFlows.{still_flows}
use Rattle.wrapper_closing.specs.Bodies.{is_plain_call}
use Rattle.wrapper_closing.specs.ClosedExport.{AnswersComeIn, ClosesExport, export_file}
use Rattle.wrapper_closing.specs.ExportBody.{ClosesExportBody}
use Rattle.wrapper_closing.specs.Laws.{ExportBodyIsFaithful}
use Rattle.wrapper_closing.specs.Declares.{Area, declare_none}
use Rattle.wrapper_closing.specs.declared.parts.BodyParts.{BodyParts}
use Rattle.wrapper_closing.proofs.FaithfulExport.{closed_export_is_faithful}
use Rattle.wrapper_closing.proofs.Givings.{begun_of, block_with, operands_given, tail_given}
use Rattle.wrapper_closing.proofs.Returned.{export_given}

closes_export : (types : List TypeDef) (func : Bor Function) (parts : BodyParts) (body : Body) (names : ExportNames) (results : List (Option Shape)) (tree : Tree) (nth : ℕ)
    → (c : ClosesExportBody types func parts body names results tree nth) → ClosesExport types func.now names results tree nth c.makes.old c.makes.new
closes_export types func parts body names results tree nth c =
    let k = c.makes in
    let b = k.body_of in
    let f = func.now in
    let home = sym k.made.of_home in
    let (os, count, gave) = export_given types func [] k.old k.new k.flows in
    let tail : Gives (Some os) body.tail = subst (λ r. Gives r body.tail) gave b.tail in
    record {
      number = c.number;
      item = c.item;
      there = c.there;
      begun = begun_of types false parts k.old c.parted k.made;
      export = k.made.of_import;
      still = still_flows types (call_code types GuestExport func) [] [] k.old k.new k.flows;
      calls = k.calls;
      many = ap length k.made.of_params ∙ k.many;
      head = sym b.call ∙ c.head;
      closed = b.closed;
      bound = c.bound ∙ home;
      given = os;
      returned = gave;
      operands = operands_given os body.tail tail b.operand;
      count = count;
      params = c.params ∙ ap site_names (sym k.made.of_params);
      signature = c.signature;
      body = c.block ∙ ap₂ block_with b.stmts (tail_given os body.tail tail);
      plain_call = ap is_plain_call (sym c.head) ∙ k.method;
      plain_rest = ap (declare_none Area) (sym b.stmts) ∙ k.plain;
      runtime = subst (Found tree.items) b.runtime c.runtime;
      sites = subst (AreDefined tree.items) (sym k.made.of_sites) c.sites;
      called = subst (λ h. GivesAsCalled tree.items h (Some c.item.call)) home c.called;
      area = c.area;
      passes = subst (λ h. PassesAsItIs func_meaning (export_file tree c.number h) k.old f (param_shapes types f)) home c.passes;
      answers = subst (λ h. AnswersComeIn (export_file tree c.number h) k.old f (result_shape types f)) home c.answers;
      direct = c.direct;
      method = c.method ∙ ap (λ h. target.Method h (rust_ident f.name)) home;
      exported = c.exported;
      post_return = c.post_return;
    }

pub export_body_is_faithful : ExportBodyIsFaithful
export_body_is_faithful types resources names results tree nth func parts body c =
    closed_export_is_faithful types resources names results tree nth func.now c.makes.old c.makes.new (closes_export types func parts body names results tree nth c)
