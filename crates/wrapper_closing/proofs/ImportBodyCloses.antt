-- An item that closes the body which was made for an import closes the driver's code, and so it is faithful.
use Rattle.std.proofs.Common.{◌≡◌, ℕ, true, false, List, [], ◌∷◌, ◌++◌, length, Some, refl, sym, ap, ap₂, ◌∙◌, subst}
use Rattle.std.specs.Borrow.{Bor}
use Rattle.rust_tree.specs.Tree.{Tree}
use Rattle.rust_tree.specs.declared.stmt.Stmt.{Stmt}
use Rattle.wit_model.specs.Bytes.{Bytes}
use Rattle.wit_model.specs.declared.function.Function.{Function}
use Rattle.wit_model.specs.declared.types.TypeDef.{TypeDef}
use Rattle.wit_layout.specs.declared.signature.AbiVariant.TheVariants.{GuestImport}
use Rattle.wrapper_data.specs.declared.run.Target.TheVariants as target
use Rattle.wrapper_faithful.specs.Import.{IsFaithful}
use Rattle.wrapper_faithful.specs.Passed.{passed}
use Rattle.abi_bindgen.specs.declared.bindgen.Asked.{Asked}
use Rattle.abi_bindgen.specs.Code.{call_code}
use Rattle.func_gen.specs.Body.{Gives, needed}
use Rattle.func_gen.specs.Meaning.{Found}
use Rattle.func_gen.specs.TypeSites.{AreDefined}
use Rattle.func_gen.specs.Sites.{site_names}
use Rattle.func_gen.specs.declared.body.Body.{Body}
use Rattle.func_gen.proofs.StillFlows.{still_flows}
use Rattle.wrapper_closing.specs.ClosedImport.{ClosesImport}
use Rattle.wrapper_closing.specs.ImportBlock.{area_stmts, block_of, import_block, local_area}
use Rattle.wrapper_closing.specs.ImportBody.{ClosesImportBody}
use Rattle.wrapper_closing.specs.Laws.{ImportBodyIsFaithful}
use Rattle.wrapper_closing.specs.declared.parts.BodyParts.{BodyParts}
use Rattle.wrapper_closing.proofs.Givings.{begun_of, block_with, operands_given, tail_given}
use Rattle.wrapper_closing.proofs.FaithfulImport.{closed_import_is_faithful}
use Rattle.wrapper_closing.proofs.Returned.{import_given}

local_needed : (name : Bytes) (asked : List Asked) → local_area name (needed asked) ≡ area_stmts name asked
local_needed name [] = refl
local_needed name (a ∷ asked) = refl

closes_import : (types : List TypeDef) (func : Bor Function) (parts : BodyParts) (body : Body) (tree : Tree) (nth : ℕ) → (c : ClosesImportBody types func parts body tree nth) → ClosesImport types func.now tree nth c.makes.old c.makes.new
closes_import types func parts body tree nth c =
    let k = c.makes in
    let b = k.body_of in
    let (os, count, gave) = import_given types func [] k.old k.new k.flows in
    let tail : Gives (Some os) body.tail = subst (λ r. Gives r body.tail) gave b.tail in
    let area : local_area parts.area body.area ≡ area_stmts k.old.area k.new.asked =
    ap₂ local_area (sym k.made.of_area) b.area ∙ local_needed k.old.area k.new.asked in
    let stmts : local_area parts.area body.area ++ body.stmts ≡ area_stmts k.old.area k.new.asked ++ k.new.code.stmts = ap₂ (λ (x : List Stmt) y. x ++ y) area b.stmts in
    let block : block_of parts.area body ≡ import_block k.old.area k.new os =
    ap₂ block_with stmts (tail_given os body.tail tail) in
    record {
      number = c.number;
      item = c.item;
      there = c.there;
      begun = begun_of types true parts k.old c.parted k.made;
      import = k.made.of_import;
      still = still_flows types (call_code types GuestImport func) [] [] k.old k.new k.flows;
      calls = k.calls;
      many = ap length k.made.of_params ∙ k.many;
      headless = sym b.call ∙ k.headless;
      closed = b.closed;
      given = os;
      returned = gave;
      operands = operands_given os body.tail tail b.operand;
      count = count;
      names = c.names ∙ ap site_names (sym k.made.of_params);
      body = c.block ∙ block;
      runtime = subst (Found tree.items) b.runtime c.runtime;
      sites = subst (AreDefined tree.items) (sym k.made.of_sites) c.sites;
      answers = c.answers;
      printed = c.printed;
      params = c.params;
      result = c.result;
    }

pub import_body_is_faithful : ImportBodyIsFaithful
import_body_is_faithful types resources tree nth func parts body c =
    let k = c.makes in
    subst (λ h. IsFaithful resources (target.Core h func.now.name.wit) false tree nth (passed types func.now)) k.made.of_home (closed_import_is_faithful types resources tree nth func.now k.old k.new (closes_import types func parts body tree nth c))
