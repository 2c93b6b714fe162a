-- A post-return function that closes the body which was made for it closes the driver's code, and so it frees what the words own.
use Rattle.std.proofs.Common.{◌≡◌, ℕ, false, List, [], None, sym, ap, ap₂, ◌∙◌, subst}
use Rattle.rust_tree.specs.Tree.{Tree}
use Rattle.wit_model.specs.declared.function.Function.{Function}
use Rattle.wit_model.specs.declared.types.TypeDef.{TypeDef}
use Rattle.abi_bindgen.specs.Code.{post_return_code}
use Rattle.func_gen.specs.Body.{Gives}
use Rattle.func_gen.specs.Meaning.{Found}
use Rattle.func_gen.specs.TypeSites.{AreDefined}
use Rattle.func_gen.specs.Sites.{site_names}
use Rattle.func_gen.specs.declared.body.Body.{Body}
use Rattle.func_gen.proofs.StillFlows.{still_flows}
use Rattle.wrapper_closing.specs.ClosedPostReturn.{ClosesPostReturn}
use Rattle.wrapper_closing.specs.Laws.{PostReturnBodyFrees, PostReturnBodyIsReturned}
use Rattle.wrapper_closing.specs.PostReturnBody.{ClosesPostReturnBody}
use Rattle.wrapper_closing.specs.declared.parts.BodyParts.{BodyParts}
use Rattle.wrapper_closing.proofs.Givings.{begun_of, block_with}
use Rattle.wrapper_closing.proofs.ReturnedFrees.{closed_post_return_frees, closed_post_return_is_returned}

closes_post_return : (types : List TypeDef) (f : Function) (parts : BodyParts) (body : Body) (tree : Tree) (nth : ℕ) → (c : ClosesPostReturnBody types f parts body tree nth) → ClosesPostReturn types f tree nth c.makes.old c.makes.new
closes_post_return types f parts body tree nth c =
    let k = c.makes in
    let b = k.body_of in
    let still = still_flows types (post_return_code types f.result) [] [] k.old k.new k.flows in
    let tail : body.tail ≡ None = subst (λ r. Gives r body.tail) k.frees.returned b.tail in
    record {
      number = c.number;
      function = c.function;
      there = c.there;
      begun = begun_of types false parts k.old c.parted k.made;
      export = k.made.of_import;
      frees = k.frees;
      names = c.names ∙ ap site_names (sym k.made.of_params);
      pinned = c.pinned;
      headless = sym b.call ∙ k.headless;
      closed = b.closed;
      body = c.block ∙ ap₂ block_with b.stmts tail;
      runtime = subst (Found tree.items) b.runtime c.runtime;
      sites = subst (AreDefined tree.items) (sym (still.sites ∙ k.made.of_sites)) c.sites;
      sized = c.sized;
      result = c.result;
      lists = c.lists;
    }

pub post_return_body_frees : PostReturnBodyFrees
post_return_body_frees types tree nth f parts body c = closed_post_return_frees types tree nth f c.makes.old c.makes.new (closes_post_return types f parts body tree nth c)

pub post_return_body_is_returned : PostReturnBodyIsReturned
unfolding closes_post_return
post_return_body_is_returned types name tree nth f parts body c =
    closed_post_return_is_returned types name tree nth f c.makes.old c.makes.new (closes_post_return types f parts body tree nth c)
