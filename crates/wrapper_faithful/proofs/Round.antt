-- An export, and then its post-return function.
use Rattle.std.proofs.Common.{◌≡◌, Bool, true, false, MatchBool, List, [], ◌++◌, Option, None, Some, sym, ap, subst, arith, ◌∙◌}
use Rattle.wrapper_data.specs.declared.block.Block.{Block}
use Rattle.wrapper_data.specs.declared.word.Word.{Word}
use Rattle.wrapper_meaning.specs.Calls.{pointers}
use Rattle.wrapper_meaning.specs.Direction.{give}
use Rattle.wrapper_meaning.specs.Ends.{EndsBy, IsDone}
use Rattle.wrapper_meaning.specs.Gives.{GivesExport}
use Rattle.wrapper_meaning.specs.Items.{SameItems, total}
use Rattle.wrapper_meaning.specs.Represents.{GivesResult, ResultInArea, ResultInWord, is_indirect}
use Rattle.wrapper_meaning.specs.Shape.{Shape}
use Rattle.wrapper_meaning.specs.Value.{Result}
use Rattle.wrapper_meaning.proofs.PostReturn.{total-append}
use Rattle.wrapper_faithful.specs.Export.{bill_of}
use Rattle.wrapper_faithful.specs.Laws.{RoundLeaves, RunLeaves}
use Rattle.wrapper_faithful.specs.Passed.{width}
use Rattle.wrapper_faithful.specs.Resources.{calls_of}
use Rattle.wrapper_faithful.specs.Returned.{IsReturned, IsUnreturned}

-- the returned word names the area, where there is one
names : (r : Option Shape) (v : Result r) (words : List Word) (blocks area : List Block) → GivesResult width r v words blocks area → MatchBool (is_indirect r) (words ≡ pointers area) (area ≡ [])
names None v words blocks area h = h.2
names (Some t) v words blocks area h = by_kind (is_indirect (Some t)) h
  where
    by_kind : (q : Bool) → MatchBool q (ResultInArea width give t v words blocks area) (ResultInWord width give t v words blocks area) → MatchBool q (words ≡ pointers area) (area ≡ [])
    by_kind true h = h.named ∙ ap pointers (sym h.is_area)
    by_kind false h = h.1

-- run + own = left + blocks + area and left = own + others, so run = blocks + area + others
behind : (run own left blocks area others : List Block) → SameItems (run ++ own) (left ++ blocks ++ area) → SameItems left (own ++ others) → SameItems run (blocks ++ area ++ others)
behind run own left blocks area others account live weight =
    omega (
      account weight,
      live weight,
      total-append weight run own,
      total-append weight (left ++ blocks) area,
      total-append weight left blocks,
      total-append weight own others,
      total-append weight (blocks ++ area) others,
      total-append weight blocks area,
      arith,
    )

-- and after + blocks = run, so after = others + area
left_behind : (run blocks area others after : List Block) → SameItems run (blocks ++ area ++ others) → SameItems (after ++ blocks) run → SameItems after (others ++ area)
left_behind run blocks area others after live freed weight =
    omega (
      live weight,
      freed weight,
      total-append weight (blocks ++ area) others,
      total-append weight blocks area,
      total-append weight after blocks,
      total-append weight others area,
      arith,
    )

pub round_leaves : RoundLeaves
round_leaves resources names_of results tree nth p x v honest later after faithful lists done ran =
    let ended : IsDone (bill_of results p x v) (calls_of resources p x.run) (GivesExport width (bill_of results p x v) x.choices.list p.result v honest.heap honest.own) x.run =
    subst (λ st. EndsBy st (bill_of results p x v) x.choices.list (calls_of resources p x.run) (GivesExport width (bill_of results p x v) x.choices.list p.result v honest.heap honest.own) x.run) done (faithful.ends x v honest) in
    let returned : IsReturned names_of.post_return tree nth p = subst (λ b. MatchBool b (IsReturned names_of.post_return tree nth p) (IsUnreturned names_of.post_return tree nth p)) lists faithful.returned in
    let gives = ended.gives in
    let live = behind x.run.heap.blocks honest.own honest.heap.blocks gives.blocks gives.area honest.others gives.account honest.live in
    let freed = returned.frees (record {
      words = x.run.words;
      heap = x.run.heap;
      blocks = gives.blocks;
      given = record {
        value = v;
        good = honest.good;
        formed = gives.formed;
        area = gives.area;
        others = honest.others;
        represents = gives.represents;
        live = live;
      };
      form = later;
      run = after;
      ran = ran;
    }) in (
      freed.done,
      record {
        area = gives.area;
        named = names p.result v x.run.words gives.blocks gives.area gives.represents;
        account = left_behind x.run.heap.blocks gives.blocks gives.area honest.others after.heap.blocks live freed.account;
      },
    )

pub run_leaves : RunLeaves
run_leaves resources names_of results tree nth p x v honest faithful lists done =
    let ended : IsDone (bill_of results p x v) (calls_of resources p x.run) (GivesExport width (bill_of results p x v) x.choices.list p.result v honest.heap honest.own) x.run =
    subst (λ st. EndsBy st (bill_of results p x v) x.choices.list (calls_of resources p x.run) (GivesExport width (bill_of results p x v) x.choices.list p.result v honest.heap honest.own) x.run) done (faithful.ends x v honest) in
    let unreturned : IsUnreturned names_of.post_return tree nth p = subst (λ b. MatchBool b (IsReturned names_of.post_return tree nth p) (IsUnreturned names_of.post_return tree nth p)) lists faithful.returned in
    let gives = ended.gives in
    let none : gives.blocks ≡ [] = unreturned.owns v x.run.words gives.blocks gives.area honest.good gives.represents in
    record {
      area = gives.area;
      named = names p.result v x.run.words gives.blocks gives.area gives.represents;
      account = λ weight. omega (
        behind x.run.heap.blocks honest.own honest.heap.blocks gives.blocks gives.area honest.others gives.account honest.live weight,
        ap (total weight) none,
        total-append weight (gives.blocks ++ gives.area) honest.others,
        total-append weight gives.blocks gives.area,
        total-append weight honest.others gives.area,
        arith,
      );
    }
