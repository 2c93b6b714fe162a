-- An export, and then its post-return function.
use Rattle.std.proofs.Common.{◌≡◌, ℕ, ◌+◌, true, MatchBool, List, [], ◌∷◌, ◌++◌, Option, None, Some, sym, ap, subst, arith, ◌∙◌}
use Rattle.std.proofs.lemmas.Bool.{true≢false}
use Rattle.wrapper_data.specs.declared.block.Block.{Block}
use Rattle.wrapper_data.specs.declared.word.Word.{Word}
use Rattle.wrapper_meaning.specs.Calls.{pointers}
use Rattle.wrapper_meaning.specs.Direction.{give}
use Rattle.wrapper_meaning.specs.Items.{SameItems, total}
use Rattle.wrapper_meaning.specs.Laws.{PostReturnLeaves}
use Rattle.wrapper_meaning.specs.Represents.{GivesResult, ResultInArea, ResultInWord, is_indirect}
use Rattle.wrapper_meaning.specs.Shape.{Shape}
use Rattle.wrapper_meaning.specs.Value.{Result}

pub total-append : {A : Type 0} (weight : A → ℕ) (xs ys : List A) → total weight (xs ++ ys) ≡ total weight xs + total weight ys
total-append weight [] ys = omega (arith)
total-append weight (x ∷ xs) ys = omega (total-append weight xs ys, arith)

-- from run + own = left + blocks + area, left = own + others and after + blocks = run follows after = others + area
what_is_left : (run own left blocks area others after : List Block)
    → SameItems (run ++ own) (left ++ blocks ++ area) → SameItems left (own ++ others) → SameItems (after ++ blocks) run → SameItems after (others ++ area)
what_is_left run own left blocks area others after account live freed weight =
    omega (
      account weight,
      live weight,
      freed weight,
      total-append weight run own,
      total-append weight (left ++ blocks) area,
      total-append weight left blocks,
      total-append weight own others,
      total-append weight after blocks,
      total-append weight others area,
      arith,
    )

-- the returned word names the area
names : (w : ℕ) (r : Option Shape) (v : Result r) (words : List Word) (blocks area : List Block) → is_indirect r ≡ true → GivesResult w r v words blocks area → words ≡ pointers area
names w None v words blocks area indirect h = absurd (true≢false (sym indirect))
names w (Some t) v words blocks area indirect h =
    let stands : ResultInArea w give t v words blocks area = subst (λ q. MatchBool q (ResultInArea w give t v words blocks area) (ResultInWord w give t v words blocks area)) indirect h in
    stands.named ∙ ap pointers (sym stands.is_area)

pub post_return_leaves : PostReturnLeaves
post_return_leaves w b choices r v left own others run after indirect live gives frees =
    (what_is_left run.heap.blocks own left.blocks gives.blocks gives.area others after.heap.blocks gives.account live frees.account, names w r v run.words gives.blocks gives.area indirect gives.represents)
