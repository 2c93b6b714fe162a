use Rattle.std.proofs.Common.{◌+◌, ◌∙◌, ◌++◌, ap, sym, take, drop}
use Rattle.wit_layout.specs.inside.Words.{kept}
use Rattle.wit_layout.proofs.WordLists.{take_then}
use Rattle.wit_layout.proofs.KeptWords.{kept_from}
use Rattle.wit_layout.proofs.words.Words.followed_by.Goals as goal

pub loop-at-preserved : goal.loop-at-preserved
loop-at-preserved c =
    let r = c.args.self.room in
    let h = c.loop-at.invariant in
    let all = c.loop-at.all in
    let next = kept_from c.args.more c.loop-at.at _ c.loop-at-test.true in
    record {
      words = take_then r all.room (kept all) (kept c.with-all.result) _ (drop (c.loop-at.at + 1) (kept c.args.more)) _ h.room c.with-all.ensures.words (sym (ap (λ ws. take r (kept all ++ ws)) next) ∙ h.words);
      room = c.with-all.ensures.room ∙ h.room;
    }
