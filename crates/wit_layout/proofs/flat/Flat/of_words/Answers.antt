use Rattle.std.proofs.Common.{◌≡◌, min, take, nat_lt, ap, sym, ◌∙◌, arith}
use Rattle.wit_layout.proofs.WordLists.{first_of}
use Rattle.wit_layout.proofs.KeptWords.{kept-length}
use Rattle.wit_layout.proofs.flat.Flat.of_words.Goals as goal

pub returns : goal.returns
returns c =
    let all = c.args.all in
    let len = kept-length all in
    let count : c.min-count.result ≡ min all.count 16 = c.min-count.ensures in
    let end : c.loop-at.at ≡ c.min-count.result = omega (arith, c.loop-at-test.false, c.loop-at.auto.at-end) in
    record {
      count = omega (arith, count, len);
      kept = sym (ap (λ k. take k c.loop-at.words) end) ∙ c.loop-at.invariant.same ∙ ap (λ k. take k all.words) (end ∙ count) ∙ sym (first_of 16 all.count all.words);
      more = ap (λ k. nat_lt 16 k) (sym len);
    }
