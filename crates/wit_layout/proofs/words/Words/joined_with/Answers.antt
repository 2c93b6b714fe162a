use Rattle.std.proofs.Common.{◌≡◌, ◌+◌, ◌∙◌, ◌∷◌, ◌++◌, [], ap, sym, take, drop}
use Rattle.wit_layout.specs.declared.words.Words.{Words}
use Rattle.wit_layout.specs.Join.{join}
use Rattle.wit_layout.specs.Flat.{joined}
use Rattle.wit_layout.specs.inside.Words.{kept}
use Rattle.wit_layout.proofs.WordLists.{take_then, both_at, first_at, second_at, none_at}
use Rattle.wit_layout.proofs.words.Words.joined_with.Goals as goal
use Rattle.wit_layout.proofs.words.Words.joined_with.Goals.{in-Some-Some, in-Some-None, in-None-Some, in-None-None}

pub loop-at-preserved : goal.loop-at-preserved
loop-at-preserved c =
    let r = c.args.self.room in
    let h = c.loop-at.invariant in
    let i = c.loop-at.at in
    let xs = kept c.args.self in
    let ys = kept c.args.other in
    let all = c.loop-at.all in
    let rest = joined (drop (i + 1) xs) (drop (i + 1) ys) in
    elim c.match-get.branch [
      | in-Some-Some w ↦
          let arm = w.in-Some-Some in
          let next = both_at xs ys i arm.a arm.b (cc (c.get.ensures, arm.is-0)) (cc (c.get-in-loop-at.ensures, arm.is-1)) in
          let put : kept c.match-get.all ≡ take all.room (kept all ++ join arm.a arm.b ∷ []) = ap (λ (v : Words). kept v) w.all-is ∙ w.with-all.ensures.words ∙ ap (λ word. take all.room (kept all ++ word ∷ [])) w.join.ensures.join in
          record {
            words = take_then r all.room (kept all) (kept c.match-get.all) (join arm.a arm.b ∷ []) rest _ h.room put (sym (ap (λ ws. take r (kept all ++ ws)) next) ∙ h.words);
            room = ap (λ (v : Words). v.room) w.all-is ∙ w.with-all.ensures.room ∙ h.room;
          }
      | in-Some-None w ↦
          let arm = w.in-Some-None in
          let next = first_at xs ys i arm.a (cc (c.get.ensures, arm.is-0)) (cc (c.get-in-loop-at.ensures, arm.is-1)) in
          let put : kept c.match-get.all ≡ take all.room (kept all ++ arm.a ∷ []) = ap (λ (v : Words). kept v) w.all-is ∙ w.with-all-in-Some-None.ensures.words in
          record {
            words = take_then r all.room (kept all) (kept c.match-get.all) (arm.a ∷ []) rest _ h.room put (sym (ap (λ ws. take r (kept all ++ ws)) next) ∙ h.words);
            room = ap (λ (v : Words). v.room) w.all-is ∙ w.with-all-in-Some-None.ensures.room ∙ h.room;
          }
      | in-None-Some w ↦
          let arm = w.in-None-Some in
          let next = second_at xs ys i arm.b (cc (c.get.ensures, arm.is-0)) (cc (c.get-in-loop-at.ensures, arm.is-1)) in
          let put : kept c.match-get.all ≡ take all.room (kept all ++ arm.b ∷ []) = ap (λ (v : Words). kept v) w.all-is ∙ w.with-all-in-None-Some.ensures.words in
          record {
            words = take_then r all.room (kept all) (kept c.match-get.all) (arm.b ∷ []) rest _ h.room put (sym (ap (λ ws. take r (kept all ++ ws)) next) ∙ h.words);
            room = ap (λ (v : Words). v.room) w.all-is ∙ w.with-all-in-None-Some.ensures.room ∙ h.room;
          }
      | in-None-None w ↦
          let arm = w.in-None-None in
          let next = none_at xs ys i (cc (c.get.ensures, arm.is-0)) (cc (c.get-in-loop-at.ensures, arm.is-1)) in
          record {
            words = ap (λ (v : Words). take r (kept v ++ rest)) w.all-is ∙ sym (ap (λ ws. take r (kept all ++ ws)) next) ∙ h.words;
            room = ap (λ (v : Words). v.room) w.all-is ∙ h.room;
          }
    ]
