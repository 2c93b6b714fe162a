use Rattle.std.proofs.Common.{◌≡◌, ◌++◌, drop}
use Rattle.std.specs.List.{flat_map}
use Rattle.wit_refusal.specs.declared.word.Word.TheVariants.{Comma}
use Rattle.wit_refusal.specs.Line.{quoted}
use Rattle.wit_refusal.specs.Word.{word}
use Rattle.wit_refusal.proofs.quote.push_behind_commas.Given as goal

abbrev pub invariant-loop-text : goal.invariant-loop-text
invariant-loop-text l =
    l.out ++ flat_map (λ text. word Comma ++ quoted text) (drop l.text-index l.texts) ≡ l.initial.out ++ flat_map (λ text. word Comma ++ quoted text) l.texts
