use Rattle.std.proofs.Common.{◌≡◌, ◌≢◌, [], Some, sym, ap, ◌∙◌, arith}
use Rattle.json.specs.Json.{value}
use Rattle.json.specs.Value.{value_view}
use Rattle.serde_json.specs.Read.{max_depth}
use Rattle.wit_document.proofs.InRange.{read-in_range, read-out_of_range, read-more}
use Rattle.wit_document.proofs.value.parse.Goals as goal

pub returns-then-is_some-clause-err : goal.returns-then-is_some-clause-err
returns-then-is_some-clause-err c _ =
    let more : c.parsed.new.reader ≢ [] = λ none. grind arith in
    read-more c.args.text.now (value_view c.in_ok-value.value) c.parsed.new.reader (ap (value max_depth) (sym c.in-Ok.ensures.ok) ∙ c.in_ok-value.ensures.ok) more

pub returns-then-is_in_range-clause-ok : goal.returns-then-is_in_range-clause-ok
returns-then-is_in_range-clause-ok c =
    let j = value_view c.in_ok-value.value in
    let none : c.parsed.new.reader ≡ [] = grind arith in
    read-in_range c.args.text.now j (ap (value max_depth) (sym c.in-Ok.ensures.ok) ∙ c.in_ok-value.ensures.ok ∙ ap (λ ts. Some (j, ts)) none) (sym c.if-is_in_range.ensures)

pub returns-clause-err : goal.returns-clause-err
returns-clause-err c _ =
    let j = value_view c.in_ok-value.value in
    let none : c.parsed.new.reader ≡ [] = grind arith in
    read-out_of_range c.args.text.now j (ap (value max_depth) (sym c.in-Ok.ensures.ok) ∙ c.in_ok-value.ensures.ok ∙ ap (λ ts. Some (j, ts)) none) (sym c.if-is_in_range.ensures)
