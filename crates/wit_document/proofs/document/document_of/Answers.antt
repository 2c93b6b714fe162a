use Rattle.std.proofs.Common.{◌≡◌, Err, sym, ap, ◌∙◌, arith}
use Rattle.std.specs.Str.{IsUtf8}
use Rattle.serde_json.specs.Read.{read}
use Rattle.wit_document.specs.View.{view}
use Rattle.wit_document.specs.Document.{document_in}
use Rattle.wit_document.proofs.Texts.{document_in-read, document_in-none, faulty}
use Rattle.wit_document.proofs.document.document_of.Goals as goal

pub returns-in_default : goal.returns-in_default
returns-in_default c = document_in-none c.args.bytes.now (λ utf8. absurd (grind arith))

pub returns : goal.returns
returns c =
    let same : c.in-Ok.text.now ≡ c.args.bytes.now = grind arith in
    faulty c.in-Err.fault (document_in c.args.bytes.now) (λ bad. document_in-none c.args.bytes.now (λ _. ap read (sym same) ∙ c.in-Err.ensures.err (ap Err bad)))

pub returns-in-Ok-parse : goal.returns-in-Ok-parse
returns-in-Ok-parse c =
    let same : c.in-Ok.text.now ≡ c.args.bytes.now = grind arith in
    let utf8 : IsUtf8 c.args.bytes.now = grind arith in
    rw (document_in-read c.args.bytes.now (view c.in-Ok-parse.value) utf8 (ap read (sym same) ∙ c.in-Ok-parse.ensures.ok)) c.read.ensures
