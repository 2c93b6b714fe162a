use Rattle.std.proofs.Common.{List, [], ◌∷◌, ◌++◌, sym, ap, ◌∙◌, subst}
use Rattle.std.proofs.lemmas.List.{nil_from_length}
use Rattle.abi_bindgen.specs.Instructions.{Emits, IsSendable}
use Rattle.abi_driver.proofs.memory.word.store_word.Goals as goal

pub send-requires : goal.send-requires
send-requires g c =
    let pushed = c.in_ok-push.ensures.ok ∙ ap (λ (os : List g.row.B-Operand.Denot). os ++ c.in_ok-copy.field-0 ∷ []) c.in_ok-operands.ensures ∙ ap (λ (a : g.row.B-Operand.Denot). c.args.word ∷ a ∷ []) c.in_ok-copy.ensures in
    subst (λ (os : List g.row.B-Operand.Denot). IsSendable g.B.Bindgen.meaning c.args.resolve.now c.args.inst os c.args.bindgen.now) (sym pushed) c.requires.sendable

pub returns : goal.returns
returns g c =
    let Sent : List g.row.B-Operand.Denot → List g.row.B-Operand.Denot → Type 0 = λ os rs. Emits g.B.Bindgen.meaning c.args.resolve.now.types c.args.inst os rs c.args.bindgen.now c.send.new.bindgen in
    let pushed = c.in_ok-push.ensures.ok ∙ ap (λ (os : List g.row.B-Operand.Denot). os ++ c.in_ok-copy.field-0 ∷ []) c.in_ok-operands.ensures ∙ ap (λ (a : g.row.B-Operand.Denot). c.args.word ∷ a ∷ []) c.in_ok-copy.ensures in
    let sent = subst (λ os. Sent os c.in_ok-_none._none) pushed c.in_ok-_none.ensures in
    subst (Sent (c.args.word ∷ c.args.address.now ∷ [])) (nil_from_length _ (c.requires.silent _ sent.results)) sent
