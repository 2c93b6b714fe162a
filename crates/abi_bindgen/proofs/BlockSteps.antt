-- A block whose code makes no call makes none; and where it is closed, the code from before it is there again.
use Rattle.std.proofs.Common.{◌≡◌, List, ◌∷◌, sym, ap, ◌∙◌}
use Rattle.wrapper_meaning.proofs.Lists.{first_or, later}
use Rattle.abi_bindgen.specs.Account.{Account, account_in}
use Rattle.abi_bindgen.specs.Blocks.{Finishes, IsQuiet, Pushes}
use Rattle.abi_bindgen.specs.Laws.{Adds, Sound, StaysUncalled}
use Rattle.abi_bindgen.specs.Meaning.{Meaning}

module _ {Self Operand : Type 0} (m : Meaning Self Operand) (sound : Sound m) (a b c d : Self) (os : List Operand) (opens : Pushes m a b) (adds : Adds m b c) (closes : Finishes m os c d) where
  same_open : (closes.slot, m.code d) ∷ m.opened d ≡ (opens.slot, m.code a) ∷ m.opened a
  same_open = sym closes.resumes ∙ adds.grows.opened ∙ opens.opened

  pub same_slot : closes.slot ≡ opens.slot
  same_slot = ap (λ xs. (first_or {A = m.Slot × m.Code} (closes.slot, m.code d) xs).0) same_open

  pub same_code : m.code d ≡ m.code a
  same_code = ap (λ xs. (first_or {A = m.Slot × m.Code} (closes.slot, m.code d) xs).1) same_open

  pub same_opened : m.opened d ≡ m.opened a
  same_opened = ap (λ xs. later xs) same_open

  pub one_block_more : m.blocks d ≡ closes.block ∷ m.blocks a
  one_block_more = closes.blocks ∙ ap (λ bs. closes.block ∷ bs) (adds.blocks ∙ opens.blocks)

  pub block_uncalled : StaysUncalled m a d
  block_uncalled u = closes.lasts.uncalled (adds.uncalled (opens.lasts.uncalled u))

  pub block_quiet : IsQuiet m d closes.block
  block_quiet w p with s serves =
      let u = m.enter closes.slot with s in
      closes.runs.calls w p with s serves ∙ adds.quiet w p u (closes.lasts.serves w serves) ∙ ap (λ code. (account_in m.account (m.does w p code u)).calls) opens.code
      ∙ ap (λ o. (account_in m.account o).calls) (sound.nothing w p u) ∙ ap (λ (acc : Account m.Item). acc.calls) (ap (λ slot. m.account (m.enter slot with s)) same_slot ∙ opens.account s with)
