-- Blocks are opened and closed, and each has code that it may have.
use Rattle.std.proofs.Common.{◌≡◌, true, List, [], ◌∷◌, ◌++◌, length, reverse, None, refl, sym, ap, ◌∙◌, subst}
use Rattle.std.proofs.lemmas.List.{length-map, length-reverse}
use Rattle.rust_tree.specs.declared.stmt.Stmt.{Stmt}
use Rattle.func_gen.specs.declared.function_bindgen.Code.{Code}
use Rattle.func_gen.specs.declared.function_bindgen.OpenBlock.{OpenBlock}
use Rattle.func_gen.specs.InwardCode.{are_inward_stmts}
use Rattle.func_gen.specs.Opened.{open_block, open_blocks}
use Rattle.func_gen.specs.Whole.{HaveBlockCode, IsBlockCode}
use Rattle.func_gen.proofs.InwardForms.{inward_both}

pub no_code : IsBlockCode (record { call = None; stmts = [] })
no_code = record { uncalled = refl; inward = refl }

-- where a block is open, the innermost one has such code
last_block : (before : List OpenBlock) (o : OpenBlock) (code : Code) → HaveBlockCode (before ++ o ∷ []) code → IsBlockCode code
last_block [] o code h = h
last_block (p ∷ []) o code h = last_block [] o code h.1
last_block (p ∷ q ∷ before) o code h = last_block (q ∷ before) o code h.1

-- once it is closed, those around it have
closed_blocks : (before : List OpenBlock) (o : OpenBlock) (code : Code) → HaveBlockCode (before ++ o ∷ []) code → HaveBlockCode before o.code
closed_blocks [] o code h = tt
closed_blocks (p ∷ []) o code h = h.0
closed_blocks (p ∷ q ∷ before) o code h = (h.0, closed_blocks (q ∷ before) o code h.1)

-- one more is opened, with such code; it suspends this code
pub opened_blocks : (before : List OpenBlock) (o : OpenBlock) (code : Code) → HaveBlockCode before o.code → IsBlockCode code → HaveBlockCode (before ++ o ∷ []) code
opened_blocks [] o code h k = k
opened_blocks (p ∷ []) o code h k = (h, k)
opened_blocks (p ∷ q ∷ before) o code h k = (h.0, opened_blocks (q ∷ before) o code h.1 k)

pub innermost_block : (opened before : List OpenBlock) (o : OpenBlock) (code : Code) → opened ≡ before ++ o ∷ [] → HaveBlockCode opened code → IsBlockCode code
innermost_block opened before o code is h = last_block before o code (subst (λ os. HaveBlockCode os code) is h)

pub around_blocks : (opened before : List OpenBlock) (o : OpenBlock) (code : Code) → opened ≡ before ++ o ∷ [] → HaveBlockCode opened code → HaveBlockCode before o.code
around_blocks opened before o code is h = closed_blocks before o code (subst (λ os. HaveBlockCode os code) is h)

-- the innermost one may have other such code
pub other_blocks : (opened : List OpenBlock) (code other : Code) → HaveBlockCode opened code → (IsBlockCode code → IsBlockCode other) → HaveBlockCode opened other
other_blocks [] code other h k = tt
other_blocks (o ∷ []) code other h k = k h
other_blocks (o ∷ p ∷ opened) code other h k = (h.0, other_blocks (p ∷ opened) code other h.1 k)

-- inward statements may be added
pub added_blocks : (opened : List OpenBlock) (code : Code) (added : List Stmt) → are_inward_stmts added ≡ true → HaveBlockCode opened code → HaveBlockCode opened (record code { stmts = code.stmts ++ added })
added_blocks opened code added inward h = other_blocks opened code _ h (λ k. record { uncalled = k.uncalled; inward = inward_both code.stmts added k.inward inward })

-- as many as are told
opened_many : (opened : List OpenBlock) → length (open_blocks opened) ≡ length opened
opened_many opened = length-map (reverse opened) open_block ∙ length-reverse opened

-- no block is open
pub none_open : (opened : List OpenBlock) → open_blocks opened ≡ [] → opened ≡ []
none_open [] h = refl
none_open (o ∷ opened) h = absurd (let e = sym (opened_many (o ∷ opened)) ∙ ap length h in cc)
