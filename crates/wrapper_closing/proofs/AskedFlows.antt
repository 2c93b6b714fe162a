-- Code that drops no operand that was converted names all that it asks for of `_rt`, or what it gives does.
use Rattle.std.proofs.Common.{◌≡◌, ℕ, zero, suc, Bool, true, false, ◌&&◌, if◌then◌else◌, List, [], ◌∷◌, ◌++◌, refl, sym, ap, ◌∙◌, subst}
use Rattle.std.specs.Prelude.{drop, take}
use Rattle.std.proofs.lemmas.Bool.{and_parts, not-true}
use Rattle.std.proofs.lemmas.Grind.{flat_map-append}
use Rattle.std.proofs.lemmas.List.{map-append}
use Rattle.wit_model.specs.declared.types.TypeDef.{TypeDef}
use Rattle.rust_tree.specs.declared.runtime_item.RuntimeItem.{RuntimeItem}
use Rattle.rust_tree.specs.Asked.{asked_by_expr}
use Rattle.abi_bindgen.specs.declared.instruction.Instruction.TheVariants.{Bitcasts, ConstZero}
use Rattle.abi_bindgen.specs.Flow.{Flow, ask, behind, both, cast_by, emit, in_block, leading, leave_none, same, zeros_of, ◌>>>◌}
use Rattle.abi_bindgen.specs.Flows.{Flows}
use Rattle.abi_bindgen.specs.Sent.{asks, closes, opens, sends}
use Rattle.abi_bindgen.proofs.SpentFlows.{converts, is_plain, is_thrifty, spends}
use Rattle.func_gen.specs.declared.function_bindgen.FunctionBindgen.{FunctionBindgen}
use Rattle.func_gen.specs.declared.operand.ExprOperand.{ExprOperand}
use Rattle.func_gen.specs.Formed.{Formed}
use Rattle.func_gen.specs.Meaning.{func_meaning}
use Rattle.func_gen.specs.PartForms.{exprs_of}
use Rattle.func_gen.specs.Still.{StillOf}
use Rattle.func_gen.proofs.StillFlows.{still_flows}
use Rattle.wrapper_closing.proofs.AskedEmissions.{ArePlain}
use Rattle.wrapper_closing.proofs.AskedForms.{exprs_named}
use Rattle.wrapper_closing.proofs.AskedMatches.{operands_named}
use Rattle.wrapper_closing.proofs.AskedSteps.{Accounts, all_named, asks_plain, casts_spend, closes_spends, step_accounts, step_plain, step_spends}
use Rattle.wrapper_closing.proofs.Within.{Within, in_left, in_right, within_both, within_from, within_left, within_none, within_pairs, within_right, within_self, within_then, within_to}

-- 1. Some operands of others

taken_named : (n : ℕ) (os : List ExprOperand) → Within (operands_named (take n os)) (operands_named os)
taken_named zero os = within_none (operands_named os)
taken_named (suc n) [] = within_none []
taken_named (suc n) (o ∷ os) = within_pairs (asked_by_expr o.expr) (operands_named (take n os)) (asked_by_expr o.expr) (operands_named os) (within_self (asked_by_expr o.expr)) (taken_named n os)

pub behind_named : (n : ℕ) (os : List ExprOperand) → Within (operands_named (drop n os)) (operands_named os)
behind_named zero os = within_self (operands_named os)
behind_named (suc n) [] = within_none []
behind_named (suc n) (o ∷ os) = within_right (asked_by_expr o.expr) (operands_named os) (behind_named n os)

pub both_named : (xs ys : List ExprOperand) → operands_named (xs ++ ys) ≡ operands_named xs ++ operands_named ys
both_named xs ys = ap exprs_named (map-append (λ (o : ExprOperand). o.expr) xs ys) ∙ flat_map-append asked_by_expr (exprs_of xs) (exprs_of ys)

-- 2. Code after code

-- all that operands name is named by what is there already
abbrev pub AreSettled : List ExprOperand → FunctionBindgen → Type 0
AreSettled os b = Within (operands_named os) (all_named b)

-- what the first part gives is named behind the second, or by what is given in the end; so is what the second gives
pub accounts_on : (old mid new : FunctionBindgen) (between out gives : List ExprOperand) → Accounts old mid between → Accounts mid new out → Within (operands_named between) (all_named new ++ operands_named gives) → Within (operands_named out) (all_named new ++ operands_named gives) → Accounts old new gives
accounts_on old mid new between out gives one two left right =
    let named = all_named new ++ operands_named gives in
    let in_code = in_left (all_named new) (operands_named gives) in
    let later = λ (xs : List RuntimeItem) (h : Within xs named). within_right old.runtime named h in
    record {
      grows = within_then one.grows two.grows;
      asks = within_then two.asks
          (within_both mid.runtime (all_named new ++ operands_named out)
          (within_then one.asks (within_both old.runtime (all_named mid ++ operands_named between) (in_left old.runtime named) (later (all_named mid ++ operands_named between) (within_both (all_named mid) (operands_named between) (within_then two.grows in_code) left))))
          (later (all_named new ++ operands_named out) (within_both (all_named new) (operands_named out) in_code right)));
    }

pub accounts_then : (old mid new : FunctionBindgen) (between gives : List ExprOperand) → Accounts old mid between → Accounts mid new gives → Within (operands_named between) (all_named new ++ operands_named gives) → Accounts old new gives
accounts_then old mid new between gives one two h = accounts_on old mid new between gives gives one two h (in_right (all_named new) (operands_named gives))

accounts_both : (old mid new : FunctionBindgen) (left right gives : List ExprOperand) → gives ≡ left ++ right → Accounts old mid left → Accounts mid new right → Accounts old new gives
accounts_both old mid new left right gives is one two =
    let both = operands_named left ++ operands_named right in
    let named : both ≡ operands_named gives = sym (ap operands_named is ∙ both_named left right) in
    let into = λ (xs : List RuntimeItem) (h : Within xs both). within_right (all_named new) (operands_named gives) (within_to both (operands_named gives) named h) in
    accounts_on old mid new left right gives one two (into (operands_named left) (in_left (operands_named left) (operands_named right))) (into (operands_named right) (in_right (operands_named left) (operands_named right)))

-- no step
accounts_same : (old new : FunctionBindgen) (gives : List ExprOperand) → new ≡ old → Accounts old new gives
accounts_same old new gives e = subst (λ (b : FunctionBindgen). Accounts old b gives) (sym e) (record { grows = within_self (all_named old); asks = in_left old.runtime (all_named old ++ operands_named gives) })

still_settled : (reads gives : List ExprOperand) (old new : FunctionBindgen) → new ≡ old → Within (operands_named gives) (operands_named reads) → AreSettled reads old → AreSettled gives new
still_settled reads gives old new e h settled = within_then h (within_to (all_named old) (all_named new) (ap all_named (sym e)) settled)

pub still_plain : (old new : FunctionBindgen) → StillOf old new → ArePlain old.params → ArePlain new.params
still_plain old new still plain = subst ArePlain (sym still.params) plain

both_settled : (left right gives : List ExprOperand) (b : FunctionBindgen) → gives ≡ left ++ right → AreSettled left b → AreSettled right b → AreSettled gives b
both_settled left right gives b is h g = within_from (operands_named gives) (operands_named left ++ operands_named right) (ap operands_named is ∙ both_named left right) (within_both (operands_named left) (operands_named right) h g)

none_settled : (gives : List ExprOperand) (b : FunctionBindgen) → gives ≡ [] → AreSettled gives b
none_settled gives b is = within_from (operands_named gives) [] (ap operands_named is) (within_none (all_named b))

module _ (types : List TypeDef) where
  -- 3. A block around code

  block_accounts : (results : List ExprOperand) (old begun ended new : FunctionBindgen) → Formed types opens [] [] old begun → StillOf begun ended → Accounts begun ended results → Formed types closes results [] ended new → ArePlain old.params → Accounts old new []
  block_accounts results old begun ended new begins still inner ends plain =
      let first = step_accounts types [] [] old begun plain opens begins in
      let last = step_accounts types results [] ended new (still_plain begun ended still (still_plain old begun begins.still plain)) closes ends in
      let around = accounts_then old begun ended [] results first inner (within_none (all_named ended ++ operands_named results)) in
      accounts_then old ended new results [] around last (within_left (all_named new) [] (closes_spends results ended new ends.code))

  -- 4. Code that converts nothing

  -- where all that it reads is named already, so is all that it gives
  pub plain_flows : (code : Flow) (reads gives : List ExprOperand) (old new : FunctionBindgen) → is_plain code ≡ true → Flows func_meaning types code reads gives old new → ArePlain old.params → AreSettled reads old → Accounts old new gives × AreSettled gives new
  plain_flows (emit i) reads gives old new p e plain settled =
      let accounts = step_accounts types reads gives old new plain (sends i) e.form in
      (accounts, within_then (step_plain types reads gives old new plain i (not-true (converts i) p) e.form) (within_then settled accounts.grows))
  plain_flows (cast_by casts) reads gives old new p (held, is, e) plain settled =
      let accounts = step_accounts types reads gives old new plain (sends (Bitcasts held)) e.form in
      (accounts, within_then (step_plain types reads gives old new plain (Bitcasts held) refl e.form) (within_then settled accounts.grows))
  plain_flows (zeros_of zeros) reads gives old new p (held, is, e) plain settled =
      let accounts = step_accounts types reads gives old new plain (sends (ConstZero held)) e.form in
      (accounts, within_then (step_plain types reads gives old new plain (ConstZero held) refl e.form) (within_then settled accounts.grows))
  plain_flows (ask a) reads gives old new p (none, o, is, q) plain settled =
      let accounts = step_accounts types [] (o ∷ []) old new plain (asks a) (q.form types) in
      subst (λ (os : List ExprOperand). Accounts old new os × AreSettled os new) (sym is) (accounts, within_then (asks_plain types [] (o ∷ []) old new plain a (q.form types)) (within_none (all_named new)))
  plain_flows (in_block code) reads gives old new p (none, results, begun, ended, begins, inside, ends) plain settled =
      let first = step_accounts types [] [] old begun plain opens (begins.form types) in
      let inner = (plain_flows code reads results begun ended p inside (still_plain old begun (begins.form types).still plain) (within_then settled first.grows)).0 in
      let whole = block_accounts results old begun ended new (begins.form types) (still_flows types code reads results begun ended inside) inner (ends.form types) plain in
      (subst (Accounts old new) (sym none) whole, none_settled gives new none)
  plain_flows same reads gives old new p h plain settled = (accounts_same old new gives h.1, still_settled reads gives old new h.1 (within_from (operands_named gives) (operands_named reads) (ap operands_named h.0) (within_self (operands_named reads))) settled)
  plain_flows leave_none reads gives old new p h plain settled = (accounts_same old new gives h.1, none_settled gives new h.0)
  plain_flows (leading n) reads gives old new p h plain settled = (accounts_same old new gives h.1, still_settled reads gives old new h.1 (within_from (operands_named gives) (operands_named (take n reads)) (ap operands_named h.0) (taken_named n reads)) settled)
  plain_flows (behind n) reads gives old new p h plain settled = (accounts_same old new gives h.1, still_settled reads gives old new h.1 (within_from (operands_named gives) (operands_named (drop n reads)) (ap operands_named h.0) (behind_named n reads)) settled)
  plain_flows (one >>> two) reads gives old new p (between, next, h, g) plain settled =
      let parts = and_parts (is_plain one) (is_plain two) p in
      let first = plain_flows one reads between old next parts.0 h plain settled in
      let second = plain_flows two between gives next new parts.1 g (still_plain old next (still_flows types one reads between old next h) plain) first.1 in
      (accounts_then old next new between gives first.0 second.0 (within_left (all_named new) (operands_named gives) (within_then first.1 second.0.grows)), second.1)
  plain_flows (both one two) reads gives old new p (left, right, next, h, g, is) plain settled =
      let parts = and_parts (is_plain one) (is_plain two) p in
      let first = plain_flows one reads left old next parts.0 h plain settled in
      let second = plain_flows two reads right next new parts.1 g (still_plain old next (still_flows types one reads left old next h) plain) (within_then settled first.0.grows) in
      (accounts_both old next new left right gives is first.0 second.0, both_settled left right gives new is (within_then first.1 second.0.grows) second.1)

  -- 5. An instruction that uses each operand

  spending_flows : (code : Flow) (reads gives : List ExprOperand) (old new : FunctionBindgen) → spends code ≡ true → Flows func_meaning types code reads gives old new → ArePlain old.params → Accounts old new gives × Within (operands_named reads) (all_named new ++ operands_named gives)
  spending_flows (emit i) reads gives old new u e plain = (step_accounts types reads gives old new plain (sends i) e.form, step_spends types reads gives old new plain i u e.form)
  spending_flows (cast_by casts) reads gives old new u (held, is, e) plain = (step_accounts types reads gives old new plain (sends (Bitcasts held)) e.form, casts_spend types reads gives old new plain held e.form)
  spending_flows same reads gives old new u h plain = (accounts_same old new gives h.1, within_right (all_named new) (operands_named gives) (within_from (operands_named reads) (operands_named gives) (ap operands_named (sym h.0)) (within_self (operands_named gives))))
  spending_flows _ reads gives old new u h plain = absurd (let no = u in cc)

  -- 6. Code that drops nothing that was converted

  -- two parts, by what is known of each
  thrifty_then : (one two : Flow) (reads between gives : List ExprOperand) (old next new : FunctionBindgen) → is_thrifty (one >>> two) ≡ true → Flows func_meaning types one reads between old next → Flows func_meaning types two between gives next new → ArePlain old.params
      → AreSettled reads old → (is_thrifty one ≡ true → Accounts old next between) → (is_thrifty two ≡ true → AreSettled between next → Accounts next new gives) → Accounts old new gives
  thrifty_then one two reads between gives old next new t h g plain settled by_one by_two = by (is_plain one) refl t
    where
      by : (b : Bool) → is_plain one ≡ b → (if b then is_thrifty two else is_thrifty one && spends two) ≡ true → Accounts old new gives
      by true p k =
          let first = plain_flows one reads between old next p h plain settled in
          let second = by_two k first.1 in
          accounts_then old next new between gives first.0 second (within_left (all_named new) (operands_named gives) (within_then first.1 second.grows))
      by false p k =
          let parts = and_parts (is_thrifty one) (spends two) k in
          let second = spending_flows two between gives next new parts.1 g (still_plain old next (still_flows types one reads between old next h) plain) in
          accounts_then old next new between gives (by_one parts.0) second.0 second.1

  -- where all that it reads is named already, it names what it asks for, or what it gives does
  pub thrifty_flows : (code : Flow) (reads gives : List ExprOperand) (old new : FunctionBindgen) → is_thrifty code ≡ true → Flows func_meaning types code reads gives old new → ArePlain old.params → AreSettled reads old → Accounts old new gives
  thrifty_flows (emit i) reads gives old new t e plain settled = step_accounts types reads gives old new plain (sends i) e.form
  thrifty_flows (cast_by casts) reads gives old new t h plain settled = (plain_flows (cast_by casts) reads gives old new refl h plain settled).0
  thrifty_flows (zeros_of zeros) reads gives old new t h plain settled = (plain_flows (zeros_of zeros) reads gives old new refl h plain settled).0
  thrifty_flows (ask a) reads gives old new t h plain settled = (plain_flows (ask a) reads gives old new refl h plain settled).0
  thrifty_flows (in_block code) reads gives old new t (none, results, begun, ended, begins, inside, ends) plain settled =
      let first = step_accounts types [] [] old begun plain opens (begins.form types) in
      let inner = thrifty_flows code reads results begun ended t inside (still_plain old begun (begins.form types).still plain) (within_then settled first.grows) in
      let whole = block_accounts results old begun ended new (begins.form types) (still_flows types code reads results begun ended inside) inner (ends.form types) plain in
      subst (Accounts old new) (sym none) whole
  thrifty_flows same reads gives old new t h plain settled = accounts_same old new gives h.1
  thrifty_flows leave_none reads gives old new t h plain settled = accounts_same old new gives h.1
  thrifty_flows (leading n) reads gives old new t h plain settled = accounts_same old new gives h.1
  thrifty_flows (behind n) reads gives old new t h plain settled = accounts_same old new gives h.1
  thrifty_flows (one >>> two) reads gives old new t (between, next, h, g) plain settled =
      let plain_then = still_plain old next (still_flows types one reads between old next h) plain in
      thrifty_then one two reads between gives old next new t h g plain settled (λ k. thrifty_flows one reads between old next k h plain settled) (λ k s. thrifty_flows two between gives next new k g plain_then s)
  thrifty_flows (both one two) reads gives old new t (left, right, next, h, g, is) plain settled =
      let parts = and_parts (is_thrifty one) (is_thrifty two) t in
      let first = thrifty_flows one reads left old next parts.0 h plain settled in
      let second = thrifty_flows two reads right next new parts.1 g (still_plain old next (still_flows types one reads left old next h) plain) (within_then settled first.grows) in
      accounts_both old next new left right gives is first second
