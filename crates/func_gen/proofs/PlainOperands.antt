-- An instruction that reads words, or lowers what is no core word, does the same whether words are kept as numbers in its operands or not: no
-- such operand denotes a word, and what is no core word it denotes as a plain one.
use Rattle.std.proofs.Common.{◌≡◌, ℕ, ◌+◌, ◌≤◌, Bool, true, false, not, ◌&&◌, if◌then◌else◌, List, [], ◌∷◌, ◌++◌, length, map, Option, None, Some, refl, sym, ap, ◌∙◌, subst, arith, rules}
use Rattle.std.specs.Prelude.{IfSome}
use Rattle.std.specs.List.{list_all}
use Rattle.std.proofs.lemmas.Bool.{and_parts}
use Rattle.wit_layout.specs.Tree.{Scalar}
use Rattle.wit_model.specs.declared.types.TypeDef.{TypeDef}
use Rattle.wit_model.specs.declared.types.WitType.TheVariants as wit
use Rattle.rust_tree.specs.declared.expr.Expr.{Expr}
use Rattle.rust_tree.specs.declared.item.Item.{Item}
use Rattle.wrapper_data.specs.declared.block.Block.{Block}
use Rattle.wrapper_data.specs.declared.value.RustValue.{RustValue, RustValue-F, out-RustValue, the_lemmas}
use Rattle.wrapper_data.specs.declared.value.RustValue.TheVariants as value
use Rattle.wrapper_data.specs.declared.word.Word.{Word}
use Rattle.wrapper_data.specs.declared.word.Word.TheVariants as core
use Rattle.wrapper_data.proofs.Opened.{out-buffer}
use Rattle.wrapper_meaning.specs.Direction.{Direction}
use Rattle.wrapper_meaning.specs.Items.{total}
use Rattle.wrapper_meaning.specs.Shape.{Shape, Shapes}
use Rattle.wrapper_meaning.specs.Shape.Shape.{fields, scalar, text, tuple}
use Rattle.wrapper_meaning.specs.StandsFor.{rust_scalar}
use Rattle.wrapper_meaning.specs.Value.{Parts, ScalarValue, Value}
use Rattle.wrapper_meaning.proofs.RustValues.{out-bits, out-case, out-f32, out-f64, out-num}
use Rattle.wrapper_values.specs.declared.state.Val.{Val}
use Rattle.wrapper_values.specs.declared.state.Val.TheVariants as val
use Rattle.abi_bindgen.specs.declared.instruction.Instruction.{Instruction}
use Rattle.abi_bindgen.specs.declared.instruction.Instruction.TheVariants.{CallInterface, CallWasm, EnumLift, EnumLower, FlagsLower, GuestDeallocate, GuestDeallocateString, GuestDeallocateVariant, OptionLift, OptionLower, RecordLower, ResultLift, ResultLower, Return, StringLift, StringLower, TupleLower, VariantLift, VariantLower}
use Rattle.abi_bindgen.specs.Account.{Account, Peer}
use Rattle.abi_bindgen.specs.Calls.{is_return}
use Rattle.abi_bindgen.specs.Cases.{LowersCase}
use Rattle.abi_bindgen.specs.Instructions.{Emits, RowBy, RowOther, RowTouch, field_shapes, lifted_scalar, lowered_scalar}
use Rattle.abi_bindgen.specs.Laws.{At, Data, Facts, ofs}
use Rattle.abi_bindgen.specs.Leaves.{LowersScalar}
use Rattle.abi_bindgen.specs.Meaning.{Datum, item, of, word}
use Rattle.abi_bindgen.specs.Parts.{LowersParts}
use Rattle.abi_bindgen.specs.Sent.{Sent, sends}
use Rattle.abi_bindgen.specs.Touches.{Touch, loads, stores, touch}
use Rattle.abi_bindgen.specs.Turns.{Moved}
use Rattle.func_gen.specs.declared.function_bindgen.FunctionBindgen.{FunctionBindgen}
use Rattle.func_gen.specs.declared.function_bindgen.ParamSite.{ParamSite}
use Rattle.func_gen.specs.declared.operand.ExprOperand.{ExprOperand}
use Rattle.func_gen.specs.CodeOf.{context, emitted}
use Rattle.func_gen.specs.FactLemmas.{Says, follows, item_rust, kept_item, operand_reads, word_read}
use Rattle.func_gen.specs.Facts.{wrong}
use Rattle.func_gen.specs.Formed.{Becomes, Called, Formed, block_begins, block_ends, called, case_lifts, cases_free, cases_match, core_call, last_lifts, method_call, no_call, told_count}
use Rattle.func_gen.specs.Forms.{operand_of}
use Rattle.func_gen.specs.Meaning.{Denote, File, FuncState, StandsAsItIs, account_of, func_meaning}
use Rattle.func_gen.specs.PartForms.{exprs_of}
use Rattle.func_gen.specs.Read.{Env, env_of, item_of, less, read, read_operand}
use Rattle.func_gen.proofs.Forming.{exprs_operands}
use Rattle.func_gen.proofs.Scalars.{is_core, shown, shown_level, shown_scalar}

abbrev pub plain : List ExprOperand → List ExprOperand
plain os = map operand_of (exprs_of os)

-- 1. Data

abbrev pub is_no_core : Option Scalar → Bool
is_no_core None = true
is_no_core (Some s) = not (is_core s)

-- a word, or a value that is none
abbrev pub is_unkept : Datum RustValue → Bool
is_unkept (word x) = true
is_unkept (item r) = is_no_core (shown r)

-- a word that is a value is that of a scalar that core code has
core_shown : (r q : RustValue) (s : Scalar) → shown r ≡ Some s → is_core s ≡ true → r ≡ q → is_no_core (shown q) ≡ true → ⊥
core_shown r q s h c e n =
    let no : not (is_core s) ≡ true = sym (ap is_no_core h) ∙ ap (λ x. is_no_core (shown x)) e ∙ n in
    let both : not true ≡ true = sym (ap not c) ∙ no in
    cc

rust_word : (x : Word) (r : RustValue) → item_of (val.Word x) ≡ Some r → is_no_core (shown r) ≡ true → ⊥
rust_word (core.I32 z) r h n = let e = item_rust (val.Word (core.I32 z)) r h in core_shown (value.Num wit.S32 z) r Scalar.s32 (ap shown_level (out-num wit.S32 z)) refl (let same : value.Num wit.S32 z ≡ r = cc in same) n
rust_word (core.I64 z) r h n = let e = item_rust (val.Word (core.I64 z)) r h in core_shown (value.Num wit.S64 z) r Scalar.s64 (ap shown_level (out-num wit.S64 z)) refl (let same : value.Num wit.S64 z ≡ r = cc in same) n
rust_word (core.F32 z) r h n = core_shown (value.F32 z) r Scalar.f32 (ap shown_level (out-f32 z)) refl (let same : value.F32 z ≡ r = cc in same) n
rust_word (core.F64 z) r h n = core_shown (value.F64 z) r Scalar.f64 (ap shown_level (out-f64 z)) refl (let same : value.F64 z ≡ r = cc in same) n
rust_word (core.Pointer z) r h n = cc
rust_word (core.Length z) r h n = cc
rust_word (core.Slot z) r h n = cc

plain_value : (u : Val) (r : RustValue) → item_of u ≡ Some r → is_no_core (shown r) ≡ true → u ≡ val.Value r
plain_value (val.Word x) r h n = absurd (rust_word x r h n)
plain_value (val.Value q) r h n = let same : q ≡ r = cc in ap val.Value same
plain_value (val.Area a z) r h n = absurd cc

-- 2. What is denoted is denoted by the plain operands too

says_plain : (items : List Item) (o : ExprOperand) (d : Datum RustValue) (env : Env) → is_unkept d ≡ true → Says d ((read_operand items o).at env) → Says d ((read_operand items (operand_of o.expr)).at env)
says_plain items o (word x) env n h = (word_read items o env x h).1
says_plain items o (item r) env n h = let (u, reads, is) = operand_reads items o env (val.Value r) h in reads ∙ ap (λ v. Some v) (plain_value u r (kept_item o.kept u r is) n)

less_wrong : (items : List Item) (params : List ParamSite) (env : Env) (os : List ExprOperand) (ds : Data func_meaning) (others : Facts func_meaning) → list_all is_unkept ds ≡ true
    → total (wrong items params env) (ofs func_meaning (plain os) ds ++ others) ≤ total (wrong items params env) (ofs func_meaning os ds ++ others)
less_wrong items params env [] ds others n = omega arith
less_wrong items params env (o ∷ os) [] others n = omega arith
less_wrong items params env (o ∷ os) (d ∷ ds) others n =
    let two = and_parts (is_unkept d) (list_all is_unkept ds) n in
    omega (arith, follows items params env (of o d) (of (operand_of o.expr) d) (says_plain items o d env two.0), less_wrong items params env os ds others two.1)

pub denote_plain : (w : File) (b : FunctionBindgen) (os : List ExprOperand) (ds : Data func_meaning) (others : Facts func_meaning) (s : FuncState) → list_all is_unkept ds ≡ true → Denote w b (ofs func_meaning os ds ++ others) s → Denote w b (ofs func_meaning (plain os) ds ++ others) s
denote_plain w b os ds others s n d = record {
  hold = record {
    right = omega (arith, d.hold.right, less_wrong w.items b.params (env_of s.machine) os ds others n);
    apart = λ k owns. omega (arith, d.hold.apart k owns, less_wrong w.items b.params (less (env_of s.machine) k) os ds others n);
    within = d.hold.within;
  };
  owners = d.owners;
  area = d.area;
}

module _ (old new : FunctionBindgen) (os : List ExprOperand) (ds : Data func_meaning) (n : list_all is_unkept ds ≡ true) (w : File) (p : Peer RustValue) (others : Facts func_meaning) (s0 s : FuncState) where
  pub at_plain : At func_meaning w p old new (ofs func_meaning os ds ++ others) s0 s → At func_meaning w p old new (ofs func_meaning (plain os) ds ++ others) s0 s
  at_plain at = record { serves = at.serves; done = at.done; holds = denote_plain w old os ds others s n at.holds }

  moved_plain : (gone : List ℕ) (acc : Account RustValue) (t : FuncState) → Moved func_meaning w old (ofs func_meaning (plain os) ds) gone s acc t → Moved func_meaning w old (ofs func_meaning os ds) gone s acc t
  moved_plain gone acc t m = record { account = m.account; owns = m.owns; denotes = λ rest d. m.denotes rest (denote_plain w old os ds rest s n d) }

-- 3. What stands for a value of these shapes is no core word

as_unkept : (r q : RustValue) → r ≡ q → is_no_core (shown q) ≡ true → list_all is_unkept (item r ∷ []) ≡ true
as_unkept r q e h = let one : is_no_core (shown r) ≡ true = ap (λ x. is_no_core (shown x)) e ∙ h in ap (λ b. b && true) one

text_unkept : (dir : Direction) (v : Value text) (r : RustValue) (own : List Block) → StandsAsItIs dir text v r own → list_all is_unkept (item r ∷ []) ≡ true
text_unkept dir v r own st = as_unkept r (value.Buffer st.0.address (length v) st.0.owned) st.0.is (ap (λ l. is_no_core (shown_level l)) (out-buffer st.0.address (length v) st.0.owned))

out-struct : (rs : List RustValue) → out-RustValue (value.Struct rs) ≡ RustValue-F.Struct rs
out-struct rs = search (rules, the_lemmas)

struct_unkept : (r : RustValue) (rs : List RustValue) → r ≡ value.Struct rs → list_all is_unkept (item r ∷ []) ≡ true
struct_unkept r rs e = as_unkept r (value.Struct rs) e (ap (λ l. is_no_core (shown_level l)) (out-struct rs))

case_unkept : (r : RustValue) (n : ℕ) (payload : Option RustValue) → r ≡ value.Case n payload → list_all is_unkept (item r ∷ []) ≡ true
case_unkept r n payload e = as_unkept r (value.Case n payload) e (ap (λ l. is_no_core (shown_level l)) (out-case n payload))

bits_unkept : (r : RustValue) (bits : ℕ) → r ≡ value.Bits bits → list_all is_unkept (item r ∷ []) ≡ true
bits_unkept r bits e = as_unkept r (value.Bits bits) e (ap (λ l. is_no_core (shown_level l)) (out-bits bits))

scalar_unkept : (s : Scalar) (v : ScalarValue s) (r : RustValue) → not (is_core s) ≡ true → r ≡ rust_scalar s v → list_all is_unkept (item r ∷ []) ≡ true
scalar_unkept s v r n e = as_unkept r (rust_scalar s v) e (ap is_no_core (shown_scalar s v) ∙ n)

-- 4. Rows

-- which instructions read words, or lower what is no core word
abbrev reads_other : Instruction → Bool
reads_other (StringLower realloc) = true
reads_other StringLift = true
reads_other (RecordLower id) = true
reads_other (TupleLower n) = true
reads_other (GuestDeallocate size align) = true
reads_other GuestDeallocateString = true
reads_other (FlagsLower id) = true
reads_other (VariantLower id n) = true
reads_other (OptionLower id n) = true
reads_other (ResultLower id n) = true
reads_other (EnumLower id) = true
reads_other (VariantLift id) = true
reads_other (OptionLift id) = true
reads_other (ResultLift id) = true
reads_other (EnumLift id) = true
reads_other (GuestDeallocateVariant n) = true
reads_other _ = false

abbrev reads_touch : Instruction → Option Touch → Bool
reads_touch i None = reads_other i
reads_touch i (Some t) = true

abbrev reads_by : Instruction → (lowers lifts : Option Scalar) → Bool
reads_by i None None = reads_touch i (touch i)
reads_by i None (Some s) = true
reads_by i (Some s) lifts = not (is_core s)

abbrev pub reads_plainly : Instruction → Bool
reads_plainly i = reads_by i (lowered_scalar i) (lifted_scalar i)

pub lifts_plainly : (i : Instruction) (s : Scalar) → lowered_scalar i ≡ None → lifted_scalar i ≡ Some s → reads_plainly i ≡ true
lifts_plainly i s none is = ap (λ o. reads_by i o (lifted_scalar i)) none ∙ ap (reads_by i None) is

pub touches_plainly : (i : Instruction) (t : Touch) → lowered_scalar i ≡ None → lifted_scalar i ≡ None → touch i ≡ Some t → reads_plainly i ≡ true
touches_plainly i t none nothing is = ap (λ o. reads_by i o (lifted_scalar i)) none ∙ ap (reads_by i None) nothing ∙ ap (reads_touch i) is

module _ (types : List TypeDef) (os rs : List ExprOperand) (old new : FunctionBindgen) where
  abbrev words : List Word → Data func_meaning
  words xs = map (λ x. word x) xs

  lowers_plain_scalar : (s : Scalar) → not (is_core s) ≡ true → LowersScalar func_meaning s (plain os) rs old new → LowersScalar func_meaning s os rs old new
  lowers_plain_scalar s n h dir v a own good st =
      let r = h dir v a own good st in
      (r.0, λ w p others s0 s1 at. r.1 w p others s0 s1 (at_plain old new os (item a ∷ []) (scalar_unkept s v a n st.0.0) w p others s0 s1 at))

  lowers_plain_parts : (ts : Shapes) (t : Shape) (whole : Parts ts → Value t) → ((dir : Direction) (v : Parts ts) (r : RustValue) (own : List Block) → StandsAsItIs dir t (whole v) r own → list_all is_unkept (item r ∷ []) ≡ true)
      → LowersParts func_meaning ts t whole (plain os) rs old new → LowersParts func_meaning ts t whole os rs old new
  lowers_plain_parts ts t whole unkept h dir v a own st =
      let r = h dir v a own st in
      (r.0, r.1, λ w p others s0 s at. r.2 w p others s0 s (at_plain old new os (item a ∷ []) (unkept dir v a own st) w p others s0 s at))

  lowers_plain_case : (ts : Shapes) → LowersCase func_meaning ts (plain os) rs old new → LowersCase func_meaning ts os rs old new
  lowers_plain_case ts h dir c a own body st there =
      let r = h dir c a own body st there in
      let n = case_unkept a _ st.0.0 st.0.1 in (
        r.0,
        r.1,
        λ w p others s0 s at.
            let q = r.2 w p others s0 s (at_plain old new os (item a ∷ []) n w p others s0 s at) in
            (q.0, moved_plain old new os (item a ∷ []) n w p others s0 s _ _ q.0 q.1, q.2),
      )

  row_other : (i : Instruction) → reads_other i ≡ true → RowOther func_meaning types i (plain os) rs old new → RowOther func_meaning types i os rs old new
  row_other (StringLower realloc) n h = λ heap v a own st.
      let r = h heap v a own st in
      (r.0, r.1, λ w p others s0 s at. r.2 w p others s0 s (at_plain old new os (item a ∷ []) (text_unkept _ v a own st) w p others s0 s at))
  row_other StringLift n h = λ address k w p others s0 s at. h address k w p others s0 s (at_plain old new os (words (core.Pointer address ∷ core.Length k ∷ [])) refl w p others s0 s at)
  row_other (RecordLower id) n h = λ members is. lowers_plain_parts (field_shapes types members) (fields (field_shapes types members)) (λ v. v) (λ dir v r own st. struct_unkept r st.0.0 st.0.1) (h members is)
  row_other (TupleLower k) n h = λ ts many. lowers_plain_parts ts (tuple ts) (λ v. v) (λ dir v r own st. struct_unkept r st.0.0 st.0.1) (h ts many)
  row_other (GuestDeallocate size align) n h = λ address w p others s0 s at. h address w p others s0 s (at_plain old new os (words (core.Pointer address ∷ [])) refl w p others s0 s at)
  row_other GuestDeallocateString n h = λ address k w p others s0 s at. h address k w p others s0 s (at_plain old new os (words (core.Pointer address ∷ core.Length k ∷ [])) refl w p others s0 s at)
  row_other (FlagsLower id) n h = λ k are dir v a own st.
      let r = h k are dir v a own st in
      (r.0, r.1, r.2, λ w p others s0 s at. r.3 w p others s0 s (at_plain old new os (item a ∷ []) (bits_unkept a st.0.0 st.0.2) w p others s0 s at))
  row_other (VariantLower id k) n h = lowers_plain_case _ h
  row_other (OptionLower id k) n h = lowers_plain_case _ h
  row_other (ResultLower id k) n h = lowers_plain_case _ h
  row_other (EnumLower id) n h = λ dir c a own st.
      let r = h dir c a own st in
      (r.0, λ w p others s0 s at. r.1 w p others s0 s (at_plain old new os (item a ∷ []) (case_unkept a _ st.0.0 st.0.1) w p others s0 s at))
  row_other (VariantLift id) n h = λ x w p others s0 s at.
      let q = h x w p others s0 s (at_plain old new os (word x ∷ []) refl w p others s0 s at) in
      (q.0, moved_plain old new os (word x ∷ []) refl w p others s0 s [] (account_of s.machine) q.0 q.1, q.2)
  row_other (OptionLift id) n h = λ x w p others s0 s at.
      let q = h x w p others s0 s (at_plain old new os (word x ∷ []) refl w p others s0 s at) in
      (q.0, moved_plain old new os (word x ∷ []) refl w p others s0 s [] (account_of s.machine) q.0 q.1, q.2)
  row_other (ResultLift id) n h = λ x w p others s0 s at.
      let q = h x w p others s0 s (at_plain old new os (word x ∷ []) refl w p others s0 s at) in
      (q.0, moved_plain old new os (word x ∷ []) refl w p others s0 s [] (account_of s.machine) q.0 q.1, q.2)
  row_other (EnumLift id) n h = λ x w p others s0 s at. h x w p others s0 s (at_plain old new os (word x ∷ []) refl w p others s0 s at)
  row_other (GuestDeallocateVariant k) n h = λ x w p others s0 s at.
      let q = h x w p others s0 s (at_plain old new os (word x ∷ []) refl w p others s0 s at) in
      (q.0, moved_plain old new os (word x ∷ []) refl w p others s0 s [] (account_of s.machine) q.0 q.1, q.2)
  row_other _ n h = absurd (let no = n in cc)

  row_touch : (i : Instruction) (t : Option Touch) → reads_touch i t ≡ true → RowTouch func_meaning types i t (plain os) rs old new → RowTouch func_meaning types i t os rs old new
  row_touch i None n h = row_other i n h
  row_touch i (Some (stores part ty o)) n h = λ x address w p others s0 s at. h x address w p others s0 s (at_plain old new os (words (x ∷ core.Pointer address ∷ [])) refl w p others s0 s at)
  row_touch i (Some (loads part signed ty o)) n h = λ address w p others s0 s at. h address w p others s0 s (at_plain old new os (words (core.Pointer address ∷ [])) refl w p others s0 s at)

  row_by : (i : Instruction) (lowers lifts : Option Scalar) → reads_by i lowers lifts ≡ true → RowBy func_meaning types i lowers lifts (plain os) rs old new → RowBy func_meaning types i lowers lifts os rs old new
  row_by i None None n h = row_touch i (touch i) n h
  row_by i None (Some s) n h = λ x w p others s0 s1 at. h x w p others s0 s1 (at_plain old new os (word x ∷ []) refl w p others s0 s1 at)
  row_by i (Some s) lifts n h = lowers_plain_scalar s n h

-- 5. Forms

-- the form of such an instruction speaks of the expressions alone
abbrev has_exprs : Called → Bool
has_exprs (core_call f) = false
has_exprs (method_call f) = false
has_exprs block_begins = false
has_exprs block_ends = false
has_exprs _ = true

exprs_called : (i : Instruction) → reads_plainly i ≡ true → has_exprs (called (sends i)) ≡ true
exprs_called (CallWasm f) h = absurd cc
exprs_called (CallInterface f) h = absurd cc
exprs_called _ h = refl

no_return : (i : Instruction) → reads_plainly i ≡ true → is_return i ≡ false
no_return (Return n) h = absurd cc
no_return _ h = refl

plain_many : (os : List ExprOperand) → length (plain os) ≡ length os
plain_many [] = refl
plain_many (o ∷ os) = let later = plain_many os in omega (arith, later)

module _ (types : List TypeDef) (step : Sent) (os rs : List ExprOperand) (old new : FunctionBindgen) where
  becomes : (c : Called) → has_exprs c ≡ true → Becomes types c step (plain os) rs old new → Becomes types c step os rs old new
  becomes no_call n h = record { code = h.code; is = ap (emitted (context old) step) (sym (exprs_operands (exprs_of os))) ∙ h.is; writes = h.writes }
  becomes (cases_match ty k) n h = record { forms = h.forms; are = h.are; operand = h.operand; only = sym (exprs_operands (exprs_of os)) ∙ h.only; names = h.names; lowers = h.lowers; results = h.results }
  becomes (case_lifts ty) n h = record { forms = h.forms; are = h.are; operand = h.operand; only = sym (exprs_operands (exprs_of os)) ∙ h.only; name = h.name; lifts = h.lifts; results = h.results }
  becomes (last_lifts ty) n h = record {
    forms = h.forms;
    last = h.last;
    are = h.are;
    operand = h.operand;
    only = sym (exprs_operands (exprs_of os)) ∙ h.only;
    number = h.number;
    name = h.name;
    lifts = h.lifts;
    results = h.results;
  }
  becomes (cases_free k) n h = record { first = h.first; many = h.many; operand = h.operand; only = sym (exprs_operands (exprs_of os)) ∙ h.only; frees = h.frees; results = h.results }
  becomes _ n h = absurd (let no = n in cc)

  form_plain : has_exprs (called step) ≡ true → Formed types step (plain os) rs old new → Formed types step os rs old new
  form_plain n h = record { still = h.still; given = subst (λ k. IfSome (told_count step) (λ m. k ≡ m)) (plain_many os) h.given; code = becomes (called step) n h.code }

-- 6. What is emitted

emits_plain : (types : List TypeDef) (i : Instruction) (os rs : List ExprOperand) (old new : FunctionBindgen) → reads_plainly i ≡ true → Emits func_meaning types i (plain os) rs old new → Emits func_meaning types i os rs old new
emits_plain types i os rs old new n h = record {
  adds = h.adds;
  blocks = h.blocks;
  returned = h.returned ∙ ap (λ b. if b then Some (plain os) else old.returned) (no_return i n) ∙ sym (ap (λ b. if b then Some os else old.returned) (no_return i n));
  asked = h.asked;
  results = h.results;
  form = form_plain types (sends i) os rs old new (exprs_called i n) h.form;
  row = row_by types os rs old new i (lowered_scalar i) (lifted_scalar i) n h.row;
}

-- by the expressions of the operands, and as the results are
pub emits_plainly : (types : List TypeDef) (i : Instruction) (os : List ExprOperand) (es : List Expr) (rs qs : List ExprOperand) (old new : FunctionBindgen) → reads_plainly i ≡ true → exprs_of os ≡ es → rs ≡ qs → Emits func_meaning types i (map operand_of es) qs old new
    → Emits func_meaning types i os rs old new
emits_plainly types i os es rs qs old new n e f h =
    emits_plain types i os rs old new n (subst (λ xs. Emits func_meaning types i (map operand_of xs) rs old new) (sym e) (subst (λ xs. Emits func_meaning types i (map operand_of es) xs old new) (sym f) h))
