-- The rows of flags: the words of their bits, and flags of words.
use Rattle.std.proofs.Common.{append-nil, ◌≡◌, ℕ, zero, suc, ◌+◌, ◌/◌, ◌%◌, ◌^◌, ◌<◌, ◌≤◌, true, cond, min, List, [], ◌∷◌, ◌++◌, length, map, reverse, Option, None, Some, refl, sym, ap, ◌∙◌, subst, arith}
use Rattle.std.specs.Prelude.{option_and_then, codes}
use Rattle.std.specs.Option.{option_map}
use Rattle.std.proofs.lemmas.Bool.{eq-eqb}
use Rattle.std.proofs.lemmas.List.{length-map, length-replicate}
use Rattle.wit_layout.specs.Extent.{flag_words}
use Rattle.wit_layout.specs.Flat.{words_of_flags}
use Rattle.wit_model.specs.Bytes.{Bytes}
use Rattle.wit_model.specs.declared.name.TypeId.{TypeId}
use Rattle.wit_model.specs.declared.types.TypeDef.{TypeDef}
use Rattle.wit_model.specs.declared.wasm_type.WasmType.TheVariants as wasm
use Rattle.rust_tree.specs.declared.expr.Expr.{Expr, Expr-F, fold-roll-Expr}
use Rattle.rust_tree.specs.declared.expr.Expr.TheVariants as expr
use Rattle.rust_tree.specs.declared.expr.Expr.TheVariants.{rolls-FlagsOfWords}
use Rattle.rust_tree.specs.declared.flags_item.FlagsItem.{FlagsItem}
use Rattle.rust_tree.specs.declared.item.Item.{Item}
use Rattle.rust_tree.specs.declared.path.Path.{Path}
use Rattle.rust_tree.specs.declared.repr.Repr.{Repr}
use Rattle.rust_tree.specs.declared.stmt.Stmt.TheVariants as stmt
use Rattle.wrapper_data.specs.declared.value.RustValue.{RustValue}
use Rattle.wrapper_data.specs.declared.value.RustValue.TheVariants as value
use Rattle.wrapper_data.specs.declared.word.Word.{Word}
use Rattle.wrapper_data.specs.declared.word.Word.TheVariants as core
use Rattle.wrapper_meaning.specs.AsWords.{Says as Tells, flag_bits}
use Rattle.wrapper_meaning.specs.Direction.{take}
use Rattle.wrapper_meaning.specs.Items.{total}
use Rattle.wrapper_meaning.specs.Numbers.{flags_width}
use Rattle.wrapper_meaning.specs.Shape.Shape.{flags}
use Rattle.wrapper_meaning.proofs.Lists.{some_same}
use Rattle.wrapper_meaning.proofs.RustValues.{out-bits}
use Rattle.abi_bindgen.proofs.FlagLowers.{one_count}
use Rattle.func_gen.specs.NormalLemmas.{normal_bits}
use Rattle.wrapper_meaning.proofs.PostReturn.{total-append}
use Rattle.wrapper_values.specs.declared.state.State.{State}
use Rattle.wrapper_values.specs.declared.state.Val.{Val}
use Rattle.wrapper_values.specs.declared.state.Val.TheVariants as val
use Rattle.wrapper_values.specs.Act as machine
use Rattle.wrapper_values.specs.Act.{Act, ◌>>=◌, all, and_then, keyed, or_stop, pure}
use Rattle.wrapper_values.specs.Fields.{root_name, type_named}
use Rattle.wrapper_values.specs.Flags.{bits_of_level, flags_from, flags_in, flags_of_words, is_flags_path, is_of_repr, joined, may_have_repr, repr_bits, shifted_numbers, word_at}
use Rattle.wrapper_values.specs.Setting.{Setting, stuck}
use Rattle.wrapper_values.proofs.FlagsLemmas.{words_from}
use Rattle.wrapper_run.specs.Run.{eval, eval_step}
use Rattle.wrapper_run.specs.Inward.{CallsNothing}
use Rattle.wrapper_run.proofs.InwardCalls.{expr_quiet}
use Rattle.wrapper_run.proofs.LocalLemmas.{reads-new}
use Rattle.wrapper_run.proofs.StepLemmas.{Give}
use Rattle.abi_bindgen.specs.declared.instruction.Instruction.TheVariants.{FlagsLift, FlagsLower}
use Rattle.abi_bindgen.specs.Account.{stay}
use Rattle.abi_bindgen.specs.FlagSets.{LiftsFlags, LowersFlags}
use Rattle.abi_bindgen.specs.Instructions.{Emits}
use Rattle.abi_bindgen.specs.Laws.{Facts, Stays, core_data, ofs}
use Rattle.abi_bindgen.specs.Meaning.{item, of, word}
use Rattle.abi_bindgen.specs.Sent.{sends}
use Rattle.abi_bindgen.proofs.SaysTypes.{types_length}
use Rattle.func_gen.specs.declared.flags_site.FlagsSite.{FlagsSite}
use Rattle.func_gen.specs.declared.function_bindgen.FunctionBindgen.{FunctionBindgen}
use Rattle.func_gen.specs.declared.operand.ExprOperand.{ExprOperand}
use Rattle.func_gen.specs.declared.type_site.TypeSite.{TypeSite}
use Rattle.func_gen.specs.declared.type_site.TypeSite.TheVariants as site
use Rattle.func_gen.specs.Added.{Appends, Fresh}
use Rattle.func_gen.specs.CodeOf.{context, emitted}
use Rattle.func_gen.specs.Facts.{Hold}
use Rattle.func_gen.specs.FlagsForms.{HasWordCount, IsFlagsSite, flags_made, flags_site_in, lifts_flags, lowers_flags, operands_of, shifted_from, words_of}
use Rattle.func_gen.specs.Forms.{operand_of}
use Rattle.func_gen.specs.Meaning.{File, Serves, StandsAsItIs, func_meaning, owns_of, seen, setting_for}
use Rattle.func_gen.specs.Operand.{is_operand}
use Rattle.func_gen.specs.PartForms.{are_operands, exprs_of}
use Rattle.func_gen.specs.Read.{Env, Read, as_flags_word, bare_or, env_of, on_bare, read}
use Rattle.func_gen.specs.ReadForms.{read-flags_bits}
use Rattle.func_gen.specs.Scope.{TakesOne}
use Rattle.func_gen.specs.StandLemmas.{owned-bits}
use Rattle.func_gen.specs.TypeSites.{AreDefined, Defines, DefinesFlags, HasMembers, held_members}
use Rattle.func_gen.proofs.CallRows.{words_give}
use Rattle.func_gen.proofs.Evaluated.{gives}
use Rattle.func_gen.proofs.FieldOrder.{defined_as}
use Rattle.func_gen.proofs.FlagsBits.{AreNarrow, are_narrow, bits_within, bits_words, joins, members_kept, members_said, numbers_in, words_typed}
use Rattle.func_gen.proofs.Forming.{form_by, form_let}
use Rattle.func_gen.proofs.InwardForms.{flags_inward}
use Rattle.func_gen.proofs.Lasting.{add_plain, bound_under, denotes_on, lasts, owns_with, part, with_local, within_with}
use Rattle.func_gen.proofs.LiftedRows.{says_one}
use Rattle.func_gen.proofs.Quiet.{quiet_operand}
use Rattle.func_gen.proofs.Rows.{binds, let_adds, lets_served, same_area}
use Rattle.func_gen.proofs.Steps.{ran}

-- 1. The flags at a place of the table

-- there are four words at most
pub words_fit : {types : List TypeDef} {sites : List (Option TypeSite)} {id n : ℕ} → HasWordCount types sites id n → n ≤ 4
words_fit k = let within = k.is_site.within in let is = k.is in grind (arith)

pub ceil_words : (n : ℕ) → n / 32 + min 1 (n % 32) ≡ flag_words n
ceil_words n = grind (arith)

pub words_many : (n : ℕ) → length (words_of_flags n) ≡ flag_words n
words_many n = length-replicate (flag_words n) wasm.I32

-- and one at least, where there is a member
no_words : (n : ℕ) → 0 < n → 0 ≡ flag_words n → ⊥
no_words n some none = grind (arith)

-- 2. Flags become words

-- a local that holds flags tells each word
word_says : (items : List Item) (name : Bytes) (by bits : ℕ) (env : Env) → env name ≡ Some (val.Value (value.Bits bits)) → (read items (expr.FlagsBits name by)).at env ≡ Some (val.Word (word_at by bits))
word_says items name by bits env h =
    let v : Val = val.Value (value.Bits bits) in
    ap (λ (r : Read). r.at env) (read-flags_bits items name by) ∙ ap (option_and_then (on_bare (as_flags_word by))) h ∙ ap (λ bs. option_and_then (as_flags_word by) (bare_or v bs)) (owned-bits bits)
    ∙ ap (λ l. option_map (λ b. val.Word (word_at by b)) (bits_of_level l)) (out-bits bits)

abbrev word_facts : Bytes → (bits by count : ℕ) → Facts func_meaning
word_facts name bits by count = ofs func_meaning (operands_of (words_of name by count)) (core_data func_meaning (bits_words bits by count))

words_hold : (items : List Item) (b : FunctionBindgen) (facts : Facts func_meaning) (s : State) (name : Bytes) (bits by count : ℕ) → env_of s name ≡ Some (val.Value (value.Bits bits)) → Hold items b facts s → Hold items b (word_facts name bits by count ++ facts) s
words_hold items b facts s name bits by zero at h = h
words_hold items b facts s name bits by (suc n) at h =
    add_plain items b (word_facts name bits (32 + by) n ++ facts) s (operand_of (expr.FlagsBits name by)) (word (word_at by bits)) name (val.Value (value.Bits bits)) (λ env e. word_says items name by bits env e) at (owned-bits bits)
    (words_hold items b facts s name bits (32 + by) n at h)

-- what reads flags gives them
flags_given : (w : Setting) (e : Expr) (bits : ℕ) (s : State) → (read w.items e).at (env_of s) ≡ Some (val.Value (value.Bits bits)) → eval w e s ≡ machine.Done (val.Value (value.Bits bits)) s
flags_given w e bits s h = gives w e s (val.Value (value.Bits bits)) h (owned-bits bits)

module _ (old new : FunctionBindgen) (n : Bytes) (e : Expr) (ok : is_operand e ≡ true) (a : Appends old new (stmt.Let n e ∷ []) []) (fresh : Fresh old new n) where
  words_told : (bits count : ℕ) → Stays func_meaning old new (of (operand_of e) (item (value.Bits bits)) ∷ []) (λ fs. fs ≡ word_facts n bits 0 count)
  words_told bits count w p others s0 s at =
      let v : Val = val.Value (value.Bits bits) in
      let ins : Facts func_meaning = of (operand_of e) (item (value.Bits bits)) ∷ [] in
      let t = with_local s.machine n v in
      let here = part w.items old ins (ins ++ others) s.machine (λ g. omega (arith, total-append g ins others)) at.holds.hold in
      let given = flags_given (setting_for w p) e bits s.machine (says_one w.items old (operand_of e) (item (value.Bits bits)) s.machine here) in
      let free = at.holds.hold.within n fresh.free in
      let under = bound_under s.machine n v free in
      let fewer = part w.items old others (ins ++ others) s.machine (λ g. omega (arith, total-append g ins others)) at.holds.hold in
      let last = lasts w.items old new others s.machine t a.params under (within_with old new n s.machine v fresh at.holds.hold.within) fewer in (
        record { machine = t; area = s.area },
        ran old new (stmt.Let n e ∷ []) [] a w p (ins ++ others) s0 s at ∙ ap (seen s.area) (binds (setting_for w p) n e v s.machine given),
        (
          word_facts n bits 0 count,
          refl,
          record {
            account = refl;
            owns = λ g. let none_more = ap (total g) (owned-bits bits) in omega (arith, total-append g (owns_of t) [], total-append g (owns_of s.machine) [], owns_with g s.machine n v, none_more);
            denotes = denotes_on w old new (ins ++ others) (word_facts n bits 0 count ++ others) s t (same_area old new (stmt.Let n e ∷ []) [] a) (record { heap = refl; taken = refl; place = refl; under = under }) at.holds
                (words_hold w.items new others t n bits 0 count (reads-new n (Some v) s.machine.locals) last);
          },
        ),
      )

  words_lowered : (k : ℕ) → LowersFlags func_meaning k (operand_of e ∷ []) (operands_of (words_of n 0 (flag_words k))) old new
  words_lowered k dir v r own ((bits, small, is, same, none), normal) = (
    none,
    bits_words bits 0 (flag_words k),
    (words_typed bits 0 (flag_words k), same ∙ sym (members_said bits k), refl),
    subst (λ x. Stays func_meaning old new (of (operand_of e) (item x) ∷ []) (λ fs. fs ≡ word_facts n bits 0 (flag_words k))) (sym is) (words_told bits (flag_words k)),
  )

many_words : (name : Bytes) (by count : ℕ) → length (operands_of (words_of name by count)) ≡ count
many_words name by zero = refl
many_words name by (suc n) = ap suc (many_words name (32 + by) n)

pub flags_words_row : (types : List TypeDef) (old new : FunctionBindgen) (n : Bytes) (id : TypeId) (e : Expr) (s : FlagsSite) → IsFlagsSite types old.sites id.0 s → is_operand e ≡ true → Appends old new (stmt.Let n e ∷ []) [] → Fresh old new n → TakesOne old.scope (codes "flags") n new.scope
    → Emits func_meaning types (FlagsLower id) (operand_of e ∷ []) (operands_of (words_of n 0 (flag_words s.members))) old new
flags_words_row types old new n id e s is_site ok a fresh one = record {
  adds = let_adds old new n e [] a fresh (λ w. quiet_operand w e ok);
  blocks = ap reverse a.finished;
  returned = a.returned;
  asked = a.asked;
  form = form_by (sends (FlagsLower id)) (record { gives = refl; calls = refl }) (operand_of e ∷ []) old new (operands_of (words_of n 0 (flag_words s.members))) (lowers_flags e s) one.number (ap (option_map (lowers_flags e)) is_site.at) one.takes
      (subst (λ x. Appends old new (stmt.Let x e ∷ []) []) one.is a) (ap (λ x. operands_of (words_of x 0 (flag_words s.members))) one.is);
  results = λ k is. many_words n 0 (flag_words s.members) ∙ ap flag_words (one_count types id.0 s.members k is_site.count is) ∙ sym (words_many k);
  row = λ k is. subst (λ m. LowersFlags func_meaning k (operand_of e ∷ []) (operands_of (words_of n 0 (flag_words m))) old new) (one_count types id.0 k s.members is is_site.count) (words_lowered old new n e ok a fresh k);
}

-- 3. Words become flags

-- values, each behind its shift
abbrev shifted_vals : ℕ → List Val → List (ℕ × Val)
shifted_vals by [] = []
shifted_vals by (v ∷ vs) = (by, v) ∷ shifted_vals (32 + by) vs

module _ (w : Setting) where
  abbrev acts : ℕ → List Expr → List (Act (ℕ × Val))
  acts by es = map keyed (map (λ (x : ℕ × Expr). (x.0, eval w x.1)) (shifted_from by es))

  eval-flags : (path : Path) (repr : Repr) (words : List (ℕ × Expr)) → eval w (expr.FlagsOfWords path repr words) ≡ flags_of_words w path repr (map (λ x. (x.0, eval w x.1)) words)
  eval-flags path repr words = ap (eval w) (sym (rolls-FlagsOfWords path repr words)) ∙ fold-roll-Expr (Act Val) (eval_step w) (Expr-F.FlagsOfWords path repr words)

  quiet_flags : (s : FlagsSite) (os : List ExprOperand) → are_operands os ≡ true → CallsNothing (eval w (flags_made s (exprs_of os)))
  quiet_flags s os ok = expr_quiet w (flags_made s (exprs_of os)) (flags_inward os ok s)

  acts_give : (by : ℕ) (es : List Expr) (vs : List Val) (s : State) → Give w s es vs → all (acts by es) s ≡ machine.Done (shifted_vals by vs) s
  acts_give by [] [] s h = refl
  acts_give by [] (v ∷ vs) s h = absurd h
  acts_give by (e ∷ es) [] s h = absurd h
  acts_give by (e ∷ es) (v ∷ vs) s h =
      let rest = λ (x : ℕ × Val). all (acts (32 + by) es) >>= (λ xs. pure (x ∷ xs)) in
      ap (λ o. and_then (and_then o (λ a. pure (by, a))) rest) h.0 ∙ ap (λ o. and_then o (λ xs. pure ((by, v) ∷ xs))) (acts_give (32 + by) es vs s h.1)

numbers_shifted : (by : ℕ) (ws : List Word) → AreNarrow ws → shifted_numbers (shifted_vals by (map val.Word ws)) ≡ Some (words_from by (numbers_in ws))
numbers_shifted by [] h = refl
numbers_shifted by (core.I32 z ∷ ws) h = ap (option_map (λ zs. (by, z) ∷ zs)) (numbers_shifted (32 + by) ws h.1)
numbers_shifted by (core.I64 z ∷ ws) h = absurd cc
numbers_shifted by (core.F32 z ∷ ws) h = absurd cc
numbers_shifted by (core.F64 z ∷ ws) h = absurd cc
numbers_shifted by (core.Pointer z ∷ ws) h = absurd cc
numbers_shifted by (core.Length z ∷ ws) h = absurd cc
numbers_shifted by (core.Slot z ∷ ws) h = absurd cc

-- a path of the file is that of the flags
flags_path : (items : List Item) (s : FlagsSite) → DefinesFlags items s → is_flags_path items s.path s.repr ≡ true
flags_path items s d = go (root_name s.path) d
  where
    of_item : (o : Option FlagsItem) → option_map held_members o ≡ Some (s.repr, s.members) → is_of_repr s.repr o ≡ true
    of_item None h = absurd cc
    of_item (Some f) h =
        let same : held_members f ≡ (s.repr, s.members) = some_same (held_members f) (s.repr, s.members) h in
        eq-eqb (repr_bits f.repr) (repr_bits s.repr) (ap (λ (x : Repr × ℕ). repr_bits x.0) same)

    go : (o : Option Bytes) → HasMembers items (s.repr, s.members) o → may_have_repr items s.repr o ≡ true
    go None h = refl
    go (Some name) h = of_item (flags_in (type_named items name)) h

flags_defined : (items : List Item) (t : TypeSite) (s : FlagsSite) → Defines items t → flags_site_in t ≡ Some s → DefinesFlags items s
flags_defined items (site.Record r) s d is = absurd cc
flags_defined items (site.Enum r) s d is = absurd cc
flags_defined items (site.Flags r) s d is = subst (DefinesFlags items) (some_same r s is) d
flags_defined items (site.Variant r) s d is = absurd cc

-- the flags that words are
abbrev flags_taken : FlagsSite → List Word → RustValue
flags_taken s ws = value.Bits (joined s.repr (words_from 0 (numbers_in ws)))

flags_evaluate : (w : Setting) (s : FlagsSite) (es : List Expr) (ws : List Word) (st : State) → DefinesFlags w.items s → AreNarrow ws → Give w st es (map val.Word ws) → eval w (flags_made s es) st ≡ machine.Done (val.Value (flags_taken s ws)) st
flags_evaluate w s es ws st d narrow give =
    let whole = λ (vs : List (ℕ × Val)). or_stop (stuck w) (flags_from w.items s.path s.repr vs) in
    ap (λ act. act st) (eval-flags w s.path s.repr (shifted_from 0 es)) ∙ ap (λ o. and_then o whole) (acts_give w 0 es (map val.Word ws) st give)
    ∙ ap (λ b. or_stop (stuck w) (cond b (option_map (λ zs. val.Value (value.Bits (joined s.repr zs))) (shifted_numbers (shifted_vals 0 (map val.Word ws)))) None) st) (flags_path w.items s d)
    ∙ ap (λ o. or_stop (stuck w) (option_map (λ zs. val.Value (value.Bits (joined s.repr zs))) o) st) (numbers_shifted 0 ws narrow)

flags_stand : (s : FlagsSite) (ws : List Word) (v : ℕ) → repr_bits s.repr ≡ flags_width s.members → s.members ≤ 128 → AreNarrow ws → Tells 2 take (flags s.members) v ws [] → StandsAsItIs take (flags s.members) v (flags_taken s ws) []
flags_stand s ws v width within narrow says =
    let bits = joined s.repr (words_from 0 (numbers_in ws)) in
    let are : bits ≡ flag_bits ws % 2 ^ flags_width s.members = joins s.repr ws narrow ∙ ap (λ k. flag_bits ws % 2 ^ k) width in (
      (bits, subst (λ x. x < 2 ^ flags_width s.members) (sym are) (bits_within (flag_bits ws) s.members), refl, says.1 ∙ sym (ap (λ x. x % 2 ^ s.members) are ∙ members_kept (flag_bits ws) s.members within), refl),
      normal_bits take bits,
    )

module _ (types : List TypeDef) (old new : FunctionBindgen) (n : Bytes) (id : TypeId) (os : List ExprOperand) (s : FlagsSite) (is_site : IsFlagsSite types old.sites id.0 s) (many : length os ≡ flag_words s.members) (ok : are_operands os ≡ true)
    (a : Appends old new (stmt.Let n (flags_made s (exprs_of os)) ∷ []) []) (fresh : Fresh old new n) where
  abbrev made : Expr
  made = flags_made s (exprs_of os)

  -- what serves the new code defines the flags
  defined : (w : File) → Serves w new → DefinesFlags w.items s
  defined w h = defined_as w.items flags_site_in (DefinesFlags w.items) (flags_defined w.items) old.sites id.0 s (subst (AreDefined w.items) a.sites h.sites) is_site.at

  flags_lifted : LiftsFlags func_meaning s.members os (operand_of (expr.Local n) ∷ []) old new
  flags_lifted ws typed =
      let narrow = are_narrow (flag_words s.members) ws typed in
      let ins = ofs func_meaning os (core_data func_meaning ws) in
      let long : length os ≡ length ws = many ∙ sym (types_length (words_of_flags s.members) ws typed ∙ length-replicate (flag_words s.members) wasm.I32) in
      lets_served old new n made [] a fresh (λ w. quiet_flags w s os ok) (Unit {0}) ins (λ p. stay) (λ u. item (flags_taken s ws))
      (λ u fs. (r : RustValue) × (fs ≡ of (operand_of (expr.Local n)) (item r) ∷ []) × ((v : ℕ) → Tells 2 take (flags s.members) v ws [] → StandsAsItIs take (flags s.members) v r []))
      (λ u. (flags_taken s ws, refl, λ v says. flags_stand s ws v is_site.held is_site.within narrow says))
      (λ w p st serves h. (
        refl,
        (
          val.Value (flags_taken s ws),
          flags_evaluate (setting_for w p) s (exprs_of os) ws st (defined w serves) narrow
              (words_give (setting_for w p) old os ws [] st long (subst (λ fs. Hold w.items old fs st) (sym (append-nil ins)) h)),
          owned-bits (joined s.repr (words_from 0 (numbers_in ws))),
          refl,
        ),
      ))

  lifts_told : (es : List Expr) → length es ≡ flag_words s.members → emitted (context old) (sends (FlagsLift id)) es ≡ Some (lifts_flags es s)
  lifts_told [] none = absurd (no_words s.members is_site.some none)
  lifts_told (e ∷ es) some = ap (option_map (lifts_flags (e ∷ es))) is_site.at

  pub flags_row : TakesOne old.scope (codes "flags") n new.scope → Emits func_meaning types (FlagsLift id) os (operand_of (expr.Local n) ∷ []) old new
  flags_row one = record {
    adds = let_adds old new n made [] a fresh (λ w. quiet_flags w s os ok);
    blocks = ap reverse a.finished;
    returned = a.returned;
    asked = a.asked;
    form = form_let (sends (FlagsLift id)) (record { gives = refl; calls = refl }) os old new (codes "flags") n made [] (lifts_told (exprs_of os) (length-map os (λ (o : ExprOperand). o.expr) ∙ many)) one a;
    results = refl;
    row = λ k is. subst (λ m. LiftsFlags func_meaning m os (operand_of (expr.Local n) ∷ []) old new) (one_count types id.0 s.members k is_site.count is) flags_lifted;
  }
