-- The rows of enums: the number of a case, and the case of a word.
use mathlib.Core.Logic.{inl, inr}
use Rattle.std.proofs.Common.{rules, ◌≡◌, ◌++◌, ℕ, ℤ, pos, Bool, true, false, cond, nat_lt, if◌then◌else◌, List, [], ◌∷◌, length, reverse, ◌%◌, ◌^◌, Option, None, Some, is_some, refl, sym, ap, ap₂, ◌∙◌, subst, arith}
use Rattle.std.specs.Prelude.{option_and_then, Ok, Err, codes}
use Rattle.std.specs.Int.{w32, cast_signed}
use Rattle.std.specs.Option.{option_map}
use Rattle.std.specs.Str.{bytes_eq}
use Rattle.std.proofs.lemmas.Int.{ints}
use Rattle.wit_model.specs.Bytes.{Bytes}
use Rattle.wit_model.specs.declared.name.TypeId.{TypeId}
use Rattle.wit_model.specs.declared.types.Member.{Member}
use Rattle.wit_model.specs.declared.types.TypeDef.{TypeDef}
use Rattle.wit_model.specs.declared.types.WitType.TheVariants as wit
use Rattle.rust_tree.specs.declared.enum_item.EnumItem.{EnumItem}
use Rattle.rust_tree.specs.declared.expr.CastType.{CastType}
use Rattle.rust_tree.specs.declared.expr.CastType.TheVariants as cast
use Rattle.rust_tree.specs.declared.expr.Expr.{Expr}
use Rattle.rust_tree.specs.declared.expr.Expr.TheVariants as expr
use Rattle.rust_tree.specs.declared.item.Item.{Item}
use Rattle.rust_tree.specs.declared.repr.Repr.{Repr}
use Rattle.rust_tree.specs.declared.repr.Repr.TheVariants as repr_of
use Rattle.rust_tree.specs.declared.stmt.Stmt.TheVariants as stmt
use Rattle.wrapper_data.specs.declared.block.Block.{Block}
use Rattle.wrapper_data.specs.declared.form.Form.{Form}
use Rattle.wrapper_data.specs.declared.form.Form.TheVariants as form
use Rattle.wrapper_data.specs.declared.run.TrapKind.TheVariants as trap
use Rattle.wrapper_data.specs.declared.value.RustValue.{RustValue, RustValue-F, fold-RustValue, fold-roll-RustValue, out-RustValue, the_lemmas}
use Rattle.wrapper_data.specs.declared.value.RustValue.TheVariants as value
use Rattle.wrapper_data.specs.declared.value.RustValue.TheVariants.{rolls-Case}
use Rattle.wrapper_data.specs.declared.word.Word.{Word}
use Rattle.wrapper_data.specs.declared.word.Word.TheVariants as core
use Rattle.wrapper_meaning.specs.Direction.{Direction, take}
use Rattle.wrapper_meaning.specs.Numbers.{low_bits}
use Rattle.wrapper_meaning.specs.Shape.{bare}
use Rattle.wrapper_meaning.specs.Shape.Shape.{cases}
use Rattle.wrapper_meaning.specs.StandsFor.{CaseStands}
use Rattle.wrapper_meaning.specs.Value.{Case, case_number}
use Rattle.wrapper_values.specs.declared.state.State.{State}
use Rattle.wrapper_values.specs.declared.state.Val.{Val}
use Rattle.wrapper_values.specs.declared.state.Val.TheVariants as val
use Rattle.wrapper_values.specs.Act.{Act}
use Rattle.wrapper_values.specs.Effect.{cast_integer, is_of_kind, is_unit_level, low, low_i32, num_of}
use Rattle.wrapper_values.specs.Enums.{case_of, case_of_level, case_of_number, enum_in, enum_lift_of, held_in, is_enum, is_without_payload, word_of_case}
use Rattle.wrapper_values.specs.Fields.{root_name, type_named}
use Rattle.wrapper_values.specs.Flags.{repr_bits}
use Rattle.wrapper_values.specs.Owning.{owned_by}
use Rattle.wrapper_values.specs.Setting.{Setting}
use Rattle.wrapper_run.specs.Run.{call_callee, call_member, callee, eval, lift_act, lift_case, lift_name, member_of, runtime_module_name}
use Rattle.wrapper_run.specs.Inward.{CallsNothing}
use Rattle.wrapper_run.proofs.EnumSteps.{callee-lift, member_lifted}
use Rattle.wrapper_run.proofs.InwardCalls.{expr_quiet}
use Rattle.wrapper_run.proofs.NumberLemmas.{num_of-number}
use Rattle.wrapper_run.proofs.StepLemmas.{call_gives}
use Rattle.abi_bindgen.specs.declared.instruction.Instruction.TheVariants.{EnumLift, EnumLower}
use Rattle.abi_bindgen.specs.Account.{Peer, failing, stay}
use Rattle.abi_bindgen.specs.Cases.{LiftsEnum, LowersEnum, case_word, reading_tag, tag_of}
use Rattle.abi_bindgen.specs.Instructions.{Emits}
use Rattle.abi_bindgen.specs.Laws.{Does, Facts}
use Rattle.abi_bindgen.specs.Meaning.{item, of, word}
use Rattle.abi_bindgen.specs.Sent.{sends}
use Rattle.func_gen.specs.declared.enum_site.EnumSite.{EnumSite}
use Rattle.func_gen.specs.declared.function_bindgen.FunctionBindgen.{FunctionBindgen}
use Rattle.func_gen.specs.declared.type_site.TypeSite.{TypeSite}
use Rattle.func_gen.specs.declared.type_site.TypeSite.TheVariants as site
use Rattle.func_gen.specs.Added.{Appends, Fresh}
use Rattle.func_gen.specs.CodeOf.{context, emitted}
use Rattle.func_gen.specs.EnumForms.{IsEnum, IsEnumSite, case_cast, case_let, case_lifted, enum_site_in, lift_path, lifts_enum}
use Rattle.func_gen.specs.Emission.{one_local}
use Rattle.func_gen.specs.Facts.{Hold}
use Rattle.func_gen.specs.Forms.{operand_of}
use Rattle.func_gen.specs.Meaning.{File, IsNormal, Serves, StandsAsItIs, account_of, answer_of, func_meaning, passing_level, setting_for}
use Rattle.func_gen.specs.Operand.{is_operand}
use Rattle.func_gen.specs.Read.{Env, Read, as_case_word, bare_or, env_of, on_bare, read}
use Rattle.func_gen.specs.ReadForms.{read-enum_number}
use Rattle.func_gen.specs.Scope.{TakesOne}
use Rattle.func_gen.specs.StandLemmas.{owned-none, owned-some, owned-unit}
use Rattle.func_gen.specs.TypeSites.{AreDefined, Defines, DefinesEnum, HasCases, held_cases}
use Rattle.func_gen.proofs.FieldOrder.{defined_as}
use Rattle.func_gen.proofs.Forming.{form_alone, form_let}
use Rattle.func_gen.proofs.InwardForms.{lift_inward}
use Rattle.func_gen.proofs.LiftedRows.{cast_given, low_u32, low_u8, says_one}
use Rattle.func_gen.proofs.LowBits.{same_low}
use Rattle.func_gen.proofs.Moving.{cast_owns}
use Rattle.func_gen.proofs.Rows.{Agrees, let_adds, lets_served, none_adds, swaps}
use Rattle.wrapper_meaning.proofs.Lists.{some_or, some_same}
use Rattle.wrapper_meaning.proofs.RustValues.{out-case}
use Rattle.abi_bindgen.proofs.BareCases.{count_bare}
use Rattle.abi_bindgen.proofs.EnumLowers.{enum_cases}

-- 1. The cases of an enum have no payload

-- a payload that is none, or `()`
record IsBare (payload : Option RustValue) : Type 0 where
  without : is_without_payload payload ≡ true
  owns : (n : ℕ) → owned_by (value.Case n payload) ≡ []

none_bare : IsBare None
none_bare = record { without = refl; owns = owned-none }

unit_bare : IsBare (Some value.Unit)
unit_bare = record {
  without = let opened : out-RustValue value.Unit ≡ RustValue-F.Unit = search (rules, the_lemmas) in ap is_unit_level opened;
  owns = λ n. owned-some n value.Unit ∙ ap (λ xs. xs ++ []) owned-unit;
}

case_bare : (dir : Direction) (members : List Member) (c : Case (bare members)) (payload : Option RustValue) (own : List Block) → CaseStands 2 dir (bare members) c payload own → (own ≡ []) × IsBare payload
case_bare dir [] c payload own h = elim c [ ]
case_bare dir (m ∷ members) (inl v) None own h = (h, none_bare)
case_bare dir (m ∷ members) (inl v) (Some r) own h = (h.1, subst (λ q. IsBare (Some q)) (sym h.0) unit_bare)
case_bare dir (m ∷ members) (inr c) payload own h = case_bare dir members c payload own h

case_stands : (members : List Member) (c : Case (bare members)) → CaseStands 2 take (bare members) c None []
case_stands [] c = elim c [ ]
case_stands (m ∷ members) (inl v) = refl
case_stands (m ∷ members) (inr c) = case_stands members c

case_normal : (n : ℕ) → IsNormal take (value.Case n None)
case_normal n = ap (fold-RustValue RustValue (passing_level take)) (sym (rolls-Case n None)) ∙ fold-roll-RustValue RustValue (passing_level take) (RustValue-F.Case n None)

-- 2. A case becomes its number

low_of : (n : ℕ) → low_i32 (pos n) ≡ cast_signed w32 (n % 2 ^ 32)
low_of n = grind (arith, ints)

-- the number of what reads a case
number_says : (items : List Item) (n : ℕ) (payload : Option RustValue) (e : Expr) (env : Env) → IsBare payload → (read items e).at env ≡ Some (val.Value (value.Case n payload))
    → (read items (expr.EnumNumber e)).at env ≡ Some (val.Word (case_word n))
unfolding word_of_case
number_says items n payload e env b h =
    let told : as_case_word (val.Value (value.Case n payload)) ≡ Some (val.Word (case_word n)) =
    ap (λ l. option_map val.Word (option_map (λ n. core.I32 (low_i32 (pos n))) (case_of_level l))) (out-case n payload)
    ∙ ap (λ b. option_map val.Word (option_map (λ n. core.I32 (low_i32 (pos n))) (cond b (Some n) None))) b.without ∙ ap (λ z. Some (val.Word (core.I32 z))) (low_of n) in
    ap (λ (r : Read). r.at env) (read-enum_number items e) ∙ ap (option_and_then (on_bare as_case_word)) h
    ∙ ap (λ bs. option_and_then as_case_word (bare_or (val.Value (value.Case n payload)) bs)) (b.owns n) ∙ told

number_lowers : (old new : FunctionBindgen) (e : Expr) (members : List Member) → Appends old new [] [] → new.scope ≡ old.scope → LowersEnum func_meaning (bare members) (operand_of e ∷ []) (operand_of (expr.EnumNumber e) ∷ []) old new
number_lowers old new e members a scope dir c r own ((payload, is, stands), normal) =
    let k = case_bare dir members c payload own stands in
    let n = case_number (bare members) c in (
      k.0,
      swaps old new [] a scope (of (operand_of e) (item r)) (of (operand_of (expr.EnumNumber e)) (word (case_word n)))
          (λ w found env h. number_says w.items n payload e env k.1 (h ∙ ap (λ q. Some (val.Value q)) is)),
    )

pub enum_number_row : (types : List TypeDef) (old new : FunctionBindgen) (id : TypeId) (e : Expr) → IsEnum types id.0 → Appends old new [] [] → new.scope ≡ old.scope
    → Emits func_meaning types (EnumLower id) (operand_of e ∷ []) (operand_of (expr.EnumNumber e) ∷ []) old new
enum_number_row types old new id e (members, is) a scope = record {
  adds = none_adds old new [] a scope;
  blocks = ap reverse a.finished;
  returned = a.returned;
  asked = a.asked;
  form = form_alone (sends (EnumLower id)) (record { gives = refl; calls = refl }) (operand_of e ∷ []) old new (expr.EnumNumber e) [] refl scope a;
  results = refl;
  row = subst (λ ts. LowersEnum func_meaning ts (operand_of e ∷ []) (operand_of (expr.EnumNumber e) ∷ []) old new) (sym (enum_cases types id.0 members is)) (number_lowers old new e members a scope);
}

-- 3. A word becomes a case

calls_lift : (name : Bytes) → bytes_eq name runtime_module_name ≡ false → callee (lift_path name) ≡ member_of name lift_name
unfolding lift_name runtime_module_name
calls_lift name h = callee-lift name h

-- the function of an enum of the file is called
calls_enum : (w : Setting) (name : Bytes) (vs : List Val) → is_enum w.items name ≡ true → call_member w name lift_name vs ≡ lift_case w name vs
unfolding lift_name
calls_enum w name vs h = member_lifted w name vs h

quiet_lifted : (w : Setting) (name : Bytes) (to : CastType) (e : Expr) → is_operand e ≡ true → CallsNothing (eval w (case_lifted name to e))
quiet_lifted w name to e ok = expr_quiet w (case_lifted name to e) (lift_inward e ok name to)

low_u16 : (z : ℤ) → is_of_kind wit.U16 (low 16 z) ≡ true
low_u16 z = grind (arith, ints)

-- the number that a word is cast to
held : (repr : Repr) (to : CastType) (z : ℤ) → case_cast repr ≡ Some to → option_and_then (held_in repr) (num_of (cast_integer to z)) ≡ Some (low_bits (repr_bits repr) z)
held repr_of.U8 to z h =
    ap (λ t. option_and_then (held_in repr_of.U8) (num_of (cast_integer t z))) (sym (ap (some_or cast.U8) h)) ∙ ap (option_and_then (held_in repr_of.U8)) (num_of-number wit.U8 (low 8 z) (low_u8 z))
    ∙ ap (λ k. held_in repr_of.U8 (wit.U8, k)) (same_low 8 z)
held repr_of.U16 to z h =
    ap (λ t. option_and_then (held_in repr_of.U16) (num_of (cast_integer t z))) (sym (ap (some_or cast.U16) h)) ∙ ap (option_and_then (held_in repr_of.U16)) (num_of-number wit.U16 (low 16 z) (low_u16 z))
    ∙ ap (λ k. held_in repr_of.U16 (wit.U16, k)) (same_low 16 z)
held repr_of.U32 to z h =
    ap (λ t. option_and_then (held_in repr_of.U32) (num_of (cast_integer t z))) (sym (ap (some_or cast.U32) h)) ∙ ap (option_and_then (held_in repr_of.U32)) (num_of-number wit.U32 (low 32 z) (low_u32 z))
    ∙ ap (λ k. held_in repr_of.U32 (wit.U32, k)) (same_low 32 z)
held repr_of.U64 to z h = absurd cc
held repr_of.U128 to z h = absurd cc

enum_lifts : (items : List Item) (name : Bytes) (repr : Repr) (n : ℕ) (to : CastType) (z : ℤ) → case_cast repr ≡ Some to → HasCases items (repr, n) (Some name)
    → enum_lift_of items name (cast_integer to z) ≡ Some (case_of_number n (low_bits (repr_bits repr) z))
unfolding enum_lift_of
enum_lifts items name repr n to z casts has = go (enum_in (type_named items name)) has
  where
    go : (o : Option EnumItem) → option_map held_cases o ≡ Some (repr, n) → option_and_then (case_of (cast_integer to z)) o ≡ Some (case_of_number n (low_bits (repr_bits repr) z))
    go None h = absurd cc
    go (Some e) h =
        let same : held_cases e ≡ (repr, n) = some_same (held_cases e) (repr, n) h in
        ap₂ (λ (q : Repr) (k : ℕ). option_map (case_of_number k) (option_and_then (held_in q) (num_of (cast_integer to z)))) (ap (λ (x : Repr × ℕ). x.0) same) (ap (λ (x : Repr × ℕ). x.1) same)
        ∙ ap (option_map (case_of_number n)) (held repr to z casts)

enum_there : (items : List Item) (name : Bytes) (held : Repr × ℕ) → HasCases items held (Some name) → is_enum items name ≡ true
enum_there items name held has = go (enum_in (type_named items name)) has
  where
    go : (o : Option EnumItem) → option_map held_cases o ≡ Some held → is_some o ≡ true
    go None h = absurd cc
    go (Some e) h = refl

enum_evaluates : (w : Setting) (name : Bytes) (repr : Repr) (n : ℕ) (to : CastType) (e : Expr) (z : ℤ) (s : State) → bytes_eq name runtime_module_name ≡ false → case_cast repr ≡ Some to → HasCases w.items (repr, n) (Some name)
    → (read w.items e).at (env_of s) ≡ Some (val.Word (core.I32 z)) → eval w (case_lifted name to e) s ≡ lift_act w (Some (case_of_number n (low_bits (repr_bits repr) z))) s
enum_evaluates w name repr n to e z s typed casts has h =
    let v = cast_integer to z in
    call_gives w (lift_path name) (expr.Cast e to ∷ []) (v ∷ []) s (cast_given w e to z s (cast_owns to z) h, tt) ∙ ap (λ c. call_callee w c (v ∷ []) s) (calls_lift name typed)
    ∙ ap (λ (act : Act Val). act s) (calls_enum w name (v ∷ []) (enum_there w.items name (repr, n) has))
    ∙ ap (λ o. lift_act w o s) (enum_lifts w.items name repr n to z casts has)

case_agrees : (w : File) (p : Peer RustValue) (f : Form) (k : ℕ) (s : State) (b : Bool)
    → Agrees (account_of s) (if b then stay (account_of s) else failing f trap.Discriminant (account_of s)) (lift_act (record { items = w.items; item = w.item; answer = answer_of p.reply; form = f }) (Some (if b then Ok (value.Case k None) else Err trap.Discriminant)) s) s (item (value.Case k None))
case_agrees w p f k s true = (refl, (val.Value (value.Case k None), refl, owned-none k, refl))
case_agrees w p form.Debug k s false = refl
case_agrees w p form.Release k s false = refl

enum_defined : (items : List Item) (t : TypeSite) (s : EnumSite) → Defines items t → enum_site_in t ≡ Some s → DefinesEnum items s
enum_defined items (site.Record r) s d is = absurd cc
enum_defined items (site.Enum r) s d is = subst (DefinesEnum items) (some_same r s is) d
enum_defined items (site.Flags r) s d is = absurd cc
enum_defined items (site.Variant r) s d is = absurd cc

module _ (types : List TypeDef) (old new : FunctionBindgen) (n : Bytes) (id : TypeId) (e : Expr) (s : EnumSite) (is_site : IsEnumSite types old.sites id.0 s) (name : Bytes) (root : root_name s.path ≡ Some name)
    (typed : bytes_eq name runtime_module_name ≡ false) (to : CastType) (casts : case_cast s.repr ≡ Some to) (ok : is_operand e ≡ true) (fresh : Fresh old new n) where
  abbrev lifted : Expr
  lifted = case_lifted name to e

  abbrev taken : Word → RustValue
  taken x = value.Case (tag_of s.cases x) None

  -- what serves the new code defines the enum
  defined : (w : File) → new.sites ≡ old.sites → Serves w new → HasCases w.items (s.repr, s.cases) (Some name)
  defined w same h = subst (HasCases w.items (s.repr, s.cases)) root (defined_as w.items enum_site_in (DefinesEnum w.items) (enum_defined w.items) old.sites id.0 s (subst (AreDefined w.items) same h.sites) is_site.at)

  agrees : (x : Word) (w : File) (p : Peer RustValue) (st : State) → HasCases w.items (s.repr, s.cases) (Some name) → Hold w.items old (of (operand_of e) (word x) ∷ []) st
      → Agrees (account_of st) (reading_tag p.form s.cases x (account_of st)) (eval (setting_for w p) lifted st) st (item (taken x))
  agrees (core.I32 z) w p st has h =
      let bits : low_bits (repr_bits s.repr) z ≡ tag_of s.cases (core.I32 z) = ap (λ b. low_bits b z) is_site.held in
      subst (λ q. Agrees (account_of st) (reading_tag p.form s.cases (core.I32 z) (account_of st)) q st (item (taken (core.I32 z))))
      (sym (enum_evaluates (setting_for w p) name s.repr s.cases to e z st typed casts has (says_one w.items old (operand_of e) (word (core.I32 z)) st h) ∙ ap (λ k. lift_act (setting_for w p) (Some (case_of_number s.cases k)) st) bits))
      (case_agrees w p p.form (tag_of s.cases (core.I32 z)) st (nat_lt (tag_of s.cases (core.I32 z)) s.cases))
  agrees (core.I64 z) w p st has h = refl
  agrees (core.F32 z) w p st has h = refl
  agrees (core.F64 z) w p st has h = refl
  agrees (core.Pointer z) w p st has h = refl
  agrees (core.Length z) w p st has h = refl
  agrees (core.Slot z) w p st has h = refl

  abbrev Outs : List Member → ℕ → Word → Facts func_meaning → Type 0
  Outs members k x fs = (r : RustValue) × (fs ≡ of (operand_of (expr.Local n)) (item r) ∷ []) × ((c : Case (bare members)) → case_number (bare members) c ≡ tag_of k x → StandsAsItIs take (cases (bare members)) c r [])

  abbrev LiftsAs : List Member → ℕ → Word → Type 0
  LiftsAs members k x = Does func_meaning (Unit {0}) old new (of (operand_of e) (word x) ∷ []) (λ p. reading_tag p.form k x) (λ u fs. Outs members k x fs) (λ u. []) (λ u. [])

  lifts_case : (members : List Member) → s.cases ≡ length members → Appends old new (stmt.Let n lifted ∷ []) [] → LiftsEnum func_meaning (bare members) (operand_of e ∷ []) (operand_of (expr.Local n) ∷ []) old new
  lifts_case members many a =
      subst (λ k. (x : Word) → LiftsAs members k x) (many ∙ sym (count_bare members))
      (λ x. lets_served old new n lifted [] a fresh (λ w. quiet_lifted w name to e ok) (Unit {0}) (of (operand_of e) (word x) ∷ []) (λ p. reading_tag p.form s.cases x) (λ u. item (taken x)) (λ u fs. Outs members s.cases x fs)
      (λ u. (taken x, refl, λ c is. (((None, ap (λ k. value.Case k None) (sym is), case_stands members c)), case_normal (tag_of s.cases x))))
      (λ w p st serves h. agrees x w p st (defined w a.sites serves) h))

  pub case_row : Appends old new (stmt.Let n lifted ∷ []) [] → TakesOne old.scope (codes "v") n new.scope → Emits func_meaning types (EnumLift id) (operand_of e ∷ []) (operand_of (expr.Local n) ∷ []) old new
  case_row a one =
      let (members, is, many) = is_site.count in
      let told : emitted (context old) (sends (EnumLift id)) (e ∷ []) ≡ Some (one_local (codes "v") lifted []) =
      ap (option_and_then (lifts_enum e)) is_site.at ∙ ap (option_and_then (λ name. option_map (case_let name e) (case_cast s.repr))) root ∙ ap (option_map (case_let name e)) casts in
      record {
        adds = let_adds old new n lifted [] a fresh (λ w. quiet_lifted w name to e ok);
        blocks = ap reverse a.finished;
        returned = a.returned;
        asked = a.asked;
        form = form_let (sends (EnumLift id)) (record { gives = refl; calls = refl }) (operand_of e ∷ []) old new (codes "v") n lifted [] told one a;
        results = refl;
        row = subst (λ ts. LiftsEnum func_meaning ts (operand_of e ∷ []) (operand_of (expr.Local n) ∷ []) old new) (sym (enum_cases types id.0 members is)) (lifts_case members many a);
      }
