-- Where a file prints types as the shapes of a function: what an import gives is of its result type, what an export passes to its method is
-- of the types of the parameters, and what the method answers comes in as one of its result type.
use Rattle.std.proofs.Common.{◌≡◌, ℕ, Bool, true, cond, List, [], ◌∷◌, map, Option, None, Some, refl, sym, ap, ap₂, ◌∙◌, subst, rules}
use Rattle.std.specs.Prelude.{◌&&◌, option_and_then}
use Rattle.std.specs.Option.{option_map, option_or}
use Rattle.wit_layout.specs.Tree.{Scalar}
use Rattle.wit_model.specs.declared.types.WitType.TheVariants as wit
use Rattle.rust_tree.specs.declared.item.FnParam.{FnParam}
use Rattle.rust_tree.specs.declared.item.Item.{Item}
use Rattle.rust_tree.specs.declared.trait_item.TraitFn.{TraitFn}
use Rattle.rust_tree.specs.declared.type_expr.TypeExpr.{TypeExpr}
use Rattle.wrapper_data.specs.declared.block.Block.{Block}
use Rattle.wrapper_data.specs.declared.value.RustValue.{RustValue, RustValue-F, out-RustValue, out-roll-RustValue, the_lemmas}
use Rattle.wrapper_data.specs.declared.value.RustValue.TheVariants as value
use Rattle.wrapper_data.specs.declared.value.RustValue.TheVariants.{rolls-Case}
use Rattle.wrapper_data.specs.declared.word.Word.TheVariants as core
use Rattle.wrapper_meaning.specs.Direction.{take}
use Rattle.wrapper_meaning.specs.InRange.{AreListed, IsListed, IsScalar}
use Rattle.wrapper_meaning.specs.Shape.{Shape, Shapes, bare, is_nothing}
use Rattle.wrapper_meaning.specs.Shape.Shape.{cases, fields, fixed, flags, handle, list, other, pairs, resource, scalar, text, tuple}
use Rattle.wrapper_meaning.specs.Shape.Shapes.{more, none}
use Rattle.wrapper_meaning.specs.StandsFor.{Stands, rust_scalar}
use Rattle.wrapper_meaning.specs.Value.{Parts, ScalarValue, Value, case_number}
use Rattle.wrapper_values.specs.declared.state.Val.{Val}
use Rattle.wrapper_values.specs.declared.state.Val.TheVariants as val
use Rattle.wrapper_values.specs.Effect.{answer_of, is_of_kind, rust_of}
use Rattle.wrapper_values.specs.Typed.{answer_in, whole_as}
use Rattle.wrapper_run.specs.ExportRun.{passed_as, returned_of, values_of}
use Rattle.wrapper_run.proofs.NumberLemmas.{answered-unit}
use Rattle.abi_bindgen.specs.Calls.{coming}
use Rattle.abi_bindgen.specs.Parts.{PartsStand}
use Rattle.func_gen.specs.Read.{item_of}
use Rattle.func_gen.specs.Meaning.{func_meaning}
use Rattle.func_gen.proofs.MethodValues.{passed_alike}
use Rattle.wrapper_closing.specs.Direct.{are_direct, is_direct}
use Rattle.wrapper_closing.specs.PrintedAs.{ArePrintedAs, ArePrintedCases, ArePrintedParams, IsPrintedAs}
use Rattle.wrapper_closing.specs.PrintedLaws.{PrintedParamsPass, PrintedResultsAnswer, PrintedResultsComeIn, PrintedValuesAreTaken}
use Rattle.wrapper_closing.proofs.OwningValues.{owning, owns}
use Rattle.wrapper_closing.proofs.PrintedValues.{is_typed}
use Rattle.wrapper_closing.proofs.SettledDirect.{all_settled_same}
use Rattle.wrapper_meaning.proofs.RustValues.{out-num, out-f32, out-f64}

-- 1. Words that are values

-- a number, where the value is one, is in the range of its kind
abbrev is_ranged : RustValue-F RustValue → Bool
is_ranged (RustValue-F.Num kind z) = is_of_kind kind z
is_ranged _ = true

scalar_ranged : (s : Scalar) (v : ScalarValue s) → IsScalar s v → is_ranged (out-RustValue (rust_scalar s v)) ≡ true
scalar_ranged Scalar.bool v h = ap is_ranged (let e : out-RustValue (value.Bool v) ≡ RustValue-F.Bool v = search (rules, the_lemmas) in e)
scalar_ranged Scalar.f32 v h = ap is_ranged (out-f32 v)
scalar_ranged Scalar.f64 v h = ap is_ranged (out-f64 v)
scalar_ranged Scalar.char v h = ap is_ranged (let e : out-RustValue (value.Char v) ≡ RustValue-F.Char v = search (rules, the_lemmas) in e)
scalar_ranged Scalar.u8 v h = ap is_ranged (out-num wit.U8 v) ∙ h
scalar_ranged Scalar.u16 v h = ap is_ranged (out-num wit.U16 v) ∙ h
scalar_ranged Scalar.u32 v h = ap is_ranged (out-num wit.U32 v) ∙ h
scalar_ranged Scalar.u64 v h = ap is_ranged (out-num wit.U64 v) ∙ h
scalar_ranged Scalar.s8 v h = ap is_ranged (out-num wit.S8 v) ∙ h
scalar_ranged Scalar.s16 v h = ap is_ranged (out-num wit.S16 v) ∙ h
scalar_ranged Scalar.s32 v h = ap is_ranged (out-num wit.S32 v) ∙ h
scalar_ranged Scalar.s64 v h = ap is_ranged (out-num wit.S64 v) ∙ h
scalar_ranged Scalar.handle v h = elim v [ ]

buffer_ranged : (address n : ℕ) (o : Bool) → is_ranged (out-RustValue (value.Buffer address n o)) ≡ true
buffer_ranged address n o = ap is_ranged (let e : out-RustValue (value.Buffer address n o) ≡ RustValue-F.Buffer address n o = search (rules, the_lemmas) in e)

struct_ranged : (rs : List RustValue) → is_ranged (out-RustValue (value.Struct rs)) ≡ true
struct_ranged rs = ap is_ranged (let e : out-RustValue (value.Struct rs) ≡ RustValue-F.Struct rs = search (rules, the_lemmas) in e)

case_ranged : (n : ℕ) (payload : Option RustValue) → is_ranged (out-RustValue (value.Case n payload)) ≡ true
case_ranged n payload = ap is_ranged (ap out-RustValue (sym (rolls-Case n payload)) ∙ out-roll-RustValue (RustValue-F.Case n payload))

bits_ranged : (bits : ℕ) → is_ranged (out-RustValue (value.Bits bits)) ≡ true
bits_ranged bits = ap is_ranged (let e : out-RustValue (value.Bits bits) ≡ RustValue-F.Bits bits = search (rules, the_lemmas) in e)

ranged : (t : Shape) (v : Value t) (r : RustValue) (own : List Block) → is_direct t ≡ true → IsListed t v → Stands 2 take t v r own → is_ranged (out-RustValue r) ≡ true
ranged (scalar s) v r own d g h = ap (λ r. is_ranged (out-RustValue r)) h.0 ∙ scalar_ranged s v g
ranged text v r own d g h = ap (λ r. is_ranged (out-RustValue r)) h.is ∙ buffer_ranged h.address _ h.owned
ranged (fields ts) v r own d g (rs, is, h) = ap (λ r. is_ranged (out-RustValue r)) is ∙ struct_ranged rs
ranged (tuple ts) v r own d g (rs, is, h) = ap (λ r. is_ranged (out-RustValue r)) is ∙ struct_ranged rs
ranged (list t) v r own d g h = absurd cc
ranged (pairs x y) v r own d g h = absurd cc
ranged (fixed t n) v r own d g h = absurd cc
ranged (cases ts) v r own d g (payload, is, h) = ap (λ r. is_ranged (out-RustValue r)) is ∙ case_ranged (case_number ts v) payload
ranged (flags n) v r own d g (bits, small, is, means, alone) = ap (λ r. is_ranged (out-RustValue r)) is ∙ bits_ranged bits
ranged (handle o n) v r own d g h = absurd cc
ranged (resource n) v r own d g h = absurd cc
ranged other v r own d g h = absurd cc

-- a word of such a number is an operand of it
is_item : (x : Val) (r : RustValue) → rust_of x ≡ Some r → is_ranged (out-RustValue r) ≡ true → item_of x ≡ Some r
is_item (val.Value q) r h e = h
is_item (val.Area a z) r h e = absurd cc
is_item (val.Word (core.I32 z)) r h e =
    let same : value.Num wit.S32 z ≡ r = cc in
    let small : is_of_kind wit.S32 z ≡ true = sym (ap is_ranged (out-num wit.S32 z)) ∙ ap (λ r. is_ranged (out-RustValue r)) same ∙ e in
    ap (λ b. cond b (Some (value.Num wit.S32 z)) None) small ∙ h
is_item (val.Word (core.I64 z)) r h e =
    let same : value.Num wit.S64 z ≡ r = cc in
    let small : is_of_kind wit.S64 z ≡ true = sym (ap is_ranged (out-num wit.S64 z)) ∙ ap (λ r. is_ranged (out-RustValue r)) same ∙ e in
    ap (λ b. cond b (Some (value.Num wit.S64 z)) None) small ∙ h
is_item (val.Word (core.F32 n)) r h e = h
is_item (val.Word (core.F64 n)) r h e = h
is_item (val.Word (core.Pointer n)) r h e = absurd cc
is_item (val.Word (core.Length n)) r h e = absurd cc
is_item (val.Word (core.Slot o)) r h e = absurd cc

-- 2. Values

-- cases without payload are printed as ones of an enum with as many members, and direct
pub bare_printed : {A B : Type 0} (items : List Item) (f : A → B) (members : List A) → ArePrintedCases items (bare members) (map (λ c. None) (map f members))
bare_printed items f [] = tt
bare_printed items f (_ ∷ members) = (refl, bare_printed items f members)

pub bare_direct : {A : Type 0} (members : List A) → are_direct (bare members) ≡ true
bare_direct [] = refl
bare_direct (_ ∷ members) = bare_direct members

-- nothing is passed directly
pub nothing_direct : (t : Shape) → is_nothing t ≡ true → is_direct t ≡ true
nothing_direct (fields none) h = refl
nothing_direct (fields (more t ts)) h = absurd cc
nothing_direct _ h = absurd (let e = h in cc)

mutual
  printed_direct : (items : List Item) (t : Shape) (ty : TypeExpr) → IsPrintedAs items t ty → is_direct t ≡ true
  printed_direct items (scalar s) ty p = refl
  printed_direct items text ty p = refl
  printed_direct items (fields ts) ty (s, is, p) = all_printed_direct items ts (map (λ f. f.ty) s.fields) p
  printed_direct items (tuple ts) ty (types, is, p) = all_printed_direct items ts types p
  printed_direct items (list t) ty p = absurd p
  printed_direct items (pairs x y) ty p = absurd p
  printed_direct items (fixed t n) ty p = absurd p
  printed_direct items (cases ts) ty (payloads, has, p) = cases_printed_direct items ts payloads p
  printed_direct items (flags n) ty p = refl
  printed_direct items (handle o n) ty p = absurd p
  printed_direct items (resource n) ty p = absurd p
  printed_direct items other ty p = absurd p

  all_printed_direct : (items : List Item) (ts : Shapes) (types : List TypeExpr) → ArePrintedAs items ts types → are_direct ts ≡ true
  all_printed_direct items none types p = refl
  all_printed_direct items (more t ts) [] p = absurd p
  all_printed_direct items (more t ts) (ty ∷ types) p = ap₂ (λ a b. a && b) (printed_direct items t ty p.0) (all_printed_direct items ts types p.1)

  cases_printed_direct : (items : List Item) (ts : Shapes) (payloads : List (Option TypeExpr)) → ArePrintedCases items ts payloads → are_direct ts ≡ true
  cases_printed_direct items none payloads p = refl
  cases_printed_direct items (more t ts) [] p = absurd p
  cases_printed_direct items (more t ts) (None ∷ payloads) p = ap₂ (λ a b. a && b) (nothing_direct t p.0) (cases_printed_direct items ts payloads p.1)
  cases_printed_direct items (more t ts) (Some ty ∷ payloads) p = ap₂ (λ a b. a && b) (printed_direct items t ty p.1) (cases_printed_direct items ts payloads p.2)

-- what is passed was answered
answered_so : (o : Option (Option RustValue)) (q : RustValue) → option_and_then (λ r. r) o ≡ Some q → o ≡ Some (Some q)
answered_so None q h = absurd cc
answered_so (Some None) q h = absurd cc
answered_so (Some (Some r)) q h = ap (λ o. Some o) h

pub printed_values_are_taken : PrintedValuesAreTaken
printed_values_are_taken items t ty p v r own g h =
    let d = printed_direct items t ty p in
    let owned = owns t v r own d h in
    let is = is_typed items t v r own ty p g h in
    record {
      value = owning r;
      typed = is.typed;
      stands = owned.taken;
      given = (owned.given, owned.normal);
      same = λ e. e;
      answered = λ x e. answered_so (answer_in items ty x) (owning r) (passed_alike items ty x r (is_item x r e (ranged t v r own d g h)) ∙ ap (option_and_then (λ r. r)) is.answered);
    }

-- 3. Results of an import

pub printed_results_answer : PrintedResultsAnswer
printed_results_answer items None ty p =
    ap (λ o. option_or o (option_map Some (whole_as items ty (val.Value value.Unit)))) (ap (λ t. answer_of t (val.Value value.Unit)) p ∙ answered-unit)
printed_results_answer items (Some t) ty p = λ u v r own g e h. let is = printed_values_are_taken items t ty p u r own g h in (is.value, is.answered v e, is.stands)

-- 4. Parameters and results of a method

passes_each : (items : List Item) (ts : Shapes) (us : Parts ts) (vals : List RustValue) (own : List Block) (params : List FnParam) → ArePrintedParams items ts params → AreListed ts us → PartsStand func_meaning take ts us vals own
    → values_of items params (map (λ r. val.Value r) vals) ≡ Some vals
passes_each items none us vals own [] p g h = ap (λ (rs : List RustValue). values_of items [] (map (λ r. val.Value r) rs)) h.0 ∙ ap (λ rs. Some rs) (sym h.0)
passes_each items none us vals own (x ∷ params) p g h = absurd p
passes_each items (more t ts) us vals own [] p g h = absurd p
passes_each items (more t ts) us vals own (x ∷ params) p g (r, others, first, rest, is, h, hs, all) =
    let one = printed_values_are_taken items t x.ty p.0 us.0 r first g.0 h.0 in
    let passed : passed_as items x.ty (val.Value r) ≡ Some r = ap (option_and_then (λ r. r)) (one.answered (val.Value r) refl) ∙ ap (λ r. Some r) (one.same h.1) in
    ap (λ (rs : List RustValue). values_of items (x ∷ params) (map (λ r. val.Value r) rs)) is
    ∙ ap₂ (λ o q. option_and_then (λ r. option_map (λ rs. r ∷ rs) q) o) passed (passes_each items ts us.1 others rest params p.1 g.1 hs)
    ∙ ap (λ rs. Some rs) (sym is)

pub printed_params_pass : PrintedParamsPass
printed_params_pass w b f ts m has p us vals own g h =
    let stands = subst (λ vs. PartsStand func_meaning take ts vs vals own) (all_settled_same ts us (all_printed_direct w.items ts (map (λ x. x.ty) m.params) p)) h in
    ap (option_and_then (λ (t : TraitFn). values_of w.items t.params (map (λ r. val.Value r) vals))) has ∙ passes_each w.items ts us vals own m.params p g stands

pub printed_results_come_in : PrintedResultsComeIn
printed_results_come_in w b f None m has p v answer own g h = record { vals = []; comes = ap (coming (func_meaning.crosses w b f).receives) h.0; stands = (refl, h.1) }
printed_results_come_in w b f (Some t) m has p v answer own g (r, is, h) =
    let one = printed_values_are_taken w.items t m.result p v r own g.0 h in
    let returned : returned_of w.items m.result (Some r) ≡ Some (val.Value one.value) = ap (λ o. option_map val.Value (option_and_then (λ r. r) o)) (one.answered (val.Value r) refl) in
    let received : (func_meaning.crosses w b f).receives r ≡ Some one.value = ap (option_and_then (λ (t : TraitFn). option_and_then rust_of (returned_of w.items t.result (Some r)))) has ∙ ap (option_and_then rust_of) returned in
    record {
      vals = one.value ∷ [];
      comes = ap (coming (func_meaning.crosses w b f).receives) is ∙ ap (option_map (λ b. b ∷ [])) received;
      stands = (one.value, refl, one.given);
    }
