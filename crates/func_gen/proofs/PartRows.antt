-- The row of tuples that are made of their parts.
use Rattle.std.proofs.Common.{◌≡◌, ℕ, suc, Bool, true, false, List, [], ◌∷◌, ◌++◌, length, map, reverse, Option, None, Some, refl, sym, ap, ap₂, ◌∙◌, subst, arith}
use Rattle.std.specs.List.{flat_map}
use Rattle.std.specs.Prelude.{option_and_then, codes}
use Rattle.std.specs.Option.{option_map}
use Rattle.wit_layout.specs.Tree.{Scalar}
use Rattle.wit_model.specs.Bytes.{Bytes}
use Rattle.wit_model.specs.declared.types.TypeDef.{TypeDef}
use Rattle.rust_tree.specs.declared.expr.Expr.{Expr}
use Rattle.rust_tree.specs.declared.expr.Expr.TheVariants as expr
use Rattle.rust_tree.specs.declared.stmt.Stmt.TheVariants as stmt
use Rattle.wrapper_data.specs.declared.block.Block.{Block}
use Rattle.wrapper_data.specs.declared.choice.Request.{Request}
use Rattle.wrapper_data.specs.declared.value.RustValue.{RustValue, fold-RustValue}
use Rattle.wrapper_data.specs.declared.value.RustValue.TheVariants as value
use Rattle.wrapper_data.specs.declared.word.Word.{Word}
use Rattle.wrapper_data.specs.declared.word.Word.TheVariants as core
use Rattle.wrapper_meaning.specs.Direction.{Direction, take}
use Rattle.wrapper_meaning.specs.Items.{total}
use Rattle.wrapper_meaning.specs.Shape.{Shapes}
use Rattle.wrapper_meaning.specs.Shape.Shapes.{none, more}
use Rattle.wrapper_meaning.specs.StandsFor as rust
use Rattle.wrapper_meaning.specs.Value.{Parts}
use Rattle.wrapper_meaning.proofs.Lists.{some_same}
use Rattle.wrapper_values.specs.declared.state.State.{State}
use Rattle.wrapper_values.specs.declared.state.Val.{Val}
use Rattle.wrapper_values.specs.declared.state.Val.TheVariants as val
use Rattle.wrapper_values.specs.Act as machine
use Rattle.wrapper_values.specs.Act.{all, and_then, or_stop}
use Rattle.wrapper_values.specs.Effect.{rust_of, rust_of_word}
use Rattle.wrapper_values.specs.Owning.{owned, owned_by, taken_by}
use Rattle.wrapper_values.specs.Setting.{Setting, stuck}
use Rattle.wrapper_values.specs.Whole.{rust_values, whole_of}
use Rattle.wrapper_run.specs.Run.{eval, run_stmts}
use Rattle.wrapper_run.specs.Inward.{CallsNothing}
use Rattle.wrapper_run.proofs.GiveSteps.{let_runs}
use Rattle.wrapper_run.proofs.InwardCalls.{expr_quiet}
use Rattle.wrapper_run.proofs.PartSteps.{eval-tuple}
use Rattle.abi_bindgen.specs.declared.bindgen.Asked.{Asked}
use Rattle.abi_bindgen.specs.declared.instruction.Instruction.TheVariants.{TupleLift}
use Rattle.abi_bindgen.specs.Account.{Account, Peer}
use Rattle.abi_bindgen.specs.Instructions.{Emits}
use Rattle.abi_bindgen.specs.Laws.{Facts, Stays, item_data, ofs}
use Rattle.abi_bindgen.specs.Meaning.{item, of}
use Rattle.abi_bindgen.specs.Parts.{PartsStand, count}
use Rattle.abi_bindgen.specs.Sent.{sends}
use Rattle.func_gen.specs.declared.function_bindgen.FunctionBindgen.{FunctionBindgen}
use Rattle.func_gen.specs.declared.operand.ExprOperand.{ExprOperand}
use Rattle.func_gen.specs.Added.{Appends, Fresh}
use Rattle.func_gen.specs.Facts.{AreOwned}
use Rattle.func_gen.specs.Forms.{operand_of}
use Rattle.func_gen.specs.Meaning.{AreaIs, File, IsNormal, Serves, func_meaning, owns_of, passing_level, seen, setting_for}
use Rattle.func_gen.specs.NormalLemmas.{normal_struct}
use Rattle.func_gen.specs.PartForms.{are_operands, exprs_of}
use Rattle.func_gen.specs.Read.{env_of}
use Rattle.func_gen.specs.StandLemmas.{owned-struct, scalar_owns}
use Rattle.func_gen.specs.Scope.{TakesOne}
use Rattle.func_gen.proofs.Forming.{form_let}
use Rattle.func_gen.proofs.InwardForms.{tuple_inward}
use Rattle.func_gen.proofs.Lasting.{area_same, bound_under, owns_with, with_local}
use Rattle.func_gen.proofs.OperandLists.{same_operands}
use Rattle.func_gen.proofs.Rows.{let_adds, same_area}
use Rattle.func_gen.proofs.Several.{Are, add_local, uses_all}
use Rattle.func_gen.proofs.Steps.{ran}
use Rattle.wrapper_meaning.proofs.PostReturn.{total-append}

-- 1. What parts own together, and that they pass as they are

word_owns : (x : Word) (r : RustValue) → rust_of_word x ≡ Some r → owned_by r ≡ []
word_owns (core.I32 z) r h = ap owned_by (sym (some_same _ r h)) ∙ scalar_owns Scalar.s32 z
word_owns (core.I64 z) r h = ap owned_by (sym (some_same _ r h)) ∙ scalar_owns Scalar.s64 z
word_owns (core.F32 z) r h = ap owned_by (sym (some_same _ r h)) ∙ scalar_owns Scalar.f32 z
word_owns (core.F64 z) r h = ap owned_by (sym (some_same _ r h)) ∙ scalar_owns Scalar.f64 z
word_owns (core.Pointer z) r h = absurd cc
word_owns (core.Length z) r h = absurd cc
word_owns (core.Slot z) r h = absurd cc

pub owned_is : (v : Val) (r : RustValue) → rust_of v ≡ Some r → owned v ≡ owned_by r
owned_is (val.Value x) r h = ap owned_by (some_same x r h)
owned_is (val.Word x) r h = sym (word_owns x r h)
owned_is (val.Area a n) r h = absurd cc

pub all_owned : (vs : List Val) (rs : List RustValue) → Are vs rs → flat_map owned vs ≡ taken_by rs
all_owned [] rs h = ap taken_by (sym h)
all_owned (v ∷ vs) [] h = absurd h
all_owned (v ∷ vs) (r ∷ rs) h = ap₂ (λ x y. x ++ y) (owned_is v r h.0) (all_owned vs rs h.1)

pub all_rust : (vs : List Val) (rs : List RustValue) → Are vs rs → rust_values vs ≡ Some rs
all_rust [] rs h = ap (λ x. Some x) (sym h)
all_rust (v ∷ vs) [] h = absurd h
all_rust (v ∷ vs) (r ∷ rs) h = ap (option_and_then (λ r. option_map (λ rs. r ∷ rs) (rust_values vs))) h.0 ∙ ap (option_map (λ rs. r ∷ rs)) (all_rust vs rs h.1)

are_many : (vs : List Val) (rs : List RustValue) → Are vs rs → length vs ≡ length rs
are_many [] rs h = sym (ap length h)
are_many (v ∷ vs) [] h = absurd h
are_many (v ∷ vs) (r ∷ rs) h = ap suc (are_many vs rs h.1)

-- parts that stand as they are, and pass so
pub parts_stand : (dir : Direction) (ts : Shapes) (v : Parts ts) (rs : List RustValue) (own : List Block) → PartsStand func_meaning dir ts v rs own → rust.PartsStand 2 dir ts v rs own × (map (fold-RustValue RustValue (passing_level dir)) rs ≡ rs)
parts_stand dir none v rs own h = (h, ap (map (fold-RustValue RustValue (passing_level dir))) h.0 ∙ sym h.0)
parts_stand dir (more t ts) v rs own (r, others, first, rest, is, h, hs, all) =
    let later = parts_stand dir ts v.1 others rest hs in
    ((r, others, first, rest, is, h.0, later.0, all), ap (map (fold-RustValue RustValue (passing_level dir))) is ∙ ap₂ (λ x xs. x ∷ xs) h.1 later.1 ∙ sym is)

-- a value stands as it is that consists of such parts
abbrev pub Consists : (ts : Shapes) → Parts ts → RustValue → List Block → Type 0
Consists ts v r own = ((rs : List RustValue) × (r ≡ value.Struct rs) × rust.PartsStand 2 take ts v rs own) × IsNormal take r

whole_stands : (ts : Shapes) (v : Parts ts) (rs : List RustValue) (own : List Block) → PartsStand func_meaning take ts v rs own → Consists ts v (value.Struct rs) own
whole_stands ts v rs own h = let both = parts_stand take ts v rs own h in ((rs, refl, both.0), normal_struct take rs both.1)

-- 2. A tuple makes no call

quiet_tuple : (os : List ExprOperand) → are_operands os ≡ true → (w : Setting) → CallsNothing (eval w (expr.Tuple (exprs_of os)))
quiet_tuple os ok w = expr_quiet w (expr.Tuple (exprs_of os)) (tuple_inward (exprs_of os) (same_operands os ∙ ok))

-- 3. What it gives

pub acts_same : (w : Setting) (os : List ExprOperand) → map (eval w) (exprs_of os) ≡ map (λ (o : ExprOperand). eval w o.expr) os
acts_same w [] = refl
acts_same w (o ∷ os) = ap (λ acts. eval w o.expr ∷ acts) (acts_same w os)

tuple_gives : (w : Setting) (os : List ExprOperand) (vs : List Val) (rs : List RustValue) (s t : State) → all (map (λ (o : ExprOperand). eval w o.expr) os) s ≡ machine.Done vs t → Are vs rs
    → eval w (expr.Tuple (exprs_of os)) s ≡ machine.Done (val.Value (value.Struct rs)) t
tuple_gives w os vs rs s t h is =
    ap (λ act. act s) (eval-tuple w (exprs_of os)) ∙ ap (λ acts. and_then (all acts s) (λ vs. or_stop (stuck w) (whole_of vs))) (acts_same w os)
    ∙ ap (λ o. and_then o (λ vs. or_stop (stuck w) (whole_of vs))) h ∙ ap (λ o. or_stop (stuck w) (option_map (λ rs. val.Value (value.Struct rs)) o) t) (all_rust vs rs is)

binds_to : (w : Setting) (n : Bytes) (e : Expr) (v : Val) (s t : State) → eval w e s ≡ machine.Done v t → run_stmts w (stmt.Let n e ∷ []) s ≡ machine.Done tt (with_local t n v)
binds_to w n e v s t h = let_runs w n e [] v s t h

pub areas_last : (import : Bool) (area : Option Request) (at : Option ℕ) (asked : List Asked) (name : Bytes) (s t : State) → ((k : Bytes) (a z : ℕ) → env_of s k ≡ Some (val.Area a z) → env_of t k ≡ Some (val.Area a z)) → t.place ≡ s.place
    → AreaIs import area at asked name s → AreaIs import area at asked name t
areas_last true None None asked name s t stays p h = p ∙ h
areas_last true None (Some address) asked name s t stays p h = h
areas_last true (Some area) None asked name s t stays p h = p ∙ h
areas_last true (Some area) (Some address) asked name s t stays p h = (stays name address area.size h.0, p ∙ h.1)
areas_last false area None asked name s t stays p h = λ e. p ∙ h e
areas_last false area (Some address) asked name s t stays p h = h

-- 4. The row

-- where an expression gives the whole of what the operands give
module _ (old new : FunctionBindgen) (n : Bytes) (os : List ExprOperand) (e : Expr) (a : Appends old new (stmt.Let n e ∷ []) []) (fresh : Fresh old new n)
    (gives : (w : File) (p : Peer RustValue) (vs : List Val) (rs : List RustValue) (s t : State) → Serves w new → length vs ≡ length os → all (map (λ (o : ExprOperand). eval (setting_for w p) o.expr) os) s ≡ machine.Done vs t → Are vs rs
    → eval (setting_for w p) e s ≡ machine.Done (val.Value (value.Struct rs)) t) where
  makes_whole : (rs : List RustValue) (Outs : Facts func_meaning → Type 0) → length os ≡ length rs → Outs (of (operand_of (expr.Local n)) (item (value.Struct rs)) ∷ [])
      → Stays func_meaning old new (ofs func_meaning os (item_data func_meaning rs)) Outs
  makes_whole rs Outs len outs w p others s0 s at =
      let ins = ofs func_meaning os (item_data func_meaning rs) in
      let v : Val = val.Value (value.Struct rs) in
      let u = uses_all (setting_for w p) old os rs others s.machine len at.holds.hold in
      let t = with_local u.then n v in
      let under = bound_under u.then n v (u.holds.within n fresh.free) in (
        record { machine = t; area = s.area },
        ran old new (stmt.Let n e ∷ []) [] a w p (ins ++ others) s0 s at
            ∙ ap (seen s.area) (binds_to (setting_for w p) n e v s.machine u.then (gives w p u.given rs s.machine u.then at.serves (are_many u.given rs u.is ∙ sym len) u.evaluated u.is)),
        (
          of (operand_of (expr.Local n)) (item (value.Struct rs)) ∷ [],
          outs,
          record {
            account = u.account;
            owns = λ g.
                let e = ap (total g) (owned-struct rs) in
                let f = ap (total g) (all_owned u.given rs u.is) in
                omega (arith, e, f, u.owns g, owns_with g u.then n v, total-append g (owns_of t) [], total-append g (owns_of s.machine) []);
            denotes = record {
              hold = add_local w.items old new others u.then n v (item (value.Struct rs)) a.params fresh refl u.holds;
              owners = subst (λ (acc : Account RustValue). AreOwned acc.heap.blocks acc.taken) (sym u.account) at.holds.owners;
              area = areas_last new.import w.area s.area new.asked new.area s.machine t (λ k x z is. under k (val.Area x z) (u.areas k x z is)) u.place
                  (area_same w old new s.area s.machine (same_area old new (stmt.Let n e ∷ []) [] a) at.holds.area);
            };
          },
        ),
      )

  pub lifts_whole : (ts : Shapes) → length os ≡ count ts → (rs : List RustValue) → length rs ≡ count ts
      → Stays func_meaning old new (ofs func_meaning os (item_data func_meaning rs))
      (λ fs. (r : RustValue) × (fs ≡ of (operand_of (expr.Local n)) (item r) ∷ []) × ((v : Parts ts) (own : List Block) → PartsStand func_meaning take ts v rs own → Consists ts v r own))
  lifts_whole ts many rs len = makes_whole rs
      (λ fs. (r : RustValue) × (fs ≡ of (operand_of (expr.Local n)) (item r) ∷ []) × ((v : Parts ts) (own : List Block) → PartsStand func_meaning take ts v rs own → Consists ts v r own))
      (many ∙ sym len) (value.Struct rs, refl, λ v own h. whole_stands ts v rs own h)

pub tuple_row : (types : List TypeDef) (old new : FunctionBindgen) (n : Bytes) (k : ℕ) (os : List ExprOperand) → length os ≡ k → are_operands os ≡ true → Appends old new (stmt.Let n (expr.Tuple (exprs_of os)) ∷ []) [] → Fresh old new n → TakesOne old.scope (codes "tuple") n new.scope
    → Emits func_meaning types (TupleLift k) os (operand_of (expr.Local n) ∷ []) old new
tuple_row types old new n k os many ok a fresh one = record {
  adds = let_adds old new n (expr.Tuple (exprs_of os)) [] a fresh (quiet_tuple os ok);
  blocks = ap reverse a.finished;
  returned = a.returned;
  asked = a.asked;
  form = form_let (sends (TupleLift k)) (record { gives = refl; calls = refl }) os old new (codes "tuple") n (expr.Tuple (exprs_of os)) [] refl one a;
  results = refl;
  row = λ ts is. lifts_whole old new n os (expr.Tuple (exprs_of os)) a fresh (λ w p vs rs s t h len done are. tuple_gives (setting_for w p) os vs rs s t done are) ts (many ∙ sym is);
}
