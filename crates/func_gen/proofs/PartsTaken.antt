-- A value is taken apart: each part is bound by a name of its own.
use Rattle.std.proofs.Common.{rules, ◌≡◌, ℕ, ℤ, suc, ◌+◌, Bool, true, false, cond, not, ◌||◌, List, [], ◌∷◌, ◌++◌, length, map, Option, None, Some, refl, sym, ap, ◌∙◌, subst, arith, append-nil, append_assoc}
use Rattle.std.specs.Prelude.{option_to_list}
use Rattle.std.specs.List.{flat_map}
use Rattle.std.specs.Str.{bytes_eq}
use Rattle.std.proofs.lemmas.Bool.{and_parts, not-true, or_parts}
use Rattle.std.proofs.lemmas.Grind.{flat_map-append}
use Rattle.std.proofs.lemmas.List.Folds.{list_any-append}
use Rattle.std.proofs.lemmas.Slice.Eq.{bytes_eq-Decides}
use Rattle.wit_model.specs.Bytes.{Bytes}
use Rattle.wit_model.specs.Distinct.{is_distinct}
use Rattle.wit_model.specs.declared.types.WitType.{WitType}
use Rattle.wit_model.specs.declared.types.WitType.TheVariants as wit
use Rattle.rust_tree.specs.declared.expr.Expr.{Expr}
use Rattle.rust_tree.specs.declared.expr.Expr.TheVariants as expr
use Rattle.rust_tree.specs.declared.item.Item.{Item}
use Rattle.rust_tree.specs.declared.pattern.Pattern.{Pattern}
use Rattle.rust_tree.specs.declared.stmt.Stmt.TheVariants as stmt
use Rattle.wrapper_data.specs.declared.block.Block.{Block}
use Rattle.wrapper_data.specs.declared.value.RustValue.{RustValue, RustValue-F, fold-RustValue, fold-roll-RustValue, out-RustValue, the_lemmas}
use Rattle.wrapper_data.specs.declared.value.RustValue.TheVariants as value
use Rattle.wrapper_data.specs.declared.value.RustValue.TheVariants.{rolls-Struct}
use Rattle.wrapper_data.specs.declared.word.Word.{Word}
use Rattle.wrapper_data.specs.declared.word.Word.TheVariants as core
use Rattle.wrapper_meaning.specs.Direction.{Direction}
use Rattle.wrapper_meaning.specs.Items.{total}
use Rattle.wrapper_meaning.specs.Shape.{Shapes}
use Rattle.wrapper_meaning.specs.Shape.Shapes.{none, more}
use Rattle.wrapper_meaning.specs.StandsFor as rust
use Rattle.wrapper_meaning.specs.Value.{Parts}
use Rattle.wrapper_meaning.proofs.Lists.{some_same}
use Rattle.wrapper_values.specs.declared.state.Local.{Local}
use Rattle.wrapper_values.specs.declared.state.State.{State}
use Rattle.wrapper_values.specs.declared.state.Val.{Val}
use Rattle.wrapper_values.specs.declared.state.Val.TheVariants as val
use Rattle.wrapper_values.specs.Act as machine
use Rattle.wrapper_values.specs.Act.{and_then, pure}
use Rattle.wrapper_values.specs.Effect.{rust_of, rust_of_word}
use Rattle.std.specs.Option.{option_or}
use Rattle.wrapper_run.specs.Inward.{CallsNothing}
use Rattle.wrapper_run.proofs.InwardCalls.{stmts_quiet}
use Rattle.wrapper_run.proofs.LocalLemmas.{bytes_eq-same, last-append}
use Rattle.wrapper_values.specs.Locals.{local_named}
use Rattle.wrapper_values.specs.Owning.{owned, owned_by, owned_in, taken_by}
use Rattle.wrapper_values.specs.Setting.{Setting}
use Rattle.wrapper_values.specs.Whole.{given_names, parts_of, parts_of_level}
use Rattle.wrapper_run.specs.Run.{run_stmts}
use Rattle.wrapper_run.proofs.PartSteps.{AsMany, part_locals, parts-whole, takes_apart}
use Rattle.abi_bindgen.specs.Laws.{Adds, Stays, item_data, ofs}
use Rattle.abi_bindgen.specs.Meaning.{Fact, item, of}
use Rattle.abi_bindgen.specs.Parts.{PartsStand, count}
use Rattle.func_gen.specs.declared.function_bindgen.FunctionBindgen.{FunctionBindgen}
use Rattle.func_gen.specs.declared.operand.ExprOperand.{ExprOperand}
use Rattle.func_gen.specs.CallForms.{FreshAll}
use Rattle.func_gen.specs.Facts.{AreOwned, Hold}
use Rattle.func_gen.specs.Forms.{operand_of}
use Rattle.func_gen.specs.StandLemmas.{owned-struct}
use Rattle.func_gen.specs.Meaning.{File, IsNormal, Serves, func_meaning, owns_of, passing_level, seen, setting_for}
use Rattle.func_gen.specs.Added.{Appends}
use Rattle.func_gen.specs.Operand.{is_operand}
use Rattle.func_gen.specs.PartForms.{locals_of}
use Rattle.func_gen.specs.Read.{Under, env_of}
use Rattle.func_gen.specs.Scope.{is_used}
use Rattle.func_gen.specs.Slot.{Slot}
use Rattle.func_gen.proofs.CallRows.{split_used}
use Rattle.func_gen.proofs.Lasting.{area_same, bound_under, lasts, part, with_local}
use Rattle.func_gen.proofs.Moving.{uses}
use Rattle.func_gen.proofs.Rows.{same_area}
use Rattle.func_gen.proofs.Steps.{func_adds, ran}
use Rattle.abi_bindgen.specs.Account.{Account}
use Rattle.func_gen.specs.NormalLemmas.{struct_level}
use Rattle.func_gen.proofs.PartRows.{areas_last}
use Rattle.func_gen.proofs.Several.{add_local}
use Rattle.wrapper_meaning.proofs.PostReturn.{total-append}
use Rattle.func_gen.proofs.Declared.{unused_with}
use Rattle.func_gen.proofs.InwardForms.{apart_inward, operand_inward}

-- 1. New locals, one after the other

-- with these names used too
abbrev pub using : FunctionBindgen → List Bytes → FunctionBindgen
using b [] = b
using b (n ∷ ns) = using (record b { scope = record b.scope { used = b.scope.used ++ n ∷ [] } }) ns

pub using_params : (b : FunctionBindgen) (names : List Bytes) → (using b names).params ≡ b.params
using_params b [] = refl
using_params b (n ∷ ns) = using_params (record b { scope = record b.scope { used = b.scope.used ++ n ∷ [] } }) ns

pub using_used : (b : FunctionBindgen) (names : List Bytes) → (using b names).scope.used ≡ b.scope.used ++ names
using_used b [] = sym (append-nil b.scope.used)
using_used b (n ∷ ns) = using_used (record b { scope = record b.scope { used = b.scope.used ++ n ∷ [] } }) ns ∙ append_assoc b.scope.used (n ∷ []) ns

-- each name is free where those before it are used
abbrev pub AllFree : List Bytes → List Bytes → Type 0
AllFree used [] = Unit {0}
AllFree used (n ∷ ns) = (is_used used n ≡ false) × AllFree (used ++ n ∷ []) ns

abbrev with_parts : State → List Bytes → List RustValue → State
with_parts s names rs = record s { locals = s.locals ++ part_locals names rs }

add_locals : (items : List Item) (b : FunctionBindgen) (names : List Bytes) (rs : List RustValue) (facts : List (Fact ExprOperand Slot RustValue)) (s : State) → AllFree b.scope.used names → AsMany names rs → Hold items b facts s
    → Hold items (using b names) (ofs func_meaning (locals_of names) (item_data func_meaning rs) ++ facts) (with_parts s names rs)
add_locals items b [] [] facts s f many h = subst (λ ls. Hold items b facts (record s { locals = ls })) (sym (append-nil s.locals)) h
add_locals items b [] (r ∷ rs) facts s f many h = absurd many
add_locals items b (n ∷ ns) [] facts s f many h = absurd many
add_locals items b (n ∷ ns) (r ∷ rs) facts s f many h =
    let next : FunctionBindgen = record b { scope = record b.scope { used = b.scope.used ++ n ∷ [] } } in
    let first : Fact ExprOperand Slot RustValue = of (operand_of (expr.Local n)) (item r) in
    let others = ofs func_meaning (locals_of ns) (item_data func_meaning rs) in
    let l : Local = record { name = n; value = Some (val.Value r) } in
    let one = add_local items b next facts s n (val.Value r) (item r) refl (record { free = f.0; used = refl }) refl h in
    let later = add_locals items next ns rs (first ∷ facts) (with_local s n (val.Value r)) f.1 many one in
    subst (λ ls. Hold items (using next ns) (first ∷ (others ++ facts)) (record s { locals = ls })) (append_assoc s.locals (l ∷ []) (part_locals ns rs))
    (part items (using next ns) (first ∷ (others ++ facts)) (others ++ (first ∷ facts)) (with_parts (with_local s n (val.Value r)) ns rs) (λ g. omega (arith, total-append g others facts, total-append g others (first ∷ facts))) later)

-- what they own
parts_own : (names : List Bytes) (rs : List RustValue) → AsMany names rs → flat_map (λ (l : Local). owned_in l.value) (part_locals names rs) ≡ taken_by rs
parts_own [] [] h = refl
parts_own [] (r ∷ rs) h = absurd h
parts_own (n ∷ ns) [] h = absurd h
parts_own (n ∷ ns) (r ∷ rs) h = ap (λ xs. owned_by r ++ xs) (parts_own ns rs h)

owns_parts : (g : ℕ → ℕ) (s : State) (names : List Bytes) (rs : List RustValue) → AsMany names rs → total g (owns_of (with_parts s names rs)) ≡ total g (owns_of s) + total g (taken_by rs)
owns_parts g s names rs h =
    let e = ap (total g) (flat_map-append (λ (l : Local). owned_in l.value) s.locals (part_locals names rs)) in
    let f = ap (total g) (parts_own names rs h) in
    let placed = option_to_list s.place in
    let before = flat_map (λ (l : Local). owned_in l.value) s.locals in
    let added = flat_map (λ (l : Local). owned_in l.value) (part_locals names rs) in
    omega (arith, e, f, total-append g before added, total-append g placed before, total-append g placed (flat_map (λ (l : Local). owned_in l.value) (s.locals ++ part_locals names rs)))

-- 2. Parts of a value that passes as it is

normal_parts : (dir : Direction) (rs : List RustValue) → IsNormal dir (value.Struct rs) → map (fold-RustValue RustValue (passing_level dir)) rs ≡ rs
normal_parts dir rs h =
    let f = fold-RustValue RustValue (passing_level dir) in
    let opened : value.Struct (map f rs) ≡ value.Struct rs = sym (ap f (sym (rolls-Struct rs)) ∙ fold-roll-RustValue RustValue (passing_level dir) (RustValue-F.Struct rs) ∙ struct_level dir (map f rs)) ∙ h in
    some_same (map f rs) rs (sym (parts-whole (map f rs)) ∙ ap (λ r. parts_of (val.Value r)) opened ∙ parts-whole rs)

parts_lowered : (dir : Direction) (ts : Shapes) (v : Parts ts) (rs : List RustValue) (own : List Block) → rust.PartsStand 2 dir ts v rs own → map (fold-RustValue RustValue (passing_level dir)) rs ≡ rs → PartsStand func_meaning dir ts v rs own
parts_lowered dir none v rs own h e = h
parts_lowered dir (more t ts) v rs own (r, others, first, rest, is, h, hs, all) e =
    let f = fold-RustValue RustValue (passing_level dir) in
    let both : f r ∷ map f others ≡ r ∷ others = sym (ap (map f) is) ∙ e ∙ is in
    let here : f r ≡ r = cc in
    let later : map f others ≡ others = cc in
    (r, others, first, rest, is, (h, here), parts_lowered dir ts v.1 others rest hs later, all)

parts_many : (dir : Direction) (ts : Shapes) (v : Parts ts) (rs : List RustValue) (own : List Block) → rust.PartsStand 2 dir ts v rs own → length rs ≡ count ts
parts_many dir none v rs own h = ap length h.0
parts_many dir (more t ts) v rs own (r, others, first, rest, is, h, hs, all) = ap length is ∙ ap suc (parts_many dir ts v.1 others rest hs)

-- 3. It makes no call

quiet_apart : (w : Setting) (p : Pattern) (e : Expr) → is_operand e ≡ true → CallsNothing (run_stmts w (stmt.LetParts p e ∷ []))
quiet_apart w p e ok = stmts_quiet w (stmt.LetParts p e ∷ []) (apart_inward e (operand_inward e ok) p)

-- 4. It is the value with these parts

struct_is : (v : Val) (rs : List RustValue) → rust_of v ≡ Some (value.Struct rs) → v ≡ val.Value (value.Struct rs)
struct_is (val.Value r) rs h = ap val.Value (some_same r (value.Struct rs) h)
struct_is (val.Area a n) rs h = absurd cc
struct_is (val.Word x) rs h = absurd (no_word x h)
  where
    none_of : (r : RustValue) → parts_of (val.Value r) ≡ None → r ≡ value.Struct rs → ⊥
    none_of r gone e = let no : (let o : Option (List RustValue) = None in o ≡ Some rs) = sym gone ∙ ap (λ q. parts_of (val.Value q)) e ∙ parts-whole rs in absurd cc

    no_num : (k : WitType) (z : ℤ) → parts_of (val.Value (value.Num k z)) ≡ None
    no_num k z = let opened : out-RustValue (value.Num k z) ≡ RustValue-F.Num k z = search (rules, the_lemmas) in ap parts_of_level opened

    no_word : (x : Word) → rust_of_word x ≡ Some (value.Struct rs) → ⊥
    no_word (core.I32 z) e = none_of (value.Num wit.S32 z) (no_num wit.S32 z) (some_same _ _ e)
    no_word (core.I64 z) e = none_of (value.Num wit.S64 z) (no_num wit.S64 z) (some_same _ _ e)
    no_word (core.F32 z) e = none_of (value.F32 z) (let opened : out-RustValue (value.F32 z) ≡ RustValue-F.F32 z = search (rules, the_lemmas) in ap parts_of_level opened) (some_same _ _ e)
    no_word (core.F64 z) e = none_of (value.F64 z) (let opened : out-RustValue (value.F64 z) ≡ RustValue-F.F64 z = search (rules, the_lemmas) in ap parts_of_level opened) (some_same _ _ e)
    no_word (core.Pointer z) e = absurd cc
    no_word (core.Length z) e = absurd cc
    no_word (core.Slot z) e = absurd cc

as_many : (names : List Bytes) (rs : List RustValue) → length names ≡ length rs → AsMany names rs
as_many [] [] e = tt
as_many [] (r ∷ rs) e = absurd (omega (arith, e))
as_many (n ∷ ns) [] e = absurd (omega (arith, e))
as_many (n ∷ ns) (r ∷ rs) e = as_many ns rs (omega (arith, e))

-- 5. Names

-- a name among others is not one that is none of them
none_of_them : (n k : Bytes) (ns : List Bytes) → is_used ns n ≡ false → is_used ns k ≡ true → bytes_eq n k ≡ false
none_of_them n k ns out there = go (bytes_eq n k) refl
  where
    go : (c : Bool) → bytes_eq n k ≡ c → c ≡ false
    go false e = refl
    go true e = absurd (let no : true ≡ false = sym there ∙ ap (is_used ns) (sym ((bytes_eq-Decides n k).0 e)) ∙ out in cc)

either : (b c : Bool) → c ≡ true → (b || c) ≡ true
either true c e = refl
either false c e = e

pub all_free : (used names : List Bytes) → ((n : Bytes) → is_used names n ≡ true → is_used used n ≡ false) → is_distinct names ≡ true → AllFree used names
all_free used [] f d = tt
all_free used (n ∷ ns) f d =
    let two = and_parts (not (is_used ns n)) (is_distinct ns) d in
    let out = not-true (is_used ns n) two.0 in (
      f n (ap (λ b. b || is_used ns n) (bytes_eq-same n)),
      all_free (used ++ n ∷ []) ns (λ k there. unused_with used n k (f k (either (bytes_eq n k) (is_used ns k) there)) (none_of_them n k ns out there)) two.1,
    )

-- names behind hide none that is not known
parts_under : (s : State) (used names : List Bytes) (rs : List RustValue) → AllFree used names → AsMany names rs → ((k : Bytes) → is_used used k ≡ false → (let o : Option Local = None in local_named k s.locals ≡ o)) → Under (env_of s) (env_of (with_parts s names rs))
parts_under s used [] [] f many within k v h = ap (λ ls. env_of (record s { locals = ls }) k) (append-nil s.locals) ∙ h
parts_under s used [] (r ∷ rs) f many within k v h = absurd many
parts_under s used (n ∷ ns) [] f many within k v h = absurd many
parts_under s used (n ∷ ns) (r ∷ rs) f many within k v h =
    let l : Local = record { name = n; value = Some (val.Value r) } in
    let first = bound_under s n (val.Value r) (within n f.0) k v h in
    let later = parts_under (with_local s n (val.Value r)) (used ++ n ∷ []) ns rs f.1 many (λ m free. within_one used n s (val.Value r) within m free) k v first in
    ap (λ ls. env_of (record s { locals = ls }) k) (sym (append_assoc s.locals (l ∷ []) (part_locals ns rs))) ∙ later
  where
    within_one : (used : List Bytes) (n : Bytes) (s : State) (v : Val) → ((k : Bytes) → is_used used k ≡ false → (let o : Option Local = None in local_named k s.locals ≡ o)) → (m : Bytes) → is_used (used ++ n ∷ []) m ≡ false → (let o : Option Local = None in local_named m (with_local s n v).locals ≡ o)
    within_one used n s v within m free =
        let l : Local = record { name = n; value = Some v } in
        let split = or_parts (is_used used m) (is_used (n ∷ []) m) (sym (list_any-append (λ u. bytes_eq u m) used (n ∷ [])) ∙ free) in
        let other = (or_parts (bytes_eq n m) false split.1).0 in
        last-append (λ (q : Local). bytes_eq q.name m) s.locals l ∙ ap (λ b. option_or (cond b (Some l) None) (local_named m s.locals)) other ∙ within m split.0

-- 6. The row

pub locals_many : (names : List Bytes) → length (locals_of names) ≡ length names
locals_many [] = refl
locals_many (n ∷ ns) = ap suc (locals_many ns)

-- where the pattern gives these names, each once
module _ (old new : FunctionBindgen) (pat : Pattern) (names : List Bytes) (e : Expr) (a : Appends old new (stmt.LetParts pat e ∷ []) []) (fresh : FreshAll old new names)
    (fits : (w : File) → Serves w new → (given_names w.items pat ≡ Some names) × (is_distinct names ≡ true)) where
  pub apart_adds : is_operand e ≡ true → Adds func_meaning old new
  apart_adds ok = func_adds old new (stmt.LetParts pat e ∷ []) [] a (λ k free. (split_used old new names fresh k free).0) (λ w. quiet_apart w pat e ok)

  taken_apart : (rs : List RustValue) → length names ≡ length rs → Stays func_meaning old new (of (operand_of e) (item (value.Struct rs)) ∷ []) (λ fs. fs ≡ ofs func_meaning (locals_of names) (item_data func_meaning rs))
  taken_apart rs len w p others s0 s at =
      let stmts = stmt.LetParts pat e ∷ [] in
      let many = as_many names rs len in
      let here = fits w at.serves in
      let u = uses (setting_for w p) old (operand_of e) (value.Struct rs) others s.machine at.holds.hold in
      let is = struct_is u.given rs u.is in
      let t = with_parts u.then names rs in
      let free = all_free old.scope.used names fresh.free here.1 in
      let under = parts_under u.then old.scope.used names rs free many u.holds.within in
      let added = add_locals w.items old names rs others u.then free many u.holds in
      let facts = ofs func_meaning (locals_of names) (item_data func_meaning rs) in
      let runs : run_stmts (setting_for w p) stmts s.machine ≡ machine.Done tt t =
      ap (λ o. and_then o (λ z. pure tt)) (takes_apart (setting_for w p) pat e names rs s.machine u.then here.0 (u.evaluated ∙ ap (λ v. machine.Done v u.then) is) many) in (
        record { machine = t; area = s.area },
        ran old new stmts [] a w p (of (operand_of e) (item (value.Struct rs)) ∷ others) s0 s at ∙ ap (seen s.area) runs,
        (
          facts,
          refl,
          record {
            account = u.account;
            owns = λ g.
                let x = ap (λ v. total g (owned v)) is in
                let y = ap (total g) (owned-struct rs) in
                omega (arith, x, y, u.owns g, owns_parts g u.then names rs many, total-append g (owns_of t) [], total-append g (owns_of s.machine) []);
            denotes = record {
              hold = lasts w.items (using old names) new (facts ++ others) t t (a.params ∙ sym (using_params old names)) (λ n v h. h)
                  (λ n fr. added.within n (sym (ap (λ us. is_used us n) (fresh.used ∙ sym (using_used old names))) ∙ fr)) added;
              owners = subst (λ (acc : Account RustValue). AreOwned acc.heap.blocks acc.taken) (sym u.account) at.holds.owners;
              area = areas_last new.import w.area s.area new.asked new.area s.machine t (λ k x z h. under k (val.Area x z) (u.areas k x z h)) u.place (area_same w old new s.area s.machine (same_area old new stmts [] a) at.holds.area);
            };
          },
        ),
      )

  -- a value that consists of such parts becomes them
  pub apart_lowers : (ts : Shapes) → length names ≡ count ts → (dir : Direction) (v : Parts ts) (r : RustValue) (own : List Block) → ((rs : List RustValue) × (r ≡ value.Struct rs) × rust.PartsStand 2 dir ts v rs own) → IsNormal dir r
      → (rs : List RustValue) × PartsStand func_meaning dir ts v rs own × Stays func_meaning old new (of (operand_of e) (item r) ∷ []) (λ fs. fs ≡ ofs func_meaning (locals_of names) (item_data func_meaning rs))
  apart_lowers ts many dir v r own (rs, same, stands) normal = (
    rs,
    parts_lowered dir ts v rs own stands (normal_parts dir rs (subst (IsNormal dir) same normal)),
    subst (λ q. Stays func_meaning old new (of (operand_of e) (item q) ∷ []) (λ fs. fs ≡ ofs func_meaning (locals_of names) (item_data func_meaning rs))) (sym same)
        (taken_apart rs (many ∙ sym (parts_many dir ts v rs own stands))),
  )
