-- What a match gives gets names: new locals denote these data.
use Rattle.std.proofs.Common.{◌≡◌, ◌+◌, ◌++◌, ℕ, suc, Bool, true, false, cond, List, [], ◌∷◌, length, map, Option, None, Some, refl, sym, ap, ◌∙◌, subst, arith, append-nil, append_assoc}
use Rattle.std.specs.Prelude.{option_and_then, option_map, option_to_list}
use Rattle.std.specs.List.{flat_map}
use Rattle.std.proofs.lemmas.Bool.{or_parts}
use Rattle.std.proofs.lemmas.Grind.{flat_map-append}
use Rattle.std.proofs.lemmas.List.Folds.{list_any-append}
use Rattle.std.specs.Option.{option_or}
use Rattle.std.specs.Str.{bytes_eq}
use Rattle.wit_model.specs.Bytes.{Bytes}
use Rattle.rust_tree.specs.declared.expr.Expr.TheVariants as expr
use Rattle.rust_tree.specs.declared.item.Item.{Item}
use Rattle.wrapper_data.specs.declared.value.RustValue.{RustValue}
use Rattle.wrapper_data.specs.declared.word.Word.{Word}
use Rattle.wrapper_meaning.specs.Items.{total}
use Rattle.wrapper_meaning.proofs.PostReturn.{total-append}
use Rattle.wrapper_values.specs.declared.state.Local.{Local}
use Rattle.wrapper_values.specs.declared.state.State.{State}
use Rattle.wrapper_values.specs.declared.state.Val.{Val}
use Rattle.wrapper_values.specs.declared.state.Val.TheVariants as val
use Rattle.wrapper_values.specs.Act as machine
use Rattle.wrapper_values.specs.Act.{Done, and_then}
use Rattle.wrapper_values.specs.Locals.{bind, local_named, usable}
use Rattle.wrapper_values.specs.Matches.{bind_results, bind_values}
use Rattle.wrapper_values.specs.Owning.{owned, owned_in}
use Rattle.wrapper_values.specs.Setting.{Setting}
use Rattle.wrapper_run.specs.Run.{bound}
use Rattle.wrapper_run.proofs.LocalLemmas.{last-append}
use Rattle.abi_bindgen.specs.Arms.{gives_words}
use Rattle.abi_bindgen.specs.Blocks.{owned_datum}
use Rattle.abi_bindgen.specs.Laws.{Data, ofs}
use Rattle.abi_bindgen.specs.Meaning.{Datum, Fact, item, of, word}
use Rattle.func_gen.specs.declared.function_bindgen.FunctionBindgen.{FunctionBindgen}
use Rattle.func_gen.specs.declared.operand.ExprOperand.{ExprOperand}
use Rattle.func_gen.specs.Facts.{Hold, val_of}
use Rattle.func_gen.specs.Finished.{data_of, datum_of}
use Rattle.func_gen.specs.Forms.{operand_of}
use Rattle.func_gen.specs.MatchForms.{match_names}
use Rattle.func_gen.specs.Meaning.{func_meaning, owns_of}
use Rattle.func_gen.specs.PartForms.{locals_of}
use Rattle.func_gen.specs.Read.{Under, env_of, item_of}
use Rattle.func_gen.specs.Scope.{is_used}
use Rattle.func_gen.specs.Slot.{Slot}
use Rattle.func_gen.proofs.Lasting.{bound_under, part, with_local}
use Rattle.func_gen.proofs.PartsTaken.{AllFree, using}
use Rattle.func_gen.proofs.Several.{add_local}

-- 1. Values that are data

abbrev pub vals_of : Data func_meaning → List Val
vals_of ds = map val_of ds

word_datum : (kept : Bool) (v : Val) (x : Word) → datum_of kept v ≡ Some (word x) → v ≡ val.Word x
word_datum false (val.Word y) x h = let is : (let d : Datum RustValue = word y in d) ≡ word x = cc in ap val_of is
word_datum false (val.Value r) x h = absurd cc
word_datum false (val.Area a n) x h = absurd cc
word_datum true v x h = absurd (none_kept (item_of v) h)
  where
    none_kept : (o : Option RustValue) → option_map (λ r. item r) o ≡ Some (word x) → ⊥
    none_kept None k = cc
    none_kept (Some r) k = cc

-- of operands that give words the values are the words: a word that is kept as a number is none
pub words_data : (os : List ExprOperand) (vs : List Val) (ds : Data func_meaning) → gives_words func_meaning ds ≡ true → data_of os vs ≡ Some ds → (vs ≡ vals_of ds) × (length ds ≡ length os)
words_data [] [] ds fit h = let is : (let none : Data func_meaning = [] in none) ≡ ds = cc in (ap vals_of is, ap length (sym is))
words_data [] (v ∷ vs) ds fit h = absurd cc
words_data (o ∷ os) [] ds fit h = absurd cc
words_data (o ∷ os) (v ∷ vs) ds fit h = go (λ rest given known. words_data os vs rest given known) (datum_of o.kept v) refl (data_of os vs) refl h
  where
    go : ((rest : Data func_meaning) → gives_words func_meaning rest ≡ true → data_of os vs ≡ Some rest → (vs ≡ vals_of rest) × (length rest ≡ length os)) → (one : Option (Datum RustValue)) → datum_of o.kept v ≡ one → (more : Option (Data func_meaning)) → data_of os vs ≡ more
        → option_and_then (λ d. option_map (λ ds. d ∷ ds) more) one ≡ Some ds → (v ∷ vs ≡ vals_of ds) × (length ds ≡ length (o ∷ os))
    go others None a more b k = absurd cc
    go others (Some d) a None b k = absurd cc
    go others (Some (item r)) a (Some rest) b k = absurd (let is : item r ∷ rest ≡ ds = cc in let no : false ≡ true = ap (gives_words func_meaning) is ∙ fit in cc)
    go others (Some (word x)) a (Some rest) b k =
        let is : word x ∷ rest ≡ ds = cc in
        let first = word_datum o.kept v x a in
        let later = others rest (ap (gives_words func_meaning) is ∙ fit) b in
        (ap (λ y. y ∷ vs) first ∙ ap (λ xs. val.Word x ∷ xs) later.0 ∙ ap vals_of is, ap length (sym is) ∙ ap suc later.1)

-- 2. They are bound

abbrev pub with_data : State → List Bytes → Data func_meaning → State
with_data s names ds = record s { locals = s.locals ++ bound names (vals_of ds) }

binds_values : (w : Setting) (names : List Bytes) (ds : Data func_meaning) (s : State) → length names ≡ length ds → bind_values w names (vals_of ds) s ≡ Done tt (with_data s names ds)
unfolding bind
binds_values w [] [] s e = ap (λ ls. Done tt (record s { locals = ls })) (sym (append-nil s.locals))
binds_values w [] (d ∷ ds) s e = absurd (omega (arith, e))
binds_values w (n ∷ names) [] s e = absurd (omega (arith, e))
binds_values w (n ∷ names) (d ∷ ds) s e =
    let l : Local = record { name = n; value = Some (val_of d) } in
    binds_values w names ds (with_local s n (val_of d)) (omega (arith, e)) ∙ ap (λ ls. Done tt (record s { locals = ls })) (append_assoc s.locals (l ∷ []) (bound names (vals_of ds)))

-- as the results of an arm
pub binds_data : (w : Setting) (names : List Bytes) (ds : Data func_meaning) (s : State) → length names ≡ length ds → bind_results w (match_names names) (vals_of ds) s ≡ Done tt (with_data s names ds)
binds_data w [] ds s e = binds_values w [] ds s e
binds_data w (n ∷ []) [] s e = absurd (omega (arith, e))
binds_data w (n ∷ []) (d ∷ []) s e = ones (bind n (val_of d) s) (binds_values w (n ∷ []) (d ∷ []) s e)
  where
    ones : (o : machine.Outcome (Unit {0})) → and_then o (λ _. machine.pure (tt {0})) ≡ Done tt (with_data s (n ∷ []) (d ∷ [])) → o ≡ Done tt (with_data s (n ∷ []) (d ∷ []))
    ones (machine.Done u t) k = k
    ones (machine.Stopped x t) k = absurd cc
binds_data w (n ∷ []) (d ∷ d2 ∷ ds) s e = absurd (omega (arith, e))
binds_data w (n ∷ m ∷ names) ds s e = binds_values w (n ∷ m ∷ names) ds s e

-- 3. What they denote

says_datum : (d : Datum RustValue) → option_and_then usable (Some (val_of d)) ≡ Some (val_of d)
says_datum (word x) = refl
says_datum (item r) = refl

pub add_data : (items : List Item) (b : FunctionBindgen) (names : List Bytes) (ds : Data func_meaning) (facts : List (Fact ExprOperand Slot RustValue)) (s : State) → AllFree b.scope.used names → length names ≡ length ds → Hold items b facts s
    → Hold items (using b names) (ofs func_meaning (locals_of names) ds ++ facts) (with_data s names ds)
add_data items b [] [] facts s f many h = subst (λ ls. Hold items b facts (record s { locals = ls })) (sym (append-nil s.locals)) h
add_data items b [] (d ∷ ds) facts s f many h = absurd (omega (arith, many))
add_data items b (n ∷ ns) [] facts s f many h = absurd (omega (arith, many))
add_data items b (n ∷ ns) (d ∷ ds) facts s f many h =
    let next : FunctionBindgen = record b { scope = record b.scope { used = b.scope.used ++ n ∷ [] } } in
    let first : Fact ExprOperand Slot RustValue = of (operand_of (expr.Local n)) d in
    let others = ofs func_meaning (locals_of ns) ds in
    let l : Local = record { name = n; value = Some (val_of d) } in
    let one = add_local items b next facts s n (val_of d) d refl (record { free = f.0; used = refl }) (says_datum d) h in
    let later = add_data items next ns ds (first ∷ facts) (with_local s n (val_of d)) f.1 (omega (arith, many)) one in
    subst (λ ls. Hold items (using next ns) (first ∷ (others ++ facts)) (record s { locals = ls })) (append_assoc s.locals (l ∷ []) (bound ns (vals_of ds)))
    (part items (using next ns) (first ∷ (others ++ facts)) (others ++ (first ∷ facts)) (with_data (with_local s n (val_of d)) ns ds) (λ g. omega (arith, total-append g others facts, total-append g others (first ∷ facts))) later)

-- what they own

owns_datum : (d : Datum RustValue) → owned (val_of d) ≡ owned_datum func_meaning d
owns_datum (word x) = refl
owns_datum (item r) = refl

data_own : (names : List Bytes) (ds : Data func_meaning) → length names ≡ length ds → flat_map (λ (l : Local). owned_in l.value) (bound names (vals_of ds)) ≡ flat_map (owned_datum func_meaning) ds
data_own [] [] e = refl
data_own [] (d ∷ ds) e = absurd (omega (arith, e))
data_own (n ∷ names) [] e = absurd (omega (arith, e))
data_own (n ∷ names) (d ∷ ds) e = ap (λ xs. xs ++ flat_map (λ (l : Local). owned_in l.value) (bound names (vals_of ds))) (owns_datum d) ∙ ap (λ xs. owned_datum func_meaning d ++ xs) (data_own names ds (omega (arith, e)))

pub owns_data : (g : ℕ → ℕ) (s : State) (names : List Bytes) (ds : Data func_meaning) → length names ≡ length ds → total g (owns_of (with_data s names ds)) ≡ total g (owns_of s) + total g (flat_map (owned_datum func_meaning) ds)
owns_data g s names ds many =
    let e = ap (total g) (flat_map-append (λ (l : Local). owned_in l.value) s.locals (bound names (vals_of ds))) in
    let f = ap (total g) (data_own names ds many) in
    let placed = option_to_list s.place in
    let before = flat_map (λ (l : Local). owned_in l.value) s.locals in
    let added = flat_map (λ (l : Local). owned_in l.value) (bound names (vals_of ds)) in
    omega (arith, e, f, total-append g before added, total-append g placed before, total-append g placed (flat_map (λ (l : Local). owned_in l.value) (s.locals ++ bound names (vals_of ds))))

-- names behind hide none that is not known
pub data_under : (s : State) (used names : List Bytes) (ds : Data func_meaning) → AllFree used names → length names ≡ length ds → ((k : Bytes) → is_used used k ≡ false → (let o : Option Local = None in local_named k s.locals ≡ o)) → Under (env_of s) (env_of (with_data s names ds))
data_under s used [] [] f many within k v h = ap (λ ls. env_of (record s { locals = ls }) k) (append-nil s.locals) ∙ h
data_under s used [] (d ∷ ds) f many within k v h = absurd (omega (arith, many))
data_under s used (n ∷ ns) [] f many within k v h = absurd (omega (arith, many))
data_under s used (n ∷ ns) (d ∷ ds) f many within k v h =
    let l : Local = record { name = n; value = Some (val_of d) } in
    let first = bound_under s n (val_of d) (within n f.0) k v h in
    let later = data_under (with_local s n (val_of d)) (used ++ n ∷ []) ns ds f.1 (omega (arith, many)) (λ m free. within_one m free) k v first in
    ap (λ ls. env_of (record s { locals = ls }) k) (sym (append_assoc s.locals (l ∷ []) (bound ns (vals_of ds)))) ∙ later
  where
    within_one : (m : Bytes) → is_used (used ++ n ∷ []) m ≡ false → (let o : Option Local = None in local_named m (with_local s n (val_of d)).locals ≡ o)
    within_one m free =
        let l : Local = record { name = n; value = Some (val_of d) } in
        let split = or_parts (is_used used m) (is_used (n ∷ []) m) (sym (list_any-append (λ u. bytes_eq u m) used (n ∷ [])) ∙ free) in
        let other = (or_parts (bytes_eq n m) false split.1).0 in
        last-append (λ (q : Local). bytes_eq q.name m) s.locals l ∙ ap (λ b. option_or (let o : Option Local = cond b (Some l) None in o) (local_named m s.locals)) other ∙ within m split.0
