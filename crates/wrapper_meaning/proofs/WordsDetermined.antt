-- Words that say a value, with its blocks, say no other.
use Rattle.std.proofs.Common.{◌≡◌, ℕ, suc, ◌%◌, ◌^◌, Bool, true, false, List, [], ◌∷◌, ◌++◌, length, pos, refl, sym, ap, ap₂, subst, arith, ◌∙◌}
use Rattle.std.specs.List.{AllByRecursion}
use mathlib.Core.Logic.{inl, inr}
use Rattle.wit_model.specs.declared.wasm_type.WasmType.{WasmType}
use Rattle.wrapper_data.specs.declared.block.Block.{Block}
use Rattle.wrapper_data.specs.declared.word.Word.{Word}
use Rattle.wrapper_data.specs.declared.word.Word.TheVariants as word
use Rattle.wit_layout.specs.Extent.{Extent}
use Rattle.wit_layout.specs.Flat.{flatten_type, slots, words_of_flags}
use Rattle.wit_layout.specs.Sizes.{elem_size, extent_of}
use Rattle.wrapper_meaning.specs.AsWords.{CaseSays, EachSays, PartsSay, PointerWords, Saying, Says, SaysScalar, flag_bits}
use Rattle.wrapper_meaning.specs.Buffer.{Contents, IsPlaced}
use Rattle.wrapper_meaning.specs.Direction.{Direction}
use Rattle.wrapper_meaning.specs.InMemory.{EachHolds, EntryHolds, Holds, TextHolds, entry_extent, text_extent, value_place}
use Rattle.wrapper_meaning.specs.InRange.{AreListed, IsListed, IsListedCase}
use Rattle.wrapper_meaning.specs.Kinds.{is_plain}
use Rattle.wrapper_meaning.specs.Laws.{IsWellPlaced, WordsDetermine}
use Rattle.wrapper_meaning.specs.Layout.{layout, layouts}
use Rattle.wrapper_meaning.specs.Shape.{Shape, Shapes}
use Rattle.wrapper_meaning.specs.Shape.Shape.{scalar, text, list, pairs, fixed, fields, tuple, cases, flags, handle, resource, other}
use Rattle.wrapper_meaning.specs.Shape.Shapes.{none, more}
use Rattle.wrapper_meaning.specs.Value.{Case, case_number}
use Rattle.wrapper_meaning.specs.Words.{AreWords, read_slots}
use Rattle.wrapper_meaning.proofs.Lists.{append_both, first_or, later}
use Rattle.wrapper_meaning.proofs.MemoryDetermined.{Elements, Same, buffer_determined, holds_determined, list_known, map_known, text_known}
use Rattle.wrapper_meaning.proofs.WordScalars.{case_same, handle_same, word_same}

-- two values of a sort are the same, and so are their words, their blocks, and what comes behind these
pub record SameSaid (A : Type 0) (u v : A) (ws zs w' z' : List Word) (xs ys r s : List Block) : Type 0 where
  pub values : u ≡ v
  pub words : ws ≡ zs
  pub behind : w' ≡ z'
  pub blocks : xs ≡ ys
  pub rest : r ≡ s

abbrev pub Decides : {A : Type 0} → (A → Saying) → (A → Type 0) → Type 0
Decides {A} says good = (u v : A) (ws zs w' z' : List Word) (xs ys r s : List Block)
    → says u ws xs → says v zs ys → ws ++ w' ≡ zs ++ z' → xs ++ r ≡ ys ++ s → good u → good v → SameSaid A u v ws zs w' z' xs ys r s

-- as many words each, so that what comes behind is the same
same_split : (ws zs w' z' : List Word) → length ws ≡ length zs → ws ++ w' ≡ zs ++ z' → (ws ≡ zs) × (w' ≡ z')
same_split [] [] w' z' n e = (refl, e)
same_split [] (z ∷ zs) w' z' n e = absurd (omega (n, arith))
same_split (x ∷ ws) [] w' z' n e = absurd (omega (n, arith))
same_split (x ∷ ws) (z ∷ zs) w' z' n e =
    let rest = same_split ws zs w' z' (omega (n, arith)) (ap later e) in
    (ap₂ (λ a c. a ∷ c) (ap (first_or x) e) rest.0, rest.1)

pub are_words-length : (w : ℕ) (types : List WasmType) (ws : List Word) → AreWords w types ws → length ws ≡ length types
are_words-length w [] ws h = ap length h
are_words-length w (ty ∷ types) [] h = elim h [ ]
are_words-length w (ty ∷ types) (x ∷ ws) h = ap suc (are_words-length w types ws h.1)

both_words : (w : ℕ) (types : List WasmType) (ws zs w' z' : List Word) → AreWords w types ws → AreWords w types zs → ws ++ w' ≡ zs ++ z' → (ws ≡ zs) × (w' ≡ z')
both_words w types ws zs w' z' hw hz e = same_split ws zs w' z' (are_words-length w types ws hw ∙ sym (are_words-length w types zs hz)) e

no_blocks : (xs ys r s : List Block) → xs ≡ [] → ys ≡ [] → xs ++ r ≡ ys ++ s → (xs ≡ ys) × (r ≡ s)
no_blocks xs ys r s hx hy e = (hx ∙ sym hy, ap (λ x. x ++ r) (sym hx) ∙ e ∙ ap (λ y. y ++ s) hy)

-- one word each
one_each : (x z : Word) (ws zs w' z' : List Word) → ws ≡ x ∷ [] → zs ≡ z ∷ [] → ws ++ w' ≡ zs ++ z' → (x ≡ z) × (ws ≡ zs) × (w' ≡ z')
one_each x z ws zs w' z' hw hz e =
    let whole : x ∷ w' ≡ z ∷ z' = ap (λ a. a ++ w') (sym hw) ∙ e ∙ ap (λ a. a ++ z') hz in
    (ap (first_or x) whole, hw ∙ ap (λ a. a ∷ []) (ap (first_or x) whole) ∙ sym hz, ap later whole)

each_decided : {A : Type 0} (says : A → Saying) (good : A → Type 0) → Decides says good → (us vs : List A) (ws zs w' z' : List Word) (xs ys r s : List Block) → length us ≡ length vs
    → EachSays says us ws xs → EachSays says vs zs ys → ws ++ w' ≡ zs ++ z' → xs ++ r ≡ ys ++ s → AllByRecursion good us → AllByRecursion good vs → SameSaid (List A) us vs ws zs w' z' xs ys r s
each_decided says good det [] [] ws zs w' z' xs ys r s n hu hv e d gu gv =
    record { values = refl; words = hu.0 ∙ sym hv.0; behind = ap (λ x. x ++ w') (sym hu.0) ∙ e ∙ ap (λ y. y ++ z') hv.0; blocks = hu.1 ∙ sym hv.1; rest = ap (λ x. x ++ r) (sym hu.1) ∙ d ∙ ap (λ y. y ++ s) hv.1 }
each_decided says good det [] (v ∷ vs) ws zs w' z' xs ys r s n hu hv e d gu gv = absurd (omega (n, arith))
each_decided says good det (u ∷ us) [] ws zs w' z' xs ys r s n hu hv e d gu gv = absurd (omega (n, arith))
each_decided says good det (u ∷ us) (v ∷ vs) ws zs w' z' xs ys r s n (a, c, f, g, hu, hus, wu, xu) (a', c', f', g', hv, hvs, wv, xv) e d gu gv =
    let one = det u v a a' (c ++ w') (c' ++ z') f f' (g ++ r) (g' ++ s) hu hv (append_both ws a c w' zs a' c' z' wu wv e) (append_both xs f g r ys f' g' s xu xv d) gu.0 gv.0 in
    let two = each_decided says good det us vs c c' w' z' g g' r s (omega (n, arith)) hus hvs one.behind one.rest gu.1 gv.1 in
    record { values = ap₂ (λ p q. p ∷ q) one.values two.values; words = wu ∙ ap₂ (λ p q. p ++ q) one.words two.words ∙ sym wv; behind = two.behind; blocks = xu ∙ ap₂ (λ p q. p ++ q) one.blocks two.blocks ∙ sym xv; rest = two.rest }

address_in : Word → ℕ
address_in (word.Pointer p) = p
address_in _ = 0

count_in : Word → ℕ
count_in (word.Length n) = n
count_in _ = 0

pointer_same : (p q : ℕ) → word.Pointer p ≡ word.Pointer q → p ≡ q
unfolding address_in
pointer_same p q e = ap address_in e

length_same : (m n : ℕ) → word.Length m ≡ word.Length n → m ≡ n
unfolding count_in
length_same m n e = ap count_in e

module _ (w : ℕ) (dir : Direction) (well : IsWellPlaced dir) where
  points_decided : {A : Type 0} (contents : List A → Contents) (good : List A → Type 0) (plain : Bool) (x : Extent) → Elements contents good x.bytes → Decides (λ us. PointerWords w dir plain (length us) x (contents us)) good
  points_decided contents good plain x known us vs ws zs w' z' xs ys r s hu hv e d gu gv =
      let whole : word.Pointer hu.address ∷ word.Length (length us) ∷ w' ≡ word.Pointer hv.address ∷ word.Length (length vs) ∷ z' = ap (λ a. a ++ w') (sym hu.pair) ∙ e ∙ ap (λ a. a ++ z') hv.pair in
      let same_place = pointer_same hv.address hu.address (ap (first_or (word.Pointer hv.address)) (sym whole)) in
      let same_length = length_same (length us) (length vs) (ap (first_or (word.Length (length us))) (ap later whole)) in
      let all = buffer_determined dir well plain contents good x.bytes known hu.address us vs xs ys r s same_length hu.buffer.placed (subst (λ a. IsPlaced dir plain a (length vs) x.bytes (contents vs) ys) same_place hv.buffer.placed) d gu gv in
      record { values = all.values; words = hu.pair ∙ ap₂ (λ a n. word.Pointer a ∷ word.Length n ∷ []) (sym same_place) same_length ∙ sym hv.pair; behind = ap later (ap later whole); blocks = all.blocks; rest = all.rest }

  mutual
    pub says_decided : (t : Shape) → Decides (Says w dir t) (IsListed t)
    says_decided (scalar c) u v ws zs w' z' xs ys r s (x, wu, hu, xu) (z, wv, hv, xv) e d gu gv =
        let (same, words, behind) = one_each x z ws zs w' z' wu wv e in
        let (blocks, rest) = no_blocks xs ys r s xu xv d in
        record { values = word_same dir c u v z gu gv (subst (λ a. SaysScalar dir c u a) same hu) hv; words = words; behind = behind; blocks = blocks; rest = rest }
    says_decided text u v ws zs w' z' xs ys r s hu hv e d gu gv =
        points_decided TextHolds (λ us. Unit {0}) true text_extent text_known u v ws zs w' z' xs ys r s hu hv e d tt tt
    says_decided (list t) u v ws zs w' z' xs ys r s hu hv e d gu gv =
        points_decided (EachHolds (Holds w dir t) (elem_size w (layout t))) (AllByRecursion (IsListed t)) (is_plain t) (extent_of w (layout t)) (list_known w dir well t (holds_determined w dir well t)) u v ws zs w' z' xs ys r s hu hv e d gu gv
    says_decided (pairs x y) u v ws zs w' z' xs ys r s hu hv e d gu gv =
        points_decided (EachHolds (EntryHolds (Holds w dir x) (Holds w dir y) (value_place w x y)) (entry_extent w x y).bytes) (AllByRecursion (λ p. IsListed x p.0 × IsListed y p.1)) false (entry_extent w x y)
        (map_known w dir well x y (holds_determined w dir well x) (holds_determined w dir well y)) u v ws zs w' z' xs ys r s hu hv e d gu gv
    says_decided (fixed t n) u v ws zs w' z' xs ys r s hu hv e d gu gv =
        each_decided (Says w dir t) (IsListed t) (says_decided t) u v ws zs w' z' xs ys r s (gu.0 ∙ sym gv.0) hu hv e d gu.1 gv.1
    says_decided (fields ts) u v ws zs w' z' xs ys r s hu hv e d gu gv = parts_decided ts u v ws zs w' z' xs ys r s hu hv e d gu gv
    says_decided (tuple ts) u v ws zs w' z' xs ys r s hu hv e d gu gv = parts_decided ts u v ws zs w' z' xs ys r s hu hv e d gu gv
    says_decided (cases ts) u v ws zs w' z' xs ys r s (sh, wu, ku, hu) (sh', wv, kv, hv) e d gu gv =
        let whole : word.I32 (pos (case_number ts u)) ∷ (sh ++ w') ≡ word.I32 (pos (case_number ts v)) ∷ (sh' ++ z') = ap (λ a. a ++ w') (sym wu) ∙ e ∙ ap (λ a. a ++ z') wv in
        let number = case_same (case_number ts u) (case_number ts v) (ap (first_or (word.I32 (pos 0))) whole) in
        let (shared, behind) = both_words w (slots (layouts ts)) sh sh' w' z' ku kv (ap later whole) in
        let payload = case_decided ts u v number sh' xs ys r s (subst (λ a. CaseSays w dir ts u a xs) shared hu) hv d gu gv in
        record { values = payload.values; words = wu ∙ ap₂ (λ n a. word.I32 (pos n) ∷ a) number shared ∙ sym wv; behind = behind; blocks = payload.blocks; rest = payload.rest }
    says_decided (flags n) u v ws zs w' z' xs ys r s (wu, hu, xu) (wv, hv, xv) e d gu gv =
        let (words, behind) = both_words w (words_of_flags n) ws zs w' z' wu wv e in
        let (blocks, rest) = no_blocks xs ys r s xu xv d in
        record { values = hu ∙ ap (λ a. flag_bits a % 2 ^ n) words ∙ sym hv; words = words; behind = behind; blocks = blocks; rest = rest }
    says_decided (handle own number) u v ws zs w' z' xs ys r s (wu, xu) (wv, xv) e d gu gv =
        let (same, words, behind) = one_each _ _ ws zs w' z' wu wv e in
        let (blocks, rest) = no_blocks xs ys r s xu xv d in
        record { values = handle_same u v gu.1 gv.1 same; words = words; behind = behind; blocks = blocks; rest = rest }
    says_decided (resource number) u v ws zs w' z' xs ys r s hu hv e d gu gv = elim hu [ ]
    says_decided other u v ws zs w' z' xs ys r s hu hv e d gu gv = elim hu [ ]

    pub parts_decided : (ts : Shapes) → Decides (PartsSay w dir ts) (AreListed ts)
    parts_decided none u v ws zs w' z' xs ys r s hu hv e d gu gv =
        record { values = refl; words = hu.0 ∙ sym hv.0; behind = ap (λ x. x ++ w') (sym hu.0) ∙ e ∙ ap (λ y. y ++ z') hv.0; blocks = hu.1 ∙ sym hv.1; rest = ap (λ x. x ++ r) (sym hu.1) ∙ d ∙ ap (λ y. y ++ s) hv.1 }
    parts_decided (more t ts) u v ws zs w' z' xs ys r s (a, c, f, g, hu, hus, wu, xu) (a', c', f', g', hv, hvs, wv, xv) e d gu gv =
        let one = says_decided t u.0 v.0 a a' (c ++ w') (c' ++ z') f f' (g ++ r) (g' ++ s) hu hv (append_both ws a c w' zs a' c' z' wu wv e) (append_both xs f g r ys f' g' s xu xv d) gu.0 gv.0 in
        let two = parts_decided ts u.1 v.1 c c' w' z' g g' r s hus hvs one.behind one.rest gu.1 gv.1 in
        record { values = ap₂ (λ p q. (p, q)) one.values two.values; words = wu ∙ ap₂ (λ p q. p ++ q) one.words two.words ∙ sym wv; behind = two.behind; blocks = xu ∙ ap₂ (λ p q. p ++ q) one.blocks two.blocks ∙ sym xv; rest = two.rest }

    pub case_decided : (ts : Shapes) (u v : Case ts) → case_number ts u ≡ case_number ts v → (shared : List Word) (xs ys r s : List Block)
        → CaseSays w dir ts u shared xs → CaseSays w dir ts v shared ys → xs ++ r ≡ ys ++ s → IsListedCase ts u → IsListedCase ts v → Same (Case ts) u v xs ys r s
    case_decided none u v n shared xs ys r s hu hv d gu gv = elim u [ ]
    case_decided (more t ts) (inl u) (inl v) n shared xs ys r s hu hv d gu gv =
        let one = says_decided t u v (read_slots w (flatten_type (layout t)) shared) (read_slots w (flatten_type (layout t)) shared) [] [] xs ys r s hu.0 hv.0 refl d gu gv in
        record { values = ap inl one.values; blocks = one.blocks; rest = one.rest }
    case_decided (more t ts) (inl u) (inr v) n shared xs ys r s hu hv d gu gv = absurd (omega (n, arith))
    case_decided (more t ts) (inr u) (inl v) n shared xs ys r s hu hv d gu gv = absurd (omega (n, arith))
    case_decided (more t ts) (inr u) (inr v) n shared xs ys r s hu hv d gu gv =
        let one = case_decided ts u v (omega (n, arith)) shared xs ys r s hu hv d gu gv in
        record { values = ap inr one.values; blocks = one.blocks; rest = one.rest }

pub words_determine : WordsDetermine
words_determine w dir t u v words blocks well gu gv hu hv = (says_decided w dir well t u v words words [] [] blocks blocks [] [] hu hv refl refl gu gv).values
