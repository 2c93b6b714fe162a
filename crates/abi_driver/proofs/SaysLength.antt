-- A value is said by as many words as its shape has core words.
use Rattle.std.proofs.Common.{◌≡◌, ℕ, suc, ◌+◌, List, [], ◌∷◌, length, refl, sym, ap, ◌∙◌, arith}
use Rattle.std.specs.List.{AllByRecursion}
use Rattle.std.proofs.lemmas.List.{length-append}
use Rattle.wit_model.specs.declared.wasm_type.WasmType.{WasmType}
use Rattle.wit_layout.specs.Flat.{flatten_record, flatten_type, repeated, slots, words_of_flags}
use Rattle.wrapper_data.specs.declared.block.Block.{Block}
use Rattle.wrapper_data.specs.declared.word.Word.{Word}
use Rattle.wrapper_meaning.specs.AsWords.{EachSays, PartsSay, Says, Saying}
use Rattle.wrapper_meaning.specs.Direction.{Direction}
use Rattle.wrapper_meaning.specs.InRange.{AreListed, IsListed}
use Rattle.wrapper_meaning.specs.Layout.{layout, layouts}
use Rattle.wrapper_meaning.specs.Shape.{Shape, Shapes}
use Rattle.wrapper_meaning.specs.Shape.Shape.{scalar, text, list, pairs, fixed, fields, tuple, cases, flags, handle, resource, other}
use Rattle.wrapper_meaning.specs.Shape.Shapes.{none, more}
use Rattle.wrapper_meaning.specs.Value.{Parts, Value}
use Rattle.wrapper_meaning.proofs.WordsDetermined.{are_words-length}

repeated_length : (n : ℕ) (cs : List WasmType) → length (repeated (suc n) cs) ≡ length cs + length (repeated n cs)
unfolding repeated
repeated_length n cs = length-append cs (repeated n cs)

repeated_none : (cs : List WasmType) → length (repeated 0 cs) ≡ 0
unfolding repeated
repeated_none cs = refl

each_length : {A : Type 0} (says : A → Saying) (good : A → Type 0) (cs : List WasmType) → ((v : A) (ws : List Word) (own : List Block) → good v → says v ws own → length ws ≡ length cs)
    → (vs : List A) (ws : List Word) (own : List Block) → AllByRecursion good vs → EachSays says vs ws own → length ws ≡ length (repeated (length vs) cs)
each_length says good cs one [] ws own g h = ap length h.0 ∙ sym (repeated_none cs)
each_length says good cs one (v ∷ vs) ws own g h =
    ap length h.6 ∙ length-append h.0 h.1 ∙ omega (arith, one v h.0 h.2 g.0 h.4, each_length says good cs one vs h.1 h.3 g.1 h.5, repeated_length (length vs) cs)

module _ (w : ℕ) (dir : Direction) where
  mutual
    pub says_length : (t : Shape) (v : Value t) (ws : List Word) (own : List Block) → IsListed t v → Says w dir t v ws own → length ws ≡ length (flatten_type (layout t))
    says_length (scalar s) v ws own g h = ap length h.1
    says_length text v ws own g h = ap length h.pair
    says_length (list t) v ws own g h = ap length h.pair
    says_length (pairs k x) v ws own g h = ap length h.pair
    says_length (fixed t n) vs ws own g h =
        each_length (Says w dir t) (IsListed t) (flatten_type (layout t)) (λ v ws own g h. says_length t v ws own g h) vs ws own g.1 h ∙ ap (λ k. length (repeated k (flatten_type (layout t)))) g.0
    says_length (fields ts) v ws own g h = parts_length ts v ws own g h
    says_length (tuple ts) v ws own g h = parts_length ts v ws own g h
    says_length (cases ts) v ws own g h = ap length h.1 ∙ ap suc (are_words-length w (slots (layouts ts)) h.0 h.2)
    says_length (flags n) v ws own g h = are_words-length w (words_of_flags n) ws h.0
    says_length (handle owns n) v ws own g h = ap length h.0
    says_length (resource n) v ws own g h = absurd h
    says_length other v ws own g h = absurd h

    pub parts_length : (ts : Shapes) (v : Parts ts) (ws : List Word) (own : List Block) → AreListed ts v → PartsSay w dir ts v ws own → length ws ≡ length (flatten_record (layouts ts))
    parts_length none v ws own g h = ap length h.0
    parts_length (more t ts) v ws own g h =
        ap length h.6 ∙ length-append h.0 h.1 ∙ omega (arith, says_length t v.0 h.0 h.2 g.0 h.4, parts_length ts v.1 h.1 h.3 g.1 h.5, length-append (flatten_type (layout t)) (flatten_record (layouts ts)))
