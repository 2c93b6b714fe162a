-- Arguments of an export are read, one word after another.
use Rattle.std.proofs.Common.{◌≡◌, ℕ, zero, suc, ◌+◌, List, [], ◌∷◌, ◌++◌, length, refl, sym, ap, ◌∙◌, subst, arith}
use Rattle.std.proofs.lemmas.List.{length-append, length-map}
use Rattle.wit_model.specs.declared.types.TypeDef.{TypeDef}
use Rattle.wrapper_data.specs.declared.word.Word.{Word}
use Rattle.abi_bindgen.specs.declared.instruction.Instruction.TheVariants.{GetArg}
use Rattle.abi_driver.specs.Exports.{ReadsWords}
use Rattle.abi_bindgen.specs.Instructions.{Emits}
use Rattle.abi_bindgen.specs.Laws.{Data, Facts, Sound, Stays, args, core_data, ofs}
use Rattle.abi_bindgen.specs.Meaning.{Meaning, arg, of, word}
use Rattle.abi_bindgen.proofs.Runs.{adds_both, adds_same, core_append, does_both, does_none, ofs_append}

-- a list by its last
pub record Ended {A : Type 0} (n : ℕ) (xs : List A) : Type 0 where
  pub first : List A
  pub last : A
  pub is : xs ≡ first ++ last ∷ []
  pub many : length first ≡ n

ended : {A : Type 0} (n : ℕ) (xs : List A) → length xs ≡ n + 1 → Ended n xs
ended n [] e = absurd (omega (arith, e))
ended n (x ∷ []) e = record { first = []; last = x; is = refl; many = omega (arith, e) }
ended zero (x ∷ y ∷ xs) e = absurd (omega (arith, e))
ended (suc n) (x ∷ y ∷ xs) e =
    let r = ended n (y ∷ xs) (omega (arith, e)) in
    record { first = x ∷ r.first; last = r.last; is = ap (λ ys. x ∷ ys) r.is; many = ap suc r.many }

module _ {Self Operand : Type 0} (m : Meaning Self Operand) (sound : Sound m) (types : List TypeDef) where
  args_append : (n : ℕ) (ds es : Data m) → args m n (ds ++ es) ≡ args m n ds ++ args m (n + length ds) es
  args_append n [] es = let e : n ≡ n + 0 = omega arith in ap (λ k. args m k es) e
  args_append n (d ∷ ds) es =
      let e : suc n + length ds ≡ n + suc (length ds) = omega arith in
      ap (λ fs. arg n d ∷ fs) (args_append (suc n) ds es ∙ ap (λ k. args m (suc n) ds ++ args m k es) e)

  -- words of which so many come first
  pub args_both : (first n : ℕ) (ws xs ys : List Word) → ws ≡ xs ++ ys → length xs ≡ n → args m first (core_data m ws) ≡ args m first (core_data m xs) ++ args m (first + n) (core_data m ys)
  args_both first n ws xs ys is many =
      ap (λ zs. args m first (core_data m zs)) is ∙ ap (args m first) (core_append m xs ys) ∙ args_append first (core_data m xs) (core_data m ys)
      ∙ ap (λ k. args m first (core_data m xs) ++ args m (first + k) (core_data m ys)) (length-map xs (λ w. word w) ∙ many)

  no_words : (first : ℕ) (a : Self) (ws : List Word) → length ws ≡ 0 → Stays m a a (args m first (core_data m ws)) (λ fs. fs ≡ ofs m [] (core_data m ws))
  no_words first a [] e = does_none m a
  no_words first a (x ∷ ws) e = absurd (omega (arith, e))

  pub reads_none : (first : ℕ) (a : Self) → ReadsWords m first 0 [] a a
  reads_none first a = record { adds = adds_same m a; fits = refl; row = no_words first a }

  pub reads_next : (first n : ℕ) (os now : List Operand) (a b c : Self) (o : Operand) → ReadsWords m first n os a b → Emits m types (GetArg (first + n)) [] (o ∷ []) b c → now ≡ os ++ o ∷ [] → ReadsWords m first (n + 1) now a c
  reads_next first n os now a b c o before e is = subst (λ xs. ReadsWords m first (n + 1) xs a c) (sym is) (record {
    adds = adds_both m a b c before.adds e.adds;
    fits = length-append os (o ∷ []) ∙ ap (λ k. k + 1) before.fits;
    row = λ ws len.
        let l = ended n ws len in
        let ds = core_data m l.first in
        let many : length ds ≡ n = length-map l.first (λ w. word w) ∙ l.many in
        let ins : args m first (core_data m ws) ≡ args m first ds ++ arg (first + n) (word l.last) ∷ [] = args_both first n ws l.first (l.last ∷ []) l.is l.many in
        let outs : ofs m (os ++ o ∷ []) (core_data m ws) ≡ ofs m os ds ++ of o (word l.last) ∷ [] =
        ap (λ zs. ofs m (os ++ o ∷ []) (core_data m zs)) l.is ∙ ap (ofs m (os ++ o ∷ [])) (core_append m l.first (l.last ∷ [])) ∙ ofs_append m os (o ∷ []) ds (word l.last ∷ []) (many ∙ sym before.fits) in
        let both = does_both m sound a b c (args m first ds) (arg (first + n) (word l.last) ∷ []) (ofs m os ds) (of o (word l.last) ∷ []) [] [] e.adds (before.row l.first l.many) (e.row (word l.last)) in
        subst (λ fs. Stays m a c fs (λ gs. gs ≡ ofs m (os ++ o ∷ []) (core_data m ws))) (sym ins)
        (subst (λ (fs : Facts m). Stays m a c (args m first ds ++ arg (first + n) (word l.last) ∷ []) (λ gs. gs ≡ fs)) (sym outs) both);
  })
