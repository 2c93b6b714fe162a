-- Arguments become words, one after another.
use Rattle.std.proofs.Common.{◌≡◌, ℕ, suc, ◌+◌, ◌<◌, Option, None, Some, false, List, [], ◌∷◌, ◌++◌, length, drop, refl, sym, ap, ap₂, ◌∙◌, subst, arith, ◌≤◌, append_assoc, append-nil}
use Rattle.std.specs.Prelude.{IfSome}
use Rattle.std.proofs.lemmas.List.{drop_all, length-append}
use Rattle.wit_model.specs.declared.types.TypeDef.{TypeDef}
use Rattle.wit_model.specs.declared.types.WitType.{WitType}
use Rattle.wit_layout.specs.Flat.{flatten_record, flatten_type}
use Rattle.wrapper_data.specs.declared.block.Block.{Block}
use Rattle.wrapper_meaning.specs.AsWords.{PartsSay, Says}
use Rattle.wrapper_meaning.specs.Layout.{layout, layouts}
use Rattle.wrapper_meaning.specs.Requests.{block_for, part_requests, requests}
use Rattle.wrapper_meaning.specs.Shape.{Shape, Shapes, shape_of}
use Rattle.wrapper_meaning.specs.Shape.Shapes.{none, more}
use Rattle.abi_bindgen.specs.declared.instruction.Instruction.TheVariants.{GetArg}
use Rattle.abi_bindgen.specs.Instructions.{Emits, shapes_of}
use Rattle.abi_bindgen.specs.Laws.{Sound, args, item_data}
use Rattle.abi_bindgen.specs.Lowering.{Passes, said}
use Rattle.abi_bindgen.specs.Lowers.{LowersArguments, LowersFlat}
use Rattle.abi_bindgen.specs.Meaning.{Meaning, arg, item, of}
use Rattle.abi_bindgen.proofs.LowerSteps.{parts_bare}
use Rattle.abi_bindgen.proofs.PassSteps.{passes_both, passes_plainly, stays_passes}
use Rattle.abi_bindgen.proofs.Runs.{adds_both, adds_same, does_none}

-- the numbers of arguments are below their count
pub within_count : (limit later : Option ℕ) (n i : ℕ) → later ≡ limit → IfSome limit (λ k. k ≡ n) → i < n → IfSome later (λ k. i < k)
within_count limit later n i e h l = subst (λ o. IfSome o (λ k. i < k)) (sym e) (by limit h)
  where
    by : (o : Option ℕ) → IfSome o (λ k. k ≡ n) → IfSome o (λ k. i < k)
    by None h = tt
    by (Some k) h = omega (arith, h, l)

-- and so are those below a number up to which there are arguments
pub within_limit : (limit later : Option ℕ) (n i : ℕ) → later ≡ limit → IfSome limit (λ k. n ≤ k) → i < n → IfSome later (λ k. i < k)
within_limit limit later n i e h l = subst (λ o. IfSome o (λ k. i < k)) (sym e) (by limit h)
  where
    by : (o : Option ℕ) → IfSome o (λ k. n ≤ k) → IfSome o (λ k. i < k)
    by None h = tt
    by (Some k) h = omega (arith, h, l)

-- arguments up to one behind which there are so many more
pub within_words : (limit later : Option ℕ) (n first here left : ℕ) → later ≡ limit → IfSome limit (λ k. k ≡ n) → first + left ≡ n → here ≤ left → IfSome later (λ k. first + here ≤ k)
within_words limit later n first here left e h sum l = subst (λ o. IfSome o (λ k. first + here ≤ k)) (sym e) (by limit h)
  where
    by : (o : Option ℕ) → IfSome o (λ k. k ≡ n) → IfSome o (λ k. first + here ≤ k)
    by None h = tt
    by (Some k) h = omega (arith, h, sum, l)

module _ {Self Operand : Type 0} (m : Meaning Self Operand) (sound : Sound m) (types : List TypeDef) where
  no_arguments : (first : ℕ) (a : Self) → LowersArguments m false none first [] a a
  no_arguments first a = record {
    adds = adds_same m a;
    fits = refl;
    asks_nothing = λ v. refl;
    row = λ given v vals own listed st.
        let P : List m.Item → List Block → Type 0 = λ vals own. Passes m false (PartsSay m.width (said false given) none v) (args m first (item_data m vals)) own [] [] a a in
        let no_words : P [] [] = passes_plainly m false (PartsSay m.width (said false given) none v) [] [] [] [] a a refl (refl, refl) (does_none m a) in
        subst (λ vs. P vs own) (sym st.0) (subst (P []) (sym st.1) no_words);
  }

  argument_and : (t : Shape) (ts : Shapes) (first : ℕ) (a b c d : Self) (o : Operand) (os qs : List Operand) → Emits m types (GetArg first) [] (o ∷ []) a b → LowersFlat m false t o os b c
      → LowersArguments m false ts (suc first) qs c d → LowersArguments m false (more t ts) first (os ++ qs) a d
  argument_and t ts first a b c d o os qs read flat later = record {
    adds = adds_both m a b d read.adds (adds_both m b c d flat.adds later.adds);
    fits = length-append os qs ∙ omega (arith, flat.fits, later.fits, length-append (flatten_type (layout t)) (flatten_record (layouts ts)));
    asks_nothing = λ v. ap₂ (λ xs ys. xs ++ ys) (flat.asks_nothing v.0) (later.asks_nothing v.1);
    row = λ given v vals own listed st.
        let x = st.0 in
        let rest = st.1 in
        let dir = said false given in
        let due1 = requests m.width block_for t v.0 in
        let due2 = part_requests m.width block_for ts v.1 in
        let P : List m.Item → List Block → Type 0 = λ vals own. Passes m false (PartsSay m.width dir (more t ts) v) (args m first (item_data m vals)) own (due1 ++ due2) (os ++ qs) a d in
        let from = stays_passes m false (Says m.width dir t v.0) (arg first (item x) ∷ []) (of o (item x) ∷ []) st.2 due1 os a b c flat.adds (read.row (item x)) (flat.row given v.0 x st.2 listed.0 st.5) in
        let whole : P (x ∷ rest) (st.2 ++ st.3) = passes_both m false sound (Says m.width dir t v.0) (PartsSay m.width dir ts v.1) (arg first (item x) ∷ []) (args m (suc first) (item_data m rest)) st.2 st.3 due1 due2 os qs a c d
        (parts_bare m sound types false given ts v.1 rest st.3 st.6) later.adds from (later.row given v.1 rest st.3 listed.1 st.6) in
        subst (λ vs. P vs own) (sym st.4) (subst (P (x ∷ rest)) (sym st.7) whole);
  }

  -- what lowers the arguments from one on, with what was lowered before it, lowers all

  abbrev pub Rest : List WitType → ℕ → List Operand → (a b : Self) → Type 0
  Rest tys i all a b = (new : Self) (later : List Operand) → LowersArguments m false (shapes_of types (drop i tys)) i later b new → LowersArguments m false (shapes_of types tys) 0 (all ++ later) a new

  pub rest_first : (tys : List WitType) (a : Self) → Rest tys 0 [] a a
  rest_first tys a new later h = h

  pub rest_next : (tys : List WitType) (i : ℕ) (all os now : List Operand) (a b c d : Self) (ty : WitType) (o : Operand) → drop i tys ≡ ty ∷ drop (i + 1) tys → Emits m types (GetArg i) [] (o ∷ []) b c
      → LowersFlat m false (shape_of types ty) o os c d → now ≡ all ++ os → Rest tys i all a b → Rest tys (i + 1) now a d
  rest_next tys i all os now a b c d ty o et read one en rest new later h =
      let next : i + 1 ≡ suc i = omega arith in
      let after = subst (λ k. LowersArguments m false (shapes_of types (drop (i + 1) tys)) k later d new) next h in
      let both = argument_and (shape_of types ty) (shapes_of types (drop (i + 1) tys)) i b c d new o os later read one after in
      let back = subst (λ ts. LowersArguments m false (shapes_of types ts) i (os ++ later) b new) (sym et) both in
      subst (λ ps. LowersArguments m false (shapes_of types tys) 0 ps a new) (sym (ap (λ xs. xs ++ later) en ∙ append_assoc all os later)) (rest new (os ++ later) back)

  pub rest_last : (tys : List WitType) (i : ℕ) (all : List Operand) (a b : Self) → length tys ≤ i → Rest tys i all a b → LowersArguments m false (shapes_of types tys) 0 all a b
  rest_last tys i all a b ended rest =
      let none : LowersArguments m false (shapes_of types (drop i tys)) i [] b b = subst (λ ts. LowersArguments m false (shapes_of types ts) i [] b b) (sym (drop_all i tys ended)) (no_arguments i b) in
      subst (λ ps. LowersArguments m false (shapes_of types tys) 0 ps a b) (append-nil all) (rest b [] none)
