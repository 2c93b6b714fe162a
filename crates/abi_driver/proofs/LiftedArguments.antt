-- Arguments become values, one after another: the words of each are read and lifted.
use Rattle.std.proofs.Common.{◌≡◌, ℕ, suc, ◌+◌, ◌≤◌, List, [], ◌∷◌, ◌++◌, length, drop, min, refl, sym, ap, ◌∙◌, subst, arith, append_assoc, append-nil, ap₂}
use Rattle.std.proofs.lemmas.List.{drop_all, length-append}
use Rattle.std.proofs.Math.Nat.{min-le_right}
use Rattle.wit_model.specs.declared.types.TypeDef.{TypeDef}
use Rattle.wit_model.specs.declared.types.WitType.{WitType}
use Rattle.wit_layout.specs.declared.flat.Flat.{Flat}
use Rattle.wit_layout.specs.Flat.{IsFlatOf, flatten_record, flatten_type}
use Rattle.wit_layout.specs.Tree.{tree_of}
use Rattle.wrapper_data.specs.declared.block.Block.{Block}
use Rattle.wrapper_data.specs.declared.word.Word.{Word}
use Rattle.wrapper_meaning.specs.Direction.{take}
use Rattle.wrapper_meaning.specs.Layout.{layout, layouts}
use Rattle.wrapper_meaning.specs.Represents.{param_words}
use Rattle.wrapper_meaning.specs.Settled.{all_settled}
use Rattle.wrapper_meaning.specs.Shape.{Shape, Shapes, shape_of}
use Rattle.wrapper_meaning.specs.Shape.Shapes.{none, more}
use Rattle.wrapper_meaning.proofs.LayoutIsTree.{layout_is_tree}
use Rattle.abi_driver.specs.Exports.{ReadsWords}
use Rattle.abi_bindgen.specs.Instructions.{shapes_of}
use Rattle.abi_bindgen.specs.Laws.{Adds, At, Facts, Sound, Stays, args, core_data, ofs}
use Rattle.abi_bindgen.specs.Lifts.{LiftsArguments, LiftsFlat, MayTake, OneStands, TakesOver}
use Rattle.abi_bindgen.specs.Meaning.{Meaning}
use Rattle.abi_bindgen.specs.Parts.{PartsStand}
use Rattle.abi_driver.proofs.LiftSteps.{none_lifts, takes_both}
use Rattle.abi_driver.proofs.ReadSteps.{args_both}
use Rattle.abi_bindgen.proofs.Runs.{adds_both, adds_same}
use Rattle.abi_driver.proofs.SaysLength.{says_length}
use Rattle.abi_driver.proofs.TakeSteps.{stays_gets}
use Rattle.wrapper_meaning.specs.Requests.{part_requests, requests, room_for}
use Rattle.wrapper_data.specs.declared.choice.Request.{Request}

-- what lifts the arguments from one on, with what was lifted before it, lifts all
abbrev pub Rest : {Self Operand : Type 0} (m : Meaning Self Operand) → List TypeDef → List WitType → (i first : ℕ) → List Operand → (a b : Self) → Type 0
Rest {Self} {Operand} m types tys i first values a b = (new : Self) (later : List Operand) → LiftsArguments m (shapes_of types (drop i tys)) first later b new → LiftsArguments m (shapes_of types tys) 0 (values ++ later) a new

module _ {Self Operand : Type 0} (m : Meaning Self Operand) (sound : Sound m) (types : List TypeDef) where
  -- code that changes nothing but what operands denote, and code that takes over
  reads_then : (Stands : List m.Item → List Block → Type 0) (ins mid : Facts m) (blocks : List Block) (due : List Request) (rs : List Operand) (a b c : Self) → Adds m b c → Stays m a b ins (λ fs. fs ≡ mid) → TakesOver m Stands mid blocks due rs b c → TakesOver m Stands ins blocks due rs a c
  reads_then Stands ins mid blocks due rs a b c adds first later w f others s0 s at may =
      let one = first w f others s0 s (record { serves = adds.grows.serves w at.serves; done = at.done; holds = at.holds }) in
      let t = one.0 in
      let after1 = one.2.2 in
      let at2 : At m w f b c (mid ++ others) s0 t = record { serves = at.serves; done = one.1; holds = subst (λ fs. m.denotes w b (fs ++ others) t) one.2.1 after1.denotes } in
      stays_gets m Stands blocks rs c w f others s0 s t due after1.account after1.owns (later w f others s0 t at2 (subst (λ acc. MayTake blocks acc) (sym after1.account) may))

  no_arguments : (first : ℕ) (a : Self) → LiftsArguments m none first [] a a
  no_arguments first a = record {
    adds = adds_same m a;
    many = refl;
    asks_nothing = λ v. refl;
    row = λ v ws own listed says.
        let P : List Word → Type 0 = λ xs. TakesOver m (PartsStand m take none v) (args m first (core_data m xs)) own [] [] a a in
        subst P (sym says.0) ((none_lifts m sound types a).row v [] own tt (refl, says.1));
  }

  argument_and : (t : Shape) (ts : Shapes) (first n : ℕ) (a b c d : Self) (os : List Operand) (o : Operand) (values : List Operand) → ReadsWords m first n os a b → LiftsFlat m t os o b c
      → LiftsArguments m ts (first + n) values c d → LiftsArguments m (more t ts) first (o ∷ values) a d
  argument_and t ts first n a b c d os o values reads flat later = record {
    adds = adds_both m a b d reads.adds (adds_both m b c d flat.adds later.adds);
    many = ap suc later.many;
    asks_nothing = λ v. ap₂ (λ xs ys. xs ++ ys) (flat.asks_nothing v.0) (later.asks_nothing v.1);
    row = λ v ws own listed says.
        let ws1 = says.0 in
        let ws2 = says.1 in
        let own1 = says.2 in
        let own2 = says.3 in
        let xs : Facts m = args m first (core_data m ws1) in
        let ys : Facts m = args m (first + n) (core_data m ws2) in
        let len : length ws1 ≡ n = says_length m.width take t v.0 ws1 own1 listed.0 says.4 ∙ sym flat.fits ∙ reads.fits in
        let P : Facts m → List Block → Type 0 = λ ins bs. TakesOver m (PartsStand m take (more t ts) (all_settled (more t ts) v)) ins bs (part_requests m.width room_for (more t ts) v) (o ∷ values) a d in
        let one = reads_then (OneStands m t v.0) xs (ofs m os (core_data m ws1)) own1 (requests m.width room_for t v.0) (o ∷ []) a b c flat.adds (reads.row ws1 len) (flat.row v.0 ws1 own1 listed.0 says.4) in
        let both = takes_both m sound types t ts v xs ys own1 own2 a c d o values later.adds one (later.row v.1 ws2 own2 listed.1 says.5) in
        subst (λ ins. P ins own) (sym (args_both m sound types first n ws ws1 ws2 says.6 len)) (subst (P (xs ++ ys)) (sym says.7) both);
  }

  pub rest_first : (tys : List WitType) (values : List Operand) (a : Self) → values ≡ [] → Rest m types tys 0 0 values a a
  rest_first tys values a e new later h = subst (λ xs. LiftsArguments m (shapes_of types tys) 0 (xs ++ later) a new) (sym e) h

  pub rest_next : (tys : List WitType) (i first n : ℕ) (values os now : List Operand) (a b c d : Self) (ty : WitType) (o : Operand) → drop i tys ≡ ty ∷ drop (i + 1) tys → ReadsWords m first n os b c
      → LiftsFlat m (shape_of types ty) os o c d → now ≡ values ++ o ∷ [] → Rest m types tys i first values a b → Rest m types tys (i + 1) (first + n) now a d
  rest_next tys i first n values os now a b c d ty o et reads one en rest new later h =
      let both = argument_and (shape_of types ty) (shapes_of types (drop (i + 1) tys)) first n b c d new os o later reads one h in
      let back = subst (λ ts. LiftsArguments m (shapes_of types ts) first (o ∷ later) b new) (sym et) both in
      subst (λ xs. LiftsArguments m (shapes_of types tys) 0 xs a new) (sym (ap (λ xs. xs ++ later) en ∙ append_assoc values (o ∷ []) later)) (rest new (o ∷ later) back)

  pub rest_last : (tys : List WitType) (i first : ℕ) (values : List Operand) (a b : Self) → length tys ≤ i → Rest m types tys i first values a b → LiftsArguments m (shapes_of types tys) 0 values a b
  rest_last tys i first values a b ended rest =
      let none_left : LiftsArguments m (shapes_of types (drop i tys)) first [] b b = subst (λ ts. LiftsArguments m (shapes_of types ts) first [] b b) (sym (drop_all i tys ended)) (no_arguments first b) in
      subst (λ xs. LiftsArguments m (shapes_of types tys) 0 xs a b) (append-nil values) (rest b [] none_left)

-- how many words the arguments from one on have

abbrev pub words_left : List TypeDef → List WitType → ℕ → ℕ
words_left types tys i = length (param_words (shapes_of types (drop i tys)))

pub words_next : (types : List TypeDef) (tys : List WitType) (i : ℕ) (ty : WitType) → drop i tys ≡ ty ∷ drop (i + 1) tys → words_left types tys i ≡ length (flatten_type (layout (shape_of types ty))) + words_left types tys (i + 1)
words_next types tys i ty et =
    ap (λ xs. length (param_words (shapes_of types xs))) et
    ∙ length-append (flatten_type (layout (shape_of types ty))) (flatten_record (layouts (shapes_of types (drop (i + 1) tys))))

-- no more words are told of the next than are left
pub told_within : (types : List TypeDef) (tys : List WitType) (i : ℕ) (ty : WitType) (f : Flat) → drop i tys ≡ ty ∷ drop (i + 1) tys → IsFlatOf f (flatten_type (tree_of types ty)) → f.count ≤ words_left types tys i
told_within types tys i ty f et is =
    let n = length (flatten_type (tree_of types ty)) in
    let same : length (flatten_type (layout (shape_of types ty))) ≡ n = ap (λ t. length (flatten_type t)) (layout_is_tree types ty) in
    let least : min 16 n ≤ n = min-le_right 16 n in
    let all = words_next types tys i ty et in
    omega (arith, is.count, same, least, all)
