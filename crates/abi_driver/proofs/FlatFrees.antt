-- The blocks of values that words represent are freed: of scalars, enums, flags and some cases, which have none, of texts, and of parts.
use Rattle.std.proofs.Common.{◌≡◌, ℕ, suc, ◌+◌, ◌≤◌, false, List, [], ◌∷◌, ◌++◌, length, take, drop, Some, refl, sym, ap, ◌∙◌, subst, arith, append_assoc, append-nil}
use Rattle.std.proofs.lemmas.Bool.{or_parts, true≢false}
use Rattle.std.proofs.lemmas.List.{drop-drop, drop_all, length-append, length-drop, length-map, length-take-le, take-append-drop}
use mathlib.Core.Logic.{inl, inr}
use Rattle.wit_model.specs.declared.types.TypeDef.{TypeDef}
use Rattle.wit_model.specs.declared.types.WitType.{WitType}
use Rattle.wit_layout.specs.Extent.{flag_words}
use Rattle.wit_layout.specs.Flat.{flatten_record, flatten_type}
use Rattle.wrapper_data.specs.declared.block.Block.{Block}
use Rattle.wrapper_data.specs.declared.word.Word.{Word}
use Rattle.wrapper_data.specs.declared.word.Word.TheVariants as core
use Rattle.wrapper_meaning.specs.Direction.{Direction, give}
use Rattle.wrapper_meaning.specs.Kinds.{has_list, have_list}
use Rattle.wrapper_meaning.specs.Layout.{layout, layouts}
use Rattle.wrapper_meaning.specs.AsWords.{CaseSays, PartsSay, Says}
use Rattle.wrapper_meaning.specs.Shape.{Shape, Shapes, bare, shape_of}
use Rattle.wrapper_meaning.specs.Shape.Shape.{cases, flags, scalar, text, fields, tuple}
use Rattle.wrapper_meaning.specs.Value.{Case, Parts, Value}
use Rattle.wrapper_meaning.specs.Words.{read_slots}
use Rattle.wrapper_meaning.specs.Shape.Shapes.{none, more}
use Rattle.abi_bindgen.specs.declared.instruction.Instruction.{Instruction}
use Rattle.abi_bindgen.specs.declared.instruction.Instruction.TheVariants.{GuestDeallocateString}
use Rattle.abi_bindgen.specs.Account.{Account}
use Rattle.abi_bindgen.specs.Frees.{FreesAll, FreesFlat, by_freeing}
use Rattle.abi_bindgen.specs.Instructions.{Emits, lifting, shapes_of}
use Rattle.abi_bindgen.specs.Laws.{At, Facts, Sound, core_data, ofs}
use Rattle.abi_bindgen.specs.Lifts.{MayTake}
use Rattle.abi_bindgen.specs.Meaning.{Meaning, word}
use Rattle.abi_bindgen.specs.Memory.{freeing}
use Rattle.abi_bindgen.specs.Served.{Serves, ServesAll}
use Rattle.abi_bindgen.proofs.BareCases.{no_slots, none_said}
use Rattle.abi_bindgen.proofs.Done.{does_done}
use Rattle.abi_driver.proofs.Freeing.{freed_both, frees_text, may_after}
use Rattle.abi_driver.proofs.LiftSteps.{lifted_type}
use Rattle.abi_bindgen.proofs.Runs.{adds_both, adds_same, core_append, ofs_append}
use Rattle.abi_driver.proofs.SaysLength.{says_length}
use Rattle.abi_driver.proofs.TakingOver.{may_first}
use Rattle.abi_bindgen.proofs.WordCounts.{length_words}
use Rattle.wrapper_meaning.proofs.NoLists.{no_blocks}
use Rattle.wrapper_meaning.proofs.PostReturn.{total-append}

-- what has no text has no blocks, of what is served
module _ (w : ℕ) (dir : Direction) where
  mutual
    says_none : (t : Shape) → Serves t → has_list t ≡ false → (v : Value t) (words : List Word) (own : List Block) → Says w dir t v words own → own ≡ []
    says_none (scalar s) served lacks v words own says = says.3
    says_none text served lacks v words own says = absurd (true≢false lacks)
    says_none (fields ts) served lacks v words own says = parts_none ts served lacks v words own says
    says_none (tuple ts) served lacks v words own says = parts_none ts served lacks v words own says
    says_none (cases ts) served lacks v words own says = case_none ts served.1 lacks v says.0 own says.3
    says_none (flags n) served lacks v words own says = says.2
    says_none _ served lacks v words own says = elim served [ ]

    parts_none : (ts : Shapes) → ServesAll ts → have_list ts ≡ false → (v : Parts ts) (words : List Word) (own : List Block) → PartsSay w dir ts v words own → own ≡ []
    parts_none none served lacks v words own says = says.1
    parts_none (more t ts) served lacks v words own (front, back, first, rest, one, others, is, all) =
        let each = or_parts (has_list t) (have_list ts) lacks in
        no_blocks own first rest all (says_none t served.0 each.0 v.0 front first one) (parts_none ts served.1 each.1 v.1 back rest others)

    case_none : (ts : Shapes) → ServesAll ts → have_list ts ≡ false → (c : Case ts) (shared : List Word) (own : List Block) → CaseSays w dir ts c shared own → own ≡ []
    case_none none served lacks c shared own says = elim c [ ]
    case_none (more t ts) served lacks (inl v) shared own says = says_none t served.0 (or_parts (has_list t) (have_list ts) lacks).0 v (read_slots w (flatten_type (layout t)) shared) own says.0
    case_none (more t ts) served lacks (inr c) shared own says = case_none ts served.1 (or_parts (has_list t) (have_list ts) lacks).1 c shared own says

module _ {Self Operand : Type 0} (m : Meaning Self Operand) (sound : Sound m) (types : List TypeDef) where
  -- values without blocks are freed by no code
  alone_words : (t : Shape) → ((v : Value t) (ws : List Word) (own : List Block) → Says m.width give t v ws own → own ≡ []) → (a : Self) (os : List Operand) → length os ≡ length (flatten_type (layout t)) → FreesFlat m t os a a
  alone_words t alone a os many = record {
    adds = adds_same m a;
    fits = many;
    row = λ v ws own listed says w f others s0 st at may. (
      st,
      at.done,
      record {
        account = sym (ap (λ (bs : List Block). (by_freeing bs (m.account st)).account) (alone v ws own says));
        owns = λ g. refl;
        denotes = sound.fewer w a (ofs m os (core_data m ws)) others st at.holds;
      },
    );
  }

  -- what stands for a value of a type, by the words from a place on

  abbrev pub Freed : Shape → (words : List Operand) → (at next : ℕ) → (a b : Self) → Type 0
  Freed t words at next a b = (used : List Operand) × (drop at words ≡ used ++ drop next words) × FreesFlat m t used a b

  abbrev pub AllFreed : Shapes → (words : List Operand) → (at next : ℕ) → (a b : Self) → Type 0
  AllFreed ts words at next a b = (used : List Operand) × (drop at words ≡ used ++ drop next words) × FreesAll m ts used a b

  -- the words of a value without blocks are passed over
  passed : (t : Shape) → ((v : Value t) (ws : List Word) (own : List Block) → Says m.width give t v ws own → own ≡ []) → (a : Self) (words : List Operand) (at count : ℕ)
      → count ≡ length (flatten_type (layout t)) → at + count ≤ length words → Freed t words at (at + count) a a
  passed t alone a words at count many room =
      let used = take count (drop at words) in
      let all : count ≤ length (drop at words) = omega (arith, room, length-drop at words) in
      let split = sym (take-append-drop count (drop at words)) ∙ ap (λ os. used ++ os) (drop-drop count at words) in
      (used, split, alone_words t alone a used (length-take-le count (drop at words) all ∙ many))

  pub scalar_passed : (ty : WitType) (i : Instruction) (a : Self) (words : List Operand) (at : ℕ) → lifting ty ≡ Some i → at + 1 ≤ length words → Freed (shape_of types ty) words at (at + 1) a a
  scalar_passed ty i a words at is room =
      let s = lifted_type ty i is in
      subst (λ t. Freed t words at (at + 1) a a) (sym (s.shape types)) (passed (scalar s.scalar_is) (λ v ws own says. says.3) a words at 1 refl room)

  pub enum_passed : {A : Type 0} (members : List A) (a : Self) (words : List Operand) (at : ℕ) → at + 1 ≤ length words → Freed (cases (bare members)) words at (at + 1) a a
  enum_passed members a words at room =
      let many : 1 ≡ length (flatten_type (layout (cases (bare members)))) = sym (ap (λ cs. suc (length cs)) (no_slots members)) in
      passed (cases (bare members)) (λ v ws own says. none_said m.width give members v says.0 own says.3) a words at 1 many room

  pub flags_passed : (n : ℕ) (a : Self) (words : List Operand) (at : ℕ) → at + flag_words n ≤ length words → Freed (flags n) words at (at + flag_words n) a a
  flags_passed n a words at room = passed (flags n) (λ v ws own says. says.2) a words at (flag_words n) (sym (length_words n)) room

  pub cases_passed : (ts : Shapes) (a : Self) (words : List Operand) (at count : ℕ) → Serves (cases ts) → has_list (cases ts) ≡ false → count ≡ length (flatten_type (layout (cases ts))) → at + count ≤ length words → Freed (cases ts) words at (at + count) a a
  cases_passed ts a words at count served lacks many room = passed (cases ts) (λ v ws own says. says_none m.width give (cases ts) served lacks v ws own says) a words at count many room

  pub text_freed : (a b : Self) (o p : Operand) (rs : List Operand) → Emits m types GuestDeallocateString (o ∷ p ∷ []) rs a b → FreesFlat m text (o ∷ p ∷ []) a b
  text_freed a b o p rs e = record {
    adds = e.adds;
    fits = refl;
    row = λ v ws own listed says w f others s0 st at may.
        let acc = m.account st in
        let q = says.address in
        let n = length v in
        let pair : List Word = core.Pointer q ∷ core.Length n ∷ [] in
        let facts : Facts m = ofs m (o ∷ p ∷ []) (core_data m pair) in
        let at1 : At m w f a b (facts ++ others) s0 st = record { serves = at.serves; done = at.done; holds = subst (λ zs. m.denotes w a (ofs m (o ∷ p ∷ []) (core_data m zs) ++ others) st) says.pair at.holds } in
        let ran = does_done m (Unit {0}) a b facts (λ f. freeing f.form q n) (λ u fs. fs ≡ []) (λ u. []) (λ u. []) (e.row q n) w f others s0 st at1
        (by_freeing own acc) (frees_text f.form q v own acc says.buffer.bounded says.buffer.placed may) in
        let after = ran.2.2 in (
          ran.0,
          ran.1,
          record {
            account = after.account;
            owns = after.owns;
            denotes = subst (λ fs. m.denotes w b (fs ++ others) ran.0) ran.2.1 after.denotes;
          },
        );
  }

  pub none_freed : (a : Self) → FreesAll m none [] a a
  none_freed a = record {
    adds = adds_same m a;
    fits = refl;
    row = λ v ws own listed says w f others s0 st at may. (
      st,
      at.done,
      record {
        account = sym (ap (λ (bs : List Block). (by_freeing bs (m.account st)).account) says.1);
        owns = λ g. refl;
        denotes = subst (λ zs. m.denotes w a (ofs m [] (core_data m zs) ++ others) st) says.0 at.holds;
      },
    );
  }

  pub more_freed : (t : Shape) (ts : Shapes) (a b c : Self) (os qs : List Operand) → FreesFlat m t os a b → FreesAll m ts qs b c → FreesAll m (more t ts) (os ++ qs) a c
  more_freed t ts a b c os qs first later = record {
    adds = adds_both m a b c first.adds later.adds;
    fits = length-append os qs ∙ omega (arith, first.fits, later.fits, length-append (flatten_type (layout t)) (flatten_record (layouts ts)));
    row = λ v ws own listed says w f others s0 st at may.
        let ws1 = says.0 in
        let ws2 = says.1 in
        let own1 = says.2 in
        let own2 = says.3 in
        let acc = m.account st in
        let xs : Facts m = ofs m os (core_data m ws1) in
        let ys : Facts m = ofs m qs (core_data m ws2) in
        let len : length (core_data m ws1) ≡ length os = length-map ws1 (λ w. word w) ∙ says_length m.width give t v.0 ws1 own1 listed.0 says.4 ∙ sym first.fits in
        let facts : ofs m (os ++ qs) (core_data m ws) ≡ xs ++ ys = ap (λ zs. ofs m (os ++ qs) (core_data m zs)) says.6 ∙ ap (ofs m (os ++ qs)) (core_append m ws1 ws2) ∙ ofs_append m os qs (core_data m ws1) (core_data m ws2) len in
        let holds1 : m.denotes w a (xs ++ (ys ++ others)) st = subst (λ fs. m.denotes w a fs st) (ap (λ fs. fs ++ others) facts ∙ append_assoc xs ys others) at.holds in
        let at1 : At m w f a b (xs ++ (ys ++ others)) s0 st = record { serves = later.adds.grows.serves w at.serves; done = at.done; holds = holds1 } in
        let may1 : MayTake (own1 ++ own2) acc = subst (λ bs. MayTake bs acc) says.7 may in
        let one = first.row v.0 ws1 own1 listed.0 says.4 w f (ys ++ others) s0 st at1 (may_first own1 own2 acc may1) in
        let t1 = one.0 in
        let after1 = one.2 in
        let at2 : At m w f b c (ys ++ others) s0 t1 = record { serves = at.serves; done = one.1; holds = after1.denotes } in
        let may2 : MayTake own2 (m.account t1) = subst (MayTake own2) (sym after1.account) (may_after own1 own2 acc may1) in
        let two = later.row v.1 ws2 own2 listed.1 says.5 w f others s0 t1 at2 may2 in
        let u = two.0 in
        let after2 = two.2 in (
          u,
          two.1,
          record {
            account = after2.account ∙ ap (λ (z : Account m.Item). (by_freeing own2 z).account) after1.account ∙ freed_both own1 own2 acc ∙ ap (λ (bs : List Block). (by_freeing bs acc).account) (sym says.7);
            owns = λ g. omega (arith, after1.owns g, after2.owns g, total-append g (m.owns u) [], total-append g (m.owns t1) [], total-append g (m.owns st) []);
            denotes = after2.denotes;
          },
        );
  }

  pub fields_freed : (ts : Shapes) (a b : Self) (words : List Operand) (at next : ℕ) → AllFreed ts words at next a b → Freed (fields ts) words at next a b
  fields_freed ts a b words at next h = (h.0, h.1, record { adds = h.2.adds; fits = h.2.fits; row = h.2.row })

  pub tuple_freed : (ts : Shapes) (a b : Self) (words : List Operand) (at next : ℕ) → AllFreed ts words at next a b → Freed (tuple ts) words at next a b
  tuple_freed ts a b words at next h = (h.0, h.1, record { adds = h.2.adds; fits = h.2.fits; row = h.2.row })

  pub freed_as : (s t : Shape) (a b : Self) (words : List Operand) (at next : ℕ) → s ≡ t → Freed t words at next a b → Freed s words at next a b
  freed_as s t a b words at next e h = (h.0, h.1, subst (λ x. FreesFlat m x h.0 a b) (sym e) h.2)

  pub all_freed_as : (xs ys : List WitType) (a b : Self) (words : List Operand) (at next : ℕ) → xs ≡ ys → AllFreed (shapes_of types xs) words at next a b → AllFreed (shapes_of types ys) words at next a b
  all_freed_as xs ys a b words at next e h = (h.0, h.1, subst (λ x. FreesAll m (shapes_of types x) h.0 a b) e h.2)

  -- what frees the parts from one on frees all, where the words before a place were read
  abbrev pub Rest : List WitType → (i at : ℕ) (words : List Operand) (next : ℕ) (a b : Self) → Type 0
  Rest tys i at words next a b =
      (used : List Operand) × (drop at words ≡ used ++ drop next words) × ((new : Self) (qs : List Operand) → FreesAll m (shapes_of types (drop i tys)) qs b new → FreesAll m (shapes_of types tys) (used ++ qs) a new)

  pub rest_next : (tys : List WitType) (i at : ℕ) (words : List Operand) (next behind : ℕ) (a b c : Self) (ty : WitType) → drop i tys ≡ ty ∷ drop (i + 1) tys
      → Freed (shape_of types ty) words next behind b c → Rest tys i at words next a b → Rest tys (i + 1) at words behind a c
  rest_next tys i at words next behind a b c ty et one rest =
      let used = rest.0 in
      let os = one.0 in (
        used ++ os,
        rest.1 ∙ ap (λ ys. used ++ ys) one.1 ∙ sym (append_assoc used os (drop behind words)),
        λ new qs h.
            let both = more_freed (shape_of types ty) (shapes_of types (drop (i + 1) tys)) b c new os qs one.2 h in
            let all = rest.2 new (os ++ qs) (subst (λ ts. FreesAll m (shapes_of types ts) (os ++ qs) b new) (sym et) both) in
            subst (λ xs. FreesAll m (shapes_of types tys) xs a new) (sym (append_assoc used os qs)) all,
      )

  pub rest_last : (tys : List WitType) (i at : ℕ) (words : List Operand) (next : ℕ) (a b : Self) → length tys ≤ i → Rest tys i at words next a b → AllFreed (shapes_of types tys) words at next a b
  rest_last tys i at words next a b short rest =
      let none_left : FreesAll m (shapes_of types (drop i tys)) [] b b = subst (λ ts. FreesAll m (shapes_of types ts) [] b b) (sym (drop_all i tys short)) (none_freed b) in
      (rest.0, rest.1, subst (λ xs. FreesAll m (shapes_of types tys) xs a b) (append-nil rest.0) (rest.2 b [] none_left))

  -- all words were read
  pub whole_freed : (ts : Shapes) (words : List Operand) (next : ℕ) (a b : Self) → length words ≤ next → AllFreed ts words 0 next a b → FreesAll m ts words a b
  whole_freed ts words next a b ended h =
      subst (λ xs. FreesAll m ts xs a b) (sym (h.1 ∙ ap (λ ys. h.0 ++ ys) (drop_all next words ended) ∙ append-nil h.0)) h.2
