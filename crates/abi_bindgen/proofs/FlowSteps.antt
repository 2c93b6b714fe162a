-- Code that flows is put together.
use Rattle.std.proofs.Common.{◌≡◌, ℕ, suc, ◌+◌, ◌<◌, ◌≤◌, List, [], ◌∷◌, ◌++◌, length, map, take, drop, get_or, refl, sym, ap, ap₂, ◌∙◌, subst, arith, append-nil, append_assoc, length-append}
use Rattle.std.proofs.lemmas.List.{drop_all, drop_at, drop_more, take_at}
use Rattle.wit_model.specs.declared.types.TypeDef.{TypeDef}
use Rattle.abi_bindgen.specs.Blocks.{Finishes, Pushes}
use Rattle.abi_bindgen.specs.Flow.{Flow, alone, behind, both, each, each_back, here, in_block, later, leading, ◌>>>◌}
use Rattle.abi_bindgen.specs.Flows.{Flows}
use Rattle.abi_bindgen.specs.Meaning.{Meaning}

-- 1. The code for each of some things

pub each_map : {A B : Type 0} (shared : ℕ) (own : B → ℕ) (f : ℕ → B → Flow) (g : A → B) (k : ℕ) (xs : List A) → each shared own f k (map g xs) ≡ each shared (λ x. own (g x)) (λ n x. f n (g x)) k xs
each_map shared own f g k [] = refl
each_map shared own f g k (x ∷ xs) = ap (λ code. both (leading (shared + own (g x)) >>> f k (g x)) (both (leading shared) (behind (shared + own (g x))) >>> code)) (each_map shared own f g (suc k) xs)

-- 2. Steps

module _ {Self Operand : Type 0} (m : Meaning Self Operand) (types : List TypeDef) where
  pub flows_as : (code other : Flow) (reads gives : List Operand) (a b : Self) → other ≡ code → Flows m types code reads gives a b → Flows m types other reads gives a b
  flows_as code other reads gives a b e h = subst (λ c. Flows m types c reads gives a b) (sym e) h

  pub flows_then : (one two : Flow) (reads between gives : List Operand) (a b c : Self) → Flows m types one reads between a b → Flows m types two between gives b c → Flows m types (one >>> two) reads gives a c
  flows_then one two reads between gives a b c h g = (between, b, h, g)

  pub flows_both : (one two : Flow) (reads left right : List Operand) (a b c : Self) → Flows m types one reads left a b → Flows m types two reads right b c → Flows m types (both one two) reads (left ++ right) a c
  flows_both one two reads left right a b c h g = (left, right, b, h, g, refl)

  -- the second leaves nothing
  pub flows_first_of : (one two : Flow) (reads left : List Operand) (a b c : Self) → Flows m types one reads left a b → Flows m types two reads [] b c → Flows m types (both one two) reads left a c
  flows_first_of one two reads left a b c h g = (left, [], b, h, g, sym (append-nil left))

  pub flows_alone : (code : Flow) (reads gives : List Operand) (a b : Self) → Flows m types code [] gives a b → Flows m types (alone code) reads gives a b
  flows_alone code reads gives a b h = ([], a, (refl, refl), h)

  pub flows_block : (code : Flow) (reads results : List Operand) (a b c d : Self) → Pushes m a b → Flows m types code reads results b c → Finishes m results c d → Flows m types (in_block code) reads [] a d
  flows_block code reads results a b c d begins h ends = (refl, results, b, c, begins, h, ends)

  pub flows_first : (n : ℕ) (xs ys : List Operand) (a : Self) → length xs ≡ n → Flows m types (leading n) (xs ++ ys) xs a a
  flows_first n xs ys a e = (sym (take_at xs ys n e), refl)

  pub flows_behind : (n : ℕ) (xs ys : List Operand) (a : Self) → length xs ≡ n → Flows m types (behind n) (xs ++ ys) ys a a
  flows_behind n xs ys a e = (sym (drop_at xs ys n e), refl)

  -- 3. The same behind operands that they share

  module _ {A : Type 0} (shared : ℕ) (own : A → ℕ) (code : ℕ → A → Flow) (s : List Operand) (enough : length s ≡ shared) where
    module _ (x : A) (mine rest : List Operand) (fits : length mine ≡ own x) where
      mine_here : (n : ℕ) (gave : List Operand) (a b : Self) → Flows m types (code n x) (s ++ mine) gave a b → Flows m types (here shared own code x >>> code n x) (s ++ (mine ++ rest)) gave a b
      mine_here n gave a b h =
          let long : length (s ++ mine) ≡ shared + own x = length-append s mine ∙ ap₂ (λ j k. j + k) enough fits in
          (s ++ mine, a, (sym (ap (take (shared + own x)) (sym (append_assoc s mine rest)) ∙ take_at (s ++ mine) rest (shared + own x) long), refl), h)

      rest_later : (others : Flow) (gave : List Operand) (a b : Self) → Flows m types others (s ++ rest) gave a b → Flows m types (later shared own code x >>> others) (s ++ (mine ++ rest)) gave a b
      rest_later others gave a b h =
          let long : length (s ++ mine) ≡ shared + own x = length-append s mine ∙ ap₂ (λ j k. j + k) enough fits in
          let left = sym (take_at s (mine ++ rest) shared enough) in
          let right = sym (ap (drop (shared + own x)) (sym (append_assoc s mine rest)) ∙ drop_at (s ++ mine) rest (shared + own x) long) in
          (s ++ rest, a, (s, rest, a, (left, refl), (right, refl), refl), h)

      -- one thing more before others
      pub flows_more : (n : ℕ) (xs : List A) (gave gives : List Operand) (a b c : Self) → Flows m types (code n x) (s ++ mine) gave a b → Flows m types (each shared own code (suc n) xs) (s ++ rest) gives b c
          → Flows m types (each shared own code n (x ∷ xs)) (s ++ (mine ++ rest)) (gave ++ gives) a c
      flows_more n xs gave gives a b c h g = (gave, gives, b, mine_here n gave a b h, rest_later (each shared own code (suc n) xs) gives b c g, refl)

      -- and behind them
      pub flows_back : (n : ℕ) (xs : List A) (gave gives : List Operand) (a b c : Self) → Flows m types (each_back shared own code (suc n) xs) (s ++ rest) gave a b → Flows m types (code n x) (s ++ mine) gives b c
          → Flows m types (each_back shared own code n (x ∷ xs)) (s ++ (mine ++ rest)) (gave ++ gives) a c
      flows_back n xs gave gives a b c g h = (gave, gives, b, rest_later (each_back shared own code (suc n) xs) gave a b g, mine_here n gives b c h, refl)

  -- 4. The same in a loop

  module _ {A : Type 0} (shared : ℕ) (own : A → ℕ) (code : ℕ → A → Flow) (s : List Operand) (xs : List A) (all : List Operand) (initial : Self) where
    -- where so many are done, which gave some operands, and some are unread: what flows for those that are left, flows for all
    abbrev pub FlowsOn : (i : ℕ) (gave unread : List Operand) (now : Self) → Type 0
    FlowsOn i gave unread now =
        (new : Self) (gives : List Operand) → Flows m types (each shared own code i (drop i xs)) (s ++ unread) gives now new → Flows m types (each shared own code 0 xs) all (gave ++ gives) initial new

    pub flows_next : (i : ℕ) (d : A) (mine rest gave more now : List Operand) (b c : Self) → i < length xs → length s ≡ shared → length mine ≡ own (get_or xs i d) → now ≡ gave ++ more → Flows m types (code i (get_or xs i d)) (s ++ mine) more b c
        → FlowsOn i gave (mine ++ rest) b → FlowsOn (i + 1) now rest c
    flows_next i d mine rest gave more now b c short enough fits is h on new gives g =
        let x = get_or xs i d in
        let next : i + 1 ≡ suc i = omega arith in
        let later = subst (λ k. Flows m types (each shared own code k (drop (i + 1) xs)) (s ++ rest) gives c new) next g in
        let one = flows_more shared own code s enough x mine rest fits i (drop (i + 1) xs) more gives b c new h later in
        let whole = on new (more ++ gives) (subst (λ ys. Flows m types (each shared own code i ys) (s ++ (mine ++ rest)) (more ++ gives) b new) (sym (drop_more xs i d short)) one) in
        subst (λ os. Flows m types (each shared own code 0 xs) all os initial new) (sym (append_assoc gave more gives) ∙ ap (λ os. os ++ gives) (sym is)) whole

    pub flows_last : (i : ℕ) (gave unread : List Operand) (b : Self) → length xs ≤ i → FlowsOn i gave unread b → Flows m types (each shared own code 0 xs) all gave initial b
    flows_last i gave unread b ended on =
        let none = subst (λ ys. Flows m types (each shared own code i ys) (s ++ unread) [] b b) (sym (drop_all i xs ended)) (refl, refl) in
        subst (λ os. Flows m types (each shared own code 0 xs) all os initial b) (append-nil gave) (on b [] none)

  -- one thing more behind others, which share no operand and have none
  pub flows_one_more : {A : Type 0} (code : ℕ → A → Flow) (n : ℕ) (xs : List A) (x : A) (reads gave more : List Operand) (a b c : Self) → Flows m types (each 0 (λ x. 0) code n xs) reads gave a b → Flows m types (code (n + length xs) x) [] more b c
      → Flows m types (each 0 (λ x. 0) code n (xs ++ x ∷ [])) reads (gave ++ more) a c
  flows_one_more code n [] x reads gave more a b c h g =
      let here : n + 0 ≡ n = omega arith in
      let one = subst (λ s. Flows m types (code n x) [] more s c) h.1 (subst (λ k. Flows m types (code k x) [] more b c) here g) in
      (more, [], c, ([], a, (refl, refl), one), (take 0 reads ++ drop 0 reads, c, (take 0 reads, drop 0 reads, c, (refl, refl), (refl, refl), refl), (refl, refl)), ap (λ os. os ++ more) h.0 ∙ sym (append-nil more))
  flows_one_more code n (y ∷ xs) x reads gave more a b c (left, right, q, first, (between, r, kept, others), is) g =
      let here : n + suc (length xs) ≡ suc n + length xs = omega arith in
      let whole = flows_one_more code (suc n) xs x between right more r b c others (subst (λ k. Flows m types (code k x) [] more b c) here g) in
      (left, right ++ more, q, first, (between, r, kept, whole), ap (λ os. os ++ more) is ∙ append_assoc left right more)
