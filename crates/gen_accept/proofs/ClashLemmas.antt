-- The names of a scope, kept in a set by space and name, tell whether one was there before.
use Rattle.std.proofs.Common.{◌≡◌, ℕ, ◌+◌, ◌∙◌, Bool, true, false, cond, not, ◌&&◌, ◌||◌, Bor, List, [], ◌∷◌, ◌++◌, drop, take, Some, refl, sym, ap}
use Rattle.std.specs.List.{list_any, slice_get}
use Rattle.std.specs.Str.{bytes_eq}
use Rattle.wit_model.specs.Bytes.{Bytes}
use Rattle.gen_accept.specs.declared.declared.Declared.{Declared}
use Rattle.gen_accept.specs.declared.declared.Space.{Space}
use Rattle.gen_accept.specs.declared.declared.Space.TheVariants.{Types, Values, Macros}
use Rattle.gen_accept.specs.contracts.declared.SpacePartialEq.TheImpl as impl
use Rattle.gen_accept.specs.declared.declared.NameScope.{NameScope}
use Rattle.gen_accept.specs.declared.error.Clash.TheVariants.{Twice, NotIdent}
use Rattle.gen_accept.specs.Clash.{clash_behind, entry_in, is_name, is_same, is_same_space, space}
use Rattle.type_defs.proofs.CutLemmas.{take_at}
use Rattle.std.proofs.Math.Bool.{not-not}
use Rattle.std.proofs.lemmas.List.Folds.{list_any-append}
use Rattle.type_defs.proofs.ListingLemmas.{or-cond}
use Rattle.wit_model.proofs.ListLemmas.{drop_at}

abbrev pub Key : Type 0
Key = Space × Bor Bytes

abbrev pub same_key : Key → Key → Bool
same_key a b = impl.ghosts.eq a.0 b.0 && bytes_eq a.1.now b.1.now

same-spaces : (a b : Space) → impl.ghosts.eq a b ≡ is_same_space a b
same-spaces Types Types = refl
same-spaces Types Values = refl
same-spaces Types Macros = refl
same-spaces Values Types = refl
same-spaces Values Values = refl
same-spaces Values Macros = refl
same-spaces Macros Types = refl
same-spaces Macros Values = refl
same-spaces Macros Macros = refl

-- a key is that of a name
abbrev pub is_key_of : Key → Declared → Bool
is_key_of k d = is_same_space (space d.sort) k.0 && bytes_eq d.name k.1.now

module _ (scope : NameScope) (n : ℕ) (d : Declared) (at : slice_get scope.names n ≡ Some d) where
  abbrev names : List Declared
  names = scope.names

  taken : take (n + 1) names ≡ take n names ++ d ∷ []
  taken = take_at names n d at

  dropped : drop n names ≡ d ∷ drop (n + 1) names
  dropped = drop_at names n d at

  -- what the set has, with one name more
  pub any-more : (of k : Key) {before after : Bool} → of.0 ≡ space d.sort → of.1.now ≡ d.name → before ≡ list_any (is_key_of k) (take n names)
      → after ≡ cond (impl.ghosts.eq of.0 k.0 && bytes_eq of.1.now k.1.now) true before → after ≡ list_any (is_key_of k) (take (n + 1) names)
  any-more of k {before = before} s t b a =
      a ∙ ap (λ s. cond (impl.ghosts.eq s k.0 && bytes_eq of.1.now k.1.now) true before) s ∙ ap (λ t. cond (impl.ghosts.eq (space d.sort) k.0 && bytes_eq t k.1.now) true before) t
      ∙ ap (λ s. cond (s && bytes_eq d.name k.1.now) true before) (same-spaces (space d.sort) k.0) ∙ or-cond (is_key_of k d) before ∙ ap (λ x. x || (is_key_of k d || false)) b
      ∙ sym (ap (list_any (is_key_of k)) taken ∙ list_any-append (is_key_of k) (take n names) (d ∷ []))

  -- whether the next name clashes
  pub next : {seen ok : Bool} → list_any (is_same d) (take n names) ≡ seen → is_name d ≡ ok
      → clash_behind scope (take n names) (drop n names) ≡ cond seen (Some (Twice (entry_in scope d))) (cond ok (clash_behind scope (take (n + 1) names) (drop (n + 1) names)) (Some (NotIdent (entry_in scope d))))
  next {seen = seen} {ok = ok} s o =
      ap (clash_behind scope (take n names)) dropped
      ∙ ap (λ b. cond b (Some (Twice (entry_in scope d))) (cond (is_name d) (clash_behind scope (take n names ++ d ∷ []) (drop (n + 1) names)) (Some (NotIdent (entry_in scope d))))) s
      ∙ ap (λ b. cond seen (Some (Twice (entry_in scope d))) (cond b (clash_behind scope (take n names ++ d ∷ []) (drop (n + 1) names)) (Some (NotIdent (entry_in scope d))))) o
      ∙ ap (λ earlier. cond seen (Some (Twice (entry_in scope d))) (cond ok (clash_behind scope earlier (drop (n + 1) names)) (Some (NotIdent (entry_in scope d))))) (sym taken)

  -- whether the next name was there before
  pub seen_before : (k : Key) {has added : Bool} → k.0 ≡ space d.sort → k.1.now ≡ d.name → has ≡ list_any (is_key_of k) (take n names) → added ≡ not has
      → list_any (is_same d) (take n names) ≡ not added
  seen_before k {has = has} {added = added} s t h a =
      sym (ap (λ s. list_any (λ e. is_same_space (space e.sort) s && bytes_eq e.name k.1.now) (take n names)) s
      ∙ ap (λ t. list_any (λ e. is_same_space (space e.sort) (space d.sort) && bytes_eq e.name t) (take n names)) t)
      ∙ sym h ∙ sym (ap not a ∙ not-not has)
