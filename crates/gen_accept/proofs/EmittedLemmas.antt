-- The functions and places among the first entries, one entry at a time.
use Rattle.std.proofs.Common.{◌≡◌, ℕ, ◌+◌, ◌<◌, [], ◌∷◌, ◌++◌, length, get_or, take, sym, ap, ◌∙◌, arith, append_assoc, append-nil, length-take}
use Rattle.std.proofs.lemmas.List.{take_more}
use Rattle.wit_model.specs.declared.world.WorldKey.{WorldKey}
use Rattle.wit_model.specs.declared.world.WorldItem.{WorldItem}
use Rattle.gen_accept.specs.Emitted.{function_at, functions_in, place_at, places_from}
use Rattle.type_defs.specs.ListedTypes.{Entries}

pub functions_in-append : (xs : Entries) (e : WorldKey × WorldItem) → functions_in (xs ++ e ∷ []) ≡ functions_in xs ++ function_at e.1
functions_in-append [] e = append-nil (function_at e.1)
functions_in-append (x ∷ xs) e = ap (λ fs. function_at x.1 ++ fs) (functions_in-append xs e) ∙ sym (append_assoc (function_at x.1) (functions_in xs) (function_at e.1))

pub places_from-append : (n : ℕ) (xs : Entries) (e : WorldKey × WorldItem) → places_from n (xs ++ e ∷ []) ≡ places_from n xs ++ place_at (n + length xs) e.1
places_from-append n [] e = append-nil (place_at n e.1) ∙ ap (λ m. place_at m e.1) (omega arith)
places_from-append n (x ∷ xs) e =
    ap (λ ps. place_at n x.1 ++ ps) (places_from-append (n + 1) xs e ∙ ap (λ m. places_from (n + 1) xs ++ place_at m e.1) (omega arith))
    ∙ sym (append_assoc (place_at n x.1) (places_from (n + 1) xs) _)

module _ (xs : Entries) (i : ℕ) (e : WorldKey × WorldItem) (inside : i < length xs) (is : e ≡ get_or xs i e) where
  taken : take (i + 1) xs ≡ take i xs ++ e ∷ []
  taken = take_more xs i e inside ∙ ap (λ v. take i xs ++ v ∷ []) (sym is)

  pub functions_in-more : functions_in (take (i + 1) xs) ≡ functions_in (take i xs) ++ function_at e.1
  functions_in-more = ap functions_in taken ∙ functions_in-append (take i xs) e

  pub places_in-more : places_from 0 (take (i + 1) xs) ≡ places_from 0 (take i xs) ++ place_at i e.1
  places_in-more =
      let e1 : 0 + length (take i xs) ≡ i = omega (arith, length-take {A = WorldKey × WorldItem}) in
      ap (places_from 0) taken ∙ places_from-append 0 (take i xs) e ∙ ap (λ m. places_from 0 (take i xs) ++ place_at m e.1) e1
