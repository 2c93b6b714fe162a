-- The area for all records, as it is found one after the other.
use Rattle.std.proofs.Common.{◌≡◌, ℕ, ◌≤◌, false, List, [], ◌∷◌, drop, length, map, Some, refl, sym, ap, ◌∙◌}
use Rattle.std.specs.Prelude.{◌==◌}
use Rattle.std.specs.List.{fold}
use Rattle.std.proofs.lemmas.List.{drop_all}
use Rattle.wit_model.specs.Size.{greater_alignment, greater_size}
use Rattle.wit_model.specs.declared.size.Alignment.TheVariants.{Bytes}
use Rattle.abi_bindgen.specs.declared.bindgen.Asked.{Asked}
use Rattle.func_gen.specs.Body.{greater, needed}

folded : (a : Asked) (asked : List Asked) → fold greater a asked ≡ record { size = fold greater_size a.size (map (λ (b : Asked). b.size) asked); align = fold greater_alignment a.align (map (λ (b : Asked). b.align) asked) }
folded a [] = refl
folded a (b ∷ asked) = folded (greater a b) asked

abbrev pub nothing : Asked
nothing = record { size = record { bytes = 0; pointers = 0 }; align = Bytes 1 }

pub found : (asked : List Asked) (area : Asked) (i : ℕ) → (length asked == 0) ≡ false → length asked ≤ i → fold greater area (drop i asked) ≡ fold greater nothing asked → Some area ≡ needed asked
found [] area i some past h = absurd cc
found (a ∷ asked) area i some past h = ap (λ x. Some x) (sym (ap (fold greater area) (drop_all i (a ∷ asked) past)) ∙ h ∙ folded nothing (a ∷ asked))
