-- What denotes parameters by their names are sites of these names.
use Rattle.std.proofs.Common.{◌≡◌, ℕ, ◌≤◌, List, [], ◌∷◌, ◌++◌, drop, length, inl, refl, sym, ap, ◌∙◌, append-nil}
use Rattle.std.proofs.lemmas.List.{drop_all, length-map}
use Rattle.std.specs.List.{AllByRecursion}
use Rattle.wit_model.specs.Bytes.{Bytes}
use Rattle.func_gen.specs.Sites.{IsSite, site_names}
use Rattle.func_gen.specs.declared.function_bindgen.ParamSite.{ParamSite}
use Rattle.wrapper_closing.specs.Params.{local_site, local_sites}

pub are_sites : (names : List Bytes) → AllByRecursion IsSite (local_sites names)
are_sites [] = tt
are_sites (name ∷ names) = (inl refl, are_sites names)

pub named_so : (names : List Bytes) → site_names (local_sites names) ≡ names
named_so [] = refl
named_so (name ∷ names) = ap (λ ns. name ∷ ns) (named_so names)

pub sites_many : (names : List Bytes) → length (local_sites names) ≡ length names
sites_many names = length-map names local_site

-- a loop that makes sites has made all at its end
pub ended : {A : Type 0} (f : List A → List ParamSite) → f [] ≡ [] → (sites : List ParamSite) (xs : List A) (i : ℕ) → length xs ≤ i → sites ++ f (drop i xs) ≡ f xs → sites ≡ f xs
ended f empty sites xs i over made = sym (append-nil sites) ∙ ap (λ ys. sites ++ ys) (sym empty ∙ ap f (sym (drop_all i xs over))) ∙ made
