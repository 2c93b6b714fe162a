-- Tests of the types that a world's functions name: two that agree give the same, and one that another implies passes too.
use Rattle.std.proofs.Common.{◌≡◌, ◌∙◌, Bool, true, ◌&&◌, List, [], ◌∷◌, Option, None, Some, refl, ap}
use Rattle.std.specs.List.{list_all}
use Rattle.std.proofs.lemmas.Bool.{and_from, and_parts}
use Rattle.wit_model.specs.declared.function.Function.{Function}
use Rattle.wit_model.specs.declared.function.Param.{Param}
use Rattle.wit_model.specs.declared.types.WitType.{WitType}
use Rattle.wit_model.specs.declared.world.World.{World}
use Rattle.wit_model.specs.declared.world.WorldItem.{WorldItem}
use Rattle.wit_model.specs.declared.world.WorldItem.TheVariants as item
use Rattle.type_defs.specs.FunctionTypes.{entries_pass, function_passes, functions_pass, item_passes, passes_or_none}
use Rattle.type_defs.specs.ListedTypes.{Entries}

pub all-same : {A : Type 0} (p q : A → Bool) → ((x : A) → p x ≡ q x) → (xs : List A) → list_all p xs ≡ list_all q xs
all-same p q same [] = refl
all-same p q same (x ∷ xs) = ap (λ b. b && list_all p xs) (same x) ∙ ap (λ b. q x && b) (all-same p q same xs)

pub all-more : {A : Type 0} (p q : A → Bool) → ((x : A) → p x ≡ true → q x ≡ true) → (xs : List A) → list_all p xs ≡ true → list_all q xs ≡ true
all-more p q more [] h = refl
all-more p q more (x ∷ xs) h = let both = and_parts (p x) (list_all p xs) h in and_from (q x) (list_all q xs) (more x both.0) (all-more p q more xs both.1)

module _ (p q : WitType → Bool) (same : (ty : WitType) → p ty ≡ q ty) where
  result-same : (answer : Option WitType) → passes_or_none p answer ≡ passes_or_none q answer
  result-same None = refl
  result-same (Some ty) = same ty

  function-same : (f : Function) → function_passes p f ≡ function_passes q f
  function-same f =
      ap (λ b. b && passes_or_none p f.result) (all-same (λ (x : Param). p x.ty) (λ x. q x.ty) (λ x. same x.ty) f.params) ∙ ap (λ b. list_all (λ x. q x.ty) f.params && b) (result-same f.result)

  item-same : (i : WorldItem) → item_passes p i ≡ item_passes q i
  item-same (item.Interface _) = refl
  item-same (item.Function f) = function-same f
  item-same (item.Named _) = refl

  entries-same : (entries : Entries) → entries_pass p entries ≡ entries_pass q entries
  entries-same entries = all-same (λ e. item_passes p e.1) (λ e. item_passes q e.1) (λ e. item-same e.1) entries

  pub functions-same : (world : World) → functions_pass p world ≡ functions_pass q world
  functions-same world = ap (λ b. b && entries_pass p world.exports) (entries-same world.imports) ∙ ap (λ b. entries_pass q world.imports && b) (entries-same world.exports)

module _ (p q : WitType → Bool) (more : (ty : WitType) → p ty ≡ true → q ty ≡ true) where
  result-more : (answer : Option WitType) → passes_or_none p answer ≡ true → passes_or_none q answer ≡ true
  result-more None h = refl
  result-more (Some ty) h = more ty h

  item-more : (i : WorldItem) → item_passes p i ≡ true → item_passes q i ≡ true
  item-more (item.Interface _) h = refl
  item-more (item.Named _) h = refl
  item-more (item.Function f) h =
      let both = and_parts (list_all (λ x. p x.ty) f.params) (passes_or_none p f.result) h in
      and_from (list_all (λ x. q x.ty) f.params) (passes_or_none q f.result) (all-more (λ (x : Param). p x.ty) (λ x. q x.ty) (λ x. more x.ty) f.params both.0) (result-more f.result both.1)

  entries-more : (entries : Entries) → entries_pass p entries ≡ true → entries_pass q entries ≡ true
  entries-more entries h = all-more (λ e. item_passes p e.1) (λ e. item_passes q e.1) (λ e. item-more e.1) entries h

  pub functions-more : (world : World) → functions_pass p world ≡ true → functions_pass q world ≡ true
  functions-more world h =
      let both = and_parts (entries_pass p world.imports) (entries_pass p world.exports) h in
      and_from (entries_pass q world.imports) (entries_pass q world.exports) (entries-more world.imports both.0) (entries-more world.exports both.1)
