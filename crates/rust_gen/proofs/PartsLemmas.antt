-- What is found in the items of a world's exported functions: their wrappers, and their post-return functions.
use Rattle.std.proofs.Common.{◌≡◌, ℕ, zero, suc, Bool, true, false, cond, not, List, [], ◌∷◌, ◌++◌, Option, None, Some, map, refl, ap, subst, ◌∙◌, append-nil}
use Rattle.std.specs.Prelude.{filter, find, slice_get}
use Rattle.std.specs.List.{AllZip, flat_map, list_any}
use Rattle.std.specs.Str.{bytes_eq}
use Rattle.std.proofs.lemmas.Bool.{and_parts, not-true, or_parts}
use Rattle.std.proofs.lemmas.List.Elements.{filter-append}
use Rattle.wit_model.specs.declared.function.Function.{Function}
use Rattle.wit_model.specs.declared.types.TypeDef.{TypeDef}
use Rattle.rust_tree.specs.declared.area.StaticArea.{StaticArea}
use Rattle.wit_model.specs.declared.world.World.{World}
use Rattle.wit_model.specs.Distinct.{is_distinct}
use Rattle.rust_tree.specs.declared.macros.ModuleMacro.{ModuleMacro}
use Rattle.rust_tree.specs.declared.export.PostReturnFn.{PostReturnFn}
use Rattle.rust_tree.specs.declared.macros.RootMacro.{RootMacro}
use Rattle.rust_tree.specs.declared.trait_item.TraitItem.{TraitItem}
use Rattle.rust_tree.specs.declared.item.FnItem.{FnItem}
use Rattle.rust_tree.specs.declared.item.Item.{Item}
use Rattle.rust_tree.specs.declared.item.Item.TheVariants as item
use Rattle.rust_tree.specs.declared.runtime_item.RuntimeItem.{RuntimeItem}
use Rattle.gen_accept.specs.Area.{needs_return}
use Rattle.wrapper_run.specs.Entries.{exports_in, post_returns_in}
use Rattle.wit_model.specs.Bytes.{Bytes}
use Rattle.wrapper_values.specs.Owning.{listed}
use Rattle.wrapper_run.specs.PostReturn.{post_return_named}
use Rattle.wrapper_run.proofs.LocalLemmas.{bytes_eq-same}
use Rattle.func_gen.specs.declared.type_site.TypeSite.{TypeSite}
use Rattle.rust_gen.specs.Body.{ArePartsWritten, ReturnWritten}
use Rattle.rust_gen.specs.Bound.{Parts, area_items, export_items}
use Rattle.gen_accept.specs.Emitted.{exported_functions}
use Rattle.rust_gen.specs.Exported.{file_macro, guest_trait, last_macro, trait_and_macro, where_any, world_macro}
use Rattle.rust_gen.specs.Runtime.{runtime_module}
use Rattle.rust_gen.proofs.ItemLemmas.{apart, found_of}

-- the wrappers: those of exports, in their order

exports-imports : (ws : List FnItem) (items : List Item) → exports_in (map item.Import ws ++ items) ≡ exports_in items
exports-imports [] items = refl
exports-imports (w ∷ ws) items = exports-imports ws items

exports-parts : (es : List Parts) (behind : List Item) → exports_in behind ≡ [] → exports_in (flat_map export_items es ++ behind) ≡ map (λ parts. parts.0) es
exports-parts [] behind h = h
exports-parts ((e, None, a) ∷ es) behind h = ap (λ xs. e ∷ xs) (exports-parts es behind h)
exports-parts ((e, Some p, a) ∷ es) behind h = ap (λ xs. e ∷ xs) (exports-parts es behind h)

pub exports-of_parts : (ws : List FnItem) (es : List Parts) (behind : List Item) → exports_in behind ≡ [] → exports_in (map item.Import ws ++ (flat_map export_items es ++ behind)) ≡ map (λ parts. parts.0) es
exports-of_parts ws es behind h = exports-imports ws (flat_map export_items es ++ behind) ∙ exports-parts es behind h

-- the post-return functions

abbrev returned_in : List Parts → List PostReturnFn
returned_in es = flat_map (λ parts. listed parts.1) es

returns-imports : (ws : List FnItem) (items : List Item) → post_returns_in (map item.Import ws ++ items) ≡ post_returns_in items
returns-imports [] items = refl
returns-imports (w ∷ ws) items = returns-imports ws items

returns-parts : (es : List Parts) (behind : List Item) → post_returns_in behind ≡ [] → post_returns_in (flat_map export_items es ++ behind) ≡ returned_in es
returns-parts [] behind h = h
returns-parts ((e, None, a) ∷ es) behind h = returns-parts es behind h
returns-parts ((e, Some p, a) ∷ es) behind h = ap (λ ps. p ∷ ps) (returns-parts es behind h)

returns-of_parts : (ws : List FnItem) (es : List Parts) (behind : List Item) → post_returns_in behind ≡ [] → post_returns_in (map item.Import ws ++ (flat_map export_items es ++ behind)) ≡ returned_in es
returns-of_parts ws es behind h = returns-imports ws (flat_map export_items es ++ behind) ∙ returns-parts es behind h

-- that of a base name is the first of them that has it

named-first : (base : Bytes) (items : List Item) → post_return_named base items ≡ find (λ p. bytes_eq p.base base) (post_returns_in items)
named-first base [] = refl
named-first base (item.PostReturn p ∷ items) = ap (λ o. cond (bytes_eq p.base base) (Some p) o) (named-first base items)
named-first base (_ ∷ items) = named-first base items

module _ (types : List TypeDef) (sites : List (Option TypeSite)) where
  -- a function's own has its base name, and no other has

  base_of : (needed : Bool) (f : Function) (p : PostReturnFn) → ReturnWritten types sites needed f (Some p) → p.base ≡ f.name.snake
  base_of true f p (q, e, is) = let same : p ≡ q = cc in ap (λ p. p.base) same ∙ is.made.outside.base
  base_of false f p e = absurd (cc)

  own_kept : (f : Function) (o : Option PostReturnFn) → ReturnWritten types sites (needs_return types f) f o → filter (λ p. bytes_eq p.base f.name.snake) (listed o) ≡ listed o
  own_kept f None is = refl
  own_kept f (Some p) is =
      ap (λ b. cond b (p ∷ []) []) (ap (λ base. bytes_eq base f.name.snake) (base_of (needs_return types f) f p is) ∙ bytes_eq-same f.name.snake)

  other_left : (f : Function) (o : Option PostReturnFn) (base : Bytes) → ReturnWritten types sites (needs_return types f) f o → bytes_eq f.name.snake base ≡ false → filter (λ p. bytes_eq p.base base) (listed o) ≡ []
  other_left f None base is h = refl
  other_left f (Some p) base is h = ap (λ b. cond b (p ∷ []) []) (ap (λ own. bytes_eq own base) (base_of (needs_return types f) f p is) ∙ h)

  all_left : (fs : List Function) (es : List Parts) (base : Bytes) → AllZip (ArePartsWritten types sites) fs es → list_any (λ u. bytes_eq u base) (map (λ f. f.name.snake) fs) ≡ false → filter (λ p. bytes_eq p.base base) (returned_in es) ≡ []
  all_left [] [] base are h = refl
  all_left [] (e ∷ es) base are h = absurd are
  all_left (f ∷ fs) [] base are h = absurd are
  all_left (f ∷ fs) (e ∷ es) base are h =
      let parts = or_parts (bytes_eq f.name.snake base) (list_any (λ u. bytes_eq u base) (map (λ f. f.name.snake) fs)) h in
      let named : PostReturnFn → Bool = λ p. bytes_eq p.base base in
      filter-append named (listed e.1) (returned_in es) ∙ ap (λ ps. ps ++ filter named (returned_in es)) (other_left f e.1 base are.0.1 parts.0) ∙ all_left fs es base are.1 parts.1

  returned-alone : (fs : List Function) (es : List Parts) (nth : ℕ) (f : Function) (parts : Parts) → AllZip (ArePartsWritten types sites) fs es → is_distinct (map (λ f. f.name.snake) fs) ≡ true → slice_get fs nth ≡ Some f → slice_get es nth ≡ Some parts
      → filter (λ p. bytes_eq p.base f.name.snake) (returned_in es) ≡ listed parts.1
  returned-alone [] es nth f parts are d at there = absurd (cc)
  returned-alone (g ∷ fs) [] nth f parts are d at there = absurd are
  returned-alone (g ∷ fs) (e ∷ es) zero f parts are d at there =
      let is : g ≡ f = cc in
      let has : e ≡ parts = cc in
      let own : PostReturnFn → Bool = λ p. bytes_eq p.base g.name.snake in
      let free = not-true (list_any (λ u. bytes_eq u g.name.snake) (map (λ f. f.name.snake) fs)) (and_parts (not (list_any (λ u. bytes_eq u g.name.snake) (map (λ f. f.name.snake) fs))) (is_distinct (map (λ f. f.name.snake) fs)) d).0 in
      subst (λ f. filter (λ p. bytes_eq p.base f.name.snake) (returned_in (e ∷ es)) ≡ listed parts.1) is
      (filter-append own (listed e.1) (returned_in es) ∙ ap (λ ps. ps ++ filter own (returned_in es)) (own_kept g e.1 are.0.1)
      ∙ ap (λ ps. listed e.1 ++ ps) (all_left fs es g.name.snake are.1 free) ∙ append-nil (listed e.1) ∙ ap (λ parts. listed parts.1) has)
  returned-alone (g ∷ fs) (e ∷ es) (suc nth) f parts are d at there =
      let named : PostReturnFn → Bool = λ p. bytes_eq p.base f.name.snake in
      let both = and_parts (not (list_any (λ u. bytes_eq u g.name.snake) (map (λ f. f.name.snake) fs))) (is_distinct (map (λ f. f.name.snake) fs)) d in
      let free = not-true (list_any (λ u. bytes_eq u g.name.snake) (map (λ f. f.name.snake) fs)) both.0 in
      filter-append named (listed e.1) (returned_in es)
      ∙ ap (λ ps. ps ++ filter named (returned_in es)) (other_left g e.1 f.name.snake are.0.1 (apart (λ f. f.name.snake) fs nth f g.name.snake free at))
      ∙ returned-alone fs es nth f parts are.1 both.1 at there

  -- the file has a function's own post-return function, where it has one

  pub post_return_named-at : (ws : List FnItem) (es : List Parts) (fs : List Function) (behind : List Item) (nth : ℕ) (f : Function) (parts : Parts) → AllZip (ArePartsWritten types sites) fs es → is_distinct (map (λ f. f.name.snake) fs) ≡ true
      → slice_get fs nth ≡ Some f → slice_get es nth ≡ Some parts → post_returns_in behind ≡ [] → post_return_named f.name.snake (map item.Import ws ++ (flat_map export_items es ++ behind)) ≡ parts.1
  post_return_named-at ws es fs behind nth f parts are d at there h =
      let named : PostReturnFn → Bool = λ p. bytes_eq p.base f.name.snake in
      named-first f.name.snake (map item.Import ws ++ (flat_map export_items es ++ behind)) ∙ ap (find named) (returns-of_parts ws es behind h)
      ∙ found_of named (returned_in es) parts.1 (returned-alone fs es nth f parts are d at there)

  -- no other post-return function has its base name
  pub post_return-alone : (ws : List FnItem) (es : List Parts) (fs : List Function) (behind : List Item) (nth : ℕ) (f : Function) (parts : Parts) (p : PostReturnFn) → AllZip (ArePartsWritten types sites) fs es → is_distinct (map (λ f. f.name.snake) fs) ≡ true
      → slice_get fs nth ≡ Some f → slice_get es nth ≡ Some parts → post_returns_in behind ≡ [] → parts.1 ≡ Some p
      → filter (λ x. bytes_eq x.base f.name.snake) (post_returns_in (map item.Import ws ++ (flat_map export_items es ++ behind))) ≡ p ∷ []
  post_return-alone ws es fs behind nth f parts p are d at there h has =
      ap (filter (λ x. bytes_eq x.base f.name.snake)) (returns-of_parts ws es behind h) ∙ returned-alone fs es nth f parts are d at there ∙ ap listed has

  -- what is picked of items is nothing behind the wrappers, where it passes over the trait, the macros, the static area and the
  -- runtime module

  nothing-behind : {A : Type 0} (picked : List Item → List A)
      → ((t : TraitItem) (m : ModuleMacro) (items : List Item) → picked (item.Trait t ∷ item.ModuleMacro m ∷ items) ≡ picked items)
      → ((a : StaticArea) (items : List Item) → picked (item.Area a ∷ items) ≡ picked items) → ((asked : List RuntimeItem) (items : List Item) → picked (item.Runtime asked ∷ items) ≡ picked items)
      → ((r : RootMacro) → picked (item.RootMacro r ∷ []) ≡ []) → picked [] ≡ []
      → (o : Option StaticArea) (asked : List RuntimeItem) (world : World) → picked (trait_and_macro types world ++ (area_items o ++ (runtime_module asked ++ last_macro world))) ≡ []
  nothing-behind picked trait area runtime root none o asked world =
      let fs = exported_functions world in
      past_trait fs (area_items o ++ (runtime_module asked ++ last_macro world))
      ∙ past_area o (runtime_module asked ++ last_macro world)
      ∙ past_runtime asked (last_macro world) ∙ past_root fs
    where
      past_trait : (fs : List Function) (items : List Item) → picked (where_any fs (item.Trait (guest_trait types (exported_functions world)) ∷ item.ModuleMacro (world_macro types world) ∷ []) ++ items) ≡ picked items
      past_trait [] items = refl
      past_trait (f ∷ fs) items = trait (guest_trait types (exported_functions world)) (world_macro types world) items

      past_area : (o : Option StaticArea) (items : List Item) → picked (area_items o ++ items) ≡ picked items
      past_area None items = refl
      past_area (Some a) items = area a items

      past_runtime : (asked : List RuntimeItem) (items : List Item) → picked (runtime_module asked ++ items) ≡ picked items
      past_runtime [] items = refl
      past_runtime (a ∷ asked) items = runtime (a ∷ asked) items

      past_root : (fs : List Function) → picked (where_any fs (item.RootMacro (file_macro world) ∷ [])) ≡ []
      past_root [] = none
      past_root (f ∷ fs) = root (file_macro world)

  pub no_exports-behind : (o : Option StaticArea) (asked : List RuntimeItem) (world : World) → exports_in (trait_and_macro types world ++ (area_items o ++ (runtime_module asked ++ last_macro world))) ≡ []
  no_exports-behind o asked world = nothing-behind exports_in (λ t m items. refl) (λ a items. refl) (λ parts items. refl) (λ r. refl) refl o asked world

  pub no_returns-behind : (o : Option StaticArea) (asked : List RuntimeItem) (world : World) → post_returns_in (trait_and_macro types world ++ (area_items o ++ (runtime_module asked ++ last_macro world))) ≡ []
  no_returns-behind o asked world = nothing-behind post_returns_in (λ t m items. refl) (λ a items. refl) (λ parts items. refl) (λ r. refl) refl o asked world
