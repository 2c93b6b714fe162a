-- Wrappers in the order of their functions, and how many there are.
use Rattle.std.proofs.Common.{◌≡◌, ℕ, zero, suc, ◌+◌, ◌<◌, List, [], ◌∷◌, ◌++◌, length, None, Some, get_or, take, map, refl, sym, ap, ap₂, ◌∙◌, subst, Bor, arith, length-append, append_assoc, append-nil}
use Rattle.std.proofs.lemmas.List.{take_more, map-append}
use Rattle.std.proofs.lemmas.Slice.Zip.{AllZip-long}
use Rattle.std.specs.List.{AllZip, flat_map}
use Rattle.std.specs.Prelude.{Option, option_to_list, slice_get}
use Rattle.wit_model.specs.declared.function.Function.{Function}
use Rattle.wit_model.specs.declared.world.WorldItem.TheVariants as entry
use Rattle.wit_model.specs.declared.types.TypeDef.{TypeDef}
use Rattle.rust_tree.specs.declared.area.StaticArea.{StaticArea}
use Rattle.rust_tree.specs.declared.item.FnItem.{FnItem}
use Rattle.rust_tree.specs.declared.item.Item.{Item}
use Rattle.rust_tree.specs.declared.item.Item.TheVariants as item
use Rattle.rust_tree.specs.declared.runtime_item.RuntimeItem.{RuntimeItem}
use Rattle.rust_tree.specs.declared.type_item.TypeItem.{TypeItem}
use Rattle.rust_tree.specs.declared.place.FuncPlace.{FuncPlace}
use Rattle.rust_tree.specs.Tree.{wrapper_count}
use Rattle.gen_accept.specs.declared.opts.Opts.{Opts}
use Rattle.type_sites.specs.Sites.{type_sites}
use Rattle.rust_gen.specs.Body.{ArePartsWritten, IsWritten}
use Rattle.gen_accept.specs.Emitted.{functions_in, places_from, emitted_places, exported_functions, imported_functions}
use Rattle.type_defs.specs.ListedTypes.{Entries}
use Rattle.rust_gen.specs.Runtime.{runtime_module, runtime_items}
use Rattle.wit_model.specs.declared.name.WorldId.{WorldId}
use Rattle.wit_model.specs.declared.resolve.Resolve.{Resolve}
use Rattle.wit_model.specs.declared.world.World.{World}
use Rattle.rust_tree.specs.declared.macros.ModuleMacro.{ModuleMacro}
use Rattle.rust_tree.specs.declared.macros.RootMacro.{RootMacro}
use Rattle.rust_tree.specs.declared.trait_item.TraitItem.{TraitItem}
use Rattle.rust_gen.specs.Bound.{AreItems, Parts, area_items, area_of, areas_of, export_items, file_area, own_items}
use Rattle.rust_gen.specs.Exported.{file_macro, guest_trait, last_macro, trait_and_macro, where_any, world_macro}
use Rattle.abi_bindgen.specs.declared.bindgen.Asked.{Asked}
use Rattle.func_gen.specs.Body.{needed}
use Rattle.wrapper_closing.specs.FileArea.{static_area}
use Rattle.type_defs.proofs.ZipLemmas.{AllZip-more}
use Rattle.rust_gen.proofs.SkipLemmas.{skip-count}

-- one more function with its wrapper
pub wraps-more : {W : Type 0} (R : Function → W → Type 0) (fs : List (Bor Function)) (i : ℕ) (f : Bor Function) (ws : List W) (w : W)
    → i < length fs → f ≡ get_or fs i f → AllZip R (map (λ x. x.now) (take i fs)) ws → R f.now w → AllZip R (map (λ x. x.now) (take (i + 1) fs)) (ws ++ w ∷ [])
wraps-more R fs i f ws w inside is z r =
    let taken : take (i + 1) fs ≡ take i fs ++ f ∷ [] = take_more fs i f inside ∙ ap (λ v. take i fs ++ v ∷ []) (sym is) in
    let now : map (λ x. x.now) (take (i + 1) fs) ≡ map (λ x. x.now) (take i fs) ++ f.now ∷ [] = ap (map (λ x. x.now)) taken ∙ map-append (λ (x : Bor Function). x.now) (take i fs) (f ∷ []) in
    subst (λ gs. AllZip R gs (ws ++ w ∷ [])) (sym now) (AllZip-more R (map (λ x. x.now) (take i fs)) ws f.now w z r)

-- what holds of all functions holds of one that a loop has come to
pub at-loop : (P : Function → Type 0) (fs : List (Bor Function)) → ((nth : ℕ) (f : Function) → slice_get (map (λ x. x.now) fs) nth ≡ Some f → P f)
    → (i : ℕ) (f : Bor Function) → i < length fs → f ≡ get_or fs i f → P f.now
at-loop P [] all i f inside is = absurd (omega (inside, arith))
at-loop P (g ∷ fs) all zero f inside is = subst (λ x. P x.now) (sym is) (all 0 g.now refl)
at-loop P (g ∷ fs) all (suc i) f inside is = at-loop P fs (λ nth. all (suc nth)) i f (omega (inside, arith)) is

-- how many wrappers there are

wrapper_count-append : (xs ys : List Item) → wrapper_count (xs ++ ys) ≡ wrapper_count xs + wrapper_count ys
wrapper_count-append [] ys = omega arith
wrapper_count-append (item.Import f ∷ xs) ys = let h = wrapper_count-append xs ys in omega arith
wrapper_count-append (item.Export e ∷ xs) ys = let h = wrapper_count-append xs ys in omega arith
wrapper_count-append (item.Trait t ∷ xs) ys = wrapper_count-append xs ys
wrapper_count-append (item.ModuleMacro m ∷ xs) ys = wrapper_count-append xs ys
wrapper_count-append (item.Runtime parts ∷ xs) ys = wrapper_count-append xs ys
wrapper_count-append (item.RootMacro m ∷ xs) ys = wrapper_count-append xs ys
wrapper_count-append (item.PostReturn p ∷ xs) ys = wrapper_count-append xs ys
wrapper_count-append (item.Area a ∷ xs) ys = wrapper_count-append xs ys
wrapper_count-append (item.Type t ∷ xs) ys = wrapper_count-append xs ys

wrapper_count-imports : (ws : List FnItem) → wrapper_count (map item.Import ws) ≡ length ws
wrapper_count-imports [] = refl
wrapper_count-imports (w ∷ ws) = ap suc (wrapper_count-imports ws)

wrapper_count-exports : (es : List Parts) → wrapper_count (flat_map export_items es) ≡ length es
wrapper_count-exports [] = refl
wrapper_count-exports ((e, None, a) ∷ es) = ap suc (wrapper_count-exports es)
wrapper_count-exports ((e, Some p, a) ∷ es) = ap suc (wrapper_count-exports es)

-- the items of one more export
pub items-more : (front : List Item) (before : List Parts) (parts : Parts) (items new : List Item) → items ≡ front ++ flat_map export_items before → new ≡ items ++ export_items parts
    → new ≡ front ++ flat_map export_items (before ++ parts ∷ [])
items-more front before parts items new e f =
    f ∙ ap (λ is. is ++ export_items parts) e ∙ append_assoc front (flat_map export_items before) (export_items parts)
    ∙ ap (λ is. front ++ is) (sym (flat_map-more before))
  where
    flat_map-more : (before : List Parts) → flat_map export_items (before ++ parts ∷ []) ≡ flat_map export_items before ++ export_items parts
    flat_map-more [] = append-nil (export_items parts)
    flat_map-more (x ∷ before) = ap (λ is. export_items x ++ is) (flat_map-more before) ∙ sym (append_assoc (export_items x) (flat_map export_items before) (export_items parts))

-- items among which there is no wrapper

no_wrapper-trait : (fs : List Function) (t : TraitItem) (m : ModuleMacro) → wrapper_count (where_any fs (item.Trait t ∷ item.ModuleMacro m ∷ [])) ≡ 0
no_wrapper-trait [] t m = refl
no_wrapper-trait (f ∷ fs) t m = refl

no_wrapper-area : (o : Option StaticArea) → wrapper_count (area_items o) ≡ 0
no_wrapper-area None = refl
no_wrapper-area (Some a) = refl

no_wrapper-runtime : (asked : List RuntimeItem) → wrapper_count (runtime_module asked) ≡ 0
no_wrapper-runtime [] = refl
no_wrapper-runtime (r ∷ asked) = refl

no_wrapper-macro : (fs : List Function) (m : RootMacro) → wrapper_count (where_any fs (item.RootMacro m ∷ [])) ≡ 0
no_wrapper-macro [] m = refl
no_wrapper-macro (f ∷ fs) m = refl

pub length-places_from : (n : ℕ) (es : Entries) → length (places_from n es) ≡ length (functions_in es)
length-places_from n [] = refl
length-places_from n ((k, entry.Interface _) ∷ es) = length-places_from (n + 1) es
length-places_from n ((k, entry.Function f) ∷ es) = ap suc (length-places_from (n + 1) es)
length-places_from n ((k, entry.Named _) ∷ es) = length-places_from (n + 1) es

-- the areas of one more export
pub areas-more : (before : List Parts) (parts : Parts) (areas new : List Asked) → areas ≡ flat_map option_to_list (areas_of before) → new ≡ areas ++ option_to_list parts.2 → new ≡ flat_map option_to_list (areas_of (before ++ parts ∷ []))
areas-more before parts areas new e f = f ∙ ap (λ xs. xs ++ option_to_list parts.2) e ∙ sym (each before)
  where
    each : (before : List Parts) → flat_map option_to_list (areas_of (before ++ parts ∷ [])) ≡ flat_map option_to_list (areas_of before) ++ option_to_list parts.2
    each [] = append-nil (option_to_list parts.2)
    each (x ∷ before) = ap (λ xs. option_to_list x.2 ++ xs) (each before) ∙ sym (append_assoc (option_to_list x.2) (flat_map option_to_list (areas_of before)) (option_to_list parts.2))

-- the items of a file, one part behind another
pub own-first : (types : List TypeDef) (ts : List TypeItem) (ws : List FnItem) (es : List Parts) (world : World) (behind : List Item)
    → own_items types ts ws es world ++ behind ≡ map item.Type ts ++ (map item.Import ws ++ (flat_map export_items es ++ (trait_and_macro types world ++ (area_of es ++ behind))))
own-first types ts ws es world behind =
    let area = area_of es in
    let traits = trait_and_macro types world in
    let exports = flat_map export_items es in
    let imports = map item.Import ws in
    append_assoc (map item.Type ts) (imports ++ (exports ++ (traits ++ area))) behind
    ∙ ap (λ is. map item.Type ts ++ is)
    (append_assoc imports (exports ++ (traits ++ area)) behind
    ∙ ap (λ is. imports ++ is) (append_assoc exports (traits ++ area) behind ∙ ap (λ is. exports ++ is) (append_assoc traits area behind)))

-- items that were put behind one another
pub own-made : (types : List TypeDef) (ts : List TypeItem) (ws : List FnItem) (es : List Parts) (world : World) (areas : List Asked) (i0 i1 i2 i3 i4 : List Item)
    → i0 ≡ map item.Type ts → i1 ≡ i0 ++ map item.Import ws → i2 ≡ i1 ++ flat_map export_items es → i3 ≡ i2 ++ trait_and_macro types world
    → areas ≡ flat_map option_to_list (areas_of es) → i4 ≡ i3 ++ area_items (static_area (needed areas)) → i4 ≡ own_items types ts ws es world
own-made types ts ws es world areas i0 i1 i2 i3 i4 a b c d f g =
    g ∙ ap₂ (λ is xs. is ++ area_items (static_area (needed xs))) (d ∙ ap (λ is. is ++ traits) (c ∙ ap (λ is. is ++ flat_map export_items es) (b ∙ ap (λ is. is ++ map item.Import ws) a))) f
    ∙ append_assoc ((map item.Type ts ++ map item.Import ws) ++ flat_map export_items es) traits (area_of es)
    ∙ append_assoc (map item.Type ts ++ map item.Import ws) (flat_map export_items es) (traits ++ area_of es)
    ∙ append_assoc (map item.Type ts) (map item.Import ws) (flat_map export_items es ++ (traits ++ area_of es))
  where
    traits : List Item
    traits = trait_and_macro types world

pub all-made : (own i4 i5 i6 last : List Item) (asked order : List RuntimeItem) → i4 ≡ own → asked ≡ order → i5 ≡ i4 ++ runtime_module (runtime_items asked) → i6 ≡ i5 ++ last
    → i6 ≡ own ++ (runtime_module (runtime_items order) ++ last)
all-made own i4 i5 i6 last asked order a b c d =
    d ∙ ap (λ is. is ++ last) (c ∙ ap₂ (λ is xs. is ++ runtime_module (runtime_items xs)) a b) ∙ append_assoc own (runtime_module (runtime_items order)) last

-- there is a place for each wrapper
pub places_fit : (opts : Opts) (r : Resolve) (id : WorldId) (world : World) (items : List Item) (places : List FuncPlace)
    → AreItems (IsWritten r.types (type_sites r world)) (ArePartsWritten r.types (type_sites r world)) opts r id world items → places ≡ emitted_places world → length places ≡ wrapper_count items
places_fit opts r id world items places a p =
    let last = last_macro world in
    let asked = a.runtime in
    let runtime = runtime_module asked in
    let traits = trait_and_macro r.types world in
    let traits_none : wrapper_count traits ≡ 0 = no_wrapper-trait (exported_functions world) (guest_trait r.types (exported_functions world)) (world_macro r.types world) in
    let runtime_none : wrapper_count runtime ≡ 0 = no_wrapper-runtime asked in
    let last_none : wrapper_count last ≡ 0 = no_wrapper-macro (exported_functions world) (file_macro world) in
    let area = area_of a.exports in
    let area_none : wrapper_count area ≡ 0 = no_wrapper-area (file_area (areas_of a.exports)) in
    let behind = traits ++ (area ++ (runtime ++ last)) in
    let a1 = wrapper_count-append runtime last in
    let a5 = wrapper_count-append area (runtime ++ last) in
    let a2 = wrapper_count-append traits (area ++ (runtime ++ last)) in
    let a3 = wrapper_count-append (flat_map export_items a.exports) behind in
    let a4 = wrapper_count-append (map item.Import a.wrappers) (flat_map export_items a.exports ++ behind) in
    let imports = wrapper_count-imports a.wrappers in
    let exports = wrapper_count-exports a.exports in
    let front = skip-count a.types (map item.Import a.wrappers ++ (flat_map export_items a.exports ++ behind)) in
    let all = ap wrapper_count (a.are ∙ own-first r.types a.types a.wrappers a.exports world (runtime ++ last)) in
    let counted : wrapper_count items ≡ length a.wrappers + length a.exports = omega arith in
    ap length p ∙ length-append (places_from 0 world.imports) (places_from 0 world.exports)
    ∙ ap (λ n. n + length (places_from 0 world.exports)) (length-places_from 0 world.imports ∙ sym (AllZip-long (IsWritten r.types (type_sites r world)) (imported_functions world) a.wrappers a.wraps))
    ∙ ap (λ n. length a.wrappers + n) (length-places_from 0 world.exports ∙ sym (AllZip-long (ArePartsWritten r.types (type_sites r world)) (exported_functions world) a.exports a.exported))
    ∙ sym counted
