-- The sites of the types of a table, one after another, by the facts of their types.
use Rattle.std.proofs.Common.{◌≡◌, ℕ, suc, ◌+◌, ◌<◌, ◌≤◌, Bool, true, false, cond, List, [], ◌∷◌, ◌++◌, length, drop, get_or, map, Option, None, Some, is_some, refl, sym, ap, append_assoc, append-nil, ◌∙◌, arith}
use Rattle.std.specs.Prelude.{slice_get}
use Rattle.std.specs.List.{enumerate_from}
use Rattle.std.proofs.Math.Seq.{drop-cons}
use Rattle.std.proofs.lemmas.List.{drop_all}
use Rattle.std.proofs.lemmas.Option.{get_or_from_slice_get}
use Rattle.wit_model.specs.declared.name.Name.{Name}
use Rattle.wit_model.specs.declared.name.TypeId.{TypeId}
use Rattle.wit_model.specs.declared.name.WorldId.{WorldId}
use Rattle.wit_model.specs.declared.resolve.Resolve.{Resolve}
use Rattle.wit_model.specs.declared.types.TypeDef.{TypeDef}
use Rattle.wit_model.specs.declared.types.TypeDefKind.{TypeDefKind}
use Rattle.wit_model.specs.declared.types.TypeDefKind.TheVariants as kind
use Rattle.wit_model.specs.declared.world.World.{World}
use Rattle.type_facts.specs.declared.info.TypeInfo.{TypeInfo}
use Rattle.type_facts.specs.Facts.{IsInfoOf}
use Rattle.type_defs.specs.Levels.{are_shallow}
use Rattle.type_defs.specs.Modes.{is_used}
use Rattle.type_defs.specs.Used.{uses}
use Rattle.type_defs.proofs.UsedLemmas.{used_is}
use Rattle.func_gen.specs.declared.type_site.TypeSite.{TypeSite}
use Rattle.type_sites.specs.Sites.{site_at, site_by, site_of, type_sites}

pub unnamed-site : (k : TypeDefKind) → site_by k None ≡ None
unnamed-site (kind.Record fields) = refl
unnamed-site (kind.Enum cases) = refl
unnamed-site (kind.Flags members) = refl
unnamed-site (kind.Variant cases) = refl
unnamed-site _ = refl

none-either : (a b : Bool) → cond a None (let o : Option TypeSite = None in o) ≡ cond b None None
none-either true true = refl
none-either true false = refl
none-either false true = refl
none-either false false = refl

-- by the facts of a type, as by the functions
pub site-told : (r : Resolve) (w : WorldId) (world : World) (id : TypeId) (entry : TypeDef) (info : TypeInfo) → slice_get r.worlds w.0 ≡ Some world → are_shallow r.types ≡ true → slice_get r.types id.0 ≡ Some entry → IsInfoOf r w id info
    → cond (is_used info) (site_of entry) None ≡ site_at r world (id.0, entry)
site-told r w world id entry info found shallow at facts = go entry.name refl
  where
    go : (n : Option Name) → entry.name ≡ n → cond (is_used info) (site_of entry) None ≡ site_at r world (id.0, entry)
    go None named =
        let unnamed : site_of entry ≡ None = ap (site_by entry.kind) named ∙ unnamed-site entry.kind in
        ap (λ s. cond (is_used info) s None) unnamed ∙ none-either (is_used info) (uses r world id.0) ∙ sym (ap (λ s. cond (uses r world id.0) s None) unnamed)
    go (Some name) named = ap (λ b. cond b (site_of entry) None) (used_is r w world id info shallow found (record { entry = entry; entry_at = at; named = ap (λ n. is_some n) named }) facts)

-- with one more
pub sites-more : (r : Resolve) (world : World) (sites after : List (Option TypeSite)) (n : ℕ) (entry : TypeDef) (site : Option TypeSite) → n < length r.types → slice_get r.types n ≡ Some entry
    → site ≡ site_at r world (n, entry) → after ≡ sites ++ site ∷ [] → sites ++ map (site_at r world) (enumerate_from n (drop n r.types)) ≡ map (site_at r world) (enumerate_from 0 r.types)
    → after ++ map (site_at r world) (enumerate_from (n + 1) (drop (n + 1) r.types)) ≡ map (site_at r world) (enumerate_from 0 r.types)
sites-more r world sites after n entry site within at is more before =
    let here : get_or r.types n entry ≡ entry = get_or_from_slice_get r.types n entry entry at in
    let next : suc n ≡ n + 1 = omega arith in
    let all : drop n r.types ≡ entry ∷ drop (n + 1) r.types = drop-cons r.types n entry within ∙ ap (λ t. t ∷ drop (suc n) r.types) here ∙ ap (λ m. entry ∷ drop m r.types) next in
    ap (λ rs. rs ++ map (site_at r world) (enumerate_from (n + 1) (drop (n + 1) r.types))) (more ∙ ap (λ s. sites ++ s ∷ []) is)
    ∙ append_assoc sites (site_at r world (n, entry) ∷ []) (map (site_at r world) (enumerate_from (n + 1) (drop (n + 1) r.types)))
    ∙ sym (ap (λ ts. sites ++ map (site_at r world) (enumerate_from n ts)) all) ∙ before

pub sites-done : (r : Resolve) (world : World) (sites : List (Option TypeSite)) (n : ℕ) → length r.types ≤ n
    → sites ++ map (site_at r world) (enumerate_from n (drop n r.types)) ≡ map (site_at r world) (enumerate_from 0 r.types) → sites ≡ type_sites r world
unfolding type_sites
sites-done r world sites n past before =
    sym (append-nil sites) ∙ sym (ap (λ ts. sites ++ map (site_at r world) (enumerate_from n ts)) (drop_all n r.types past)) ∙ before
