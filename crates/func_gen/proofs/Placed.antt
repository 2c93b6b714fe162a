-- A block that is placed where none stands: what has an owner has it still, and so has the block.
use Rattle.std.proofs.Common.{◌≡◌, ℕ, ◌+◌, ◌<◌, Bool, true, false, cond, ◌||◌, nat_eq, nat_lt, List, [], ◌∷◌, ◌++◌, None, Some, refl, sym, ap₂, ◌∙◌, subst, arith}
use Rattle.std.proofs.lemmas.Bool.{and_from, and_parts, eq-eqb, eqb-true, lt-ltb, ltb-true, or_parts}
use Rattle.std.proofs.lemmas.List.Folds.{list_any-append}
use Rattle.wrapper_data.specs.Heap.{overlaps, overlaps_any}
use Rattle.wrapper_data.specs.declared.block.Block.{Block}
use Rattle.wrapper_run.specs.Memory.{begins_at, block_from}
use Rattle.func_gen.specs.Facts.{AreOwned, IsThere}
use Rattle.func_gen.proofs.CallRows.{there_behind}

module _ (b : Block) (some : 0 < b.size) where
  -- where a block begins with bytes, another can't begin that overlaps none
  begins_apart : (a : ℕ) (blocks : List Block) → overlaps_any b blocks ≡ false → IsThere (block_from a blocks) → nat_eq b.address a ≡ false
  begins_apart a [] none there = absurd there
  begins_apart a (x ∷ blocks) none there = go (begins_apart a blocks) (begins_at a x) refl (nat_eq b.address a) refl
    where
      parts : (overlaps b x ≡ false) × (overlaps_any b blocks ≡ false)
      parts = or_parts (overlaps b x) (overlaps_any b blocks) none

      go : (overlaps_any b blocks ≡ false → IsThere (block_from a blocks) → nat_eq b.address a ≡ false) → (c : Bool) → begins_at a x ≡ c → (d : Bool) → nat_eq b.address a ≡ d → d ≡ false
      go more c e false f = refl
      go more true e true f =
          let begins = and_parts (nat_eq x.address a) (nat_lt 0 x.size) e in
          let at = eqb-true x.address a begins.0 in
          let size = ltb-true 0 x.size begins.1 in
          let here = eqb-true b.address a f in
          let both = and_from (nat_lt b.address (x.address + x.size)) (nat_lt x.address (b.address + b.size)) (lt-ltb b.address (x.address + x.size) (omega (arith, at, here, size))) (lt-ltb x.address (b.address + b.size) (omega (arith, at, here, some))) in
          absurd (let no : true ≡ false = sym both ∙ parts.0 in cc)
      go more false e true f = sym f ∙ more parts.1 (subst (λ t. IsThere (cond t (Some x) (block_from a blocks))) e there)

  there_itself : (blocks : List Block) → IsThere (block_from b.address (blocks ++ b ∷ []))
  there_itself [] = subst (λ t. IsThere (cond t (Some b) None)) (sym (and_from (nat_eq b.address b.address) (nat_lt 0 b.size) (eq-eqb b.address b.address refl) (lt-ltb 0 b.size some))) tt
  there_itself (x ∷ blocks) = go (begins_at b.address x) (there_itself blocks)
    where
      go : (c : Bool) → IsThere (block_from b.address (blocks ++ b ∷ [])) → IsThere (cond c (Some x) (block_from b.address (blocks ++ b ∷ [])))
      go true h = tt
      go false h = h

  pub owned_placed : (blocks : List Block) (taken : List ℕ) → overlaps_any b blocks ≡ false → AreOwned blocks taken → AreOwned (blocks ++ b ∷ []) (taken ++ b.address ∷ [])
  owned_placed blocks [] none h = (refl, there_itself blocks, tt)
  owned_placed blocks (a ∷ taken) none (once, there, more) = (
    list_any-append (λ t. nat_eq t a) taken (b.address ∷ []) ∙ ap₂ (λ c d. c || (d || false)) once (begins_apart a blocks none there),
    there_behind a blocks b there,
    owned_placed blocks taken none more,
  )
