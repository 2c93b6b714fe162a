-- Scalars, enums and flags in memory have no blocks, and the block of a text there is freed by its address and its length, which are loaded.
use Rattle.std.proofs.Common.{◌≡◌, ℕ, ◌+◌, ◌^◌, List, [], ◌∷◌, ◌++◌, Some, refl, sym, ap, ◌∙◌, subst, arith}
use Rattle.wit_model.specs.Size.{bytes_at}
use Rattle.wit_model.specs.declared.size.ArchitectureSize.{ArchitectureSize}
use Rattle.wit_model.specs.declared.types.TypeDef.{TypeDef}
use Rattle.wit_model.specs.declared.types.WitType.{WitType}
use Rattle.wit_layout.specs.Tree.{Scalar}
use Rattle.wrapper_data.specs.declared.block.Block.{Block}
use Rattle.wrapper_data.specs.declared.word.Word.TheVariants as core
use Rattle.wrapper_meaning.specs.Direction.{give}
use Rattle.wrapper_meaning.specs.InMemory.{Holds}
use Rattle.wrapper_meaning.specs.Shape.{Shape, bare, shape_of}
use Rattle.wrapper_meaning.specs.Shape.Shape.{cases, flags, scalar, text}
use Rattle.wrapper_meaning.specs.Value.{Value}
use Rattle.abi_bindgen.specs.declared.instruction.Instruction.{Instruction}
use Rattle.abi_bindgen.specs.declared.instruction.Instruction.TheVariants.{LengthLoad, PointerLoad}
use Rattle.abi_bindgen.specs.Account.{Account}
use Rattle.abi_bindgen.specs.Frees.{FreesFlat, FreesInMemory, by_freeing}
use Rattle.abi_bindgen.specs.Instructions.{Emits, lifting}
use Rattle.abi_bindgen.specs.Laws.{At, Sound, core_data, ofs}
use Rattle.abi_bindgen.specs.Lifts.{MayTake}
use Rattle.abi_bindgen.specs.Meaning.{Meaning, of, word}
use Rattle.abi_bindgen.proofs.BareCases.{none_held}
use Rattle.abi_driver.proofs.LeafLoads.{text_words}
use Rattle.abi_driver.proofs.LiftSteps.{lifted_type}
use Rattle.abi_bindgen.proofs.Runs.{adds_both, adds_same}
use Rattle.wrapper_meaning.proofs.PostReturn.{total-append}

module _ {Self Operand : Type 0} (m : Meaning Self Operand) (sound : Sound m) (types : List TypeDef) where
  -- values without blocks are freed by no code
  pub alone_at : (t : Shape) → ((v : Value t) (b : Block) (k : ℕ) (own : List Block) → Holds m.width give t v b k own → own ≡ []) → (a : Self) (address : Operand) (offset : ArchitectureSize) → FreesInMemory m t address offset a a
  alone_at t alone a address offset = record {
    adds = adds_same m a;
    row = λ v own listed w f others s0 st q k blk at room holds may. (
      st,
      at.done,
      record {
        account = sym (ap (λ (bs : List Block). (by_freeing bs (m.account st)).account) (alone v blk k own holds));
        owns = λ g. refl;
        denotes = sound.fewer w a (of address (word (core.Pointer q)) ∷ []) others st at.holds;
      },
    );
  }

  scalar_at : (s : Scalar) (a : Self) (address : Operand) (offset : ArchitectureSize) → FreesInMemory m (scalar s) address offset a a
  scalar_at s a address offset = alone_at (scalar s) (λ v b k own holds. holds.1) a address offset

  pub enum_frees : {A : Type 0} (members : List A) (a : Self) (address : Operand) (offset : ArchitectureSize) → FreesInMemory m (cases (bare members)) address offset a a
  enum_frees members a address offset = alone_at (cases (bare members)) (λ v b k own holds. none_held m.width give members v b _ own holds.1) a address offset

  pub flags_frees : (n : ℕ) (a : Self) (address : Operand) (offset : ArchitectureSize) → FreesInMemory m (flags n) address offset a a
  flags_frees n a address offset = alone_at (flags n) (λ v b k own holds. holds.3) a address offset

  pub scalar_frees : (ty : WitType) (i : Instruction) (a : Self) (address : Operand) (offset : ArchitectureSize) → lifting ty ≡ Some i → FreesInMemory m (shape_of types ty) address offset a a
  scalar_frees ty i a address offset is = subst (λ t. FreesInMemory m t address offset a a) (sym ((lifted_type ty i is).shape types)) (scalar_at (lifted_type ty i is).scalar_is a address offset)

  pub text_frees : (a b c d : Self) (address x n : Operand) (offset behind : ArchitectureSize) → bytes_at behind (2 ^ m.width) ≡ bytes_at offset (2 ^ m.width) + 2 ^ m.width → Emits m types (PointerLoad offset) (address ∷ []) (x ∷ []) a b
      → Emits m types (LengthLoad behind) (address ∷ []) (n ∷ []) b c → FreesFlat m text (x ∷ n ∷ []) c d → FreesInMemory m text address offset a d
  text_frees a b c d address x n offset behind further pointers lengths flat = record {
    adds = adds_both m a b d pointers.adds (adds_both m b c d lengths.adds flat.adds);
    row = λ v own listed w f others s0 st q k blk at room holds may.
        let at1 : At m w f a c (of address (word (core.Pointer q)) ∷ others) s0 st = record { serves = flat.adds.grows.serves w at.serves; done = at.done; holds = at.holds } in
        let one = text_words m sound types give a b c address x n offset behind further pointers lengths v own w f others s0 st q k blk at1 room holds in
        let at2 : At m w f c d (ofs m (x ∷ n ∷ []) (core_data m one.2) ++ others) s0 one.0 = record { serves = at.serves; done = one.1; holds = one.6 } in
        let two = flat.row v one.2 own listed one.3 w f others s0 one.0 at2 (subst (MayTake own) (sym one.4) may.may) in
        let after = two.2 in (
          two.0,
          two.1,
          record {
            account = after.account ∙ ap (λ (z : Account m.Item). (by_freeing own z).account) one.4;
            owns = λ g. omega (arith, one.5 g, after.owns g, total-append g (m.owns two.0) [], total-append g (m.owns one.0) [], total-append g (m.owns st) []);
            denotes = after.denotes;
          },
        );
  }
