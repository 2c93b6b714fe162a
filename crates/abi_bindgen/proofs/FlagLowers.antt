-- Flags become words, as many as the type at a place has.
use Rattle.std.proofs.Common.{◌≡◌, ℕ, Bool, List, [], ◌∷◌, length, refl, sym, ap, ◌∙◌, subst}
use Rattle.wit_model.specs.declared.name.TypeId.{TypeId}
use Rattle.wit_model.specs.declared.types.TypeDef.{TypeDef}
use Rattle.wit_model.specs.declared.types.TypeDefKind.{TypeDefKind}
use Rattle.wit_model.specs.declared.types.TypeDefKind.TheVariants as kind
use Rattle.wit_layout.specs.Flat.{words_of_flags}
use Rattle.wrapper_data.specs.declared.block.Block.{Block}
use Rattle.wrapper_meaning.specs.AsWords.{Says}
use Rattle.wrapper_meaning.specs.Shape.Shape.{flags}
use Rattle.wrapper_meaning.proofs.Lists.{some_same}
use Rattle.wrapper_meaning.proofs.WordsDetermined.{are_words-length}
use Rattle.abi_bindgen.specs.declared.instruction.Instruction.TheVariants.{FlagsLower}
use Rattle.abi_bindgen.specs.Account.{addresses, releasing}
use Rattle.abi_bindgen.specs.FlagSets.{AreFlags}
use Rattle.abi_bindgen.specs.Instructions.{Emits}
use Rattle.abi_bindgen.specs.Laws.{Does, core_data, ofs}
use Rattle.abi_bindgen.specs.Leaves.{way}
use Rattle.abi_bindgen.specs.Lowering.{said}
use Rattle.abi_bindgen.specs.Lowers.{LowersFlat}
use Rattle.abi_bindgen.specs.Meaning.{Meaning, item, of}
use Rattle.abi_bindgen.proofs.PassSteps.{passes_plainly}

-- the type at a place has one number of flags
flags_in : TypeDefKind → ℕ
flags_in (kind.Flags members) = length members
flags_in _ = 0

pub one_count : (types : List TypeDef) (id n k : ℕ) → AreFlags types id n → AreFlags types id k → n ≡ k
unfolding flags_in
one_count types id n k a b = sym a.2 ∙ ap flags_in (sym a.1.kind ∙ ap (λ (t : TypeDef). t.kind) (some_same a.1.entry b.1.entry (sym a.1.stands ∙ b.1.stands)) ∙ b.1.kind) ∙ b.2

module _ {Self Operand : Type 0} (m : Meaning Self Operand) (types : List TypeDef) where
  pub flags_lowers : (realloc : Bool) (id : TypeId) (n : ℕ) (a b : Self) (o : Operand) (os : List Operand) → AreFlags types id.0 n → Emits m types (FlagsLower id) (o ∷ []) os a b → LowersFlat m realloc (flags n) o os a b
  flags_lowers realloc id n a b o os is e = record {
    adds = e.adds;
    fits = e.results n is;
    ranged = λ given v ws blocks listed says. says.0;
    asks_nothing = λ v. refl;
    row = λ given v x own listed st.
        let q = e.row n is (way realloc given) v x own st in
        let ws = q.1 in
        let says = q.2 in
        let P : List Block → Type 0 = λ own. Does m (Unit {0}) a b (of o (item x) ∷ []) (λ f. releasing (addresses own)) (λ u fs. fs ≡ ofs m os (core_data m ws)) (λ u. []) (λ u. addresses own) in
        passes_plainly m realloc (Says m.width (said realloc given) (flags n) v) (of o (item x) ∷ []) own ws os a b (are_words-length m.width (words_of_flags n) ws says.0 ∙ sym (e.results n is)) (says.0, says.1, q.0) (subst P (sym q.0) q.3);
  }
