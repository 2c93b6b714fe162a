-- Enums become words.
use Rattle.std.proofs.Common.{◌≡◌, ℕ, suc, ◌^◌, ◌≤◌, Bool, pos, List, [], ◌∷◌, length, map, None, refl, sym, ap, ◌∙◌, subst, arith}
use Rattle.wit_model.specs.declared.name.TypeId.{TypeId}
use Rattle.wit_model.specs.declared.types.Member.{Member}
use Rattle.wit_model.specs.declared.types.TypeDef.{TypeDef}
use Rattle.wit_model.specs.declared.types.TypeDefKind.TheVariants as kind
use Rattle.wit_layout.specs.Flat.{flatten_type}
use Rattle.wrapper_meaning.specs.Layout.{layout}
use Rattle.wrapper_data.specs.declared.block.Block.{Block}
use Rattle.wrapper_data.specs.declared.word.Word.TheVariants as core
use Rattle.wrapper_meaning.specs.AsWords.{CaseSays, Says}
use Rattle.wrapper_meaning.specs.Requests.{block_for}
use Rattle.wrapper_meaning.specs.Shape.{bare, nothing, payloads_in, shapes}
use Rattle.wrapper_meaning.specs.Shape.Shape.{cases}
use Rattle.wrapper_meaning.specs.Shape.Shapes.{more}
use Rattle.wrapper_meaning.specs.Value.{case_number}
use Rattle.wrapper_meaning.specs.Words.{AreWords}
use Rattle.abi_bindgen.specs.declared.instruction.Instruction.TheVariants.{EnumLower}
use Rattle.abi_bindgen.specs.Account.{addresses, releasing}
use Rattle.abi_bindgen.specs.Cases.{LowersEnum, case_shapes, case_word, payloads_of, payloads_or}
use Rattle.abi_bindgen.specs.HasList.{IsKindOf}
use Rattle.abi_bindgen.specs.Instructions.{Emits}
use Rattle.abi_bindgen.specs.Laws.{Adds, Does, Stays, ofs}
use Rattle.abi_bindgen.specs.Leaves.{way}
use Rattle.abi_bindgen.specs.Lowering.{Passes, said}
use Rattle.abi_bindgen.specs.Lowers.{LowersFlat}
use Rattle.abi_bindgen.specs.Meaning.{Meaning, item, of, word}
use Rattle.abi_bindgen.proofs.PassSteps.{passes_plainly}
use Rattle.abi_bindgen.proofs.BareCases.{bare_asks, bare_says, case_below, no_slots, number_ranged, read_number}

no_payloads : (types : List TypeDef) (members : List Member) → payloads_in (shapes types) (map (λ (c : Member). None) members) ≡ bare members
no_payloads types [] = refl
no_payloads types (c ∷ members) = ap (λ ts. more nothing ts) (no_payloads types members)

pub enum_cases : (types : List TypeDef) (id : ℕ) (members : List Member) → IsKindOf types id (kind.Enum members) → case_shapes types id ≡ bare members
enum_cases types id members is =
    ap (λ e. payloads_in (shapes types) (payloads_or e)) is.stands ∙ ap (λ k. payloads_in (shapes types) (payloads_of k)) is.kind ∙ no_payloads types members

module _ {Self Operand : Type 0} (m : Meaning Self Operand) (types : List TypeDef) (realloc : Bool) where
  enum_row : {A : Type 0} (members : List A) (a b : Self) (o : Operand) (os : List Operand) → length members ≤ 2 ^ 31 → Adds m a b → length os ≡ 1 → LowersEnum m (bare members) (o ∷ []) os a b → LowersFlat m realloc (cases (bare members)) o os a b
  enum_row members a b o os most adds one row = record {
    adds = adds;
    fits = one ∙ sym (ap (λ cs. suc (length cs)) (no_slots members));
    ranged = λ given v ws blocks listed says.
        let n = case_number (bare members) v in
        subst (AreWords m.width (flatten_type (layout (cases (bare members))))) (sym says.1) (number_ranged n (omega (arith, case_below members v, most)), says.2);
    asks_nothing = bare_asks m.width block_for members;
    row = λ given v x own listed st.
        let dir = said realloc given in
        let n = case_number (bare members) v in
        let y = core.I32 (pos n) in
        let same : case_word n ≡ y = ap core.I32 (read_number n (omega (arith, case_below members v, most))) in
        let told = row (way realloc given) v x own st in
        let stays = subst (λ z. Stays m a b (ofs m (o ∷ []) (item x ∷ [])) (λ fs. fs ≡ ofs m os (word z ∷ []))) same told.1 in
        let says : Says m.width dir (cases (bare members)) v (y ∷ []) own =
        ([], refl, subst (λ cs. AreWords m.width cs []) (sym (no_slots members)) refl, subst (CaseSays m.width dir (bare members) v []) (sym told.0) (bare_says m.width dir members v)) in
        let P : List Block → Type 0 = λ own. Does m (Unit {0}) a b (of o (item x) ∷ []) (λ f. releasing (addresses own)) (λ u fs. fs ≡ ofs m os (word y ∷ [])) (λ u. []) (λ u. addresses own) in
        subst (λ due. Passes m realloc (Says m.width dir (cases (bare members)) v) (of o (item x) ∷ []) own due os a b) (sym (bare_asks m.width block_for members v))
        (passes_plainly m realloc (Says m.width dir (cases (bare members)) v) (of o (item x) ∷ []) own (y ∷ []) os a b (sym one) says (subst P (sym told.0) stays));
  }

  pub enum_lowers : (id : TypeId) (members : List Member) (a b : Self) (o : Operand) (os : List Operand) → length members ≤ 2 ^ 31 → IsKindOf types id.0 (kind.Enum members) → Emits m types (EnumLower id) (o ∷ []) os a b
      → LowersFlat m realloc (cases (bare members)) o os a b
  enum_lowers id members a b o os most is e =
      enum_row members a b o os most e.adds e.results (subst (λ ts. LowersEnum m ts (o ∷ []) os a b) (enum_cases types id.0 members is) e.row)
