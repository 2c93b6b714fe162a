-- Arguments are read and stored in a record, one after another.
use Rattle.std.proofs.Common.{◌≡◌, ℕ, suc, ◌+◌, ◌^◌, ◌≤◌, false, List, [], ◌∷◌, ◌++◌, length, drop, refl, sym, subst, arith, ◌-◌}
use Rattle.std.proofs.lemmas.List.{drop_all}
use Rattle.wit_model.specs.Size.{bytes_at}
use Rattle.wit_model.specs.declared.size.ArchitectureSize.{ArchitectureSize}
use Rattle.wit_model.specs.declared.types.TypeDef.{TypeDef}
use Rattle.wit_model.specs.declared.types.WitType.{WitType}
use Rattle.wit_layout.specs.Extent.{place, end}
use Rattle.wit_layout.specs.Sizes.{elem_size, extent_of, extents_of}
use Rattle.wrapper_data.specs.declared.word.Word.TheVariants as core
use Rattle.wrapper_meaning.specs.Layout.{layout, layouts}
use Rattle.wrapper_meaning.specs.Shape.{Shape, Shapes, shape_of}
use Rattle.wrapper_meaning.specs.Shape.Shapes.{more}
use Rattle.abi_bindgen.specs.declared.instruction.Instruction.TheVariants.{GetArg}
use Rattle.abi_bindgen.specs.Account.{Account, addresses}
use Rattle.abi_bindgen.specs.Frees.{nowhere}
use Rattle.abi_bindgen.specs.Instructions.{Emits, shapes_of}
use Rattle.abi_bindgen.specs.Laws.{At, Facts, Sound, args, item_data, ofs}
use Rattle.abi_bindgen.specs.Meaning.{Meaning, arg, item, of, word}
use Rattle.abi_bindgen.specs.Places.{HavePlaces}
use Rattle.abi_driver.specs.Stores.{LowersToMemory, StoresArguments, StoresFrom}
use Rattle.abi_bindgen.specs.Touches.{reached}
use Rattle.abi_bindgen.proofs.Runs.{adds_both}
use Rattle.abi_driver.proofs.StoreSteps.{behind_of, more_stores, none_stores}
use Rattle.abi_bindgen.specs.Lowering.{Releases, said}
use Rattle.abi_driver.proofs.PutSteps.{stays_puts}
use Rattle.wrapper_meaning.specs.Requests.{block_for, part_requests}
use Rattle.wrapper_meaning.specs.InMemory.{PartsHold}

module _ {Self Operand : Type 0} (m : Meaning Self Operand) (sound : Sound m) (types : List TypeDef) where
  -- the first argument is read before it is stored with the others
  argument_first : (t : Shape) (ts : Shapes) (first behind : ℕ) (a b c : Self) (o address : Operand) → Emits m types (GetArg first) [] (o ∷ []) a b
      → StoresFrom m false (more t ts) (λ vals. ofs m (o ∷ []) (item_data m vals) ++ args m (suc first) (item_data m (drop 1 vals))) address nowhere behind b c → StoresArguments m (more t ts) first address behind a c
  argument_first t ts first behind a b c o address read later = record {
    adds = adds_both m a b c read.adds later.adds;
    asks_nothing = later.asks_nothing;
    row = λ given v vals own listed stands w f others s0 s q k blk left at places goes.
        let x = stands.0 in
        let rest = stands.1 in
        let pointer : Facts m = of address (word (core.Pointer q)) ∷ [] in
        let later_args : Facts m = args m (suc first) (item_data m rest) in
        let held : m.denotes w a (arg first (item x) ∷ (later_args ++ (pointer ++ others))) s = subst (λ vs. m.denotes w a (args m first (item_data m vs) ++ (pointer ++ others)) s) stands.4 at.holds in
        let at1 : At m w f a b (arg first (item x) ∷ (later_args ++ (pointer ++ others))) s0 s = record { serves = later.adds.grows.serves w at.serves; done = at.done; holds = held } in
        let one = read.row (item x) w f (later_args ++ (pointer ++ others)) s0 s at1 in
        let s1 = one.0 in
        let after1 = one.2.2 in
        let Ins : List m.Item → Facts m = λ vs. ofs m (o ∷ []) (item_data m vs) ++ args m (suc first) (item_data m (drop 1 vs)) in
        let there : m.denotes w b (Ins (x ∷ rest) ++ (pointer ++ others)) s1 = subst (λ fs. m.denotes w b (fs ++ (later_args ++ (pointer ++ others))) s1) one.2.1 after1.denotes in
        let at2 : At m w f b c (Ins vals ++ (pointer ++ others)) s0 s1 = record { serves = at.serves; done = one.1; holds = subst (λ vs. m.denotes w b (Ins vs ++ (pointer ++ others)) s1) (sym stands.4) there } in
        let two = later.row given v vals own listed stands w f others s0 s1 q k blk left at2
        (subst (λ (z : Account m.Item). HavePlaces m.width (more t ts) behind (reached m q nowhere) blk k z.heap) (sym after1.account) places)
        (subst (λ (z : Account m.Item). Releases (addresses own) z.taken left) (sym after1.account) goes) in
        stays_puts m false (PartsHold m.width (said false given) (more t ts) v behind) (k + behind) (end (extents_of m.width (layouts (more t ts))) behind - behind) blk k own left c w f others s0 s s1 (part_requests m.width block_for (more t ts) v) after1.account after1.owns two;
  }

  -- what stores the arguments from one on, stores all

  abbrev pub Rest : List WitType → Operand → ℕ → (a b : Self) → Type 0
  Rest tys address i a b = (new : Self) → StoresArguments m (shapes_of types (drop i tys)) i address (behind_of m types tys i) b new → StoresArguments m (shapes_of types tys) 0 address 0 a new

  pub rest_first : (tys : List WitType) (address : Operand) (a : Self) → Rest tys address 0 a a
  rest_first tys address a new h = h

  pub rest_next : (tys : List WitType) (address : Operand) (offset : ArchitectureSize) (i : ℕ) (a b c d : Self) (ty : WitType) (o : Operand) → drop i tys ≡ ty ∷ drop (i + 1) tys → Emits m types (GetArg i) [] (o ∷ []) b c
      → behind_of m types tys (i + 1) ≡ place (extent_of m.width (layout (shape_of types ty))) (behind_of m types tys i) + elem_size m.width (layout (shape_of types ty))
      → bytes_at offset (2 ^ m.width) ≡ bytes_at nowhere (2 ^ m.width) + place (extent_of m.width (layout (shape_of types ty))) (behind_of m types tys i)
      → LowersToMemory m false (shape_of types ty) o address offset c d → Rest tys address i a b → Rest tys address (i + 1) a d
  rest_next tys address offset i a b c d ty o et read next is one rest new h =
      let up : i + 1 ≡ suc i = omega arith in
      let ts = shapes_of types (drop (i + 1) tys) in
      let Ins : List m.Item → Facts m = λ vals. ofs m (o ∷ []) (item_data m vals) ++ args m (suc i) (item_data m (drop 1 vals)) in
      let later = subst (λ n. StoresArguments m ts (suc i) address n d new) next (subst (λ k. StoresArguments m ts k address (behind_of m types tys (i + 1)) d new) up h) in
      let both = more_stores m sound types false (shape_of types ty) ts (behind_of m types tys i) c d new o Ins (λ vals. args m (suc i) (item_data m vals)) address nowhere offset (λ x more. refl) is one later in
      let all = argument_first (shape_of types ty) ts i (behind_of m types tys i) b c new o address read both in
      rest new (subst (λ zs. StoresArguments m (shapes_of types zs) i address (behind_of m types tys i) b new) (sym et) all)

  pub rest_last : (tys : List WitType) (address : Operand) (i : ℕ) (a b : Self) → length tys ≤ i → Rest tys address i a b → StoresArguments m (shapes_of types tys) 0 address 0 a b
  rest_last tys address i a b ended rest =
      rest b (subst (λ zs. StoresArguments m (shapes_of types zs) i address (behind_of m types tys i) b b) (sym (drop_all i tys ended)) (none_stores m sound types false (λ vals. args m i (item_data m vals)) address nowhere (behind_of m types tys i) b refl))
