-- Words are cast, and zeros are made, by one instruction or by none.
use Rattle.std.proofs.Common.{◌≡◌, Bor, ◌&&◌, ℕ, ◌+◌, ◌<◌, ◌≤◌, true, false, if◌then◌else◌, List, [], ◌∷◌, ◌++◌, length, drop, get_or, refl, sym, ap, ap₂, ◌∙◌, subst, arith, length-drop, append_assoc}
use Rattle.std.specs.List.{list_all}
use Rattle.std.proofs.lemmas.List.{drop_all, drop_more}
use Rattle.wit_model.specs.declared.types.TypeDef.{TypeDef}
use Rattle.wit_model.specs.declared.wasm_type.WasmType.{WasmType}
use Rattle.wit_layout.specs.Cast.{cast}
use Rattle.wit_layout.specs.CastBits.{ReadsBack}
use Rattle.wit_layout.specs.Join.{AreInOrder, join}
use Rattle.wit_layout.specs.declared.bitcast.Bitcast.{Bitcast}
use Rattle.abi_bindgen.specs.declared.instruction.Instruction.TheVariants.{Bitcasts, ConstZero}
use Rattle.abi_bindgen.specs.Code.{cast_code, zero_code}
use Rattle.abi_bindgen.specs.Constants.{AreCasts}
use Rattle.abi_bindgen.specs.Flow.{cast_by, same}
use Rattle.abi_bindgen.specs.Flows.{Flows}
use Rattle.abi_bindgen.specs.Instructions.{Emits}
use Rattle.abi_bindgen.specs.Laws.{Facts, Stays, core_data, ofs}
use Rattle.abi_bindgen.specs.Meaning.{Meaning}
use Rattle.abi_bindgen.specs.SlotCasts.{AddsZeros, AreOrdered, CastsAll, ReadBack, casts_between, is_no_cast}
use Rattle.abi_bindgen.proofs.Runs.{adds_same}
use Rattle.abi_bindgen.proofs.WordBits.{are_casts, casts_length, no_casts, ordered_length}

-- one cast more
module _ (froms tos : List WasmType) (i : ℕ) (d e : WasmType) (short : i < length froms) (ordered : AreOrdered (drop i froms) (drop i tos)) where
  pub short_too : i < length tos
  short_too = omega (arith, short, ordered_length (drop i froms) (drop i tos) ordered, length-drop i froms, length-drop i tos)

  both_next : AreOrdered (get_or froms i d ∷ drop (i + 1) froms) (get_or tos i e ∷ drop (i + 1) tos)
  both_next = subst (AreOrdered (get_or froms i d ∷ drop (i + 1) froms)) (drop_more tos i e short_too) (subst (λ xs. AreOrdered xs (drop i tos)) (drop_more froms i d short) ordered)

  pub in_order : AreInOrder (get_or froms i d) (get_or tos i e)
  in_order = both_next.0

  pub ordered_next : AreOrdered (drop (i + 1) froms) (drop (i + 1) tos)
  ordered_next = both_next.1

  pub casts_next : (casts now all : List Bitcast) → now ≡ casts ++ cast (get_or froms i d) (get_or tos i e) ∷ [] → casts ++ casts_between (drop i froms) (drop i tos) ≡ all → now ++ casts_between (drop (i + 1) froms) (drop (i + 1) tos) ≡ all
  casts_next casts now all is made =
      ap (λ cs. cs ++ casts_between (drop (i + 1) froms) (drop (i + 1) tos)) is ∙ append_assoc casts (cast (get_or froms i d) (get_or tos i e) ∷ []) (casts_between (drop (i + 1) froms) (drop (i + 1) tos))
      ∙ sym (ap₂ (λ xs ys. casts ++ casts_between xs ys) (drop_more froms i d short) (drop_more tos i e short_too)) ∙ made

  pub back_next : (P : Type 0) → (join (get_or froms i d) (get_or tos i e) ≡ get_or tos i e → ReadsBack 2 (get_or froms i d) (get_or tos i e)) → (join (get_or froms i d) (get_or tos i e) ≡ get_or tos i e → ReadsBack 3 (get_or froms i d) (get_or tos i e))
      → (ReadBack (drop i froms) (drop i tos) → P) → ReadBack (drop (i + 1) froms) (drop (i + 1) tos) → P
  back_next P four eight all later =
      all (subst (λ xs. ReadBack xs (drop i tos)) (sym (drop_more froms i d short)) (subst (ReadBack (get_or froms i d ∷ drop (i + 1) froms)) (sym (drop_more tos i e short_too)) (λ h. (four h, eight h), later)))

pub casts_none : (froms tos : List WasmType) (i : ℕ) → length froms ≤ i → casts_between (drop i froms) (drop i tos) ≡ []
casts_none froms tos i l = ap (λ xs. casts_between xs (drop i tos)) (drop_all i froms l)

pub back_none : (froms tos : List WasmType) (i : ℕ) → length froms ≤ i → ReadBack (drop i froms) (drop i tos)
back_none froms tos i l = subst (λ xs. ReadBack xs (drop i tos)) (sym (drop_all i froms l)) tt

module _ {Self Operand : Type 0} (m : Meaning Self Operand) (types : List TypeDef) where
  stays_same : (a : Self) (ins : Facts m) → Stays m a a ins (λ fs. fs ≡ ins)
  stays_same a ins w f others s0 s at = (s, at.done, (ins, refl, record { account = refl; owns = λ g. refl; denotes = at.holds }))

  module _ (froms tos : List WasmType) (os : List Operand) (ordered : AreOrdered froms tos) (enough : length os ≡ length froms) where
    pub no_cast_needed : (a : Self) → list_all is_no_cast (casts_between froms tos) ≡ true → CastsAll m froms tos os os a a
    no_cast_needed a none = record {
      adds = adds_same m a;
      fits = enough;
      row = λ ws are. subst (λ zs. Stays m a a (ofs m os (core_data m ws)) (λ fs. fs ≡ ofs m os (core_data m zs))) (sym (no_casts m froms tos ws ordered none are)) (stays_same a (ofs m os (core_data m ws)));
    }

    pub casts_sent : (a b : Self) (held : Bor (List Bitcast)) (rs : List Operand) → held.now ≡ casts_between froms tos → Emits m types (Bitcasts held) os rs a b → CastsAll m froms tos os rs a b
    casts_sent a b held rs is e = record {
      adds = e.adds;
      fits = e.results ∙ ap length is ∙ casts_length froms tos ordered;
      row = λ ws are. e.row froms tos ws (subst (AreCasts froms tos) (sym is) (are_casts froms tos ordered)) are;
    }

  pub nothing_cast : (froms tos : List WasmType) (os : List Operand) (a : Self) → list_all is_no_cast (casts_between froms tos) ≡ true → Flows m types (cast_code froms tos) os os a a
  nothing_cast froms tos os a h = subst (λ b. Flows m types (if b then same else cast_by (casts_between froms tos)) os os a a) (sym h) (refl, refl)

  pub casting_flows : (froms tos : List WasmType) (a b : Self) (held : Bor (List Bitcast)) (os rs : List Operand) → list_all is_no_cast (casts_between froms tos) ≡ false → held.now ≡ casts_between froms tos → Emits m types (Bitcasts held) os rs a b
      → Flows m types (cast_code froms tos) os rs a b
  casting_flows froms tos a b held os rs h is e = subst (λ c. Flows m types (if c then same else cast_by (casts_between froms tos)) os rs a b) (sym h) (held, is, e)

  pub no_zeros : (a : Self) → AddsZeros m [] [] a a
  no_zeros a = record { adds = adds_same m a; fits = refl; row = stays_same a [] }

  pub zeros_sent : (a b : Self) (held : Bor (List WasmType)) (rs : List Operand) → Emits m types (ConstZero held) [] rs a b → AddsZeros m held.now rs a b
  zeros_sent a b held rs e = record { adds = e.adds; fits = e.results; row = e.row }

  pub zeroing_flows : (a b : Self) (held : Bor (List WasmType)) (zeros : List WasmType) (rs : List Operand) → held.now ≡ zeros → 0 < length zeros → Emits m types (ConstZero held) [] rs a b → Flows m types (zero_code zeros) [] rs a b
  zeroing_flows a b held [] rs is some e = absurd (omega (arith, some))
  zeroing_flows a b held (ty ∷ zeros) rs is some e = (held, is, e)

  pub none_zeros : (zeros : List WasmType) (rs : List Operand) (a : Self) → zeros ≡ [] → rs ≡ [] → AddsZeros m zeros rs a a × Flows m types (zero_code zeros) [] rs a a
  none_zeros zeros rs a e f =
      (subst (λ os. AddsZeros m zeros os a a) (sym f) (subst (λ tys. AddsZeros m tys [] a a) (sym e) (no_zeros a)), subst (λ tys. Flows m types (zero_code tys) [] rs a a) (sym e) (f, refl))

-- one cast more changes nothing, or one does
pub idle_next : (casts : List Bitcast) (i : ℕ) (d : Bitcast) → i < length casts → list_all is_no_cast (drop i casts) ≡ (is_no_cast (get_or casts i d) && list_all is_no_cast (drop (i + 1) casts))
idle_next casts i d l = ap (list_all is_no_cast) (drop_more casts i d l)
