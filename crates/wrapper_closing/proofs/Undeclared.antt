-- What steps that are no calls add declares no area and no core import, also in the arms of its matches.
use Rattle.std.proofs.Common.{◌≡◌, ℕ, suc, Bool, true, false, ◌&&◌, List, [], ◌∷◌, ◌++◌, length, map, Option, None, Some, ◌+◌, refl, sym, ap, ap₂, ◌∙◌, append-nil}
use Rattle.std.specs.Prelude.{option_and_then, option_map, slice_get}
use Rattle.std.specs.List.{AllByRecursion, list_all}
use Rattle.std.proofs.lemmas.Bool.{and_parts}
use Rattle.std.proofs.lemmas.Grind.{flat_map-append}
use Rattle.std.proofs.lemmas.List.Folds.{list_all-append}
use Rattle.wit_model.specs.Bytes.{Bytes}
use Rattle.wit_model.specs.declared.size.ArchitectureSize.{ArchitectureSize}
use Rattle.wit_model.specs.declared.wasm_type.WasmType.{WasmType}
use Rattle.wit_layout.specs.declared.bitcast.Bitcast.{Bitcast}
use Rattle.rust_tree.specs.declared.area.ReturnArea.{ReturnArea}
use Rattle.rust_tree.specs.declared.expr.Expr.{Expr}
use Rattle.rust_tree.specs.declared.expr.Expr.TheVariants as expr
use Rattle.rust_tree.specs.declared.expr.SmallType.{SmallType}
use Rattle.rust_tree.specs.declared.pattern.ArmPattern.{ArmPattern}
use Rattle.rust_tree.specs.declared.pattern.ArmPattern.TheVariants as arm
use Rattle.rust_tree.specs.declared.pattern.Pattern.{Pattern}
use Rattle.rust_tree.specs.declared.runtime_item.RuntimeItem.TheVariants.{InvalidEnumDiscriminant}
use Rattle.rust_tree.specs.declared.stmt.Arm.{Arm, Arm-F, out-roll-Arm}
use Rattle.rust_tree.specs.declared.stmt.Block.{Block, Block-F}
use Rattle.rust_tree.specs.declared.stmt.ImportDecl.{ImportDecl}
use Rattle.rust_tree.specs.declared.stmt.MatchNames.{MatchNames}
use Rattle.rust_tree.specs.declared.stmt.MatchNames.TheVariants as names_of
use Rattle.rust_tree.specs.declared.stmt.Stmt.{Stmt, Stmt-F, fold-roll-Stmt, out-Stmt, out-roll-Stmt, roll-Stmt}
use Rattle.rust_tree.specs.declared.stmt.Stmt.TheVariants as stmt
use Rattle.rust_tree.specs.declared.stmt.Stmt.TheVariants.{rolls-Area, rolls-AssertLast, rolls-Expr, rolls-Import, rolls-Let, rolls-LetParts, rolls-LetSlot, rolls-Match, rolls-Store, rolls-StoreSmall, rolls-WriteSlot}
use Rattle.wrapper_values.specs.Fields.{root_name}
use Rattle.wrapper_run.specs.Code.{code_of}
use Rattle.wrapper_run.proofs.StmtSteps.{code-opened}
use Rattle.abi_bindgen.specs.declared.instruction.Instruction.TheVariants.{Bitcasts, BoolFromI32, CharFromI32, ConstZero, CoreF32FromF32, CoreF64FromF64, EnumLift, EnumLower, F32FromCoreF32, F32Load, F32Store, F64FromCoreF64, F64Load, F64Store, FlagsLift, FlagsLower, Flush, GetArg, GuestDeallocate, GuestDeallocateString, I32Const, I32FromBool, I32FromChar, I32FromS16, I32FromS32, I32FromS8, I32FromU16, I32FromU32, I32FromU8, I32Load, I32Load16S, I32Load16U, I32Load8S, I32Load8U, I32Store, I32Store16, I32Store8, I64FromS64, I64FromU64, I64Load, I64Store, IterBasePointer, IterElem, IterMapKey, IterMapValue, LengthLoad, LengthStore, PointerLoad, PointerStore, RecordLift, RecordLower, Return, S16FromI32, S32FromI32, S64FromI64, S8FromI32, StringLift, StringLower, TupleLift, TupleLower, U16FromI32, U32FromI32, U64FromI64, U8FromI32, VariantPayloadName}
use Rattle.abi_bindgen.specs.Meaning.{Name, the_base, the_element, the_key, the_payload, the_value}
use Rattle.abi_bindgen.specs.Sent.{Sent, asks, sends}
use Rattle.func_gen.specs.declared.enum_site.EnumSite.{EnumSite}
use Rattle.func_gen.specs.declared.function_bindgen.FinishedBlock.{FinishedBlock}
use Rattle.func_gen.specs.declared.function_bindgen.ParamSite.{ParamSite}
use Rattle.func_gen.specs.CastForms.{cast_expr, cast_stmts, needs_slot, slot_prefix, stmts_from}
use Rattle.func_gen.specs.CodeOf.{Context, emitted, gives_text, local_of, makes_record, splits_record}
use Rattle.func_gen.specs.Emission.{Emission, alone}
use Rattle.func_gen.specs.EnumForms.{case_cast, case_let, enum_at, lifts_enum}
use Rattle.func_gen.specs.FlagsForms.{flags_at, lifts_flags, lowers_flags}
use Rattle.func_gen.specs.FlushForms.{flush_prefix, lets_of}
use Rattle.func_gen.specs.Forms.{runtime_path}
use Rattle.func_gen.specs.LiftedCases.{case_expr, freed_body, invalid_body, is_unit, last_body, lifted_bodies, number_arms, numbered_arms}
use Rattle.func_gen.specs.MatchForms.{arm_of, case_path, case_pattern, lowered_arms, lowered_body, match_names, match_of, open_arm, tail_of}
use Rattle.func_gen.specs.Opened.{innermost}
use Rattle.func_gen.specs.PartForms.{exprs_of, names_from, part_name}
use Rattle.func_gen.specs.RecordForms.{record_at}
use Rattle.func_gen.specs.Slot.{slot_name}
use Rattle.wrapper_closing.specs.Declares.{Declaration, Import, arm_without_step, arms_declare_none, block_without_step, declare_none, declared, declared_by, has_arms_without, has_arms_without_in, is_arm_without, is_block_without, is_without, without_step}
use Rattle.wrapper_closing.proofs.DeclaresLemmas.{without-arm, without-block, without-match}

-- 1. Statements

module _ (what : Declaration) where
  -- statements declare these core imports and no other, and in arms nothing of the kind
  pub record Declare (decls : List ImportDecl) (stmts : List Stmt) : Type 0 where
    pub outside : declared stmts ≡ decls
    pub arms : arms_declare_none what stmts ≡ true
    pub none : decls ≡ [] → declare_none what stmts ≡ true

  pub no_stmts : Declare [] []
  no_stmts = record { outside = refl; arms = refl; none = λ e. refl }

  pub declare_more : (decls : List ImportDecl) (stmts added : List Stmt) → Declare decls stmts → Declare [] added → Declare decls (stmts ++ added)
  declare_more decls stmts added h g = record {
    outside = flat_map-append declared_by stmts added ∙ ap₂ (λ (a b : List ImportDecl). a ++ b) h.outside g.outside ∙ append-nil decls;
    arms = list_all-append (has_arms_without what) stmts added ∙ ap₂ (λ a b. a && b) h.arms g.arms;
    none = λ e. list_all-append (is_without what) stmts added ∙ ap₂ (λ a b. a && b) (h.none e) (g.none refl);
  }

  -- the same of statements that stand before others
  pub declare_behind : (decls : List ImportDecl) (stmts added : List Stmt) → Declare [] stmts → Declare decls added → Declare decls (stmts ++ added)
  declare_behind decls stmts added h g = record {
    outside = flat_map-append declared_by stmts added ∙ ap₂ (λ (a b : List ImportDecl). a ++ b) h.outside g.outside;
    arms = list_all-append (has_arms_without what) stmts added ∙ ap₂ (λ a b. a && b) h.arms g.arms;
    none = λ e. list_all-append (is_without what) stmts added ∙ ap₂ (λ a b. a && b) (h.none refl) (g.none e);
  }

  declare_then : (s : Stmt) (stmts : List Stmt) → Declare [] (s ∷ []) → Declare [] stmts → Declare [] (s ∷ stmts)
  declare_then s stmts h g = declare_behind [] (s ∷ []) stmts h g

  -- a statement that is neither a declaration nor a match
  module _ (x : Stmt-F Stmt Arm Block) (s : Stmt) (e : roll-Stmt x ≡ s) where
    plain_one : declared_by s ≡ [] → has_arms_without_in what x ≡ true → is_without what (roll-Stmt x) ≡ true → Declare [] (s ∷ [])
    plain_one none arms without = record {
      outside = ap (λ (ds : List ImportDecl). ds ++ []) none;
      arms = ap (λ b. b && true) (ap (has_arms_without what) (sym e) ∙ ap (has_arms_without_in what) (out-roll-Stmt x) ∙ arms);
      none = λ h. ap (λ b. b && true) (ap (is_without what) (sym e) ∙ without);
    }

  pub let_one : (n : Bytes) (e : Expr) → Declare [] (stmt.Let n e ∷ [])
  let_one n e = plain_one (Stmt-F.Let n e) (stmt.Let n e) (rolls-Let n e) refl refl (fold-roll-Stmt Bool Bool Bool (without_step what) arm_without_step block_without_step (Stmt-F.Let n e))

  pub expr_one : (e : Expr) → Declare [] (stmt.Expr e ∷ [])
  expr_one e = plain_one (Stmt-F.Expr e) (stmt.Expr e) (rolls-Expr e) refl refl (fold-roll-Stmt Bool Bool Bool (without_step what) arm_without_step block_without_step (Stmt-F.Expr e))

  store_one : (address : Expr) (o : ArchitectureSize) (ty : WasmType) (e : Expr) → Declare [] (stmt.Store address o ty e ∷ [])
  store_one address o ty e = plain_one (Stmt-F.Store address o ty e) (stmt.Store address o ty e) (rolls-Store address o ty e) refl refl (fold-roll-Stmt Bool Bool Bool (without_step what) arm_without_step block_without_step (Stmt-F.Store address o ty e))

  small_one : (address : Expr) (o : ArchitectureSize) (ty : SmallType) (e : Expr) → Declare [] (stmt.StoreSmall address o ty e ∷ [])
  small_one address o ty e = plain_one (Stmt-F.StoreSmall address o ty e) (stmt.StoreSmall address o ty e) (rolls-StoreSmall address o ty e) refl refl (fold-roll-Stmt Bool Bool Bool (without_step what) arm_without_step block_without_step (Stmt-F.StoreSmall address o ty e))

  parts_one : (p : Pattern) (e : Expr) → Declare [] (stmt.LetParts p e ∷ [])
  parts_one p e = plain_one (Stmt-F.LetParts p e) (stmt.LetParts p e) (rolls-LetParts p e) refl refl (fold-roll-Stmt Bool Bool Bool (without_step what) arm_without_step block_without_step (Stmt-F.LetParts p e))

  slot_one : (n : Bytes) → Declare [] (stmt.LetSlot n ∷ [])
  slot_one n = plain_one (Stmt-F.LetSlot n) (stmt.LetSlot n) (rolls-LetSlot n) refl refl (fold-roll-Stmt Bool Bool Bool (without_step what) arm_without_step block_without_step (Stmt-F.LetSlot n))

  write_one : (n : Bytes) (e : Expr) → Declare [] (stmt.WriteSlot n e ∷ [])
  write_one n e = plain_one (Stmt-F.WriteSlot n e) (stmt.WriteSlot n e) (rolls-WriteSlot n e) refl refl (fold-roll-Stmt Bool Bool Bool (without_step what) arm_without_step block_without_step (Stmt-F.WriteSlot n e))

  assert_one : (n : Bytes) (k : ℕ) → Declare [] (stmt.AssertLast n k ∷ [])
  assert_one n k = plain_one (Stmt-F.AssertLast n k) (stmt.AssertLast n k) (rolls-AssertLast n k) refl refl (fold-roll-Stmt Bool Bool Bool (without_step what) arm_without_step block_without_step (Stmt-F.AssertLast n k))

  -- a declaration, and a statement behind it
  pub import_then : (d : ImportDecl) (s : Stmt) → Declare [] (s ∷ []) → Declare (d ∷ []) (stmt.Import d ∷ s ∷ [])
  import_then d s h = record {
    outside = ap (λ ds. d ∷ ds) h.outside;
    arms = ap (λ b. b && arms_declare_none what (s ∷ [])) (ap (has_arms_without what) (sym (rolls-Import d)) ∙ ap (has_arms_without_in what) (out-roll-Stmt (Stmt-F.Import d))) ∙ h.arms;
    none = λ e. absurd (let no = e in cc);
  }

  -- 2. Matches

  code_without : (stmts : List Stmt) (tail : Option Expr) → Declare [] stmts → is_block_without what (code_of stmts tail) ≡ true
  code_without stmts tail h = without-block what (code_of stmts tail) ∙ ap (λ (l : Block-F Stmt Arm Block). declare_none what l.stmts) (code-opened stmts tail) ∙ h.none refl

  arm_without : (p : ArmPattern) (b : Block) → is_block_without what b ≡ true → is_arm_without what (arm_of p b) ≡ true
  arm_without p b h = without-arm what (arm_of p b) ∙ ap (λ (l : Arm-F Stmt Arm Block). is_block_without what l.body) (out-roll-Arm (open_arm p b)) ∙ h

  match_one : (names : MatchNames) (e : Expr) (arms : List Arm) → list_all (is_arm_without what) arms ≡ true → Declare [] (stmt.Match names e arms ∷ [])
  match_one names e arms h = record {
    outside = refl;
    arms = ap (λ x. has_arms_without_in what x && true) (ap out-Stmt (sym (rolls-Match names e arms)) ∙ out-roll-Stmt (Stmt-F.Match names e arms)) ∙ ap (λ b. b && true) h;
    none = λ eq. ap (λ b. b && true) (without-match what names e arms ∙ h);
  }

  -- blocks whose statements declare no core import
  abbrev pub AreBare : List FinishedBlock → Type 0
  AreBare blocks = AllByRecursion (λ (b : FinishedBlock). Declare [] b.stmts) blocks

  lowered_without : (cases : _) (blocks : List FinishedBlock) → AreBare blocks → list_all (is_arm_without what) (lowered_arms cases blocks) ≡ true
  lowered_without [] blocks h = refl
  lowered_without (c ∷ cases) [] h = refl
  lowered_without (c ∷ cases) (b ∷ blocks) h =
      ap₂ (λ x y. x && y) (arm_without (case_pattern c b.number) (lowered_body b) (code_without b.stmts (tail_of (exprs_of b.results)) h.0)) (lowered_without cases blocks h.1)

  pub lowers_bare : (names : List Bytes) (e : Expr) (cases : _) (blocks : List FinishedBlock) → AreBare blocks → Declare [] (match_of names e (lowered_arms cases blocks) ∷ [])
  lowers_bare names e cases blocks h = match_one (match_names names) e (lowered_arms cases blocks) (lowered_without cases blocks h)

  bodies_without : (cases : _) (blocks : List FinishedBlock) → AreBare blocks → list_all (is_block_without what) (lifted_bodies cases blocks) ≡ true
  bodies_without [] blocks h = refl
  bodies_without (c ∷ cases) [] h = refl
  bodies_without (c ∷ cases) (b ∷ blocks) h = ap₂ (λ x y. x && y) (code_without b.stmts (Some (case_expr (is_unit c) (case_path c) (exprs_of b.results))) h.0) (bodies_without cases blocks h.1)

  freed_without : (blocks : List FinishedBlock) → AreBare blocks → list_all (is_block_without what) (map freed_body blocks) ≡ true
  freed_without [] h = refl
  freed_without (b ∷ blocks) h = ap₂ (λ x y. x && y) (code_without b.stmts None h.0) (freed_without blocks h.1)

  numbers_without : (k : ℕ) (bodies : List Block) → list_all (is_block_without what) bodies ≡ true → list_all (is_arm_without what) (numbered_arms k bodies) ≡ true
  numbers_without k [] h = refl
  numbers_without k (b ∷ bodies) h =
      let both = and_parts (is_block_without what b) (list_all (is_block_without what) bodies) h in
      ap₂ (λ x y. x && y) (arm_without (arm.Number k) b both.0) (numbers_without (suc k) bodies both.1)

  -- arms by numbers, and another behind them
  pub numbers_bare : (names : MatchNames) (e : Expr) (bodies : List Block) (p : ArmPattern) (last : Block) → list_all (is_block_without what) bodies ≡ true → is_block_without what last ≡ true → Declare [] (stmt.Match names e (number_arms 0 bodies (arm_of p last)) ∷ [])
  numbers_bare names e bodies p last h g =
      match_one names e (number_arms 0 bodies (arm_of p last))
      (list_all-append (is_arm_without what) (numbered_arms 0 bodies) (arm_of p last ∷ []) ∙ ap₂ (λ x y. x && (y && true)) (numbers_without 0 bodies h) (arm_without p last g))

  pub lifts_bare : (v : Bytes) (e : Expr) (cases : _) (blocks : List FinishedBlock) → AreBare blocks → Declare [] (stmt.Match (names_of.One v) e (number_arms 0 (lifted_bodies cases blocks) (arm_of arm.AnyOther invalid_body)) ∷ [])
  lifts_bare v e cases blocks h =
      numbers_bare (names_of.One v) e (lifted_bodies cases blocks) arm.AnyOther invalid_body (bodies_without cases blocks h) (code_without [] (Some (expr.Call (runtime_path InvalidEnumDiscriminant) [])) no_stmts)

  pub last_bare : (n v : Bytes) (e : Expr) (cases : _) (c : _) (first : List FinishedBlock) (last : FinishedBlock) → AreBare first → Declare [] last.stmts
      → Declare [] (stmt.Match (names_of.One v) e (number_arms 0 (lifted_bodies cases first) (arm_of (arm.Name n) (last_body n (length cases) c last))) ∷ [])
  last_bare n v e cases c first last h g =
      numbers_bare (names_of.One v) e (lifted_bodies cases first) (arm.Name n) (last_body n (length cases) c last) (bodies_without cases first h)
      (code_without (stmt.AssertLast n (length cases) ∷ last.stmts) (Some (case_expr (is_unit c) (case_path c) (exprs_of last.results))) (declare_then (stmt.AssertLast n (length cases)) last.stmts (assert_one n (length cases)) g))

  pub frees_bare : (e : Expr) (first : List FinishedBlock) (last : FinishedBlock) → AreBare first → Declare [] last.stmts → Declare [] (stmt.Match names_of.Nothing e (number_arms 0 (map freed_body first) (arm_of arm.AnyOther (freed_body last))) ∷ [])
  frees_bare e first last h g = numbers_bare names_of.Nothing e (map freed_body first) arm.AnyOther (freed_body last) (freed_without first h) (code_without last.stmts None g)

  -- 3. What the table tells

  -- what is emitted declares none
  abbrev pub IsBare : Option (ℕ → Emission) → Type 0
  IsBare None = Unit {0}
  IsBare (Some code) = (t : ℕ) → Declare [] (code t).stmts

  for_each : {A : Type 0} (o : Option A) (code : A → ℕ → Emission) → ((x : A) (t : ℕ) → Declare [] (code x t).stmts) → IsBare (option_map code o)
  for_each None code h = tt
  for_each (Some x) code h = h x

  lets_bare : (names : List Bytes) (es : List Expr) → Declare [] (lets_of names es)
  lets_bare [] es = no_stmts
  lets_bare (n ∷ names) [] = no_stmts
  lets_bare (n ∷ names) (e ∷ es) = declare_then (stmt.Let n e) (lets_of names es) (let_one n e) (lets_bare names es)

  cast_bare : (b : Bool) (slot : Bytes) (e : Expr) → Declare [] (cast_stmts b slot e)
  cast_bare true slot e = declare_then (stmt.LetSlot slot) (stmt.WriteSlot slot e ∷ []) (slot_one slot) (write_one slot e)
  cast_bare false slot e = no_stmts

  casts_bare : (at : ℕ) (cs : List Bitcast) (es : List Expr) (t : ℕ) → Declare [] (stmts_from at cs es t)
  casts_bare at [] es t = no_stmts
  casts_bare at (c ∷ cs) [] t = no_stmts
  casts_bare at (c ∷ cs) (e ∷ es) t =
      declare_more [] (cast_stmts (needs_slot c) (part_name slot_prefix t at) (cast_expr c e)) (stmts_from (at + 1) cs es t) (cast_bare (needs_slot c) (part_name slot_prefix t at) (cast_expr c e)) (casts_bare (at + 1) cs es t)

  three_lets : (a b c : Bytes) (x y z : Expr) → Declare [] (stmt.Let a x ∷ stmt.Let b y ∷ stmt.Let c z ∷ [])
  three_lets a b c x y z = declare_then (stmt.Let a x) (stmt.Let b y ∷ stmt.Let c z ∷ []) (let_one a x) (declare_then (stmt.Let b y) (stmt.Let c z ∷ []) (let_one b y) (let_one c z))

  enum_bare : (e : Expr) (s : EnumSite) → IsBare (lifts_enum e s)
  enum_bare e s = go (root_name s.path)
    where
      go : (o : Option Bytes) → IsBare (option_and_then (λ name. option_map (case_let name e) (case_cast s.repr)) o)
      go None = tt
      go (Some name) = for_each (case_cast s.repr) (case_let name e) (λ to t. let_one _ _)

  enums_bare : (e : Expr) (o : Option EnumSite) → IsBare (option_and_then (lifts_enum e) o)
  enums_bare e None = tt
  enums_bare e (Some s) = enum_bare e s

  gives_bare : (e : Expr) (o : Option Bytes) → IsBare (Some (gives_text e o))
  gives_bare e None = λ t. three_lets _ _ _ _ _ _
  gives_bare e (Some name) = λ t. declare_more [] _ _ (three_lets _ _ _ _ _ _) (expr_one _)

  pub told_bare : (b : Context) (step : Sent) (es : List Expr) → IsBare (emitted b step es)
  told_bare b (asks room) [] = λ t. let_one _ _
  told_bare b (sends (GetArg n)) [] = for_each (slice_get b.params n) (λ (p : ParamSite). λ t. alone p.operand.expr) (λ p t. no_stmts)
  told_bare b (sends (I32Const n)) [] = λ t. no_stmts
  told_bare b (sends (ConstZero types)) [] = λ t. no_stmts
  told_bare b (sends (Bitcasts cs)) es = λ t. casts_bare 0 cs.now es t
  told_bare b (sends I32FromU8) (a ∷ []) = λ t. no_stmts
  told_bare b (sends I32FromS8) (a ∷ []) = λ t. no_stmts
  told_bare b (sends I32FromU16) (a ∷ []) = λ t. no_stmts
  told_bare b (sends I32FromS16) (a ∷ []) = λ t. no_stmts
  told_bare b (sends I32FromU32) (a ∷ []) = λ t. no_stmts
  told_bare b (sends I32FromS32) (a ∷ []) = λ t. no_stmts
  told_bare b (sends I32FromChar) (a ∷ []) = λ t. no_stmts
  told_bare b (sends I64FromU64) (a ∷ []) = λ t. no_stmts
  told_bare b (sends I64FromS64) (a ∷ []) = λ t. no_stmts
  told_bare b (sends CoreF32FromF32) (a ∷ []) = λ t. no_stmts
  told_bare b (sends CoreF64FromF64) (a ∷ []) = λ t. no_stmts
  told_bare b (sends S32FromI32) (a ∷ []) = λ t. no_stmts
  told_bare b (sends S64FromI64) (a ∷ []) = λ t. no_stmts
  told_bare b (sends F32FromCoreF32) (a ∷ []) = λ t. no_stmts
  told_bare b (sends F64FromCoreF64) (a ∷ []) = λ t. no_stmts
  told_bare b (sends S8FromI32) (a ∷ []) = λ t. no_stmts
  told_bare b (sends U8FromI32) (a ∷ []) = λ t. no_stmts
  told_bare b (sends S16FromI32) (a ∷ []) = λ t. no_stmts
  told_bare b (sends U16FromI32) (a ∷ []) = λ t. no_stmts
  told_bare b (sends U32FromI32) (a ∷ []) = λ t. no_stmts
  told_bare b (sends U64FromI64) (a ∷ []) = λ t. no_stmts
  told_bare b (sends CharFromI32) (a ∷ []) = λ t. let_one _ _
  told_bare b (sends I32FromBool) (a ∷ []) = λ t. let_one _ _
  told_bare b (sends BoolFromI32) (a ∷ []) = λ t. let_one _ _
  told_bare b (sends (RecordLower id)) (a ∷ []) = for_each (record_at b.sites id.0) (splits_record a) (λ s t. parts_one _ _)
  told_bare b (sends (RecordLift id)) es = for_each (record_at b.sites id.0) (makes_record es) (λ s t. let_one _ _)
  told_bare b (sends (EnumLower id)) (a ∷ []) = λ t. no_stmts
  told_bare b (sends (EnumLift id)) (a ∷ []) = enums_bare a (enum_at b.sites id.0)
  told_bare b (sends (FlagsLower id)) (a ∷ []) = for_each (flags_at b.sites id.0) (lowers_flags a) (λ s t. let_one _ _)
  told_bare b (sends (FlagsLift id)) (w ∷ es) = for_each (flags_at b.sites id.0) (lifts_flags (w ∷ es)) (λ s t. let_one _ _)
  told_bare b (sends (TupleLower n)) (a ∷ []) = λ t. parts_one _ _
  told_bare b (sends (TupleLift n)) es = λ t. let_one _ _
  told_bare b (sends (StringLower false)) (a ∷ []) = λ t. three_lets _ _ _ _ _ _
  told_bare b (sends (StringLower true)) (a ∷ []) = gives_bare a (local_of a)
  told_bare b (sends StringLift) (a ∷ n ∷ []) = λ t. three_lets _ _ _ _ _ _
  told_bare b (sends (Flush n)) es = λ t. lets_bare (names_from flush_prefix t 0 n) es
  told_bare b (sends (Return n)) es = λ t. no_stmts
  told_bare b (sends (I32Load8U o)) (a ∷ []) = λ t. let_one _ _
  told_bare b (sends (I32Load8S o)) (a ∷ []) = λ t. let_one _ _
  told_bare b (sends (I32Load16U o)) (a ∷ []) = λ t. let_one _ _
  told_bare b (sends (I32Load16S o)) (a ∷ []) = λ t. let_one _ _
  told_bare b (sends (I32Load o)) (a ∷ []) = λ t. let_one _ _
  told_bare b (sends (I64Load o)) (a ∷ []) = λ t. let_one _ _
  told_bare b (sends (F32Load o)) (a ∷ []) = λ t. let_one _ _
  told_bare b (sends (F64Load o)) (a ∷ []) = λ t. let_one _ _
  told_bare b (sends (PointerLoad o)) (a ∷ []) = λ t. let_one _ _
  told_bare b (sends (LengthLoad o)) (a ∷ []) = λ t. let_one _ _
  told_bare b (sends (I32Store8 o)) (a ∷ at ∷ []) = λ t. small_one _ _ _ _
  told_bare b (sends (I32Store16 o)) (a ∷ at ∷ []) = λ t. small_one _ _ _ _
  told_bare b (sends (I32Store o)) (a ∷ at ∷ []) = λ t. store_one _ _ _ _
  told_bare b (sends (I64Store o)) (a ∷ at ∷ []) = λ t. store_one _ _ _ _
  told_bare b (sends (F32Store o)) (a ∷ at ∷ []) = λ t. store_one _ _ _ _
  told_bare b (sends (F64Store o)) (a ∷ at ∷ []) = λ t. store_one _ _ _ _
  told_bare b (sends (PointerStore o)) (a ∷ at ∷ []) = λ t. store_one _ _ _ _
  told_bare b (sends (LengthStore o)) (a ∷ at ∷ []) = λ t. store_one _ _ _ _
  told_bare b (sends (GuestDeallocate size align)) (a ∷ []) = λ t. expr_one _
  told_bare b (sends GuestDeallocateString) (a ∷ n ∷ []) = λ t. expr_one _
  told_bare b (sends VariantPayloadName) [] = for_each (innermost b.opened) (λ (k : ℕ). λ t. alone (expr.Local (slot_name the_payload k))) (λ k t. no_stmts)
  told_bare b (sends IterElem) [] = for_each (innermost b.opened) (λ (k : ℕ). λ t. alone (expr.Local (slot_name the_element k))) (λ k t. no_stmts)
  told_bare b (sends IterMapKey) [] = for_each (innermost b.opened) (λ (k : ℕ). λ t. alone (expr.Local (slot_name the_key k))) (λ k t. no_stmts)
  told_bare b (sends IterMapValue) [] = for_each (innermost b.opened) (λ (k : ℕ). λ t. alone (expr.Local (slot_name the_value k))) (λ k t. no_stmts)
  told_bare b (sends IterBasePointer) [] = for_each (innermost b.opened) (λ (k : ℕ). λ t. alone (expr.Local (slot_name the_base k))) (λ k t. no_stmts)
  told_bare b _ es = tt

-- 4. The area itself

pub area_one : (a : ReturnArea) → Declare Import [] (stmt.Area a ∷ [])
area_one a = plain_one Import (Stmt-F.Area a) (stmt.Area a) (rolls-Area a) refl refl (fold-roll-Stmt Bool Bool Bool (without_step Import) arm_without_step block_without_step (Stmt-F.Area a))
