-- Which paths stand in the arms of a value that is taken apart: an option's are not those of a result's cases, and a variant's not those of
-- another's. The option's own are taken.
use Rattle.std.proofs.Common.{◌≡◌, ℕ, suc, Bool, true, false, ◌&&◌, List, [], ◌∷◌, ◌++◌, length, map, reverse, Option, None, Some, refl, sym, ap, ap₂, ◌∙◌, subst, arith}
use Rattle.std.specs.Prelude.{codes, get_or}
use Rattle.std.specs.Str.{bytes_eq}
use Rattle.std.proofs.lemmas.List.{length-reverse, reverse-append}
use Rattle.wit_model.specs.Bytes.{Bytes}
use Rattle.wit_model.specs.declared.name.TypeId.{TypeId}
use Rattle.wit_model.specs.declared.types.Case.{Case}
use Rattle.wit_model.specs.declared.types.TypeDef.{TypeDef}
use Rattle.wit_model.specs.declared.types.TypeDefKind.TheVariants as kind
use Rattle.wit_model.specs.declared.types.WitType.{WitType}
use Rattle.rust_tree.specs.declared.expr.Expr.{Expr}
use Rattle.rust_tree.specs.declared.path.Path.{Path}
use Rattle.rust_tree.specs.declared.pattern.ArmPattern.{ArmPattern}
use Rattle.rust_tree.specs.declared.pattern.ArmPattern.TheVariants as arm
use Rattle.rust_tree.specs.declared.stmt.Arm.{Arm, Arm-F, out-Arm, out-roll-Arm}
use Rattle.rust_tree.specs.declared.stmt.Block.{Block}
use Rattle.rust_tree.specs.declared.stmt.Stmt.{Stmt, Stmt-F, out-Stmt, out-roll-Stmt}
use Rattle.rust_tree.specs.declared.stmt.Stmt.TheVariants.{rolls-Match}
use Rattle.wrapper_meaning.specs.Shape.{is_nothing, shape_of}
use Rattle.wrapper_values.specs.Fields.{root_name}
use Rattle.abi_bindgen.specs.declared.instruction.Instruction.TheVariants.{OptionLower, VariantLower}
use Rattle.abi_bindgen.specs.HasList.{IsKindOf}
use Rattle.abi_bindgen.specs.Sent.{sends}
use Rattle.func_gen.specs.declared.case_form.CaseForm.{CaseForm}
use Rattle.func_gen.specs.declared.case_form.CaseForm.TheVariants as form
use Rattle.func_gen.specs.declared.function_bindgen.FinishedBlock.{FinishedBlock}
use Rattle.func_gen.specs.declared.function_bindgen.FunctionBindgen.{FunctionBindgen}
use Rattle.func_gen.specs.declared.operand.ExprOperand.{ExprOperand}
use Rattle.func_gen.specs.declared.variant_site.VariantSite.{VariantSite}
use Rattle.func_gen.specs.CaseForms.{core_path, member_form, member_forms, member_path, option_forms, variant_at}
use Rattle.func_gen.specs.Formed.{Formed}
use Rattle.func_gen.specs.Forms.{operand_of}
use Rattle.func_gen.specs.MatchForms.{LowersBy, case_path, case_pattern, lowered_arms, lowered_body, match_names, match_of, open_arm}
use Rattle.func_gen.specs.PartForms.{locals_of}
use Rattle.func_gen.specs.Still.{StillOf}

-- 1. The paths of arms

abbrev no_path : Path
no_path = record { lead = false; supers = 0; names = [] }

abbrev pattern_path : ArmPattern → Path
pattern_path (arm.Case path) = path
pattern_path (arm.Payload path name) = path
pattern_path (arm.LeftOut path) = path
pattern_path _ = no_path

abbrev arm_path : Arm → Path
arm_path a = pattern_path (out-Arm a).pattern

abbrev match_arms : Stmt-F Stmt Arm Block → List Arm
match_arms (Stmt-F.Match names e arms) = arms
match_arms _ = []

abbrev first_paths : List Stmt → List Path
first_paths [] = []
first_paths (s ∷ stmts) = map arm_path (match_arms (out-Stmt s))

-- those of the match that stands last
abbrev pub last_paths : List Stmt → List Path
last_paths stmts = first_paths (reverse stmts)

-- whether the first one has this name at a place
abbrev first_has : ℕ → Bytes → List Path → Bool
first_has k name [] = false
first_has k name (p ∷ paths) = bytes_eq (get_or p.names k []) name

of_pattern : (c : CaseForm) (k : ℕ) → pattern_path (case_pattern c k) ≡ case_path c
of_pattern (form.Bare path) k = refl
of_pattern (form.Full path) k = refl
of_pattern (form.LeftOut path) k = refl

of_arms : (cases : List CaseForm) (blocks : List FinishedBlock) → length blocks ≡ length cases → map arm_path (lowered_arms cases blocks) ≡ map case_path cases
of_arms [] blocks h = refl
of_arms (c ∷ cases) [] h = absurd (omega (arith, h))
of_arms (c ∷ cases) (b ∷ blocks) h =
    ap₂ (λ (p : Path) ps. p ∷ ps) (ap (λ (l : Arm-F Stmt Arm Block). pattern_path l.pattern) (out-roll-Arm (open_arm (case_pattern c b.number) (lowered_body b))) ∙ of_pattern c b.number) (of_arms cases blocks (omega (arith, h)))

of_match : (names : List Bytes) (e : Expr) (arms : List Arm) → match_arms (out-Stmt (match_of names e arms)) ≡ arms
of_match names e arms = ap match_arms (ap out-Stmt (sym (rolls-Match (match_names names) e arms)) ∙ out-roll-Stmt (Stmt-F.Match (match_names names) e arms))

-- a value that is taken apart leaves a match with the paths of its cases
lowered_paths : (cases : List CaseForm) (e : Expr) (n : ℕ) (names : List Bytes) (old new : FunctionBindgen) → LowersBy cases e n names old new → last_paths new.code.stmts ≡ map case_path cases
lowered_paths cases e n names old new l =
    let arms = lowered_arms cases (reverse l.used) in
    ap last_paths l.adds.stmts ∙ ap first_paths (reverse-append l.mid.code.stmts (match_of names e arms ∷ [])) ∙ ap (map arm_path) (of_match names e arms)
    ∙ of_arms cases (reverse l.used) (length-reverse l.used ∙ l.uses.many)

-- 2. An option

abbrev none_path : Path
none_path = core_path (codes "option") (codes "Option") (codes "None")

abbrev some_path : Path
some_path = core_path (codes "option") (codes "Option") (codes "Some")

abbrev ok_path : Path
ok_path = core_path (codes "result") (codes "Result") (codes "Ok")

abbrev err_path : Path
err_path = core_path (codes "result") (codes "Result") (codes "Err")

module _ (types : List TypeDef) (id : TypeId) (n : ℕ) (old new : FunctionBindgen) where
  option_paths : (os rs : List ExprOperand) → Formed types (sends (OptionLower id n)) os rs old new → last_paths new.code.stmts ≡ none_path ∷ some_path ∷ []
  option_paths os rs f = lowered_paths f.code.forms f.code.operand n f.code.names old new f.code.lowers ∙ ap (map case_path) f.code.are.are

  -- it is taken apart by its own cases
  pub takes_options : (ty : WitType) (e : Expr) (names : List Bytes) → IsKindOf types id.0 (kind.Option ty) → is_nothing (shape_of types ty) ≡ false → StillOf old new → LowersBy option_forms e n names old new
      → Formed types (sends (OptionLower id n)) (operand_of e ∷ []) (locals_of names) old new
  takes_options ty e names is some still lowers = record {
    still = still;
    given = tt;
    code = record { forms = option_forms; are = record { ty = ty; kind = is; some = some; are = refl }; operand = e; only = refl; names = names; lowers = lowers; results = refl };
  }

  -- and not by those of a result
  pub refuses_results : (os rs : List ExprOperand) → Formed types (sends (OptionLower id n)) os rs old new → last_paths new.code.stmts ≡ ok_path ∷ err_path ∷ [] → ⊥
  refuses_results os rs f is =
      let e : none_path ∷ some_path ∷ [] ≡ ok_path ∷ err_path ∷ [] = sym (option_paths os rs f) ∙ is in
      absurd (let no : true ≡ false = ap (first_has 1 (codes "option")) e in cc)

  -- nor by its own in another order
  pub refuses_turned : (os rs : List ExprOperand) → Formed types (sends (OptionLower id n)) os rs old new → last_paths new.code.stmts ≡ some_path ∷ none_path ∷ [] → ⊥
  refuses_turned os rs f is =
      let e : none_path ∷ some_path ∷ [] ≡ some_path ∷ none_path ∷ [] = sym (option_paths os rs f) ∙ is in
      absurd (let no : true ≡ false = ap (first_has 3 (codes "None")) e in cc)

-- 3. A variant

abbrev path_of : Bytes → Path
path_of name = record { lead = false; supers = 0; names = name ∷ [] }

abbrev site_of : Bytes → VariantSite
site_of name = record { lifted = path_of name; lowered = path_of name; cases = codes "A" ∷ codes "B" ∷ [] }

form_path : (ty name : Bytes) (payload : Option WitType) → case_path (member_form ty name payload) ≡ member_path ty name
form_path ty name None = refl
form_path ty name (Some payload) = refl

member_paths : (ty : Bytes) (names : List Bytes) (members : List Case) → length names ≡ length members → map case_path (member_forms ty names members) ≡ map (member_path ty) names
member_paths ty [] members h = refl
member_paths ty (name ∷ names) [] h = absurd (omega (arith, h))
member_paths ty (name ∷ names) (c ∷ members) h = ap₂ (λ (p : Path) ps. p ∷ ps) (form_path ty name c.ty) (member_paths ty names members (omega (arith, h)))

module _ (types : List TypeDef) (id : TypeId) (n : ℕ) (old new : FunctionBindgen) where
  variant_paths : (name : Bytes) (os rs : List ExprOperand) → Formed types (sends (VariantLower id n)) os rs old new → variant_at old.sites id.0 ≡ Some (site_of name)
      → last_paths new.code.stmts ≡ member_path name (codes "A") ∷ member_path name (codes "B") ∷ []
  variant_paths name os rs f at =
      let c = f.code in
      let same : site_of name ≡ c.are.site = let e = sym at ∙ c.are.at in cc in
      let named : name ≡ c.are.name = let e = ap (λ (s : VariantSite). root_name s.lowered) same ∙ c.are.root in cc in
      lowered_paths c.forms c.operand n c.names old new c.lowers ∙ ap (map case_path) c.are.are ∙ member_paths c.are.name c.are.site.cases c.are.members c.are.many
      ∙ sym (ap₂ (λ ty (s : VariantSite). map (member_path ty) s.cases) named same)

  -- one that is written `P` is not taken apart by the cases of `Q`
  pub refuses_another : (os rs : List ExprOperand) → Formed types (sends (VariantLower id n)) os rs old new → variant_at old.sites id.0 ≡ Some (site_of (codes "P"))
      → last_paths new.code.stmts ≡ member_path (codes "Q") (codes "A") ∷ member_path (codes "Q") (codes "B") ∷ [] → ⊥
  refuses_another os rs f at is =
      let e : member_path (codes "P") (codes "A") ∷ member_path (codes "P") (codes "B") ∷ [] ≡ member_path (codes "Q") (codes "A") ∷ member_path (codes "Q") (codes "B") ∷ [] = sym (variant_paths (codes "P") os rs f at) ∙ is in
      absurd (let no : true ≡ false = ap (first_has 0 (codes "P")) e in cc)
