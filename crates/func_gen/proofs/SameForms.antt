-- Two runs in which a step became code of its form are alike behind it, where they were alike before it.
use Rattle.std.proofs.Common.{◌≡◌, ℕ, suc, ◌+◌, Bool, true, false, List, [], ◌∷◌, ◌++◌, length, map, reverse, Option, None, Some, refl, sym, ap, ap₂, ◌∙◌, subst, arith}
use Rattle.std.specs.Prelude.{codes, option_to_list}
use Rattle.std.proofs.lemmas.List.{length-map, map-append, reverse-reverse}
use Rattle.wit_model.specs.Bytes.{Bytes}
use Rattle.wit_model.specs.declared.function.Function.{Function}
use Rattle.wit_model.specs.declared.types.TypeDef.{TypeDef}
use Rattle.wit_model.specs.declared.types.WitType.{WitType}
use Rattle.wit_model.specs.declared.wasm_type.WasmType.{WasmType}
use Rattle.rust_tree.specs.declared.export.CallBlock.{CallBlock}
use Rattle.rust_tree.specs.declared.expr.Expr.{Expr}
use Rattle.rust_tree.specs.declared.pattern.ArmPattern.TheVariants as arm
use Rattle.rust_tree.specs.declared.runtime_item.RuntimeItem.{RuntimeItem}
use Rattle.rust_tree.specs.declared.stmt.Arm.{Arm}
use Rattle.rust_tree.specs.declared.stmt.Block.{Block}
use Rattle.rust_tree.specs.declared.stmt.MatchNames.TheVariants as names_of
use Rattle.rust_tree.specs.declared.stmt.Stmt.{Stmt}
use Rattle.rust_tree.specs.declared.stmt.Stmt.TheVariants as stmt
use Rattle.wrapper_run.specs.Code.{code_of}
use Rattle.abi_bindgen.specs.Calls.{import_params}
use Rattle.abi_bindgen.specs.Sent.{Sent}
use Rattle.wrapper_meaning.proofs.Lists.{some_same}
use Rattle.func_gen.specs.declared.case_form.CaseForm.{CaseForm}
use Rattle.func_gen.specs.declared.function_bindgen.Code.{Code}
use Rattle.func_gen.specs.declared.function_bindgen.FinishedBlock.{FinishedBlock}
use Rattle.func_gen.specs.declared.function_bindgen.FunctionBindgen.{FunctionBindgen}
use Rattle.func_gen.specs.declared.function_bindgen.OpenBlock.{OpenBlock}
use Rattle.func_gen.specs.declared.function_bindgen.ParamSite.{ParamSite}
use Rattle.func_gen.specs.declared.operand.ExprOperand.{ExprOperand}
use Rattle.func_gen.specs.declared.type_site.TypeSite.{TypeSite}
use Rattle.func_gen.specs.Added.{Appends}
use Rattle.func_gen.specs.CaseForms.{AreFormsOf, CasedType}
use Rattle.func_gen.specs.CodeOf.{Context, calls_core, context, emitted}
use Rattle.func_gen.specs.Emission.{Emission, Writes}
use Rattle.func_gen.specs.Formed.{Becomes, BecomesTold, Called, CallsImported, CallsMethod, ClosesBlock, Formed, FreesCases, LiftsCases, LiftsLast, MatchesCases, OpensBlock, block_begins, block_ends, block_of, called, case_lifts, cases_free, cases_match, core_call, last_lifts, method_call, no_call}
use Rattle.func_gen.specs.Forms.{operand_of}
use Rattle.func_gen.specs.LiftedCases.{FreesBy, LiftsBy, LiftsVariantBy, case_body, case_expr, freed_body, invalid_body, is_unit, last_body, lifted_bodies, number_arms}
use Rattle.func_gen.specs.MatchForms.{LowersBy, arm_of, case_path, case_pattern, lowered_arms, match_of, result_names, tail_of}
use Rattle.func_gen.specs.MethodForms.{call_block, value_local}
use Rattle.func_gen.specs.PartForms.{exprs_of, locals_of}
use Rattle.func_gen.specs.Scope.{with_number}
use Rattle.func_gen.specs.Slot.{block_names}
use Rattle.func_gen.specs.Still.{IsWrittenAs, StillOf}
use Rattle.func_gen.specs.Uses.{Uses}
use Rattle.func_gen.proofs.Forming.{exprs_operands}
use Rattle.func_gen.proofs.SameCases.{forms_same}
use Rattle.func_gen.proofs.SameLists.{first_same, last_same, map_reversed, others_same, parts_same}
use Rattle.func_gen.proofs.SameNames.{all_same, one_same, takes_from}

-- 1. What is alike

-- a block but for which words its results keep as numbers
abbrev pub unkept : FinishedBlock → FinishedBlock
unkept b = record b { results = map operand_of (exprs_of b.results) }

pub record Alike (a b : FunctionBindgen) : Type 0 where
  pub still : IsWrittenAs a b
  pub scope : b.scope ≡ a.scope
  pub code : b.code ≡ a.code
  pub opened : b.opened ≡ a.opened
  pub runtime : b.runtime ≡ a.runtime
  pub finished : map unkept b.finished ≡ map unkept a.finished

pub record SameStep (rs ss : List ExprOperand) (b d : FunctionBindgen) : Type 0 where
  pub results : exprs_of ss ≡ exprs_of rs
  pub alike : Alike b d

still_alike : (a b c d : FunctionBindgen) → IsWrittenAs a c → StillOf a b → StillOf c d → IsWrittenAs b d
still_alike a b c d s h g = record {
  import = g.import ∙ s.import ∙ sym h.import;
  home = g.home ∙ s.home ∙ sym h.home;
  area = g.area ∙ s.area ∙ sym h.area;
  params = g.params ∙ s.params ∙ sym h.params;
  sites = g.sites ∙ s.sites ∙ sym h.sites;
}

abbrev code_with : Option CallBlock → List Stmt → Code
code_with call stmts = record { call = call; stmts = stmts }

code_same : (c d : Code) → c.call ≡ d.call → c.stmts ≡ d.stmts → c ≡ d
code_same c d call stmts = ap₂ code_with call stmts

abbrev context_of : Bool → Bytes → List ParamSite → List (Option TypeSite) → List OpenBlock → Context
context_of import area params sites opened = record { import = import; area = area; params = params; sites = sites; opened = opened }

context_same : (a c : FunctionBindgen) → Alike a c → context c ≡ context a
context_same a c s =
    ap (λ x. context_of x c.area c.params c.sites c.opened) s.still.import ∙ ap (λ x. context_of a.import x c.params c.sites c.opened) s.still.area ∙ ap (λ x. context_of a.import a.area x c.sites c.opened) s.still.params
    ∙ ap (λ x. context_of a.import a.area a.params x c.opened) s.still.sites ∙ ap (context_of a.import a.area a.params a.sites) s.opened

-- 2. What the table tells

writes_same : (code : ℕ → Emission) (rs ss : List ExprOperand) (a b c d : FunctionBindgen) → Alike a c → StillOf a b → StillOf c d → Writes code rs a b → Writes code ss c d → SameStep rs ss b d
writes_same code rs ss a b c d s left right h g =
    let one = takes_from a.scope c.scope (λ k. (code k).names) h.number g.number b.scope d.scope s.scope h.takes g.takes in
    record {
      results = g.results ∙ ap (λ t. (code t).results) one.number ∙ sym h.results;
      alike = record {
        still = still_alike a b c d s.still left right;
        scope = one.scope;
        code =
            code_same d.code b.code (g.call ∙ ap (λ (x : Code). x.call) s.code ∙ sym h.call)
            (g.stmts ∙ ap₂ (λ (x : Code) (t : ℕ). x.stmts ++ (code t).stmts) s.code one.number ∙ sym h.stmts);
        opened = g.opened ∙ s.opened ∙ sym h.opened;
        runtime = g.runtime ∙ ap₂ (λ (xs : List RuntimeItem) (t : ℕ). xs ++ (code t).items) s.runtime one.number ∙ sym h.runtime;
        finished = ap (map unkept) g.finished ∙ s.finished ∙ ap (map unkept) (sym h.finished);
      };
    }

-- where the code that two steps tell is the same
pub told_by : (step other : Sent) (os ps rs ss : List ExprOperand) (a b c d : FunctionBindgen) → Alike a c → StillOf a b → StillOf c d → (h : BecomesTold step os rs a b) (g : BecomesTold other ps ss c d) → g.code ≡ h.code → SameStep rs ss b d
told_by step other os ps rs ss a b c d s left right h g code = writes_same h.code rs ss a b c d s left right h.writes (subst (λ code. Writes code ss c d) code g.writes)

told_same : (step : Sent) (os ps rs ss : List ExprOperand) (a b c d : FunctionBindgen) → Alike a c → StillOf a b → StillOf c d → exprs_of ps ≡ exprs_of os → BecomesTold step os rs a b → BecomesTold step ps ss c d → SameStep rs ss b d
told_same step os ps rs ss a b c d s left right same h g =
    told_by step step os ps rs ss a b c d s left right h g (some_same g.code h.code (sym g.is ∙ ap₂ (λ (x : Context) (es : List Expr). emitted x step es) (context_same a c s) same ∙ h.is))

-- 3. Calls

option_same : (x y : Option WasmType) → option_to_list x ≡ option_to_list y → x ≡ y
option_same None None e = refl
option_same None (Some y) e = absurd cc
option_same (Some x) None e = absurd cc
option_same (Some x) (Some y) e = ap (λ z. Some z) (first_same x y [] [] e)

imported_same : (types : List TypeDef) (f : Function) (os ps rs ss : List ExprOperand) (a b c d : FunctionBindgen) → Alike a c → StillOf a b → StillOf c d → exprs_of ps ≡ exprs_of os → CallsImported types f os rs a b → CallsImported types f ps ss c d
    → SameStep rs ss b d
imported_same types f os ps rs ss a b c d s left right same h g =
    let words = import_params types f in
    let answer : g.answer ≡ h.answer = option_same g.answer h.answer (g.answers ∙ sym h.answers) in
    let code : calls_core c.home f words g.answer (exprs_of ps) ≡ calls_core a.home f words h.answer (exprs_of os) =
    ap₂ (λ (home : Bytes) (x : Option WasmType). calls_core home f words x (exprs_of ps)) s.still.home answer ∙ ap (calls_core a.home f words h.answer) same in
    writes_same (calls_core a.home f words h.answer (exprs_of os)) rs ss a b c d s left right h.writes (subst (λ code. Writes code ss c d) code g.writes)

abbrev method_code : Function → List Stmt → List Expr → Option Bytes → Code
method_code f stmts es value = record { call = Some (call_block f stmts es value); stmts = [] }

method_same : (due : Option WitType) (f : Function) (os ps rs ss : List ExprOperand) (a b c d : FunctionBindgen) → Alike a c → StillOf a b → StillOf c d → exprs_of ps ≡ exprs_of os → CallsMethod due f os rs a b → CallsMethod due f ps ss c d → SameStep rs ss b d
method_same due f os ps rs ss a b c d s left right same h g =
    let one = takes_from a.scope c.scope (λ k. option_to_list (value_local due k)) h.number g.number b.scope d.scope s.scope h.takes g.takes in
    record {
      results = ap exprs_of g.results ∙ ap (λ t. exprs_of (locals_of (option_to_list (value_local due t)))) one.number ∙ sym (ap exprs_of h.results);
      alike = record {
        still = still_alike a b c d s.still left right;
        scope = one.scope;
        code =
            g.code ∙ ap₂ (λ (x : Code) (es : List Expr). method_code f x.stmts es (value_local due g.number)) s.code same
            ∙ ap (λ t. method_code f a.code.stmts (exprs_of os) (value_local due t)) one.number ∙ sym h.code;
        opened = g.opened ∙ s.opened ∙ sym h.opened;
        runtime = g.runtime ∙ s.runtime ∙ sym h.runtime;
        finished = ap (map unkept) g.finished ∙ s.finished ∙ ap (map unkept) (sym h.finished);
      };
    }

-- 4. Blocks

abbrev opens_at : ℕ → List Bytes → Code → OpenBlock
opens_at number names code = record { number = number; names = names; code = code }

pub opens_same : (a b c d : FunctionBindgen) → Alike a c → StillOf a b → StillOf c d → OpensBlock a b → OpensBlock c d → Alike b d
opens_same a b c d s left right h g =
    let one = takes_from a.scope c.scope block_names h.number g.number b.scope d.scope s.scope h.takes g.takes in
    let block : opens_at g.number c.scope.used c.code ≡ opens_at h.number a.scope.used a.code =
    ap (λ t. opens_at t c.scope.used c.code) one.number ∙ ap₂ (λ x code. opens_at h.number x.used code) s.scope s.code in
    record {
      still = still_alike a b c d s.still left right;
      scope = one.scope;
      code = g.code ∙ sym h.code;
      opened = g.opened ∙ ap₂ (λ os o. os ++ o ∷ []) s.opened block ∙ sym h.opened;
      runtime = g.runtime ∙ s.runtime ∙ sym h.runtime;
      finished = ap (map unkept) g.finished ∙ s.finished ∙ ap (map unkept) (sym h.finished);
    }

abbrev ended : OpenBlock → List Stmt → List Expr → FinishedBlock
ended o stmts es = record { number = o.number; names = o.names; stmts = stmts; results = map operand_of es }

pub closes_same : (os ps : List ExprOperand) (a b c d : FunctionBindgen) → Alike a c → StillOf a b → StillOf c d → exprs_of ps ≡ exprs_of os → ClosesBlock os a b → ClosesBlock ps c d → Alike b d
closes_same os ps a b c d s left right same h g =
    let blocks = last_same d.opened b.opened g.block h.block (sym g.opened ∙ s.opened ∙ h.opened) in
    let mine = block_of h.block a.code.stmts os in
    let other = block_of g.block c.code.stmts ps in
    let block : unkept other ≡ unkept mine =
    ap₂ (λ (o : OpenBlock) (x : Code). ended o x.stmts (exprs_of ps)) blocks.1 s.code ∙ ap (ended h.block a.code.stmts) same in
    record {
      still = still_alike a b c d s.still left right;
      scope = g.scope ∙ s.scope ∙ sym h.scope;
      code = g.code ∙ ap (λ (o : OpenBlock). o.code) blocks.1 ∙ sym h.code;
      opened = blocks.0;
      runtime = g.runtime ∙ s.runtime ∙ sym h.runtime;
      finished =
          ap (map unkept) g.finished ∙ map-append unkept c.finished (other ∷ []) ∙ ap₂ (λ xs x. xs ++ x ∷ []) s.finished block ∙ sym (map-append unkept a.finished (mine ∷ []))
          ∙ ap (map unkept) (sym h.finished);
    }

-- 5. Blocks that are used up

record SameUsed (used more : List FinishedBlock) (m k : FunctionBindgen) : Type 0 where
  blocks : map unkept (reverse more) ≡ map unkept (reverse used)
  alike : Alike m k

used_same : (n : ℕ) (used more : List FinishedBlock) (a m c k : FunctionBindgen) → Alike a c → Uses used n a m → Uses more n c k → SameUsed used more m k
used_same n used more a m c k s h g =
    let before : map unkept (reverse c.finished) ≡ map unkept (reverse a.finished) = map_reversed unkept c.finished ∙ ap reverse s.finished ∙ sym (map_reversed unkept a.finished) in
    let split : map unkept more ++ map unkept (reverse k.finished) ≡ map unkept used ++ map unkept (reverse m.finished) =
    sym (map-append unkept more (reverse k.finished)) ∙ ap (map unkept) (sym g.taken) ∙ before ∙ ap (map unkept) h.taken ∙ map-append unkept used (reverse m.finished) in
    let many = length-map more unkept ∙ g.many ∙ sym h.many ∙ sym (length-map used unkept) in
    let parts = parts_same (map unkept more) (map unkept used) (map unkept (reverse k.finished)) (map unkept (reverse m.finished)) many split in
    let rest : reverse (map unkept k.finished) ≡ reverse (map unkept m.finished) = sym (map_reversed unkept k.finished) ∙ parts.1 ∙ map_reversed unkept m.finished in
    record {
      blocks = map_reversed unkept more ∙ ap reverse parts.0 ∙ sym (map_reversed unkept used);
      alike = record {
        still = record {
          import = ap (λ (b : FunctionBindgen). b.import) g.rest ∙ s.still.import ∙ sym (ap (λ (b : FunctionBindgen). b.import) h.rest);
          home = ap (λ (b : FunctionBindgen). b.home) g.rest ∙ s.still.home ∙ sym (ap (λ (b : FunctionBindgen). b.home) h.rest);
          area = ap (λ (b : FunctionBindgen). b.area) g.rest ∙ s.still.area ∙ sym (ap (λ (b : FunctionBindgen). b.area) h.rest);
          params = ap (λ (b : FunctionBindgen). b.params) g.rest ∙ s.still.params ∙ sym (ap (λ (b : FunctionBindgen). b.params) h.rest);
          sites = ap (λ (b : FunctionBindgen). b.sites) g.rest ∙ s.still.sites ∙ sym (ap (λ (b : FunctionBindgen). b.sites) h.rest);
        };
        scope = ap (λ (b : FunctionBindgen). b.scope) g.rest ∙ s.scope ∙ sym (ap (λ (b : FunctionBindgen). b.scope) h.rest);
        code = ap (λ (b : FunctionBindgen). b.code) g.rest ∙ s.code ∙ sym (ap (λ (b : FunctionBindgen). b.code) h.rest);
        opened = ap (λ (b : FunctionBindgen). b.opened) g.rest ∙ s.opened ∙ sym (ap (λ (b : FunctionBindgen). b.opened) h.rest);
        runtime = ap (λ (b : FunctionBindgen). b.runtime) g.rest ∙ s.runtime ∙ sym (ap (λ (b : FunctionBindgen). b.runtime) h.rest);
        finished = sym (reverse-reverse (map unkept k.finished)) ∙ ap reverse rest ∙ reverse-reverse (map unkept m.finished);
      };
    }

-- a statement is added behind them, and the names are those of the scope
added_same : (x y : Stmt) (items : List RuntimeItem) (m b k d : FunctionBindgen) → Alike m k → y ≡ x → Appends m b (x ∷ []) items → Appends k d (y ∷ []) items → d.scope ≡ b.scope → Alike b d
added_same x y items m b k d s same h g scope = record {
  still = record {
    import = g.import ∙ s.still.import ∙ sym h.import;
    home = g.home ∙ s.still.home ∙ sym h.home;
    area = g.area ∙ s.still.area ∙ sym h.area;
    params = g.params ∙ s.still.params ∙ sym h.params;
    sites = g.sites ∙ s.still.sites ∙ sym h.sites;
  };
  scope = scope;
  code =
      code_same d.code b.code (g.call ∙ ap (λ (x : Code). x.call) s.code ∙ sym h.call) (g.stmts ∙ ap₂ (λ (c : Code) (z : Stmt). c.stmts ++ z ∷ []) s.code same ∙ sym h.stmts);
  opened = g.opened ∙ s.opened ∙ sym h.opened;
  runtime = g.runtime ∙ ap (λ xs. xs ++ items) s.runtime ∙ sym h.runtime;
  finished = ap (map unkept) g.finished ∙ s.finished ∙ ap (map unkept) (sym h.finished);
}

-- 6. Matches

abbrev lowered_as : CaseForm → FinishedBlock → List Expr → Arm
lowered_as c b es = arm_of (case_pattern c b.number) (code_of b.stmts (tail_of es))

lowered_unkept : (cases : List CaseForm) (bs : List FinishedBlock) → lowered_arms cases (map unkept bs) ≡ lowered_arms cases bs
lowered_unkept [] bs = refl
lowered_unkept (c ∷ cases) [] = refl
lowered_unkept (c ∷ cases) (b ∷ bs) = ap₂ (λ es arms. lowered_as c b es ∷ arms) (exprs_operands (exprs_of b.results)) (lowered_unkept cases bs)

lifted_unkept : (cases : List CaseForm) (bs : List FinishedBlock) → lifted_bodies cases (map unkept bs) ≡ lifted_bodies cases bs
lifted_unkept [] bs = refl
lifted_unkept (c ∷ cases) [] = refl
lifted_unkept (c ∷ cases) (b ∷ bs) = ap₂ (λ es bodies. case_body (is_unit c) (case_path c) b.stmts es ∷ bodies) (exprs_operands (exprs_of b.results)) (lifted_unkept cases bs)

freed_unkept : (bs : List FinishedBlock) → map freed_body (map unkept bs) ≡ map freed_body bs
freed_unkept [] = refl
freed_unkept (b ∷ bs) = ap (λ bodies. freed_body b ∷ bodies) (freed_unkept bs)

-- what is made of blocks alike is the same
by_unkept : {A : Type 0} (f : List FinishedBlock → A) → ((bs : List FinishedBlock) → f (map unkept bs) ≡ f bs) → (xs ys : List FinishedBlock) → map unkept ys ≡ map unkept xs → f ys ≡ f xs
by_unkept f kept xs ys e = sym (kept ys) ∙ ap f e ∙ kept xs

lowers_same : (cases : List CaseForm) (e : Expr) (n : ℕ) (names more : List Bytes) (a b c d : FunctionBindgen) → Alike a c → LowersBy cases e n names a b → LowersBy cases e n more c d → (more ≡ names) × Alike b d
lowers_same cases e n names more a b c d s h g =
    let u = used_same (length cases) h.used g.used a h.mid c g.mid s h.uses g.uses in
    let arms = by_unkept (lowered_arms cases) (lowered_unkept cases) (reverse h.used) (reverse g.used) u.blocks in
    let all = all_same h.mid.scope g.mid.scope (λ k. result_names n k) names more b.scope d.scope u.alike.scope h.takes g.takes in
    (all.names, added_same (match_of names e (lowered_arms cases (reverse h.used))) (match_of more e (lowered_arms cases (reverse g.used))) [] h.mid b g.mid d u.alike (ap₂ (λ ns arms. match_of ns e arms) all.names arms) h.adds g.adds all.scope)

abbrev number_match : Bytes → Expr → List Block → Block → Stmt
number_match v e bodies other = stmt.Match (names_of.One v) e (number_arms 0 bodies (arm_of arm.AnyOther other))

lifts_same : (cases : List CaseForm) (e : Expr) (v w : Bytes) (a b c d : FunctionBindgen) → Alike a c → LiftsBy cases e v a b → LiftsBy cases e w c d → (w ≡ v) × Alike b d
lifts_same cases e v w a b c d s h g =
    let u = used_same (length cases) h.used g.used a h.mid c g.mid s h.uses g.uses in
    let bodies = by_unkept (lifted_bodies cases) (lifted_unkept cases) (reverse h.used) (reverse g.used) u.blocks in
    let one = one_same h.mid.scope g.mid.scope (codes "v") v w b.scope d.scope u.alike.scope h.takes g.takes in
    (one.name, added_same (number_match v e (lifted_bodies cases (reverse h.used)) invalid_body) (number_match w e (lifted_bodies cases (reverse g.used)) invalid_body) _ h.mid b g.mid d u.alike (ap₂ (λ x xs. number_match x e xs invalid_body) one.name bodies) h.adds g.adds one.scope)

-- the last block apart from those before it
ends_same : (used more first firsts : List FinishedBlock) (last other : FinishedBlock) → map unkept more ≡ map unkept used → used ≡ first ++ last ∷ [] → more ≡ firsts ++ other ∷ [] → (map unkept firsts ≡ map unkept first) × (unkept other ≡ unkept last)
ends_same used more first firsts last other e h g =
    last_same (map unkept firsts) (map unkept first) (unkept other) (unkept last)
    (sym (map-append unkept firsts (other ∷ [])) ∙ ap (map unkept) (sym g) ∙ e ∙ ap (map unkept) h ∙ map-append unkept first (last ∷ []))

last_unkept : (n : Bytes) (k : ℕ) (c : CaseForm) (b : FinishedBlock) → last_body n k c (unkept b) ≡ last_body n k c b
last_unkept n k c b = ap (λ es. code_of (stmt.AssertLast n k ∷ b.stmts) (Some (case_expr (is_unit c) (case_path c) es))) (exprs_operands (exprs_of b.results))

abbrev last_match : List CaseForm → CaseForm → Expr → Bytes → Bytes → List Block → Block → Stmt
last_match cases c e n v bodies last = stmt.Match (names_of.One v) e (number_arms 0 bodies (arm_of (arm.Name n) last))

last_lifts_same : (cases : List CaseForm) (k : CaseForm) (e : Expr) (n v m w : Bytes) (a b c d : FunctionBindgen) → Alike a c → LiftsVariantBy cases k e n v a b → LiftsVariantBy cases k e m w c d → (w ≡ v) × Alike b d
last_lifts_same cases k e n v m w a b c d s h g =
    let u = used_same (suc (length cases)) h.used g.used a h.mid c g.mid s h.uses g.uses in
    let ends = ends_same (reverse h.used) (reverse g.used) h.first g.first h.last g.last u.blocks h.split g.split in
    let bodies = by_unkept (lifted_bodies cases) (lifted_unkept cases) h.first g.first ends.0 in
    let all = all_same h.mid.scope g.mid.scope (λ t. with_number (codes "n") t ∷ with_number (codes "v") t ∷ []) (n ∷ v ∷ []) (m ∷ w ∷ []) b.scope d.scope u.alike.scope h.takes g.takes in
    let number : m ≡ n = first_same m n (w ∷ []) (v ∷ []) all.names in
    let value : w ≡ v = first_same w v [] [] (others_same m n (w ∷ []) (v ∷ []) all.names) in
    let last : last_body m (length cases) k g.last ≡ last_body n (length cases) k h.last =
    sym (last_unkept m (length cases) k g.last) ∙ ap₂ (λ x o. last_body x (length cases) k o) number ends.1 ∙ last_unkept n (length cases) k h.last in
    let same = ap₂ (λ x y. last_match cases k e x y (lifted_bodies cases g.first) (last_body m (length cases) k g.last)) number value ∙ ap₂ (λ xs x. last_match cases k e n v xs x) bodies last in
    (value, added_same (last_match cases k e n v (lifted_bodies cases h.first) (last_body n (length cases) k h.last)) (last_match cases k e m w (lifted_bodies cases g.first) (last_body m (length cases) k g.last)) [] h.mid b g.mid d u.alike same h.adds g.adds all.scope)

abbrev free_match : Expr → List Block → FinishedBlock → Stmt
free_match e bodies last = stmt.Match names_of.Nothing e (number_arms 0 bodies (arm_of arm.AnyOther (freed_body last)))

frees_same : (k : ℕ) (e : Expr) (a b c d : FunctionBindgen) → Alike a c → FreesBy k e a b → FreesBy k e c d → Alike b d
frees_same k e a b c d s h g =
    let u = used_same (suc k) h.used g.used a h.mid c g.mid s h.uses g.uses in
    let ends = ends_same (reverse h.used) (reverse g.used) h.first g.first h.last g.last u.blocks h.split g.split in
    let bodies = by_unkept (map freed_body) freed_unkept h.first g.first ends.0 in
    let same : free_match e (map freed_body g.first) g.last ≡ free_match e (map freed_body h.first) h.last = ap₂ (λ xs (o : FinishedBlock). free_match e xs o) bodies ends.1 in
    added_same (free_match e (map freed_body h.first) h.last) (free_match e (map freed_body g.first) g.last) [] h.mid b g.mid d u.alike same h.adds g.adds (g.scope ∙ u.alike.scope ∙ sym h.scope)

-- 7. Steps that use blocks up

one_expr : (e x : Expr) (os ps : List ExprOperand) → exprs_of ps ≡ exprs_of os → exprs_of os ≡ e ∷ [] → exprs_of ps ≡ x ∷ [] → x ≡ e
one_expr e x os ps same h g = first_same x e [] [] (sym g ∙ same ∙ h)

matches_same : (types : List TypeDef) (ty : CasedType) (n : ℕ) (os ps rs ss : List ExprOperand) (a b c d : FunctionBindgen) → Alike a c → exprs_of ps ≡ exprs_of os → MatchesCases types ty n os rs a b → MatchesCases types ty n ps ss c d → SameStep rs ss b d
matches_same types ty n os ps rs ss a b c d s same h g =
    let forms : g.forms ≡ h.forms = forms_same types a.sites ty h.forms g.forms h.are (subst (λ sites. AreFormsOf types sites ty g.forms) s.still.sites g.are) in
    let e = one_expr h.operand g.operand os ps same h.only g.only in
    let lowers = subst (λ x. LowersBy h.forms x n g.names c d) e (subst (λ fs. LowersBy fs g.operand n g.names c d) forms g.lowers) in
    let both = lowers_same h.forms h.operand n h.names g.names a b c d s h.lowers lowers in
    record { results = ap exprs_of g.results ∙ ap (λ names. exprs_of (locals_of names)) both.0 ∙ sym (ap exprs_of h.results); alike = both.1 }

cases_lift_same : (types : List TypeDef) (ty : CasedType) (os ps rs ss : List ExprOperand) (a b c d : FunctionBindgen) → Alike a c → exprs_of ps ≡ exprs_of os → LiftsCases types ty os rs a b → LiftsCases types ty ps ss c d → SameStep rs ss b d
cases_lift_same types ty os ps rs ss a b c d s same h g =
    let forms : g.forms ≡ h.forms = forms_same types a.sites ty h.forms g.forms h.are (subst (λ sites. AreFormsOf types sites ty g.forms) s.still.sites g.are) in
    let e = one_expr h.operand g.operand os ps same h.only g.only in
    let lifts = subst (λ x. LiftsBy h.forms x g.name c d) e (subst (λ fs. LiftsBy fs g.operand g.name c d) forms g.lifts) in
    let both = lifts_same h.forms h.operand h.name g.name a b c d s h.lifts lifts in
    record { results = ap exprs_of g.results ∙ ap (λ name. exprs_of (locals_of (name ∷ []))) both.0 ∙ sym (ap exprs_of h.results); alike = both.1 }

last_lift_same : (types : List TypeDef) (ty : CasedType) (os ps rs ss : List ExprOperand) (a b c d : FunctionBindgen) → Alike a c → exprs_of ps ≡ exprs_of os → LiftsLast types ty os rs a b → LiftsLast types ty ps ss c d → SameStep rs ss b d
last_lift_same types ty os ps rs ss a b c d s same h g =
    let forms = forms_same types a.sites ty (h.forms ++ h.last ∷ []) (g.forms ++ g.last ∷ []) h.are (subst (λ sites. AreFormsOf types sites ty (g.forms ++ g.last ∷ [])) s.still.sites g.are) in
    let split = last_same g.forms h.forms g.last h.last forms in
    let e = one_expr h.operand g.operand os ps same h.only g.only in
    let lifts1 = subst (λ fs. LiftsVariantBy fs g.last g.operand g.number g.name c d) split.0 g.lifts in
    let lifts2 = subst (λ k. LiftsVariantBy h.forms k g.operand g.number g.name c d) split.1 lifts1 in
    let lifts = subst (λ x. LiftsVariantBy h.forms h.last x g.number g.name c d) e lifts2 in
    let both = last_lifts_same h.forms h.last h.operand h.number h.name g.number g.name a b c d s h.lifts lifts in
    record { results = ap exprs_of g.results ∙ ap (λ name. exprs_of (locals_of (name ∷ []))) both.0 ∙ sym (ap exprs_of h.results); alike = both.1 }

free_same : (n : ℕ) (os ps rs ss : List ExprOperand) (a b c d : FunctionBindgen) → Alike a c → exprs_of ps ≡ exprs_of os → FreesCases n os rs a b → FreesCases n ps ss c d → SameStep rs ss b d
free_same n os ps rs ss a b c d s same h g =
    let first : g.first ≡ h.first = let one = h.many in let two = g.many in omega (arith, one, two) in
    let e = one_expr h.operand g.operand os ps same h.only g.only in
    let frees = subst (λ x. FreesBy h.first x c d) e (subst (λ k. FreesBy k g.operand c d) first g.frees) in
    record { results = ap exprs_of g.results ∙ sym (ap exprs_of h.results); alike = frees_same h.first h.operand a b c d s h.frees frees }

-- 8. Any step that opens no block, and closes none

abbrev pub is_side : Called → Bool
is_side block_begins = true
is_side block_ends = true
is_side _ = false

becomes_same : (types : List TypeDef) (called : Called) (step : Sent) (os ps rs ss : List ExprOperand) (a b c d : FunctionBindgen) → is_side called ≡ false → Alike a c → StillOf a b → StillOf c d → exprs_of ps ≡ exprs_of os
    → Becomes types called step os rs a b → Becomes types called step ps ss c d → SameStep rs ss b d
becomes_same types no_call step os ps rs ss a b c d none s left right same h g = told_same step os ps rs ss a b c d s left right same h g
becomes_same types (core_call f) step os ps rs ss a b c d none s left right same h g = imported_same types f os ps rs ss a b c d s left right same h g
becomes_same types (method_call f) step os ps rs ss a b c d none s left right same h g = method_same f.result f os ps rs ss a b c d s left right same h g
becomes_same types block_begins step os ps rs ss a b c d none s left right same h g = absurd cc
becomes_same types block_ends step os ps rs ss a b c d none s left right same h g = absurd cc
becomes_same types (cases_match ty n) step os ps rs ss a b c d none s left right same h g = matches_same types ty n os ps rs ss a b c d s same h g
becomes_same types (case_lifts ty) step os ps rs ss a b c d none s left right same h g = cases_lift_same types ty os ps rs ss a b c d s same h g
becomes_same types (last_lifts ty) step os ps rs ss a b c d none s left right same h g = last_lift_same types ty os ps rs ss a b c d s same h g
becomes_same types (cases_free n) step os ps rs ss a b c d none s left right same h g = free_same n os ps rs ss a b c d s same h g

pub formed_same : (types : List TypeDef) (step : Sent) (os ps rs ss : List ExprOperand) (a b c d : FunctionBindgen) → is_side (called step) ≡ false → Alike a c → exprs_of ps ≡ exprs_of os → Formed types step os rs a b → Formed types step ps ss c d
    → SameStep rs ss b d
formed_same types step os ps rs ss a b c d none s same h g = becomes_same types (called step) step os ps rs ss a b c d none s h.still g.still same h.code g.code
