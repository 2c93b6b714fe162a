-- The rows of records: they are made of their fields, and taken apart.
use Rattle.std.proofs.Common.{◌≡◌, ℕ, true, List, [], ◌∷◌, length, map, reverse, Some, refl, sym, ap, ◌∙◌, subst, arith}
use Rattle.std.specs.Prelude.{option_and_then, zip, codes}
use Rattle.std.specs.Option.{option_map}
use Rattle.wit_model.specs.Bytes.{Bytes}
use Rattle.wit_model.specs.Distinct.{is_distinct}
use Rattle.wit_model.specs.declared.name.TypeId.{TypeId}
use Rattle.wit_model.specs.declared.types.Field.{Field}
use Rattle.wit_model.specs.declared.types.TypeDef.{TypeDef}
use Rattle.rust_tree.specs.declared.expr.Expr.{Expr}
use Rattle.rust_tree.specs.declared.expr.Expr.TheVariants as expr
use Rattle.rust_tree.specs.declared.pattern.Pattern.TheVariants as pattern
use Rattle.rust_tree.specs.declared.stmt.Stmt.TheVariants as stmt
use Rattle.wrapper_data.specs.declared.value.RustValue.{RustValue}
use Rattle.wrapper_data.specs.declared.value.RustValue.TheVariants as value
use Rattle.wrapper_values.specs.declared.state.State.{State}
use Rattle.wrapper_values.specs.declared.state.Val.{Val}
use Rattle.wrapper_values.specs.declared.state.Val.TheVariants as val
use Rattle.wrapper_values.specs.Act as machine
use Rattle.wrapper_values.specs.Act.{Act, ◌>>=◌, all, and_then, or_stop, pure}
use Rattle.wrapper_values.specs.Fields.{arranged}
use Rattle.wrapper_values.specs.Setting.{Setting, stuck}
use Rattle.wrapper_values.specs.Whole.{field_act, given_names, whole_of}
use Rattle.wrapper_run.specs.Run.{eval}
use Rattle.wrapper_run.specs.Inward.{CallsNothing}
use Rattle.wrapper_run.proofs.InwardCalls.{expr_quiet}
use Rattle.wrapper_run.proofs.PartSteps.{eval-record}
use Rattle.abi_bindgen.specs.declared.instruction.Instruction.TheVariants.{RecordLift, RecordLower}
use Rattle.abi_bindgen.specs.Instructions.{Emits, IsRecord, field_shapes}
use Rattle.abi_bindgen.proofs.Records.{field_count, one_record}
use Rattle.abi_bindgen.specs.Sent.{sends}
use Rattle.func_gen.specs.declared.function_bindgen.FunctionBindgen.{FunctionBindgen}
use Rattle.func_gen.specs.declared.operand.ExprOperand.{ExprOperand}
use Rattle.func_gen.specs.declared.record_site.RecordSite.{RecordSite}
use Rattle.func_gen.specs.Added.{Appends, Fresh}
use Rattle.func_gen.specs.Forms.{operand_of}
use Rattle.func_gen.specs.Meaning.{File, Serves, func_meaning, setting_for}
use Rattle.func_gen.specs.Operand.{is_operand}
use Rattle.func_gen.specs.PartForms.{are_operands, exprs_of, locals_of}
use Rattle.func_gen.specs.RecordForms.{HasFieldCount, IsSiteOf, MakesRecord, SplitsRecord, locals_for}
use Rattle.func_gen.specs.TypeSites.{AreDefined, DefinesRecord}
use Rattle.func_gen.specs.Scope.{TakesOne}
use Rattle.func_gen.specs.CodeOf.{makes_record, splits_record}
use Rattle.func_gen.proofs.FieldOrder.{arranged_fields, defined_at, fields_named, locals_distinct, locals_many as fields_many}
use Rattle.func_gen.proofs.Forming.{form_by, form_let, locals_are}
use Rattle.func_gen.proofs.InwardForms.{record_inward}
use Rattle.func_gen.proofs.PartRows.{all_rust, lifts_whole}
use Rattle.func_gen.proofs.PartsTaken.{apart_adds, apart_lowers, locals_many}
use Rattle.func_gen.proofs.Rows.{let_adds}
use Rattle.func_gen.proofs.Several.{Are}

-- 1. How many fields there are

as_many : (types : List TypeDef) (id n : ℕ) (members : List Field) → HasFieldCount types id n → IsRecord types id members → n ≡ length members
as_many types id n members (others, is, same) r = same ∙ ap length (one_record types id others members is r)

-- 2. The expression of a record

module _ (w : Setting) where
  -- the acts of its fields
  abbrev acts : List Bytes → List ExprOperand → List (Act (Bytes × Val))
  acts fields os = map field_act (map (λ (f : Bytes × Expr). (f.0, eval w f.1)) (zip fields (exprs_of os)))

  quiet_record : (site : RecordSite) (os : List ExprOperand) → are_operands os ≡ true → CallsNothing (eval w (expr.Record site.lifted (zip site.fields (exprs_of os))))
  quiet_record site os ok = expr_quiet w (expr.Record site.lifted (zip site.fields (exprs_of os))) (record_inward os ok site.lifted site.fields)

  -- fields are computed as the operands are, each with its name
  fields_run : (fields : List Bytes) (os : List ExprOperand) (s : State) → length os ≡ length fields → all (acts fields os) s ≡ and_then (all (map (λ (o : ExprOperand). eval w o.expr) os) s) (λ vs. pure (zip fields vs))
  fields_run [] [] s len = refl
  fields_run [] (o ∷ os) s len = absurd (omega (arith, len))
  fields_run (n ∷ ns) [] s len = absurd (omega (arith, len))
  fields_run (n ∷ ns) (o ∷ os) s len = go (λ t. fields_run ns os t (omega (arith, len))) (eval w o.expr s)
    where
      more : Act (List Val)
      more = all (map (λ (o : ExprOperand). eval w o.expr) os)

      rest : (v : Val) (q : machine.Outcome (List Val)) → and_then (and_then q (λ vs. pure (zip ns vs))) (λ xs. pure ((n, v) ∷ xs)) ≡ and_then (and_then q (λ vs. pure (v ∷ vs))) (λ vs. pure (zip (n ∷ ns) vs))
      rest v (machine.Done vs u) = refl
      rest v (machine.Stopped e u) = refl

      go : ((t : State) → all (acts ns os) t ≡ and_then (more t) (λ vs. pure (zip ns vs))) → (q : machine.Outcome Val)
          → and_then (and_then q (λ v. pure (n, v))) (λ x. all (acts ns os) >>= (λ xs. pure (x ∷ xs))) ≡ and_then (and_then q (λ v. more >>= (λ vs. pure (v ∷ vs)))) (λ vs. pure (zip (n ∷ ns) vs))
      go later (machine.Done v t) = ap (λ q. and_then q (λ xs. pure ((n, v) ∷ xs))) (later t) ∙ rest v (more t)
      go later (machine.Stopped e t) = refl

  -- so the record is the value with these parts
  record_gives : (site : RecordSite) (os : List ExprOperand) (vs : List Val) (rs : List RustValue) (s t : State) → DefinesRecord w.items site → length os ≡ length site.fields → length vs ≡ length os
      → all (map (λ (o : ExprOperand). eval w o.expr) os) s ≡ machine.Done vs t → Are vs rs → eval w (expr.Record site.lifted (zip site.fields (exprs_of os))) s ≡ machine.Done (val.Value (value.Struct rs)) t
  record_gives site os vs rs s t d many len h is =
      let whole = λ (vs : List (Bytes × Val)). or_stop (stuck w) (option_and_then whole_of (arranged w.items site.lifted vs)) in
      ap (λ act. act s) (eval-record w site.lifted (zip site.fields (exprs_of os))) ∙ ap (λ q. and_then q whole) (fields_run site.fields os s many ∙ ap (λ q. and_then q (λ vs. pure (zip site.fields vs))) h)
      ∙ ap (λ o. or_stop (stuck w) (option_and_then whole_of o) t) (arranged_fields w.items site.lifted site.fields vs d.lifted d.distinct (sym many ∙ sym len))
      ∙ ap (λ o. or_stop (stuck w) (option_map (λ rs. val.Value (value.Struct rs)) o) t) (all_rust vs rs is)

-- 3. The rows

-- what serves the new code defines the record
defined : (w : File) (old new : FunctionBindgen) (types : List TypeDef) (id : ℕ) (site : RecordSite) → new.sites ≡ old.sites → IsSiteOf types old.sites id site → Serves w new → DefinesRecord w.items site
defined w old new types id site same is h = defined_at w.items old.sites id site (subst (AreDefined w.items) same h.sites) is.at

pub record_made : (types : List TypeDef) (old new : FunctionBindgen) (n : Bytes) (id : TypeId) (os : List ExprOperand) (e : Expr) → MakesRecord types old.sites id.0 os e → Appends old new (stmt.Let n e ∷ []) [] → Fresh old new n → TakesOne old.scope (codes "record") n new.scope
    → Emits func_meaning types (RecordLift id) os (operand_of (expr.Local n) ∷ []) old new
record_made types old new n id os e made appends fresh one =
    let site = made.site in
    let whole = expr.Record site.lifted (zip site.fields (exprs_of os)) in
    let a = subst (λ x. Appends old new (stmt.Let n x ∷ []) []) made.is appends in
    record {
      adds = let_adds old new n whole [] a fresh (λ w. quiet_record w site os made.operands);
      blocks = ap reverse appends.finished;
      returned = appends.returned;
      asked = appends.asked;
      form = form_let (sends (RecordLift id)) (record { gives = refl; calls = refl }) os old new (codes "record") n whole [] (ap (option_map (makes_record (exprs_of os))) made.is_site.at) one a;
      results = refl;
      row = λ members is. lifts_whole old new n os whole a fresh
          (λ w p vs rs s t h len done are. record_gives (setting_for w p) site os vs rs s t (defined w old new types id.0 site appends.sites made.is_site h) made.many len done are)
          (field_shapes types members) (made.many ∙ as_many types id.0 (length site.fields) members made.is_site.count is ∙ sym (field_count types members));
    }

pub record_split : (types : List TypeDef) (old new : FunctionBindgen) (id : TypeId) (e : Expr) (names : List Bytes) → is_operand e ≡ true → SplitsRecord types id.0 e names old new
    → Emits func_meaning types (RecordLower id) (operand_of e ∷ []) (locals_of names) old new
record_split types old new id e names ok split =
    let site = split.site in
    let pat = pattern.Record site.lowered (zip site.fields names) in
    let t = split.declares.declares.number in
    let named = fields_named split.declares in
    let many : length names ≡ length site.fields = ap length named ∙ fields_many site.fields t in
    let fits : (w : File) → Serves w new → (given_names w.items pat ≡ Some names) × (is_distinct names ≡ true) = λ w h.
    let d = defined w old new types id.0 site split.stmts.sites split.is_site h in
    (arranged_fields w.items site.lowered site.fields names d.lowered d.distinct (sym many), ap is_distinct named ∙ locals_distinct site.fields t d.distinct) in
    record {
      adds = apart_adds old new pat names e split.stmts split.fresh fits ok;
      blocks = ap reverse split.stmts.finished;
      returned = split.stmts.returned;
      asked = split.stmts.asked;
      form = form_by (sends (RecordLower id)) (record { gives = refl; calls = refl }) (operand_of e ∷ []) old new (locals_of names) (splits_record e site) t (ap (option_map (splits_record e)) split.is_site.at)
          (record { locals = split.declares.locals; named = split.declares.named; declares = split.declares.declares.declares })
          (subst (λ ns. Appends old new (stmt.LetParts (pattern.Record site.lowered (zip site.fields ns)) e ∷ []) []) named split.stmts) (ap locals_of named ∙ locals_are (locals_for site.fields t));
      results = λ members is. locals_many names ∙ many ∙ as_many types id.0 (length site.fields) members split.is_site.count is;
      row = λ members is dir v r own (stands, normal). apart_lowers old new pat names e split.stmts split.fresh fits
          (field_shapes types members) (many ∙ as_many types id.0 (length site.fields) members split.is_site.count is ∙ sym (field_count types members)) dir v r own stands normal;
    }
