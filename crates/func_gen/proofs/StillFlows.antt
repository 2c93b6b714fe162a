-- What code leaves as it was.
use Rattle.std.proofs.Common.{◌≡◌, List, refl, sym, ◌∙◌, subst}
use Rattle.wit_model.specs.declared.types.TypeDef.{TypeDef}
use Rattle.abi_bindgen.specs.Flow.{Flow, ask, behind, both, cast_by, emit, in_block, leading, leave_none, same, zeros_of, ◌>>>◌}
use Rattle.abi_bindgen.specs.Flows.{Flows}
use Rattle.func_gen.specs.declared.function_bindgen.FunctionBindgen.{FunctionBindgen}
use Rattle.func_gen.specs.declared.operand.ExprOperand.{ExprOperand}
use Rattle.func_gen.specs.Meaning.{func_meaning}
use Rattle.func_gen.specs.Still.{StillOf}

still_self : (b : FunctionBindgen) → StillOf b b
still_self b = record { import = refl; home = refl; area = refl; params = refl; sites = refl; sizes = refl }

still_then : (a b c : FunctionBindgen) → StillOf a b → StillOf b c → StillOf a c
still_then a b c h k = record {
  import = k.import ∙ h.import;
  home = k.home ∙ h.home;
  area = k.area ∙ h.area;
  params = k.params ∙ h.params;
  sites = k.sites ∙ h.sites;
  sizes = k.sizes ∙ h.sizes;
}

still_as : (old new : FunctionBindgen) → new ≡ old → StillOf old new
still_as old new e = subst (StillOf old) (sym e) (still_self old)

pub still_flows : (types : List TypeDef) (code : Flow) (reads gives : List ExprOperand) (old new : FunctionBindgen) → Flows func_meaning types code reads gives old new → StillOf old new
still_flows types (emit i) reads gives old new e = e.form.still
still_flows types (cast_by casts) reads gives old new (held, is, e) = e.form.still
still_flows types (zeros_of zeros) reads gives old new (held, is, e) = e.form.still
still_flows types (ask a) reads gives old new (none, o, is, p) = (p.form types).still
still_flows types (in_block code) reads gives old new (none, results, begun, ended, begins, inside, ends) =
    still_then old begun new (begins.form types).still (still_then begun ended new (still_flows types code reads results begun ended inside) (ends.form types).still)
still_flows types same reads gives old new h = still_as old new h.1
still_flows types leave_none reads gives old new h = still_as old new h.1
still_flows types (leading n) reads gives old new h = still_as old new h.1
still_flows types (behind n) reads gives old new h = still_as old new h.1
still_flows types (one >>> two) reads gives old new (between, next, h, g) = still_then old next new (still_flows types one reads between old next h) (still_flows types two between gives next new g)
still_flows types (both one two) reads gives old new (left, right, next, h, g, is) = still_then old next new (still_flows types one reads left old next h) (still_flows types two reads right next new g)
