use Rattle.std.proofs.Common.{◌≡◌, ◌∷◌, ◌++◌, drop}
use Rattle.func_gen.specs.Sites.{site_names}
use Rattle.func_gen.proofs.function_bindgen.first_names.Given as goal

abbrev pub invariant-loop-site : goal.invariant-loop-site
invariant-loop-site l = l.names ++ site_names (drop l.site-index l.params) ≡ l.area ∷ l.cleanup ∷ site_names l.params
