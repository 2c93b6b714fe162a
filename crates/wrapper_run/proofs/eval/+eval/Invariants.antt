use Rattle.std.proofs.Common.{◌≡◌, ◌++◌, map, drop}
use Rattle.wrapper_values.specs.Act.{◌>>=◌, all, keyed, pure}
use Rattle.wrapper_run.specs.Run.{eval}
use Rattle.wrapper_values.specs.Setting.{setting}
use Rattle.wrapper_values.specs.Whole.{field_act}
use Rattle.wrapper_run.proofs.eval.+eval.Given as goal

-- the rest of the list, with the values so far in front
abbrev pub invariant-eval_all-loop-e : goal.invariant-eval_all-loop-e
invariant-eval_all-loop-e l =
    (all (map (eval (setting l.world)) (drop l.e-index l.es)) >>= (λ vs. pure (l.vs ++ vs))) l.state ≡ all (map (eval (setting l.world)) l.es) l.initial.state

abbrev pub invariant-eval_fields-loop-field : goal.invariant-eval_fields-loop-field
invariant-eval_fields-loop-field l =
    (all (map field_act (map (λ f. (f.0, eval (setting l.world) f.1)) (drop l.field-index l.fields))) >>= (λ vs. pure (l.vs ++ vs))) l.state
    ≡ all (map field_act (map (λ f. (f.0, eval (setting l.world) f.1)) l.fields)) l.initial.state

abbrev pub invariant-eval_words-loop-word : goal.invariant-eval_words-loop-word
invariant-eval_words-loop-word l =
    (all (map keyed (map (λ x. (x.0, eval (setting l.world) x.1)) (drop l.word-index l.words))) >>= (λ vs. pure (l.vs ++ vs))) l.state
    ≡ all (map keyed (map (λ x. (x.0, eval (setting l.world) x.1)) l.words)) l.initial.state
