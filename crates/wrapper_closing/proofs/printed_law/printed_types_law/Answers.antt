use Rattle.wrapper_closing.proofs.PrintedAnswers.{printed_params_pass, printed_results_answer, printed_results_come_in, printed_values_are_taken}
use Rattle.wrapper_closing.proofs.printed_law.printed_types_law.Goals as goal

pub returns-clause-values : goal.returns-clause-values
returns-clause-values c = printed_values_are_taken

pub returns-clause-answers : goal.returns-clause-answers
returns-clause-answers c = printed_results_answer

pub returns-clause-passed : goal.returns-clause-passed
returns-clause-passed c = printed_params_pass

pub returns-clause-received : goal.returns-clause-received
returns-clause-received c = printed_results_come_in
