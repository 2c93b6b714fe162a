use Rattle.wrapper_meaning.proofs.RustValueDetermined.{rust_value_determines}
use Rattle.wrapper_meaning.proofs.laws.rust_value_law.Goals as goal

pub returns : goal.returns
returns c = rust_value_determines
