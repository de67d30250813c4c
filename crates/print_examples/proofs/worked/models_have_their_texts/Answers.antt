use Rattle.std.specs.Prelude.{refl}
use Rattle.std.specs.Fmt.{digits}
use Rattle.token_core.specs.Words.{signs, words}
use Rattle.print_examples.specs.Worked.{lines}
use Rattle.print_examples.proofs.worked.models_have_their_texts.Goals as goal

pub returns : goal.returns
unfolding lines signs words digits
returns c = record {
  vehicles = λ file. refl;
  quoted = λ file. refl;
  brackets = λ file. refl;
  bounded = λ file. refl;
  connected = λ file. refl;
  required = λ file. refl;
}
