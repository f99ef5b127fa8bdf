use Rattle.text_shapes.proofs.Numerals.{numeral_is, is_numeral}
use Rattle.text_shapes.proofs.laws.numbers_are_numerals.Goals as goal

pub returns : goal.returns
returns c = (numeral_is, is_numeral)
