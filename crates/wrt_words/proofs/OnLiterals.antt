-- What a proof unfolds to compute `parts_of` and `takes_line` at words that are written out.
use Rattle.std.specs.Prelude.{⊤}
use Rattle.clap.proofs.OnLiterals.{clap_on_literals}
use Rattle.wrt_words.specs.Program.{program_app}
use Rattle.wrt_words.specs.Words.{is_taken, line_texts, matched_texts, takes_line}

unfoldable pub words_on_literals : ⊤
unfolding clap_on_literals program_app is_taken matched_texts line_texts takes_line
words_on_literals = tt
