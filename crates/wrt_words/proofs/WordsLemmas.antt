-- What the words come to, where `clap` has a fault against them and where it has none.
use Rattle.std.proofs.Common.{◌≡◌, ap, sym, refl, true, false, arith, List, [], ◌∷◌, Some, None}
use Rattle.clap.specs.Walk.{is_empty}
use Rattle.clap.specs.Kinds.{IsAmong, Kinds}
use Rattle.clap.specs.declared.error.kind.ErrorKind.{ErrorKind}
use Rattle.wrt_parts.specs.Texts.{Text, Texts}
use Rattle.wrt_words.specs.Words.{is_taken, matched_texts, line_texts}

pub among_some : (k : ErrorKind) (ks : Kinds) → IsAmong k ks → is_empty ks ≡ false
among_some k [] h = absurd h
among_some k (x ∷ xs) h = grind arith

pub line_taken : (line : List Text) (texts : Texts) → is_taken line ≡ true → texts ≡ matched_texts line → line_texts line ≡ Some texts
unfolding line_texts
line_taken line texts taken is = rw taken (ap Some (sym is))

pub line_refused : (line : List Text) → is_taken line ≡ false → line_texts line ≡ None
unfolding line_texts
line_refused line refused = rw refused refl
