use Rattle.std.proofs.Common.{◌≡◌, ◌∙◌, ap, sym, true, map, inl, inr}
use Rattle.clap.specs.Walk.{is_empty}
use Rattle.clap.specs.Simple.{App, app_of, is_simple, matches_of}
use Rattle.clap.specs.Takes.{takes}
use Rattle.clap.specs.Values.{kind_of}
use Rattle.clap.specs.declared.error.kind.ErrorKind.TheVariants.{OutOfMemory}
use Rattle.clap.specs.Faults.{fault_of, is_simple_and_free}
use Rattle.wrt_parts.specs.Texts.{texts_of}
use Rattle.wrt_words.specs.Program.{program_app}
use Rattle.wrt_words.specs.Matched.{texts_in}
use Rattle.wrt_words.specs.Words.{is_taken, takes_line, matched_texts, line_texts}
use Rattle.wrt_words.proofs.ProgramLemmas.{app_free, app_simple}
use Rattle.wrt_words.proofs.WordsLemmas.{among_some, line_refused, line_taken}
use Rattle.wrt_words.proofs.words.read_words.Goals as goal

-- `clap` matched, so it has no fault against the words, and its rows are those of the definition.
pub returns-in-Ok-matched_parts-clause-answer : goal.returns-in-Ok-matched_parts-clause-answer
unfolding line_texts is_taken matched_texts
returns-in-Ok-matched_parts-clause-answer c =
    let line = map (λ s. s.now) c.args.line.now in
    let is_app : app_of c.in-Ok.program ≡ program_app = c.in-Ok.ensures in
    let told = c.in-Ok-try_get_matches_from.ensures in
    let rows = told.matches (ap is_simple is_app ∙ app_simple) in
    let fine = told.kinds (ap is_simple_and_free is_app ∙ app_free) in
    let taken : is_taken line ≡ true = ap is_empty (ap (λ (a : App). fault_of a line) (sym is_app) ∙ fine) in
    let texts : texts_of c.in-Ok-matched_parts.parts ≡ matched_texts line =
    c.in-Ok-matched_parts.ensures ∙ ap texts_in (rows.0 ∙ ap (λ (a : App). matches_of a line) is_app) in
    line_taken line _ taken texts

-- `clap` failed, and not for want of memory, so it has a fault against the words.
pub returns : goal.returns
unfolding line_texts is_taken takes_line
returns c =
    let line = map (λ s. s.now) c.args.line.now in
    let is_app : app_of c.in-Ok.program ≡ program_app = c.in-Ok.ensures in
    let told = c.in-Err-try_get_matches_from.ensures in
    let other : kind_of c.in-Err-try_get_matches_from.error ≡ OutOfMemory → ⊥ = λ h. c.in_default.not-OutOfMemory (c.kind.ensures ∙ h) in
    record {
      answer = elim (told.kinds (ap is_simple_and_free is_app ∙ app_free)) [
        | inl memory ↦ absurd (other memory)
        | inr among ↦ line_refused line (ap (λ (a : App). is_empty (fault_of a line)) (sym is_app) ∙ among_some _ _ among)
      ];
      taken = λ passed _. other (told.passes (ap (λ (a : App). takes a line) is_app ∙ passed));
    }
