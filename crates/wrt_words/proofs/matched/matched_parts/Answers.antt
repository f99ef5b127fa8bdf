use Rattle.std.proofs.Common.{◌∙◌, ap, codes, [], Option, unwrap_or, Bor}
use Rattle.clap.specs.Matches.{found_of}
use Rattle.clap.specs.Walk.{Text, rows_of}
use Rattle.clap.proofs.WalkLemmas.{first_value-rows}
use Rattle.wrt_parts.specs.declared.parts.Parts.{Parts}
use Rattle.wrt_words.proofs.MatchedLemmas.{texts_same, unwrapped}
use Rattle.wrt_words.proofs.matched.matched_parts.Goals as goal

pub returns : goal.returns
returns c =
    let f = found_of c.args.matches.now in
    let parts : Parts = record {
      command = c.unwrap_or.result;
      numbers = c.in_ok-numbers.numbers;
      colors = c.get_str-2.result;
      framing = c.get_str-3.result;
      workers = c.get_str-4.result;
      order = c.get_str-5.result;
      turns = c.has_flag.result;
      even = c.has_flag-2.result;
    } in
    texts_same parts (rows_of f)
    (ap (λ (s : Bor Text). s.now) c.unwrap_or.ensures ∙ unwrapped c.get_str.result _
    ∙ ap (λ (o : Option Text). unwrap_or o []) (c.get_str.ensures ∙ first_value-rows f (codes "command")))
    c.in_ok-numbers.ensures
    (c.get_str-2.ensures ∙ first_value-rows f (codes "colors"))
    (c.get_str-3.ensures ∙ first_value-rows f (codes "framing"))
    (c.get_str-4.ensures ∙ first_value-rows f (codes "workers"))
    (c.get_str-5.ensures ∙ first_value-rows f (codes "order"))
    c.has_flag.ensures
    c.has_flag-2.ensures
