use Rattle.std.proofs.Common.{◌∙◌, ap, codes, List, [], Option, unwrap_or}
use Rattle.std.proofs.lemmas.Result.{IfOk-weaker}
use Rattle.clap.specs.Matches.{found_of}
use Rattle.clap.specs.Walk.{Text, texts}
use Rattle.clap.proofs.WalkLemmas.{raw_values-rows}
use Rattle.wrt_words.proofs.matched.numbers.Goals as goal

pub returns-in-Some : goal.returns-in-Some
returns-in-Some c =
    let f = found_of c.args.matches.now in
    let or_none = λ (o : Option (List Text)). unwrap_or o [] in
    IfOk-weaker c.from_slice.result _ _ (λ r copied. ap texts copied ∙ ap or_none (c.in-Some.ensures ∙ raw_values-rows f (codes "numbers"))) c.from_slice.ensures.items

pub returns-in-None : goal.returns-in-None
returns-in-None c =
    let f = found_of c.args.matches.now in
    let or_none = λ (o : Option (List Text)). unwrap_or o [] in
    ap texts c.new.ensures.items ∙ ap or_none (c.in-None.ensures ∙ raw_values-rows f (codes "numbers"))
