use Rattle.std.proofs.lemmas.Result.{MatchResult-weaker}
use Rattle.inertia_cert.specs.Eliminations.{size_of, state}
use Rattle.inertia_cert.proofs.Stages.{step_made, step_fit, step_refused}
use Rattle.inertia_cert.proofs.steps.step.Goals as goal

pub returns-clause-made : goal.returns-clause-made
returns-clause-made c =
    let n = size_of c.args.now in
    let r = c.in_ok-ready.ready in
    MatchResult-weaker c.finish.result c.finish.ensures.made (λ next h. step_made n (size_of r) c.args.place c.in_ok-ready.ensures.sized c.requires (state r) (state c.args.now) c.in_ok-ready.ensures.made (state next) h) (λ fault h. h)

pub returns-clause-fit : goal.returns-clause-fit
returns-clause-fit c =
    let n = size_of c.args.now in
    let r = c.in_ok-ready.ready in
    MatchResult-weaker c.finish.result c.finish.ensures.fit (λ next h. step_fit n (size_of r) c.args.place c.in_ok-ready.ensures.sized c.requires (state r) (state c.args.now) c.in_ok-ready.ensures.made c.in_ok-ready.ensures.fit h) (λ fault h. h)

pub returns-clause-refused : goal.returns-clause-refused
returns-clause-refused c =
    let n = size_of c.args.now in
    let r = c.in_ok-ready.ready in
    MatchResult-weaker c.finish.result c.finish.ensures.refused (λ next h. h) (λ fault h. step_refused n (size_of r) c.args.place c.in_ok-ready.ensures.sized c.requires (state r) (state c.args.now) c.in_ok-ready.ensures.made fault h)
