use Rattle.std.proofs.Common.{◌+◌, Result, Ok, Err, OnErr, arith}
use Rattle.std.proofs.lemmas.Grind.{common_steps}
use Rattle.skein_io.specs.Source.{IsSuffix, TakesExactly}
use Rattle.skein_io.proofs.SourceLemmas.{TakesExactly-told, TakesExactly-piece, TakesAtMost-piece, IsSuffix-piece}
use Rattle.skein_io.proofs.reading.read_all.Goals as goal

on_err : {A E : Type 0} (r : Result A E) (P : Type 0) → P → OnErr r P
on_err (Ok x) P fact = tt
on_err (Err e) P fact = fact

pub returns-then-limit-len-clause-suffix : goal.returns-then-limit-len-clause-suffix
returns-then-limit-len-clause-suffix g c =
    IsSuffix-piece _ _ _ _ c.read.new.into _ (omega (arith, c.in_ok-count.ensures.within, c.read.auto.into))
    c.loop-all.invariant.taken c.in_ok-count.ensures.taken

pub returns-then-limit-len-clause-too_long_takes :
    goal.returns-then-limit-len-clause-too_long_takes
returns-then-limit-len-clause-too_long_takes g c = λ given _.
    TakesExactly-piece _ _ _ _ c.read.new.into _ (omega (arith, c.in_ok-count.ensures.within, c.read.auto.into))
    c.loop-all.invariant.taken c.in_ok-count.ensures.taken _ (grind (arith, common_steps))

pub returns-then-limit-len-clause-too_long : goal.returns-then-limit-len-clause-too_long
returns-then-limit-len-clause-too_long g c =
    let takes : TakesExactly (c.args.limit + 1) (g.S.Source.left c.args.source.now) (g.S.Source.left c.read.new.self)
    = TakesExactly-piece _ _ _ _ c.read.new.into _ (omega (arith, c.in_ok-count.ensures.within, c.read.auto.into))
    c.loop-all.invariant.taken c.in_ok-count.ensures.taken _ (grind (arith, common_steps)) in
    TakesExactly-told _ _ _ _ takes

pub returns-in_err-extend_from_slice-clause-suffix :
    goal.returns-in_err-extend_from_slice-clause-suffix
returns-in_err-extend_from_slice-clause-suffix g c =
    let suffix : IsSuffix (g.S.Source.left c.read.new.self) (g.S.Source.left c.args.source.now)
    = IsSuffix-piece _ _ _ _ c.read.new.into _ (omega (arith, c.in_ok-count.ensures.within, c.read.auto.into))
    c.loop-all.invariant.taken c.in_ok-count.ensures.taken in
    on_err _ _ suffix

pub returns-in_err-extend_from_slice-clause-memory_takes :
    goal.returns-in_err-extend_from_slice-clause-memory_takes
returns-in_err-extend_from_slice-clause-memory_takes g c = λ _.
    TakesAtMost-piece _ _ _ _ c.read.new.into _ (omega (arith, c.in_ok-count.ensures.within, c.read.auto.into))
    c.loop-all.invariant.taken c.in_ok-count.ensures.taken _ (grind (arith, common_steps))
