use Rattle.std.proofs.Common.{◌≢◌, ◌<◌, length, get_or, arith}
use Rattle.arc_pairing.proofs.Runs.{scanned_none, run_begins, run_times, scanned_on}
use Rattle.arc_pairing.proofs.names.least_miscount.Goals as goal
use Rattle.arc_pairing.proofs.names.least_miscount.Goals.{then-loop-end-test+else-names-end, else-loop-end-test}

pub loop-start-init : goal.loop-start-init
loop-start-init c = scanned_none c.args.names.now c.requires

pub loop-end-init : goal.loop-end-init
loop-end-init c = run_begins c.args.names.now c.requires c.loop-start.start c.loop-start.invariant c.loop-start-test.true

pub returns-then-end-start-ne2-clause-some : goal.returns-then-end-start-ne2-clause-some
returns-then-end-start-ne2-clause-some c =
    let names = c.args.names.now in
    let other : c.loop-end.end < length names → get_or names c.loop-end.end 0 ≢ get_or names c.loop-start.start 0 =
    elim c.loop-end-test.branch [ then-loop-end-test+else-names-end w ↦ λ l. w.if-names-end.false | else-loop-end-test w ↦ λ l. absurd (let k = w.loop-end-test.false in omega (arith, k, l)) ] in
    let t = run_times names c.requires c.loop-start.start c.loop-end.end (get_or names c.loop-start.start 0) c.loop-end.invariant other in
    let s = c.loop-end.invariant.some in
    record {
      stands = omega (arith, s);
      times = omega (arith, t);
      not_twice = (let k = c.if-end-start-ne2.true in k);
      least = λ x lt. c.loop-start.invariant.done x (λ k. lt);
    }

pub loop-start-preserved : goal.loop-start-preserved
loop-start-preserved c =
    let names = c.args.names.now in
    let other : c.loop-end.end < length names → get_or names c.loop-end.end 0 ≢ get_or names c.loop-start.start 0 =
    elim c.loop-end-test.branch [ then-loop-end-test+else-names-end w ↦ λ l. w.if-names-end.false | else-loop-end-test w ↦ λ l. absurd (let k = w.loop-end-test.false in omega (arith, k, l)) ] in
    let s = c.loop-end.invariant.some in
    let two = c.if-end-start-ne2.false in
    scanned_on names c.requires c.loop-start.start c.loop-end.end c.loop-start.invariant c.loop-start-test.true c.loop-end.invariant other (omega (arith, s, two))
