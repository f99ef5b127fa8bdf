use Rattle.std.proofs.Common.{rules, ◌≡◌, ℕ, [], ◌∷◌, ◌+◌, ◌%◌, pos, ◌+ℤ◌, sym, ap, subst, ◌∙◌, arith}
use Rattle.ring_identities.specs.Residues.{residue}
use Rattle.frontier_sweep.specs.Sweeps.{IsSwept}
use Rattle.kirby_terms.specs.Terms.{network_at}
use Rattle.colour_share.specs.Parts.{IsPartSum, KnowsShare, AllKnow}
use Rattle.colour_share.proofs.Halves.{one_knows}
use Rattle.colour_share.proofs.Rounds.{none_taken, one_more, none_more, few_turns, stops, knows_none, knows_next, knows_same}
use Rattle.colour_share.proofs.worker.work_alone.Goals as goal
use Rattle.colour_share.proofs.worker.work_alone.Goals.{then-place-from+in-Ok-term, else-place-from}

pub loop-place-init : goal.loop-place-init
loop-place-init g c =
    let p = c.args.table.now.params in
    let low = p.meets.modulus.0 in
    record {
      sum = none_taken (g.C.Choose.answers c.args.chooser.now) p c.args.framed.now c.args.workers c.args.worker (omega (arith, low));
      notes = knows_none c.args.table.now c.args.framed.now c.args.workers c.args.worker c.in-Ok.notes ((c.in-Ok.ensures {u = tt}).of);
    }

pub overflow_add-turns : goal.overflow_add-turns
overflow_add-turns g c =
    let p = c.args.table.now.params in
    let before = few_turns (g.C.Choose.answers c.args.chooser.now) p c.args.framed.now c.args.workers c.args.worker c.loop-place.place c.loop-place.value c.loop-place.turns c.loop-place.invariant.sum in
    let own = (c.in-Ok-term.ensures {u = tt}).few in
    omega (arith, before, own, c.new-own.ensures, c.count-turns.ensures, c.loop-place-test.true, c.requires.few)

pub returns-in-Err : goal.returns-in-Err
returns-in-Err g c = (
  omega arith,
  stops (g.C.Choose.answers c.args.chooser.now) c.args.table.now.params c.args.framed.now c.args.workers c.args.worker c.args.total c.loop-place.place c.loop-place.value c.loop-place.turns
      c.loop-place.invariant.sum c.loop-place-test.true,
  (c.in-Err.ensures {u = tt}).stopped,
)

pub loop-place-preserved : goal.loop-place-preserved
loop-place-preserved g c =
    let p = c.args.table.now.params in
    let d = c.args.framed.now in
    let answers = g.C.Choose.answers c.args.chooser.now in
    let low = p.meets.modulus.0 in
    let m : c.ring-ring.result.now ≡ p.modulus = c.ring-ring.ensures ∙ ap (λ q. q.modulus) c.params.ensures in
    elim c.if-place-from.branch [
      | then-place-from+in-Ok-term w ↦ let term = w.in-Ok-term.ensures {u = tt} in
          let own : w.count-turns.result ≡ w.term.new.turns = w.count-turns.ensures in
          let mine : c.loop-place.place % c.args.workers ≡ c.args.worker = ap (λ k. c.loop-place.place % k) (sym c.from.ensures) ∙ w.if-place-from.true ∙ c.from-in-loop-place.ensures in
          let swept : IsSwept answers (network_at p d (c.loop-place.place + 1)) 0 w.count-turns.result =
          subst (IsSwept answers (network_at p d (c.loop-place.place + 1)) 0) (sym own)
          (subst (λ (k : ℕ). IsSwept answers (network_at p d (c.loop-place.place + 1)) k w.term.new.turns) w.new-own.ensures term.swept) in
          record {
            sum =
                rw (w.value-is, w.turns-is)
                (one_more answers p d c.args.workers c.args.worker c.loop-place.place c.loop-place.value c.loop-place.turns w.in-Ok-term.term w.count-turns.result w.add-value.result
                c.loop-place.invariant.sum (omega (arith, low)) mine term.value term.below swept (omega (arith, term.few, own, w.new-own.ensures))
                (w.add-value.ensures.sum ∙ ap (λ k. residue k (pos c.loop-place.value +ℤ pos w.in-Ok-term.term)) m) (omega (arith, w.add-value.ensures.below, m)));
            notes = rw w.notes-is (knows_next c.args.table.now d c.args.workers c.args.worker c.loop-place.place c.loop-place.notes w.term.new.notes c.loop-place.invariant.notes term.of term.kept term.known);
          }
      | else-place-from w ↦ let other = λ (e : c.loop-place.place % c.args.workers ≡ c.args.worker).
          w.if-place-from.false (ap (λ k. c.loop-place.place % k) c.from.ensures ∙ e ∙ sym c.from-in-loop-place.ensures) in
          record {
            sum = rw (w.value-is, w.turns-is) (none_more answers p d c.args.workers c.args.worker c.loop-place.place c.loop-place.value c.loop-place.turns c.loop-place.invariant.sum other);
            notes = rw w.notes-is (knows_same c.args.table.now d c.args.workers c.args.worker c.loop-place.place c.loop-place.notes c.loop-place.invariant.notes other);
          }
    ]

pub returns-in-Ok-push : goal.returns-in-Ok-push
returns-in-Ok-push g c =
    let answers = g.C.Choose.answers c.args.chooser.now in
    let d = c.args.framed.now in
    let worker = c.args.worker in
    let all : c.loop-place.place ≡ c.args.total = omega arith in
    let is : c.push.new.self.items ≡ c.loop-place.notes ∷ [] = search (rules, c.in-Ok-push.ensures.items, c.new-list.ensures.items) in
    record {
      sum = subst (λ (k : ℕ). IsPartSum answers c.args.table.now.params d c.args.workers worker (worker + 1) k c.loop-place.value c.loop-place.turns) all c.loop-place.invariant.sum;
      count = rw is (omega arith);
      notes =
          subst (AllKnow c.args.table.now d c.args.workers worker c.args.total) (sym is)
          (one_knows c.args.table.now d c.args.workers c.args.total worker c.loop-place.notes (subst (λ (k : ℕ). KnowsShare c.args.table.now d c.args.workers worker k c.loop-place.notes) all c.loop-place.invariant.notes));
    }
