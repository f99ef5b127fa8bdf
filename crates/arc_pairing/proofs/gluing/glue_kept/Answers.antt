use Rattle.std.proofs.Common.{◌≡◌, ◌==◌, if◌then◌else◌, slice_index, sym, ◌∙◌, arith}
use Rattle.std.proofs.lemmas.Bool.Decides.{nat_tests}
use Rattle.kept_seams.proofs.KeptLaws.{keeps, joins, crosses}
use Rattle.kept_seams.proofs.Ways.{keeping_way, joining_way, crossing_way}
use Rattle.arc_pairing.proofs.gluing.glue_kept.Goals as goal

pub returns-then-other-c-clause-gives : goal.returns-then-other-c-clause-gives
returns-then-other-c-clause-gives c = λ inner ends outer kept long.
    let k = c.args.kept in let term = c.args.term.now in
    let ac = sym c.partner-other.ensures ∙ c.if-other-c.true in
    let bd = keeping_way term c.len-pairs.ensures.pairing.paired c.requires.four k.a k.b k.c k.d c.requires.places ac in
    let g = keeps inner ends outer c.args.old.now term k.s k.t k.a k.b k.c k.d kept c.copy.ensures.pairing.paired c.len-pairs.ensures.pairing.paired long c.requires.four ac bd in
    record { pairing = g.pairing ∙ sym c.copy.ensures.value; closed = g.closed }

pub returns-then-other-b-clause-gives : goal.returns-then-other-b-clause-gives
returns-then-other-b-clause-gives c = λ inner ends outer kept long.
    let k = c.args.kept in let term = c.args.term.now in
    let ab = sym c.partner-other.ensures ∙ c.if-other-b.true in
    let cd = joining_way term c.len-pairs.ensures.pairing.paired c.requires.four k.a k.b k.c k.d c.requires.places ab in
    let g = joins inner ends outer c.args.old.now term k.s k.t k.a k.b k.c k.d kept c.len-points.ensures.pairing.paired c.len-pairs.ensures.pairing.paired long c.requires.four ab cd in
    let count : (if slice_index c.args.old.now k.s == k.t then 1 else 0) ≡ c.from.result = (let e = c.from.ensures in let p = c.partner.ensures in grind (arith, nat_tests, e, p)) in
    record { pairing = g.pairing ∙ sym c.joined.ensures; closed = g.closed ∙ count }

pub returns-else-other-b-clause-gives : goal.returns-else-other-b-clause-gives
returns-else-other-b-clause-gives c = λ inner ends outer kept long.
    let k = c.args.kept in let term = c.args.term.now in
    let way = crossing_way term c.len-pairs.ensures.pairing.paired c.requires.four k.a k.b k.c k.d c.requires.places (λ e. c.if-other-c.false (c.partner-other.ensures ∙ e)) (λ e. c.if-other-b.false (c.partner-other.ensures ∙ e)) in
    let g = crosses inner ends outer c.args.old.now term k.s k.t k.a k.b k.c k.d kept c.len-points.ensures.pairing.paired c.len-pairs.ensures.pairing.paired long c.requires.four way.0 way.1 in
    record { pairing = g.pairing ∙ sym c.crossed.ensures; closed = g.closed }
