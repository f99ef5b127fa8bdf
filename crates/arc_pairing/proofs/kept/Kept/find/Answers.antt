use Rattle.std.proofs.Common.{slice_index, slice_set, ap, ◌∙◌, arith}
use Rattle.arc_gluing.specs.Seams.{place_in}
use Rattle.arc_pairing.proofs.KeptSeams.{found_kept, swapped}
use Rattle.arc_pairing.proofs.kept.Kept.find.Goals as goal

pub returns-then-are_replaced : goal.returns-then-are_replaced
returns-then-are_replaced c =
    let names = c.args.names.now in let ends = c.args.ends.now in
    found_kept names ends c.args.outer.now c.slot_of-s.result c.slot_of-t.result c.loop-a.a c.loop-b.b c.others-c.result.0 c.others-c.result.1 c.requires.few c.requires.single c.requires.left
    (let f = c.if-ends-ne4.false in omega (arith, f)) c.others-c.ensures
    (c.slot_of-s.ensures.slot ∙ ap (λ i. place_in names (slice_index ends i)) c.from.ensures) (c.slot_of-t.ensures.slot ∙ ap (λ i. place_in names (slice_index ends i)) c.from-in-loop-b.ensures)
    c.if-s-names.true c.if-t-names.true c.if-s-t.true
    (c.are_replaced.ensures.0 c.if-are_replaced.true ∙ ap (λ i. slice_set (slice_set names c.slot_of-s.result (slice_index ends i)) c.slot_of-t.result (slice_index ends c.from-then-s-t-2.result)) c.from-then-s-t.ensures
    ∙ ap (λ i. slice_set (slice_set names c.slot_of-s.result (slice_index ends c.others-c.result.0)) c.slot_of-t.result (slice_index ends i)) c.from-then-s-t-2.ensures)

pub returns-then-are_replaced-2 : goal.returns-then-are_replaced-2
returns-then-are_replaced-2 c =
    let names = c.args.names.now in let ends = c.args.ends.now in
    found_kept names ends c.args.outer.now c.slot_of-s.result c.slot_of-t.result c.loop-a.a c.loop-b.b c.others-c.result.1 c.others-c.result.0 c.requires.few c.requires.single c.requires.left
    (let f = c.if-ends-ne4.false in omega (arith, f)) (swapped c.loop-a.a c.loop-b.b c.others-c.result.0 c.others-c.result.1 c.others-c.ensures)
    (c.slot_of-s.ensures.slot ∙ ap (λ i. place_in names (slice_index ends i)) c.from.ensures) (c.slot_of-t.ensures.slot ∙ ap (λ i. place_in names (slice_index ends i)) c.from-in-loop-b.ensures)
    c.if-s-names.true c.if-t-names.true c.if-s-t.true
    (c.are_replaced-then-s-t.ensures.0 c.if-are_replaced-2.true ∙ ap (λ i. slice_set (slice_set names c.slot_of-s.result (slice_index ends i)) c.slot_of-t.result (slice_index ends c.from-then-s-t.result)) c.from-then-s-t-2.ensures
    ∙ ap (λ i. slice_set (slice_set names c.slot_of-s.result (slice_index ends c.others-c.result.1)) c.slot_of-t.result (slice_index ends i)) c.from-then-s-t.ensures)
