use Rattle.std.proofs.Common.{◌≡◌, ◌≤◌, ◌∙◌, length, ℤ, List, None, refl, sym, ap, subst, arith}
use Rattle.std.proofs.lemmas.Bool.{le-ltb}
use Rattle.braid_trace.specs.declared.braid.TheConstants.{MOST_STRANDS, MOST_ENTRIES}
use Rattle.braid_trace.specs.Braids.{first_wide, refusal}
use Rattle.braid_trace.proofs.Words.{unrefused_is_braid}
use Rattle.braid_trace.proofs.braid.Braid.new.Goals as goal

pub invariant_of-result : goal.invariant_of-result
invariant_of-result c =
    let few : c.args.strands ≤ MOST_STRANDS = omega (arith, c.if-strands-gt-MOST_STRANDS.false) in
    let len : length c.deref.result.now ≡ length c.args.word.items = ap (λ (xs : List ℤ). length xs) c.deref.ensures.value in
    let short : length c.args.word.items ≤ MOST_ENTRIES = omega (arith, c.if-len.false, c.len.ensures, c.deref.ensures.len, len) in
    let none : first_wide c.args.strands c.args.word.items ≡ None = subst (λ (xs : List ℤ). first_wide c.args.strands xs ≡ None) c.deref.ensures.value (sym c.first_wide.ensures ∙ c.in-None.is) in
    let unrefused : refusal (record { strands = c.args.strands; word = c.args.word.items }) ≡ None = rw (le-ltb MOST_STRANDS c.args.strands few, le-ltb MOST_ENTRIES (length c.args.word.items) short, none) refl in
    unrefused_is_braid (record { strands = c.args.strands; word = c.args.word.items }) c.requires unrefused
