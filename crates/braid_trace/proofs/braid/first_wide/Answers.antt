use Rattle.std.proofs.Common.{◌≡◌, ◌+◌, ◌≤◌, ◌<◌, ℕ, ℤ, pos, List, ◌∷◌, ◌++◌, take, drop, get_or, length, Some, rules, arith, sym, ap, ◌∙◌, take-append-drop, length-take-le}
use Rattle.std.specs.Int.RustNames.{unsigned_abs}
use Rattle.std.proofs.lemmas.Int.{to_z-of_z}
use Rattle.std.proofs.lemmas.List.{drop_more, take_more}
use mir.Syntax.{w32}
use mir.Val.{SFits}
use Rattle.braid_trace.specs.Braids.{first_wide}
use Rattle.braid_trace.proofs.Words.{first_wide-here, first_wide-more}
use Rattle.braid_trace.proofs.braid.first_wide.Goals as goal

pub loop-i-preserved : goal.loop-i-preserved
loop-i-preserved c =
    let e = get_or c.args.word.now c.loop-i.i (pos 0) in
    let fits : SFits w32 e = search rules in
    let size : c.unsigned_abs.result ≡ unsigned_abs e = c.unsigned_abs.ensures.value ∙ ap unsigned_abs (to_z-of_z w32 e fits) in
    rw (take_more c.args.word.now c.loop-i.i (pos 0) c.loop-i-test.true) (first_wide-more c.args.strands (take c.loop-i.i c.args.word.now) e c.loop-i.invariant (omega (arith, size, c.if-unsigned_abs-strands.false)))

-- the list up to an entry, and from it on
wide_at : (n : ℕ) (word : List ℤ) (i : ℕ) → i < length word → n ≤ unsigned_abs (get_or word i (pos 0)) → (first_wide n (take i word ++ get_or word i (pos 0) ∷ drop (i + 1) word) ≡ Some (length (take i word) + 1)) → Some (i + 1) ≡ first_wide n word
wide_at n word i lt le e =
    let whole : take i word ++ get_or word i (pos 0) ∷ drop (i + 1) word ≡ word = ap (λ (xs : List ℤ). take i word ++ xs) (sym (drop_more word i (pos 0) lt)) ∙ take-append-drop i word in
    let at : length (take i word) ≡ i = length-take-le i word (omega arith) in
    ap (λ (k : ℕ). Some (k + 1)) (sym at) ∙ (sym e ∙ ap (first_wide n) whole)

pub returns-then-unsigned_abs-strands : goal.returns-then-unsigned_abs-strands
returns-then-unsigned_abs-strands c =
    let e = get_or c.args.word.now c.loop-i.i (pos 0) in
    let fits : SFits w32 e = search rules in
    let size : c.unsigned_abs.result ≡ unsigned_abs e = c.unsigned_abs.ensures.value ∙ ap unsigned_abs (to_z-of_z w32 e fits) in
    let wide : c.args.strands ≤ unsigned_abs e = omega (arith, size, c.if-unsigned_abs-strands.true) in
    wide_at c.args.strands c.args.word.now c.loop-i.i c.loop-i-test.true wide
    (first_wide-here c.args.strands (take c.loop-i.i c.args.word.now) e (drop (c.loop-i.i + 1) c.args.word.now) c.loop-i.invariant wide)
