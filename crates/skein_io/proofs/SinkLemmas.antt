-- Bytes appended one part after the other. If xs are appended and then ys, xs ++ ys are appended.
-- By cases on whether the sink tells.
--
--     Appends-more       one part after the other
--     Appends-next       the next bytes of a piece, behind its first ones
use Rattle.std.proofs.Common.{◌≡◌, ℕ, ◌+◌, ◌-◌, List, ◌++◌, length, take, drop, Option, Some, None, sym, ap, ◌∙◌, subst, append_assoc, arith}
use Rattle.std.proofs.lemmas.Grind.{common_steps}
use Rattle.std.proofs.Math.Seq.{take-add}
use Rattle.skein_io.specs.Sink.{Appends}

pub Appends-more : (a : Option (List ℕ)) (xs : List ℕ) (b : Option (List ℕ)) (ys : List ℕ) (c : Option (List ℕ))
    → Appends a xs b → Appends b ys c → Appends a (xs ++ ys) c
Appends-more None xs b ys c first second = subst (λ (o : Option (List ℕ)). Appends o ys c) first second
Appends-more (Some bytes) xs b ys c first second =
    subst (λ (o : Option (List ℕ)). Appends o ys c) first second ∙ ap (λ (z : List ℕ). Some z) (append_assoc bytes xs ys)

-- what stands behind the first `sent` bytes is written as a range of the piece
to_end : (sent : ℕ) (piece : List ℕ) → take (length piece - sent) (drop sent piece) ≡ drop sent piece
to_end sent piece = grind (arith, common_steps)

-- THE NEXT BYTES OF A PIECE
pub Appends-next : (a b c : Option (List ℕ)) (sent count : ℕ) (piece : List ℕ)
    → Appends a (take sent piece) b
    → Appends b (take count (take (length piece - sent) (drop sent piece))) c
    → Appends a (take (sent + count) piece) c
Appends-next a b c sent count piece first next =
    let parts : take sent piece ++ take count (take (length piece - sent) (drop sent piece)) ≡ take (sent + count) piece
    = ap (λ (xs : List ℕ). take sent piece ++ take count xs) (to_end sent piece) ∙ sym (take-add sent count piece) in
    subst (λ (xs : List ℕ). Appends a xs c) parts (Appends-more a _ b _ c first next)
