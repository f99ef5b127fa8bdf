-- Bytes taken one part after the other. If xs are taken and then ys, xs ++ ys are taken. By
-- cases on whether the source tells.
--
--     Takes-more       one part after the other
--     TakesExactly-told
--                      where limit + 1 bytes were taken, more than limit were left
--     TakesExactly-piece, TakesAtMost-piece, IsSuffix-piece
--                      the first places of a buffer, behind what was taken before
use Rattle.std.proofs.Common.{◌≡◌, ℕ, ◌+◌, ◌<◌, ◌≤◌, List, ◌++◌, length, take, Option, Some, None, IfSome, sym, ap, ◌∙◌, subst, append_assoc, length-append, length-take-le, arith}
use Rattle.skein_io.specs.Source.{Takes, TakesExactly, TakesAtMost, IsSuffix}

pub Takes-more : (a : Option (List ℕ)) (xs : List ℕ) (b : Option (List ℕ)) (ys : List ℕ) (c : Option (List ℕ))
    → Takes a xs b → Takes b ys c → Takes a (xs ++ ys) c
Takes-more None xs b ys c first second = subst (λ (o : Option (List ℕ)). Takes o ys c) first second
Takes-more (Some bytes) xs b ys c first second =
    let next = subst (λ (o : Option (List ℕ)). Takes o ys c) first.2 second in
    (next.0, first.1 ∙ ap (λ (z : List ℕ). xs ++ z) next.1 ∙ sym (append_assoc xs ys next.0), next.2)

pub TakesExactly-told : (P : Type 0) (limit : ℕ) (a c : Option (List ℕ))
    → TakesExactly (limit + 1) a c → IfSome a (λ left. P → limit < length left)
TakesExactly-told P limit None c takes = tt
TakesExactly-told P limit (Some left) c takes = λ _.
    let parts : length left ≡ length takes.0 + length takes.2.0 = ap length takes.2.1 ∙ length-append takes.0 takes.2.0 in
    omega (arith, parts, takes.1)

-- THE FIRST PLACES OF A BUFFER, BEHIND WHAT WAS TAKEN BEFORE
module _ (a b c : Option (List ℕ)) (xs buffer : List ℕ) (count : ℕ) (in_range : count ≤ length buffer)
    (before : Takes a xs b) (piece : Takes b (take count buffer) c) where
  length-piece : length (xs ++ take count buffer) ≡ length xs + count
  length-piece = length-append xs (take count buffer) ∙ ap (λ (n : ℕ). length xs + n) (length-take-le count buffer in_range)

  pub TakesExactly-piece : (n : ℕ) → length xs + count ≡ n → TakesExactly n a c
  TakesExactly-piece n exactly = (xs ++ take count buffer, length-piece ∙ exactly, Takes-more a xs b (take count buffer) c before piece)

  pub TakesAtMost-piece : (n : ℕ) → length xs + count ≤ n → TakesAtMost n a c
  TakesAtMost-piece n at_most = (xs ++ take count buffer, omega (arith, length-piece, at_most), Takes-more a xs b (take count buffer) c before piece)

  pub IsSuffix-piece : IsSuffix c a
  IsSuffix-piece = (xs ++ take count buffer, Takes-more a xs b (take count buffer) c before piece)
