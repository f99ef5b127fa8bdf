-- A call is read where each of its arguments is: argument by argument, by the lemmas of Arguments.
use Rattle.std.proofs.Common.{inl, inr, ◌⊎◌, ℕ, ◌+◌, ◌<◌, ◌≤◌, codes, List, [], ◌∷◌, ◌++◌, length, refl, arith}
use Rattle.text_shapes.specs.Tokens.{is_space}
use Rattle.text_shapes.specs.Shapes.{AreOf, call}
use Rattle.text_shapes.specs.Reach.{IsWord, IsToken}
use Rattle.text_shapes.specs.Readers.{Found, IsReadable, Missed, OtherHeadsStop, Stands}
use Rattle.text_shapes.proofs.Arguments.{HasSome, ArgsSoFar, args_begun, args_more, args_whole, args_head_missing, arg_mark_missing, arg_missing, arg_close_missing}
use Rattle.text_shapes.proofs.Marks.{mark_before, mark_is_token}
use Rattle.text_shapes.proofs.Words.{IsWord-token}
use Rattle.text_shapes.proofs.Scanning.{word_read}

close_is_token : IsToken (codes "]")
unfolding is_space
close_is_token = refl

module _ {K A : Type 0} (tokens : A → List (List ℕ)) (fits : K → A → Type 0) (has_some : HasSome fits) (reads : (k : K) → IsReadable (fits k) tokens)
    (bytes : List ℕ) (at : ℕ) (head : List ℕ) (word : IsWord head) (kinds : List K) where
  -- the call stands and none with another head does, or it doesn't
  abbrev pub CallRead : Type 0
  CallRead = ((all : List A) × (next : ℕ) × Found (AreOf fits kinds) (call tokens head) bytes at all next × OtherHeadsStop tokens bytes at head next) ⊎ ((p : ℕ) × Missed (AreOf fits kinds) (call tokens head) bytes at p)

  others_stop : (xs : List A) (i here next : ℕ) → ArgsSoFar tokens fits bytes at head kinds [] xs i here → 0 < i → Stands bytes here (codes "]") next → OtherHeadsStop tokens bytes at head next
  others_stop xs i here next so_far some s =
      elim so_far.heads [
        | inl begun ↦ absurd (omega (arith, begun.0))
        | inr stop ↦ λ other all more w ne. omega (arith, stop other all more w ne, s.sum)
      ]

  arguments_read : (left : List K) (xs : List A) (i here : ℕ) → 0 < i + length left → ArgsSoFar tokens fits bytes at head kinds left xs i here → CallRead
  arguments_read [] xs i here some so_far =
      elim (word_read bytes here (codes "]") close_is_token so_far.within) [
        | inl closed ↦ inl (xs, closed.0, args_whole tokens fits has_some bytes at head word kinds xs i here closed.0 so_far closed.1, others_stop xs i here closed.0 so_far (omega arith) closed.1)
        | inr falls ↦ inr (falls.0, arg_close_missing tokens fits has_some bytes at head word kinds xs i here falls.0 so_far falls.1)
      ]
  arguments_read (k ∷ left) xs i here some so_far =
      elim (word_read bytes here (mark_before i) (mark_is_token i) so_far.within) [
        | inr falls ↦ inr (falls.0, arg_mark_missing tokens fits has_some bytes at head word kinds k left xs i here falls.0 so_far falls.1)
        | inl mark ↦ elim (reads k bytes mark.0 mark.1.within) [
          | inr missed ↦ inr (missed.0, arg_missing tokens fits has_some bytes at head word kinds k left xs i here mark.0 missed.0 so_far mark.1 missed.1)
          | inl found ↦ arguments_read left (xs ++ found.0 ∷ []) (i + 1) found.1 (omega arith)
              (args_more tokens fits has_some bytes at head word kinds k left xs i here mark.0 found.1 found.0 so_far mark.1 found.2)
        ]
      ]

  -- A CALL IS READ
  pub call_read : 0 < length kinds → at ≤ length bytes → CallRead
  call_read some le =
      elim (word_read bytes at head (IsWord-token head word) le) [
        | inr falls ↦ inr (falls.0, args_head_missing tokens fits has_some bytes at head word kinds falls.0 falls.1)
        | inl begun ↦ arguments_read kinds [] 0 begun.0 (omega arith) (args_begun tokens fits has_some bytes at head word kinds begun.0 begun.1)
      ]
