-- A list is readable where its items are: items and commas in turn, up to the mark that closes, by the lemmas
-- of Lists. It ends, since each item takes a byte.
--
--     behind_readable    ,v,..,v and the mark that closes
--     inside_readable    the same without the first comma
--     list_readable      head[v,..,v]
use Rattle.std.proofs.Common.{inl, inr, ◌≡◌, ℕ, zero, suc, ◌+◌, ◌≤◌, true, codes, List, [], ◌∷◌, length, refl, arith}
use Rattle.std.specs.List.{AllByRecursion}
use Rattle.text_shapes.specs.Shapes.{items_behind, items_inside, listed}
use Rattle.text_shapes.specs.Reach.{BeginsUnclosed, IsToken, is_closing}
use Rattle.text_shapes.specs.Readers.{IsReadable, ValueRead}
use Rattle.text_shapes.proofs.Chain.{LeadsTo-then}
use Rattle.text_shapes.proofs.Closing.{bracket_is_token}
use Rattle.text_shapes.proofs.Lists.{chain_skips, chain_first, chain_more, chain_none, chain_inside_missed, chain_behind_missed, chain_closed, chain_nothing}
use Rattle.text_shapes.proofs.Places.{IsStop}
use Rattle.text_shapes.proofs.Readings.{through, token_readable}
use Rattle.text_shapes.proofs.Scanning.{byte_at, skipped}

module _ {V : Type 0} (close : ℕ) (closing : is_closing close ≡ true) (fits : V → Type 0) (item : V → List (List ℕ)) (begins : (v : V) → fits v → BeginsUnclosed (item v)) (reads : IsReadable fits item) where
  abbrev Fit : List V → Type 0
  Fit = AllByRecursion fits

  abbrev Behind : List V → List (List ℕ)
  Behind = items_behind close item

  abbrev Inside : List V → List (List ℕ)
  Inside = items_inside close item

  behind_from : (bytes : List ℕ) (fuel here : ℕ) → IsStop bytes here → length bytes ≤ here + fuel → ValueRead Fit Behind bytes here
  behind_from bytes zero here stop le = inr (here, chain_nothing close closing fits item bytes here stop (λ lt e. omega arith) (λ lt e. omega arith))
  behind_from bytes (suc fuel) here stop le =
      elim (byte_at bytes here 44) [
        | inr no_comma ↦ elim (byte_at bytes here close) [
          | inr unclosed ↦ inr (here, chain_nothing close closing fits item bytes here stop no_comma unclosed)
          | inl closed ↦ inl ([], here + 1, chain_closed close closing fits item bytes here stop closed.0 closed.1)
        ]
        | inl comma ↦ elim (reads bytes (here + 1) (omega (arith, comma.0))) [
          | inr missed ↦ inr (missed.0, chain_behind_missed close closing fits item bytes here missed.0 stop comma.0 comma.1 missed.1)
          | inl found ↦
              let s = skipped bytes found.1 found.2.within in
              through Fit Behind Fit Behind (λ ws. found.0 ∷ ws) bytes here s.0
              (LeadsTo-then Fit Behind Fit Behind Fit Behind (λ ws. found.0 ∷ ws) (λ ws. ws) bytes here found.1 s.0
              (chain_more close closing fits item bytes here found.1 found.0 stop comma.0 comma.1 found.2) (chain_skips Fit Behind bytes found.1 s.0 s.1))
              (behind_from bytes fuel s.0 (s.1.within, s.1.stops) (omega (arith, s.1.sum, found.2.from)))
        ]
      ]

  pub behind_readable : IsReadable Fit Behind
  behind_readable bytes at le =
      let s = skipped bytes at le in
      through Fit Behind Fit Behind (λ ws. ws) bytes at s.0 (chain_skips Fit Behind bytes at s.0 s.1) (behind_from bytes (length bytes) s.0 (s.1.within, s.1.stops) (omega arith))

  inside_at : (bytes : List ℕ) (here : ℕ) → IsStop bytes here → ValueRead Fit Inside bytes here
  inside_at bytes here stop =
      elim (byte_at bytes here close) [
        | inl closed ↦ inl ([], here + 1, chain_none close closing fits item bytes here stop closed.0 closed.1 begins)
        | inr unclosed ↦ elim (reads bytes here stop.0) [
          | inr missed ↦ inr (missed.0, chain_inside_missed close closing fits item bytes here missed.0 stop unclosed missed.1)
          | inl found ↦ through Fit Inside Fit Behind (λ ws. found.0 ∷ ws) bytes here found.1
              (chain_first close closing fits item bytes here found.1 found.0 stop unclosed found.2) (behind_readable bytes found.1 found.2.within)
        ]
      ]

  -- THE LIST
  pub inside_readable : IsReadable Fit Inside
  inside_readable bytes at le =
      let s = skipped bytes at le in
      through Fit Inside Fit Inside (λ ws. ws) bytes at s.0 (chain_skips Fit Inside bytes at s.0 s.1) (inside_at bytes s.0 (s.1.within, s.1.stops))

-- AND THE LIST BEHIND A HEAD
pub list_readable : {V : Type 0} (fits : V → Type 0) (item : V → List (List ℕ)) → ((v : V) → fits v → BeginsUnclosed (item v)) → IsReadable fits item → (head : List ℕ) → IsToken head → IsReadable (AllByRecursion fits) (listed item head)
list_readable fits item begins reads head token =
    token_readable (AllByRecursion fits) head (λ all. codes "[" ∷ items_inside 93 item all) token [] tt
    (token_readable (AllByRecursion fits) (codes "[") (items_inside 93 item) bracket_is_token [] tt (inside_readable 93 refl fits item begins reads))
