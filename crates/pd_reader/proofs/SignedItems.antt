-- A signed number is readable: a minus that stands there tells a negative one.
--
--     negative_found, negative_missed    behind a minus
--     positive_found, positive_missed    without one
--     signed_readable                    so one or the other can be told
--     signed_are_tokens                  and it is of tokens
use Rattle.std.proofs.Common.{inl, inr, ◌≡◌, ◌⊎◌, ℕ, zero, suc, ◌+◌, ◌<◌, ◌≤◌, ℤ, pos, negsuc, neg_ℤ, codes, decimal, List, [], ◌∷◌, ◌++◌, length, get_or, refl, ap, ◌∙◌, arith}
use Rattle.text_shapes.specs.Tokens.{is_space, IsNumber, number_tokens}
use Rattle.text_shapes.specs.Reach.{AreTokens, IsMarked, place, is_digit}
use Rattle.text_shapes.specs.Readers.{BeginsNoNumber, Found, IsReadable, LongestNumber, Missed, Skips}
use Rattle.text_shapes.proofs.Numbers.{number_found, number_missed}
use Rattle.text_shapes.proofs.Places.{IsStop, place-skips, place-mark, place-no_mark}
use Rattle.text_shapes.proofs.Scanning.{byte_at, number_at, number_readable, skipped}
use Rattle.pd_reader.specs.Signed.{IsSigned, signed_tokens}
use Rattle.pd_reader.proofs.TextTokens.{numbers_are_tokens}

module _ (bytes : List ℕ) (at here : ℕ) (skip : Skips bytes at here) where
  stop : IsStop bytes here
  stop = (skip.within, skip.stops)

  -- behind a minus
  module _ (lt : here < length bytes) (minus : get_or bytes here 0 ≡ 45) where
    behind_minus : (ts : List (List ℕ)) → place bytes at (codes "-" ∷ ts) ≡ place bytes (here + 1) ts
    behind_minus ts = place-skips bytes at here (codes "-" ∷ ts) skip ∙ place-mark bytes here 45 ts stop lt minus

    none_positive : Missed IsNumber number_tokens bytes at here
    none_positive = number_missed bytes at here skip (λ _. inl (ap is_digit minus))

    pub negative_found : (n next : ℕ) → Found IsNumber number_tokens bytes (here + 1) n next → Found IsSigned signed_tokens bytes at (neg_ℤ (pos n)) next
    negative_found zero next f = absurd (omega (arith, f.fits_shape.low))
    negative_found (suc k) next f = record {
      fits_shape = f.fits_shape;
      from = omega (arith, f.from, skip.sum);
      ends = f.ends;
      within = f.within;
      same = λ more. behind_minus (decimal (suc k) ∷ more) ∙ f.same more;
      others = others;
    }
      where
        others : (other : ℤ) (more : List (List ℕ)) → IsSigned other → IsMarked more → (other ≡ negsuc k) ⊎ (place bytes at (signed_tokens other ++ more) ≤ next)
        others (pos m) more h marked = inr (omega (arith, none_positive.most m more h, f.from))
        others (negsuc m) more h marked = elim (f.others (suc m) more h marked) [
          | inl e ↦ inl (ap (λ (x : ℕ). neg_ℤ (pos x)) e)
          | inr le ↦ inr (omega (arith, le, behind_minus (decimal (suc m) ∷ more)))
        ]

    -- the size of the one that goes on furthest
    missed_by : (p : ℕ) → Missed IsNumber number_tokens bytes (here + 1) p → (n : ℕ) → IsNumber n → ((more : List (List ℕ)) → place bytes (here + 1) (number_tokens n ++ more) ≡ p) → Missed IsSigned signed_tokens bytes at p
    missed_by p m zero h reached = absurd (omega (arith, h.low))
    missed_by p m (suc n) h reached = record {
      within = m.within;
      furthest = negsuc n;
      fits_shape = h;
      reached = λ more. behind_minus (decimal (suc n) ∷ more) ∙ reached more;
      most = most;
    }
      where
        most : (other : ℤ) (more : List (List ℕ)) → IsSigned other → place bytes at (signed_tokens other ++ more) ≤ p
        most (pos k) more h = omega (arith, none_positive.most k more h, reached [])
        most (negsuc k) more h = omega (arith, behind_minus (decimal (suc k) ∷ more), m.most (suc k) more h)

    pub negative_missed : (p : ℕ) → Missed IsNumber number_tokens bytes (here + 1) p → Missed IsSigned signed_tokens bytes at p
    negative_missed p m = missed_by p m m.furthest m.fits_shape m.reached

  -- without one
  module _ (none : here < length bytes → get_or bytes here 0 ≡ 45 → ⊥) where
    no_minus : (ts : List (List ℕ)) → place bytes at (codes "-" ∷ ts) ≡ here
    no_minus ts = place-skips bytes at here (codes "-" ∷ ts) skip ∙ place-no_mark bytes here 45 [] ts stop none

    pub positive_found : (n next : ℕ) → LongestNumber bytes here n next → Found IsSigned signed_tokens bytes at (pos n) next
    positive_found n next longest = record {
      fits_shape = f.fits_shape;
      from = f.from;
      ends = f.ends;
      within = f.within;
      same = λ more. f.same more;
      others = others;
    }
      where
        f : Found IsNumber number_tokens bytes at n next
        f = number_found bytes at here n next skip longest

        others : (other : ℤ) (more : List (List ℕ)) → IsSigned other → IsMarked more → (other ≡ pos n) ⊎ (place bytes at (signed_tokens other ++ more) ≤ next)
        others (pos m) more h marked = elim (f.others m more h marked) [ inl e ↦ inl (ap (λ (x : ℕ). pos x) e) | inr le ↦ inr le ]
        others (negsuc m) more h marked = inr (omega (arith, no_minus (decimal (suc m) ∷ more), longest.sum))

    pub positive_missed : BeginsNoNumber bytes here → Missed IsSigned signed_tokens bytes at here
    positive_missed begins = record {
      within = skip.within;
      furthest = pos m.furthest;
      fits_shape = m.fits_shape;
      reached = m.reached;
      most = most;
    }
      where
        m : Missed IsNumber number_tokens bytes at here
        m = number_missed bytes at here skip begins

        most : (other : ℤ) (more : List (List ℕ)) → IsSigned other → place bytes at (signed_tokens other ++ more) ≤ here
        most (pos k) more h = m.most k more h
        most (negsuc k) more h = omega (arith, no_minus (decimal (suc k) ∷ more))

-- A SIGNED NUMBER IS READABLE
pub signed_readable : IsReadable IsSigned signed_tokens
signed_readable bytes at le =
    let s = skipped bytes at le in
    elim (byte_at bytes s.0 45) [
      | inl minus ↦ elim (number_readable bytes (s.0 + 1) (omega (arith, minus.0))) [
        | inl n ↦ inl (neg_ℤ (pos n.0), n.1, negative_found bytes at s.0 s.1 minus.0 minus.1 n.0 n.1 n.2)
        | inr missed ↦ inr (missed.0, negative_missed bytes at s.0 s.1 minus.0 minus.1 missed.0 missed.1)
      ]
      | inr none ↦ elim (number_at bytes s.0) [
        | inl n ↦ inl (pos n.0, n.1, positive_found bytes at s.0 s.1 none n.0 n.1 n.2)
        | inr begins ↦ inr (s.0, positive_missed bytes at s.0 s.1 none begins)
      ]
    ]

pub signed_are_tokens : (z : ℤ) → IsSigned z → AreTokens (signed_tokens z)
unfolding is_space
signed_are_tokens (pos n) h = numbers_are_tokens n h
signed_are_tokens (negsuc k) h = (refl, numbers_are_tokens (suc k) h)
