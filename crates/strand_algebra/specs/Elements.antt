-- Elements of the Temperley-Lieb algebra on n strands (Lickorish, ch. 13). An element has each noncrossing pairing of 2n
-- points once, in dictionary order, with its coefficient modulo m, zeros included. A list of terms in any order, in which a
-- pairing may stand more than once, is a formal sum; collecting it adds the weights of each pairing. A loop is worth delta.
--
--     IsElement m n x            x has each noncrossing pairing once, in order, with a coefficient below m
--     coefficient x p            the sum of the weights of p in x
--     collected m n x            the element with the coefficients of x modulo m
--     identity m n               straight strands, with coefficient 1
--     hook m n i                 strands i and i+1 hooked, counted from 1, with coefficient 1
--     add m n x y                coefficient by coefficient
--     scaled m n by x            each coefficient times a number
--     multiply m delta n x y     x on y: each pairing of x on each one of y, with both weights and delta for each loop
--     beside m n x               one more strand on the right, so n+1 strands
--     close m delta n x          the sum of the weights times delta to the loops of the closure
use Rattle.std.specs.Prelude.{◌≡◌, ℕ, ◌+◌, ◌*◌, ◌^◌, ◌%◌, ◌<◌, if◌then◌else◌, List, [], ◌∷◌, ◌++◌, map}
use Rattle.std.specs.List.{All, flat_map, sum_by}
use Rattle.std.specs.Str.{bytes_eq}
use Rattle.state_sums.specs.Networks.{Term}
use Rattle.strand_algebra.specs.StrandPairings.{straight, hooked, widened, product, product_loops, closure_loops}
use Rattle.strand_algebra.specs.Noncrossing.{noncrossing}

-- Each noncrossing pairing once, in dictionary order, with a coefficient below m.
pub record IsElement (m n : ℕ) (x : List Term) : Type 0 where
  pub partners : map (λ term. term.partner) x ≡ noncrossing n
  pub below : All (λ term. term.weight < m) x

-- The sum of the weights of a pairing.
abbrev pub coefficient : List Term → List ℕ → ℕ
coefficient x p = sum_by (λ term. if bytes_eq p term.partner then term.weight else 0) x

-- The element with these coefficients modulo m.
abbrev pub collected : ℕ → ℕ → List Term → List Term
collected m n x = map (λ p. record { weight = coefficient x p % m; partner = p }) (noncrossing n)

-- Straight strands.
abbrev pub identity : ℕ → ℕ → List Term
identity m n = collected m n (record { weight = 1; partner = straight n } ∷ [])

-- Strands i and i+1 hooked.
abbrev pub hook : ℕ → ℕ → ℕ → List Term
hook m n i = collected m n (record { weight = 1; partner = hooked n i } ∷ [])

-- Coefficient by coefficient.
abbrev pub add : ℕ → ℕ → List Term → List Term → List Term
add m n x y = collected m n (x ++ y)

-- Each coefficient times a number.
abbrev pub scaled : ℕ → ℕ → ℕ → List Term → List Term
scaled m n by x = collected m n (map (λ term. record { weight = by * term.weight; partner = term.partner }) x)

-- A term on another one.
abbrev pub term_on : ℕ → ℕ → Term → Term → Term
term_on delta n above below = record {
  weight = above.weight * (below.weight * delta ^ product_loops n above.partner below.partner);
  partner = product n above.partner below.partner;
}

-- Each term of x on each term of y.
abbrev pub multiply : ℕ → ℕ → ℕ → List Term → List Term → List Term
multiply m delta n x y = collected m n (flat_map (λ above. map (λ below. term_on delta n above below) y) x)

-- One more strand on the right.
abbrev pub beside : ℕ → ℕ → List Term → List Term
beside m n x = collected m (n + 1) (map (λ term. record { weight = term.weight; partner = widened n term.partner }) x)

-- Top and bottom joined strand by strand.
abbrev pub close : ℕ → ℕ → ℕ → List Term → ℕ
close m delta n x = sum_by (λ term. term.weight * delta ^ closure_loops n term.partner) x % m
