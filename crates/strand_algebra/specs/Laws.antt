-- The laws of the Temperley-Lieb algebra and of its projectors, over the definitions alone (Lickorish, ch. 13; Kauffman and
-- Lins). They hold for every modulus m, composite ones too; the laws of projectors are for at most 8 strands.
--
--     IsNoncrossingOn n p                 a noncrossing pairing of 2n points
--     IsAssociative n p q r      (p on q) on r and p on (q on r) are one, and close as many loops
--     KeepsBothSides n p         p is unchanged by straight strands above it or below it
--     ListsEachOnce n            the noncrossing pairings of 2n points, each once, in dictionary order
--     nothing m n                the element with all coefficients 0
use Rattle.std.specs.Prelude.{◌≡◌, ℕ, ◌+◌, ◌%◌, ◌<◌, ◌≤◌, List, []}
use Rattle.std.specs.Cmp.Lexicographic.{slice_cmp}
use Rattle.std.specs.List.{All, Contains}
use Rattle.std.specs.List.Sorted.{IsStrictlySortedBy}
use Rattle.std.specs.Ordering.{nat_cmp}
use Rattle.arc_pairing.specs.Pairings.{IsNoncrossing}
use Rattle.state_sums.specs.Networks.{Term}
use Rattle.strand_algebra.specs.StrandPairings.{IsPairingOn, straight, hooked, widened, product, product_loops, upside_down, half_turned}
use Rattle.strand_algebra.specs.Elements.{IsElement, coefficient, collected, identity, hook, multiply, close}
use Rattle.strand_algebra.specs.Noncrossing.{noncrossing}
use Rattle.strand_algebra.specs.Projectors.{IsProjector, found_projector, quantum_residue}

-- A noncrossing pairing of 2n points.
pub record IsNoncrossingOn (n : ℕ) (p : List ℕ) : Type 0 where
  pub pairing : IsPairingOn n p
  pub noncrossing : IsNoncrossing p

-- A product of pairings is a pairing.
abbrev pub ProductOfPairings : Type 0
ProductOfPairings = (n : ℕ) (p q : List ℕ) → IsPairingOn n p → IsPairingOn n q → IsPairingOn n (product n p q)

-- A product of noncrossing pairings is noncrossing.
abbrev pub ProductOfNoncrossingPairings : Type 0
ProductOfNoncrossingPairings = (n : ℕ) (p q : List ℕ) → IsNoncrossingOn n p → IsNoncrossingOn n q → IsNoncrossingOn n (product n p q)

-- Straight strands are noncrossing, and so are a hook and a noncrossing pairing with one more strand.
abbrev pub StraightStrands : Type 0
StraightStrands = (n : ℕ) → IsNoncrossingOn n (straight n)

abbrev pub HookedStrands : Type 0
HookedStrands = (n i : ℕ) → 0 < i → i < n → IsNoncrossingOn n (hooked n i)

abbrev pub OneMoreStrand : Type 0
OneMoreStrand = (n : ℕ) (p : List ℕ) → IsNoncrossingOn n p → IsNoncrossingOn (n + 1) (widened n p)

-- Three pairings on one another: which two are put together first does not matter.
pub record IsAssociative (n : ℕ) (p q r : List ℕ) : Type 0 where
  pub products : product n (product n p q) r ≡ product n p (product n q r)
  pub loops : product_loops n p q + product_loops n (product n p q) r ≡ product_loops n q r + product_loops n p (product n q r)

abbrev pub AssociativePairings : Type 0
AssociativePairings = (n : ℕ) (p q r : List ℕ) → IsPairingOn n p → IsPairingOn n q → IsPairingOn n r → IsAssociative n p q r

-- Straight strands change nothing on either side, and close no loop.
pub record KeepsBothSides (n : ℕ) (p : List ℕ) : Type 0 where
  pub above : product n (straight n) p ≡ p
  pub above_loops : product_loops n (straight n) p ≡ 0
  pub below : product n p (straight n) ≡ p
  pub below_loops : product_loops n p (straight n) ≡ 0

abbrev pub StraightStrandsChangeNothing : Type 0
StraightStrandsChangeNothing = (n : ℕ) (p : List ℕ) → IsPairingOn n p → KeepsBothSides n p

-- The list of noncrossing pairings has each of them once, in dictionary order.
pub record ListsEachOnce (n : ℕ) : Type 0 where
  pub only : All (IsNoncrossingOn n) (noncrossing n)
  pub each : (p : List ℕ) → IsNoncrossingOn n p → Contains (noncrossing n) p
  pub increasing : IsStrictlySortedBy (slice_cmp nat_cmp) (noncrossing n)

abbrev pub AllNoncrossingPairings : Type 0
AllNoncrossingPairings = (n : ℕ) → ListsEachOnce n

-- What is collected is an element, with the formal sum's coefficients modulo m, where its pairings are noncrossing.
abbrev pub CollectedTerms : Type 0
CollectedTerms = (m n : ℕ) (x : List Term) → 0 < m → IsElement m n (collected m n x)

abbrev pub CollectedCoefficients : Type 0
CollectedCoefficients = (m n : ℕ) (x : List Term) (p : List ℕ) → 0 < m → All (λ term. IsNoncrossingOn n term.partner) x → coefficient (collected m n x) p ≡ coefficient x p % m

-- An element is the one with its coefficients.
abbrev pub ElementsByCoefficients : Type 0
ElementsByCoefficients = (m n : ℕ) (x : List Term) → 0 < m → IsElement m n x → collected m n x ≡ x

-- The product of elements is associative.
abbrev pub AssociativeElements : Type 0
AssociativeElements =
    (m delta n : ℕ) (x y z : List Term) → 0 < m → IsElement m n x → IsElement m n y → IsElement m n z →
    multiply m delta n (multiply m delta n x y) z ≡ multiply m delta n x (multiply m delta n y z)

-- The identity changes nothing on either side.
abbrev pub IdentityAbove : Type 0
IdentityAbove = (m delta n : ℕ) (x : List Term) → 0 < m → IsElement m n x → multiply m delta n (identity m n) x ≡ x

abbrev pub IdentityBelow : Type 0
IdentityBelow = (m delta n : ℕ) (x : List Term) → 0 < m → IsElement m n x → multiply m delta n x (identity m n) ≡ x

-- All coefficients are 0.
abbrev pub nothing : ℕ → ℕ → List Term
nothing m n = collected m n []

-- A projector is an element, and there is only one.
abbrev pub ProjectorIsElement : Type 0
ProjectorIsElement = (m delta n : ℕ) (f : List Term) → 0 < m → IsProjector m delta n f → IsElement m n f

abbrev pub OneProjector : Type 0
OneProjector = (m delta n : ℕ) (f g : List Term) → 0 < m → IsProjector m delta n f → IsProjector m delta n g → f ≡ g

-- The projector that is found by trying each residue is it.
abbrev pub ProjectorFound : Type 0
ProjectorFound = (m delta n : ℕ) (f : List Term) → 0 < m → IsProjector m delta n f → f ≡ found_projector m delta n

-- A hook in front of a projector or behind it gives zero.
abbrev pub HookOnProjector : Type 0
HookOnProjector =
    (m delta n i : ℕ) (f : List Term) → 0 < m → n ≤ 8 → 0 < i → i < n → IsProjector m delta n f → multiply m delta n (hook m n i) f ≡ nothing m n

abbrev pub ProjectorOnHook : Type 0
ProjectorOnHook =
    (m delta n i : ℕ) (f : List Term) → 0 < m → n ≤ 8 → 0 < i → i < n → IsProjector m delta n f → multiply m delta n f (hook m n i) ≡ nothing m n

-- A projector is its own square.
abbrev pub ProjectorSquared : Type 0
ProjectorSquared = (m delta n : ℕ) (f : List Term) → 0 < m → n ≤ 8 → IsProjector m delta n f → multiply m delta n f f ≡ f

-- Its closure is Delta_n.
abbrev pub ProjectorClosed : Type 0
ProjectorClosed = (m delta n : ℕ) (f : List Term) → 0 < m → n ≤ 8 → IsProjector m delta n f → close m delta n f ≡ quantum_residue m delta n

-- A pairing and its mirror image, top for bottom, have one coefficient.
abbrev pub ProjectorMirrored : Type 0
ProjectorMirrored =
    (m delta n : ℕ) (f : List Term) (p : List ℕ) → 0 < m → n ≤ 8 → IsProjector m delta n f → IsPairingOn n p → coefficient f (upside_down n p) ≡ coefficient f p

-- So have a pairing and what half a turn makes of it.
abbrev pub ProjectorHalfTurned : Type 0
ProjectorHalfTurned =
    (m delta n : ℕ) (f : List Term) (p : List ℕ) → 0 < m → n ≤ 8 → IsProjector m delta n f → IsPairingOn n p → coefficient f (half_turned n p) ≡ coefficient f p
