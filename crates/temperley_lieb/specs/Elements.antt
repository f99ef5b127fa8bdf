-- What contracts see of an element of the Temperley-Lieb algebra (Lickorish, ch. 13): the number of its strands, and its
-- terms, which are those of strand_algebra's elements.
--
--     Element                 a number of strands, and terms
--     IsWhole element         at most 8 strands, and each noncrossing pairing once, in dictionary order, zeros included
--     AreBelow m element      the coefficients are below m
--     element_of n x          the element on n strands with these terms
use Rattle.std.specs.Prelude.{◌≡◌, ℕ, ◌≤◌, ◌<◌, List, map}
use Rattle.std.specs.List.{All}
use Rattle.state_sums.specs.Networks.{Term}
use Rattle.strand_algebra.specs.Noncrossing.{noncrossing}

-- A number of strands, and terms.
pub record Element : Type 0 where
  pub strands : ℕ
  pub terms : List Term

-- At most 8 strands, and each noncrossing pairing once, in dictionary order.
pub record IsWhole (element : Element) : Type 0 where
  pub few : element.strands ≤ 8
  pub partners : map (λ term. term.partner) element.terms ≡ noncrossing element.strands

-- The coefficients are below m.
abbrev pub AreBelow : ℕ → Element → Type 0
AreBelow m element = All (λ term. term.weight < m) element.terms

-- The element on n strands with these terms.
abbrev pub element_of : ℕ → List Term → Element
element_of n x = record { strands = n; terms = x }
