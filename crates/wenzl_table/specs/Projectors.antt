-- What contracts see of a projector (Lickorish, ch. 13; Kauffman and Lins): its parameters, its colour and its element, which
-- is f^n for them.
--
--     Projector              parameters, a colour, and an element
--     IsColourOf p n         n is from 1 to the top colour
--     IsProjectorOf p n e    e has n strands, and its terms are those of f^n
use Rattle.std.specs.Prelude.{◌≡◌, ℕ, ◌≤◌}
use Rattle.root_quantum.specs.Parameters.{Parameters, top_colour}
use Rattle.root_quantum.specs.QuantumNumbers.{loop_value}
use Rattle.strand_algebra.specs.Projectors.{IsProjector}
use Rattle.temperley_lieb.specs.Elements.{Element}

-- Parameters, a colour, and an element.
pub record Projector : Type 0 where
  pub params : Parameters
  pub colour : ℕ
  pub element : Element

-- A colour from 1 to the top colour.
pub record IsColourOf (p : Parameters) (n : ℕ) : Type 0 where
  pub some : 1 ≤ n
  pub top : n ≤ top_colour p

-- f^n, by some inverses of Delta_1 to Delta_(n-1).
pub record IsProjectorOf (p : Parameters) (n : ℕ) (e : Element) : Type 0 where
  pub strands : e.strands ≡ n
  pub terms : IsProjector p.modulus (loop_value p) n e.terms
