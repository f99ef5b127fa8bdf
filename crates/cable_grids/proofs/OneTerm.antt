-- Straight strands pair as many points as there are ends, and so does a vertex, which has at most 24 of them where its colours are
-- at most 8 and meet admissibly.
use Rattle.std.proofs.Common.{◌≡◌, ℕ, ◌+◌, List, ◌++◌, length, sym, ap, arith, subst, ◌*◌, ◌≤◌, length-append}
use Rattle.state_sums.specs.Networks.{IsPairing}
use Rattle.strand_algebra.specs.StrandPairings.{straight}
use Rattle.cables.specs.CableNodes.{vertex_partner, joining}
use Rattle.cables.specs.Cables.{IsAdmissible}
use Rattle.cables.proofs.CableIsNodes.{IsPairing-vertex, vertex_length}
use Rattle.strand_algebra.proofs.PairingLaws.{straight_noncrossing}

pub straight_length : (xs ys : List ℕ) → length ys ≡ length xs → length (straight (length xs)) ≡ length (xs ++ ys)
straight_length xs ys same =
    let p = (straight_noncrossing (length xs)).pairing.points in let a = length-append xs ys in omega (arith, p, a, same)

-- a vertex pairs all its ends
pub vertex_short : (xy yz zx : ℕ) (partners : List ℕ) → xy + yz + zx ≤ 12 → partners ≡ vertex_partner xy yz zx → (length partners ≤ 24) × IsPairing partners
vertex_short xy yz zx partners few e =
    let l = vertex_length xy yz zx in
    let k = ap length e in
    (omega (arith, few, l, k), subst IsPairing (sym e) (IsPairing-vertex xy yz zx))

-- so it does where a, b and c are the numbers of its strands
pub vertex_ends : (x y z : List ℕ) (a b c : ℕ) → a ≡ length x → b ≡ length y → c ≡ length z → IsAdmissible (length x) (length y) (length z) →
    length (vertex_partner (joining a b c) (joining b c a) (joining c a b)) ≡ length (x ++ y ++ z)
vertex_ends x y z a b c is_a is_b is_c fit =
    let l = vertex_length (joining a b c) (joining b c a) (joining c a b) in
    let e = fit.even in let i = fit.first in let j = fit.second in let k = fit.third in
    let sum : 2 * (joining a b c + joining b c a + joining c a b) ≡ a + b + c = omega (arith, is_a, is_b, is_c, e, i, j, k) in
    let front = length-append (x ++ y) z in
    let start = length-append x y in
    omega (arith, l, sum, front, start, is_a, is_b, is_c)
