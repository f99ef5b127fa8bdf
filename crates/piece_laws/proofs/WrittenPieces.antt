-- Pieces that are written out: what they are is computed.
use Rattle.std.proofs.Common.{◌++◌, ◌≡◌, ℕ, true, cond, List, length, arith, All}
use Rattle.std.specs.List.{list_all}
use Rattle.std.proofs.lemmas.List.Sums.{AllPass-from_list_all}
use Rattle.std.specs.Set.{is_member}
use Rattle.std.specs.Prelude.{◌==◌}
use Rattle.state_sums.specs.Networks.{Node, IsNode, names_of}
use Rattle.state_sums.proofs.WrittenNodes.{IsNode-from_test, pairs_all}
use Rattle.std.proofs.lemmas.List.Elements.{All-weaker}
use Rattle.list_lemmas.specs.Times.{times_in}
use Rattle.list_lemmas.proofs.Times.{times_in-append, times_of_member, member_of_times}
use Rattle.graph_parts.proofs.Agreement.{from_All}
use Rattle.std.proofs.lemmas.Bool.{eqb-true}
use Rattle.piece_laws.specs.Pieces.{IsPiece, ArePaired}

-- a piece that is written out is one by computing
pub IsPiece-from_test : (nodes : List Node) (open_names : List ℕ) → list_all (is_member ◌==◌ (names_of nodes)) open_names ≡ true →
    list_all (λ x. times_in (names_of nodes) x == cond (is_member ◌==◌ open_names x) 1 2) (names_of nodes) ≡ true → IsPiece nodes open_names
IsPiece-from_test nodes open_names h k = record {
  has_open = AllPass-from_list_all (is_member ◌==◌ (names_of nodes)) open_names h;
  inner = AllPass-from_list_all (λ x. times_in (names_of nodes) x == cond (is_member ◌==◌ open_names x) 1 2) (names_of nodes) k;
}

-- nodes that are written out are such by computing
pub AreNodes-from_test : (nodes : List Node) → list_all (λ node. list_all (pairs_all (length node.ends)) node.terms) nodes ≡ true → All IsNode nodes
AreNodes-from_test nodes h =
    All-weaker (λ node. list_all (pairs_all (length node.ends)) node.terms ≡ true) IsNode IsNode-from_test nodes
    (AllPass-from_list_all (λ node. list_all (pairs_all (length node.ends)) node.terms) nodes h)

-- names that are written out stand twice by computing
pub ArePaired-from_test : (names all : List ℕ) → list_all (λ x. times_in all x == 2) names ≡ true → ArePaired names all
ArePaired-from_test names all h x m =
    eqb-true (times_in all x) 2 (from_All (λ z. times_in all z == 2) names (AllPass-from_list_all (λ z. times_in all z == 2) names h) x m)

-- THE SAME NAMES IN ANOTHER ORDER STAND AS OFTEN
pub paired_same : (xs ys names : List ℕ) → ((z : ℕ) → times_in xs z ≡ times_in ys z) → ArePaired xs (xs ++ names) → ArePaired ys (ys ++ names)
paired_same xs ys names same h z m =
    let one = times_of_member z ys m in
    let e = same z in
    let two = h z (member_of_times z xs (omega (arith, one, e))) in
    let a = times_in-append xs names z in
    let b = times_in-append ys names z in
    omega (arith, two, a, b, e)
