-- A crossing turned by a quarter, with its weights exchanged: its ends in another order, then its two terms.
use Rattle.std.proofs.Common.{◌≡◌, ℕ, zero, suc, ◌+◌, ◌%◌, ◌<◌, true, ◌==◌, [], ◌∷◌, ◌++◌, refl, ap, sym, ◌∙◌, arith}
use Rattle.std.specs.Set.{is_member}
use Rattle.std.proofs.lemmas.List.Elements.{All-weaker}
use Rattle.state_sums.specs.LocalSums.{crossing}
use Rattle.state_sums.specs.Networks.{names_of}
use Rattle.state_sums.proofs.NetworkLaws.{same_everywhere}
use Rattle.state_sums.proofs.WrittenNodes.{IsNode-crossing, IsNode-from_test}
use Rattle.piece_laws.specs.Corners.{corner, corner_weight}
use Rattle.piece_laws.specs.Laws.{QuarterTurnLaw, AnyCornerLaw}
use Rattle.piece_laws.specs.TurnedNodes.{AreInverse, turned_node, weight_of}
use Rattle.piece_laws.proofs.OneNode.{same_between}
use Rattle.piece_laws.proofs.OtherTerms.{other_terms}
use Rattle.piece_laws.proofs.TurnedEnds.{turned_node_same}

abbrev next_slot : ℕ → ℕ
next_slot i = (i + 1) % 4

abbrev slot_before : ℕ → ℕ
slot_before i = (i + 3) % 4

below_four : (P : ℕ → Type 0) → P 0 → P 1 → P 2 → P 3 → (i : ℕ) → i < 4 → P i
below_four P a b c d zero l = a
below_four P a b c d (suc zero) l = b
below_four P a b c d (suc (suc zero)) l = c
below_four P a b c d (suc (suc (suc zero))) l = d
below_four P a b c d (suc (suc (suc (suc i)))) l = absurd (omega (arith, l))

quarters : AreInverse 4 next_slot slot_before
quarters = record {
  order_within = below_four (λ i. next_slot i < 4) (omega arith) (omega arith) (omega arith) (omega arith);
  back_within = below_four (λ i. slot_before i < 4) (omega arith) (omega arith) (omega arith) (omega arith);
  there = below_four (λ i. slot_before (next_slot i) ≡ i) refl refl refl refl;
  again = below_four (λ i. next_slot (slot_before i) ≡ i) refl refl refl refl;
}

-- the same names, begun at the second one
pub cycled : (w x y z u : ℕ) → is_member ◌==◌ (w ∷ x ∷ y ∷ z ∷ []) u ≡ is_member ◌==◌ (x ∷ y ∷ z ∷ w ∷ []) u
cycled w x y z u = grind arith

-- A QUARTER TURN
pub quarter_turn : QuarterTurnLaw
quarter_turn m delta a b w x y z free front back open_names p q has =
    let old = crossing a b w x y z in
    let turned = turned_node next_slot slot_before old in
    let new = crossing b a x y z w in
    let turned_has = All-weaker (λ u. is_member ◌==◌ (names_of (front ++ old ∷ back)) u ≡ true) (λ u. is_member ◌==◌ (names_of (front ++ turned ∷ back)) u ≡ true)
    (λ u t. sym (same_between front (old ∷ []) (turned ∷ []) back (cycled w x y z) u) ∙ t) open_names has in
    (same_everywhere m delta open_names).on _ record { nodes = front ++ turned ∷ back; free_loops = free } _
    (turned_node_same m delta free next_slot slot_before old front back open_names (IsNode-crossing a b w x y z) p q quarters has)
    (other_terms m delta free 0 turned new.terms front back open_names (IsNode-from_test turned refl) (IsNode-crossing b a x y z w) p q
    (λ partner. let e : weight_of turned.terms partner ≡ weight_of new.terms partner = omega arith in ap (λ n. n % m) e) turned_has)

corner_names : (k a b c d w x y z u : ℕ) → is_member ◌==◌ (names_of (crossing c d w x y z ∷ [])) u ≡ is_member ◌==◌ (names_of (corner k a b w x y z ∷ [])) u
corner_names zero a b c d w x y z u = refl
corner_names (suc k) a b c d w x y z u = sym (cycled z w x y u) ∙ corner_names k a b c d z w x y u

-- FROM EACH CORNER
pub any_corner : AnyCornerLaw
any_corner m delta zero a b w x y z free front back open_names p q has = (same_everywhere m delta open_names).itself _
any_corner m delta (suc k) a b w x y z free front back open_names p q has =
    let between = crossing (corner_weight k a b) (corner_weight (suc k) a b) z w x y in
    (same_everywhere m delta open_names).on _ record { nodes = front ++ between ∷ back; free_loops = free } _
    (any_corner m delta k a b z w x y free front back open_names p q has)
    (quarter_turn m delta (corner_weight k a b) (corner_weight (suc k) a b) z w x y free front back open_names p q
    (All-weaker (λ u. is_member ◌==◌ (names_of (front ++ corner k a b z w x y ∷ back)) u ≡ true) (λ u. is_member ◌==◌ (names_of (front ++ between ∷ back)) u ≡ true)
    (λ u t. same_between front (between ∷ []) (corner k a b z w x y ∷ []) back (corner_names k a b 0 0 z w x y) u ∙ t) open_names has))
