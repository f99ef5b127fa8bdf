-- A node's terms in another form: a sum over them, whatever each pairing counts, is told by the weight of each pairing modulo m.
use Rattle.std.proofs.Common.{◌≡◌, ℕ, ◌*◌, ◌%◌, Bool, true, false, cond, List, [], ◌∷◌, ◌++◌, map, slice_index, zip, sum_by, refl, sym, ap, ◌∙◌, arith, inl}
use Rattle.std.specs.Str.{bytes_eq}
use Rattle.std.proofs.lemmas.List.Elements.{All-cons, All-nil}
use Rattle.std.proofs.lemmas.Slice.Eq.{bytes_eq-Decides}
use Rattle.list_lemmas.proofs.Sums.{sum_by_same}
use Rattle.state_sums.specs.Networks.{Node, Term, IsNode}
use Rattle.state_sums.proofs.Coefficients.{grouped, only}
use Rattle.state_sums.proofs.LabelSums.{label_weighed}
use Rattle.state_sums.proofs.Sums.{total, total_cong}
use Rattle.piece_laws.specs.Laws.{OtherTermsLaw}
use Rattle.piece_laws.specs.TurnedNodes.{weight_of}
use Rattle.piece_laws.proofs.Alike.{weighed_alike}
use Rattle.piece_laws.proofs.OneNode.{run_alike, same_between}

pub equal_from : (p q : List ℕ) → bytes_eq p q ≡ true → p ≡ q
equal_from p q t = (bytes_eq-Decides p q).0 t

equal_itself : (p : List ℕ) → bytes_eq p p ≡ true
equal_itself p = (bytes_eq-Decides p p).1 refl

pub picked : (w : ℕ) (b : Bool) → w * cond b 1 0 ≡ cond b w 0
picked w true = omega arith
picked w false = omega arith

weight_picked : (partner : List ℕ) (terms : List Term) → sum_by (λ t. t.weight * only bytes_eq equal_from equal_itself partner t.partner) terms ≡ weight_of terms partner
weight_picked partner terms = sum_by_same _ _ terms (λ t. picked t.weight (bytes_eq partner t.partner))

-- whatever the pairings count
pub weighed_by_pairing : (m : ℕ) (old new : List Term) → ((partner : List ℕ) → weight_of old partner % m ≡ weight_of new partner % m) → (g : List ℕ → ℕ) →
    sum_by (λ t. t.weight * g t.partner) old % m ≡ sum_by (λ t. t.weight * g t.partner) new % m
weighed_by_pairing m old new h g =
    grouped bytes_eq equal_from equal_itself m (λ t. t.weight) (λ t. t.partner) (λ t. t.weight) (λ t. t.partner) old new
    (λ p. ap (λ n. n % m) (weight_picked p old) ∙ h p ∙ sym (ap (λ n. n % m) (weight_picked p new))) g

-- OTHER TERMS
pub other_terms : OtherTermsLaw
other_terms m delta free group node terms front back open_names p q r s h has =
    let other : Node = record { group = group; ends = node.ends; terms = terms } in
    let edges : List ℕ → List (ℕ × ℕ) = λ partner. zip node.ends (map (λ place. slice_index node.ends place) partner) in
    run_alike m delta free front (node ∷ []) (other ∷ []) back open_names r (All-cons IsNode node [] p (All-nil IsNode)) (All-cons IsNode other [] q (All-nil IsNode)) s
    (λ u. refl) has
    (λ worth es.
    let old_counts : List (ℕ × ℕ) → ℕ = label_weighed delta (front ++ (node ∷ back)) free open_names worth in
    let new_counts : List (ℕ × ℕ) → ℕ = label_weighed delta (front ++ (other ∷ back)) free open_names worth in
    weighed_by_pairing m node.terms terms h (λ partner. total back (λ gs. old_counts (es ++ ((edges partner ++ []) ++ gs))))
    ∙ ap (λ n. n % m)
    (sum_by_same _ _ terms (λ t. ap (λ n. t.weight * n)
    (total_cong back _ _ (λ gs.
    weighed_alike delta (front ++ (node ∷ back)) (front ++ (other ∷ back)) free open_names worth (es ++ ((edges t.partner ++ []) ++ gs)) (es ++ ((edges t.partner ++ []) ++ gs))
    (same_between front (node ∷ []) (other ∷ []) back (λ u. refl)) (λ x y c. inl c) (λ x y c. inl c))))))
