-- From labels at each place of a list to the list of least names.
use Rattle.std.proofs.Common.{◌≡◌, ℕ, ◌+◌, ◌<◌, List, ◌++◌, map, length, get_or, take, drop, slice_index, sym, ap, ◌∙◌, arith, All, take_all, drop_of_length-le, append-nil}
use Rattle.std.specs.List.{range_with_len}
use Rattle.std.proofs.lemmas.Grind.{same_number_lists}
use Rattle.std.proofs.lemmas.List.FromFn.{length-range_with_len, get_or-range_with_len, length-map-range_with_len, get_or-map-range_with_len}
use Rattle.graph_parts.specs.LeastNames.{least_name, least_label}
use Rattle.graph_parts.proofs.LeastLabels.{least_name-label}
use Rattle.graph_parts.proofs.Numbered.{is_member-numbered, AreAmong-numbered}

pub numbered_at : (n : ℕ) (xs : List ℕ) → xs ≡ range_with_len 0 n → (i : ℕ) → i < length xs → slice_index xs i ≡ i
numbered_at n xs e i l =
    let long = ap length e in let size = length-range_with_len 0 n in
    let at = get_or-range_with_len 0 n i 0 (omega (arith, l, long, size)) in
    ap (λ ys. get_or ys i 0) e ∙ at ∙ (let s : 0 + i ≡ i = omega arith in s)

pub among_length : (n m : ℕ) (edges : List (ℕ × ℕ)) → n ≡ m → All (λ edge. (edge.0 < n) × (edge.1 < n)) edges → All (λ edge. (edge.0 < m) × (edge.1 < m)) edges
among_length n m edges e h k d l = let p = h k d l in (omega (arith, e, p.0), omega (arith, e, p.1))

-- LABELS AT EACH PLACE ARE THE LEAST NAMES
pub labelled : (n len : ℕ) (edges : List (ℕ × ℕ)) (new items : List ℕ) → All (λ edge. (edge.0 < n) × (edge.1 < n)) edges →
    items ≡ range_with_len 0 n → len ≡ length items → length new ≡ length items → ((i : ℕ) → i < length new → slice_index new i ≡ least_label edges i) →
    take len (new ++ drop (length new) items) ≡ map (least_name (range_with_len 0 n) edges) (range_with_len 0 n)
labelled n len edges new items among e is_len long labels =
    let names = range_with_len 0 n in
    let size = ap length e ∙ length-range_with_len 0 n in
    let nothing = drop_of_length-le items {i = length new} (omega (arith, long)) in
    let whole : take len (new ++ drop (length new) items) ≡ new =
    ap (λ ys. take len (new ++ ys)) nothing ∙ ap (take len) (append-nil new) ∙ take_all len new (omega (arith, is_len, long)) in
    whole
    ∙ same_number_lists new (map (least_name names edges) names) (let s = length-map-range_with_len (least_name names edges) 0 n in omega (arith, s, long, size))
    (λ k l.
    let within : k < n = omega (arith, l, long, size) in
    labels k l
    ∙ sym (least_name-label names edges (AreAmong-numbered n edges among) k (is_member-numbered n k within))
    ∙ sym (get_or-map-range_with_len (least_name names edges) 0 n k k 0 within (omega arith)))
