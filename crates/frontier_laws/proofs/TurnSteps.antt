-- Turns and limits, from some nodes to one more: the turns that come, and whether a limit is met.
use Rattle.std.proofs.Common.{◌≡◌, ℕ, zero, suc, ◌+◌, ◌*◌, ◌<◌, ◌≤◌, List, [], ◌∷◌, ◌++◌, length, take, sum_by, sym, ap, subst, ◌∙◌, arith, length-append, ⊎_elim, ◌⊎◌}
use Rattle.std.specs.List.{range_with_len}
use Rattle.std.proofs.Math.ListN.{get_or-append}
use Rattle.std.proofs.Math.Seq.{take-length, get_or-append_seam, take-append_seam}
use Rattle.std.proofs.lemmas.List.{take-append-le}
use Rattle.std.proofs.lemmas.List.Sums.{sum_by-append, sum_by-cons}
use Rattle.state_sums.specs.Networks.{Node}
use Rattle.frontier_laws.specs.Orders.{node_at}
use Rattle.frontier_laws.specs.Turns.{pairing_count, turns_of, open_count, IsWithinAt, IsWithin, IsWideAt, IsFullAt}
use Rattle.list_lemmas.proofs.Sums.{sum_range}
use Rattle.list_lemmas.proofs.Ranges.{range_more}

-- ---- turns
length_more : (nodes : List Node) (node : Node) → length (nodes ++ node ∷ []) ≡ suc (length nodes)
length_more nodes node = let e = length-append nodes (node ∷ []) in omega (arith, e)

-- THE TURNS WITH ONE MORE NODE: the pairings before it times its terms more
pub turns_after : (nodes : List Node) (node : Node) → turns_of (nodes ++ node ∷ []) ≡ turns_of nodes + pairing_count nodes * length node.terms
turns_after nodes node =
    let before : ℕ → ℕ = λ k. pairing_count (take k nodes) * length (node_at nodes k).terms in
    let after : ℕ → ℕ = λ k. pairing_count (take k (nodes ++ node ∷ [])) * length (node_at (nodes ++ node ∷ []) k).terms in
    let nothing : Node = record { group = 0; ends = []; terms = [] } in
    let n = length nodes in
    let last : after n ≡ pairing_count nodes * length node.terms =
    ap (λ front. pairing_count front * length (node_at (nodes ++ node ∷ []) n).terms) (take-append_seam nodes (node ∷ []))
    ∙ ap (λ (one : Node). pairing_count nodes * length one.terms) (get_or-append_seam nodes node [] nothing) in
    let same = sum_range after before 0 n (λ k l.
    ap (λ front. pairing_count front * length (node_at (nodes ++ node ∷ []) k).terms) (take-append-le k nodes (node ∷ []) (omega (arith, l)))
    ∙ ap (λ (one : Node). pairing_count (take k nodes) * length one.terms) (get_or-append nodes (node ∷ []) nothing k (omega (arith, l)))) in
    let c = sum_by-cons after n [] in
    ap (λ count. sum_by after (range_with_len 0 count)) (length_more nodes node)
    ∙ ap (sum_by after) (range_more 0 n ∙ ap (λ k. range_with_len 0 n ++ k ∷ []) (let e : 0 + n ≡ n = omega arith in e))
    ∙ sum_by-append after (range_with_len 0 n) (n ∷ [])
    ∙ (omega (arith, same, last, c))

-- ---- limits
cases_le : (k n whole : ℕ) → whole ≡ suc n → k ≤ whole → (k ≤ n) ⊎ (k ≡ whole)
cases_le k n whole e l = grind (arith, e, l)

-- What holds of the first nodes holds with one more behind them.
within_front : (nodes : List Node) (node : Node) (k : ℕ) → k ≤ length nodes → IsWithinAt nodes k → IsWithinAt (nodes ++ node ∷ []) k
within_front nodes node k l h =
    let same = sym (take-append-le k nodes (node ∷ []) l) in
    let P : List Node → Type 0 = λ front. open_count front ≤ 24 in
    let Q : List Node → Type 0 = λ front. pairing_count front ≤ 262144 in
    record { narrow = subst P same h.narrow; few = subst Q same h.few }

-- No node meets no limit.
pub within_none : IsWithin []
within_none zero l = record { narrow = omega arith; few = omega arith }
within_none (suc k) l = absurd (omega (arith, l))

-- ONE MORE NODE THAT MEETS NO LIMIT EITHER
pub within_after : (nodes : List Node) (node : Node) → IsWithin nodes → open_count (nodes ++ node ∷ []) ≤ 24 → pairing_count (nodes ++ node ∷ []) ≤ 262144 → IsWithin (nodes ++ node ∷ [])
within_after nodes node h narrow few k l =
    let long = length_more nodes node in
    ⊎_elim
    (λ (in_front : k ≤ length nodes). within_front nodes node k in_front (h k in_front))
    (λ (whole : k ≡ length (nodes ++ node ∷ [])).
    let same : take k (nodes ++ node ∷ []) ≡ nodes ++ node ∷ [] = ap (λ n. take n (nodes ++ node ∷ [])) whole ∙ take-length (nodes ++ node ∷ []) in
    let P : List Node → Type 0 = λ front. open_count front ≤ 24 in
    let Q : List Node → Type 0 = λ front. pairing_count front ≤ 262144 in
    record { narrow = subst P (sym same) narrow; few = subst Q (sym same) few })
    (cases_le k (length nodes) (length (nodes ++ node ∷ [])) long l)

before_last : (nodes : List Node) (node : Node) → IsWithin nodes → (k : ℕ) → k < length (nodes ++ node ∷ []) → IsWithinAt (nodes ++ node ∷ []) k
before_last nodes node h k l =
    let long = length_more nodes node in
    let in_front : k ≤ length nodes = omega (arith, l, long) in
    within_front nodes node k in_front (h k in_front)

-- One more node with which too many names are open.
pub wide_after : (nodes : List Node) (node : Node) (ends : ℕ) → IsWithin nodes → open_count (nodes ++ node ∷ []) ≡ ends → 24 < ends → IsWideAt (nodes ++ node ∷ []) ends
wide_after nodes node ends h count wide = record { wide = wide; count = count; first = before_last nodes node h }

-- ONE MORE NODE WITH WHICH THERE ARE TOO MANY PAIRINGS
pub full_after : (nodes : List Node) (node : Node) → IsWithin nodes → open_count (nodes ++ node ∷ []) ≤ 24 → 262144 < pairing_count (nodes ++ node ∷ []) → IsFullAt (nodes ++ node ∷ [])
full_after nodes node h narrow full = record { narrow = narrow; full = full; first = before_last nodes node h }
