-- The order of a piece's nodes does not matter, and a piece may be replaced between other nodes: its sum over states, whatever the
-- patterns are worth, stays where a run of nodes moves to the front.
use Rattle.std.proofs.Common.{append_assoc, ◌≡◌, true, ◌==◌, ℕ, ◌+◌, ◌%◌, List, ◌++◌, sym, ap, ◌∙◌, All, ⊎_elim}
use Rattle.std.specs.List.{AllPass}
use Rattle.std.specs.Set.{is_member}
use Rattle.std.proofs.lemmas.Bool.{or_left, or_right, or_cases}
use Rattle.std.proofs.lemmas.List.Concat.{flat_map-append}
use Rattle.std.proofs.lemmas.List.Elements.{All-append, All-weaker}
use Rattle.std.proofs.lemmas.List.Sorted.{All-permutation}
use Rattle.graph_parts.proofs.Agreement.{to_All, from_All}
use Rattle.graph_parts.proofs.Distinct.{is_member-append}
use Rattle.state_sums.specs.LocalSums.{SameEverywhere, IsCut}
use Rattle.state_sums.specs.Networks.{Node, IsNode, names_of}
use Rattle.state_sums.proofs.LabelSums.{label_weighed}
use Rattle.state_sums.proofs.NetworkLaws.{added_nodes, same_everywhere}
use Rattle.state_sums.proofs.NodeOrder.{total-exchange, exchanged_edges, same_members, names_of-three, kept_in_any_order}
use Rattle.state_sums.proofs.Sums.{total, total-append, total_cong}
use Rattle.piece_laws.specs.Laws.{PermutedPieceLaw, AddedAroundLaw}
use Rattle.piece_laws.proofs.Alike.{alike, weighed_alike}

module _ (delta free : ℕ) (open_names : List ℕ) (worth : List ℕ → ℕ) where
  abbrev counted : List Node → ℕ
  counted nodes = total nodes (label_weighed delta nodes free open_names worth)

same_moved : (front nodes back : List Node) (u : ℕ) → is_member ◌==◌ (names_of (front ++ (nodes ++ back))) u ≡ is_member ◌==◌ (names_of (nodes ++ (front ++ back))) u
same_moved front nodes back u =
    ap (λ ns. is_member ◌==◌ ns u) (names_of-three front nodes back) ∙ same_members (names_of front) (names_of nodes) (names_of back) u
    ∙ sym (ap (λ ns. is_member ◌==◌ ns u) (names_of-three nodes front back))

counted-moved : (delta free : ℕ) (open_names : List ℕ) (worth : List ℕ → ℕ) (front nodes back : List Node) →
    counted delta free open_names worth (front ++ (nodes ++ back)) ≡ counted delta free open_names worth (nodes ++ (front ++ back))
counted-moved delta free open_names worth front nodes back =
    let f : List (ℕ × ℕ) → ℕ = label_weighed delta (front ++ (nodes ++ back)) free open_names worth in
    let g : List (ℕ × ℕ) → ℕ = label_weighed delta (nodes ++ (front ++ back)) free open_names worth in
    total-append front (nodes ++ back) f
    ∙ total_cong front _ _ (λ es. total-append nodes back (λ fs. f (es ++ fs)))
    ∙ total-exchange front nodes (λ es fs. total back (λ gs. f (es ++ (fs ++ gs))))
    ∙ total_cong nodes _ _ (λ fs. total_cong front _ _ (λ es. total_cong back _ _ (λ gs.
    weighed_alike delta (front ++ (nodes ++ back)) (nodes ++ (front ++ back)) free open_names worth (es ++ (fs ++ gs)) (fs ++ (es ++ gs)) (same_moved front nodes back)
    (exchanged_edges es fs gs) (exchanged_edges fs es gs))))
    ∙ sym (total_cong nodes _ _ (λ fs. total-append front back (λ es. g (fs ++ es))))
    ∙ sym (total-append nodes (front ++ back) g)

-- ANY ORDER
pub permuted_piece : PermutedPieceLaw
permuted_piece m delta free nodes permuted open_names p h has =
    alike m delta free open_names nodes permuted p (All-permutation IsNode nodes permuted h p)
    (λ u. sym (kept_in_any_order (λ ns. is_member ◌==◌ (names_of ns) u) (λ front run back. same_moved front run back u) nodes permuted h)) has
    (λ worth. ap (λ n. n % m) (sym (kept_in_any_order (counted delta free open_names worth) (counted-moved delta free open_names worth) nodes permuted h)))

-- what a run that moves to the front keeps, two runs that change places keep
exchanged_by : {X : Type 0} (F : List Node → X) → ((front nodes back : List Node) → F (front ++ (nodes ++ back)) ≡ F (nodes ++ (front ++ back))) →
    (front one other back : List Node) → F (front ++ (one ++ (other ++ back))) ≡ F (front ++ (other ++ (one ++ back)))
exchanged_by F moved front one other back =
    ap F (sym (append_assoc front one (other ++ back))) ∙ moved (front ++ one) other back ∙ ap (λ ns. F (other ++ ns)) (append_assoc front one back) ∙ sym (moved front other (one ++ back))

pub exchanged_members : (front one other back : List Node) (u : ℕ) →
    is_member ◌==◌ (names_of (front ++ (one ++ (other ++ back)))) u ≡ is_member ◌==◌ (names_of (front ++ (other ++ (one ++ back)))) u
exchanged_members front one other back u = exchanged_by (λ ns. is_member ◌==◌ (names_of ns) u) (λ f n b. same_moved f n b u) front one other back

-- a run of nodes moves to the front
pub run_to_front : (m delta free : ℕ) (open_names : List ℕ) (front nodes back : List Node) → All IsNode front → All IsNode nodes → All IsNode back →
    AllPass (is_member ◌==◌ (names_of (front ++ (nodes ++ back)))) open_names →
    SameEverywhere m delta open_names record { nodes = front ++ (nodes ++ back); free_loops = free } record { nodes = nodes ++ (front ++ back); free_loops = free }
run_to_front m delta free open_names front nodes back p q r has =
    alike m delta free open_names (front ++ (nodes ++ back)) (nodes ++ (front ++ back))
    (All-append IsNode front (nodes ++ back) p (All-append IsNode nodes back q r)) (All-append IsNode nodes (front ++ back) q (All-append IsNode front back p r))
    (same_moved front nodes back) has
    (λ worth. ap (λ n. n % m) (counted-moved delta free open_names worth front nodes back))

-- two runs of nodes change places
pub runs_exchanged : (m delta free : ℕ) (open_names : List ℕ) (front one other back : List Node) → All IsNode front → All IsNode one → All IsNode other → All IsNode back →
    AllPass (is_member ◌==◌ (names_of (front ++ (one ++ (other ++ back))))) open_names →
    SameEverywhere m delta open_names record { nodes = front ++ (one ++ (other ++ back)); free_loops = free } record { nodes = front ++ (other ++ (one ++ back)); free_loops = free }
runs_exchanged m delta free open_names front one other back p q r s has =
    let same = exchanged_members front one other back in
    alike m delta free open_names (front ++ (one ++ (other ++ back))) (front ++ (other ++ (one ++ back)))
    (All-append IsNode front (one ++ (other ++ back)) p (All-append IsNode one (other ++ back) q (All-append IsNode other back r s)))
    (All-append IsNode front (other ++ (one ++ back)) p (All-append IsNode other (one ++ back) r (All-append IsNode one back q s))) same has
    (λ worth. ap (λ n. n % m) (exchanged_by (counted delta free open_names worth) (counted-moved delta free open_names worth) front one other back))

-- open names that the rest or the piece has
has_around : (front nodes back : List Node) (inner outer : List ℕ) → IsCut nodes (front ++ back) inner → AllPass (is_member ◌==◌ (names_of (front ++ back) ++ inner)) outer →
    AllPass (is_member ◌==◌ (names_of (nodes ++ (front ++ back)))) outer
has_around front nodes back inner outer cut has =
    to_All (is_member ◌==◌ (names_of (nodes ++ (front ++ back)))) outer
    (λ x t.
    let there = from_All (is_member ◌==◌ (names_of (front ++ back) ++ inner)) outer has x t in
    let whole = ap (λ ns. is_member ◌==◌ ns x) (flat_map-append (λ n. n.ends) nodes (front ++ back)) ∙ is_member-append (names_of nodes) (names_of (front ++ back)) x in
    whole
    ∙ ⊎_elim
    (λ l. or_right (is_member ◌==◌ (names_of nodes) x) (is_member ◌==◌ (names_of (front ++ back)) x) l)
    (λ r. or_left (is_member ◌==◌ (names_of nodes) x) (is_member ◌==◌ (names_of (front ++ back)) x) (from_All (is_member ◌==◌ (names_of nodes)) inner cut.has_open x r))
    (or_cases (is_member ◌==◌ (names_of (front ++ back)) x) (is_member ◌==◌ inner x) (sym (is_member-append (names_of (front ++ back)) inner x) ∙ there)))

-- NODES IN FRONT, BEHIND AND BETWEEN
pub added_around : AddedAroundLaw
added_around m delta more inner outer old new front back p q r s old_cut new_cut has same =
    let rest = front ++ back in
    let ok = All-append IsNode front back r s in
    let all = same_everywhere m delta outer in
    let old_has = has_around front old.nodes back inner outer old_cut has in
    let new_has = has_around front new.nodes back inner outer new_cut has in
    let in_place : (nodes : List Node) → AllPass (is_member ◌==◌ (names_of (nodes ++ rest))) outer → AllPass (is_member ◌==◌ (names_of (front ++ (nodes ++ back)))) outer =
    λ nodes h. All-weaker (λ u. is_member ◌==◌ (names_of (nodes ++ rest)) u ≡ true) (λ u. is_member ◌==◌ (names_of (front ++ (nodes ++ back))) u ≡ true) (λ u t. same_moved front nodes back u ∙ t) outer h in
    all.on _ record { nodes = old.nodes ++ rest; free_loops = old.free_loops + more } _
    (run_to_front m delta (old.free_loops + more) outer front old.nodes back r p s (in_place old.nodes old_has))
    (all.on _ record { nodes = new.nodes ++ rest; free_loops = new.free_loops + more } _
    (added_nodes m delta more inner outer old new rest p q ok old_cut new_cut has same)
    (all.back _ _ (run_to_front m delta (new.free_loops + more) outer front new.nodes back r q s (in_place new.nodes new_has))))
