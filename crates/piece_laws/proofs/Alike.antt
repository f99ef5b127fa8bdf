-- Two lists of nodes are alike everywhere where their names have the same members and their sums by labels agree modulo m; and what a
-- state counts by labels depends on which edges it has alone, in any order, direction and repetition.
use Rattle.std.proofs.Common.{◌≡◌, ℕ, ◌%◌, true, ◌==◌, List, ◌++◌, refl, sym, ap, ◌∙◌, inl, inr, ⊎_elim, All}
use Rattle.std.specs.List.{AllPass}
use Rattle.std.specs.Set.{is_member}
use Rattle.std.proofs.lemmas.List.Elements.{All-weaker, Contains-append_left, Contains-append_right, Contains-append_cases}
use Rattle.graph_parts.specs.Labels.{label_of}
use Rattle.graph_parts.specs.Laws.{IsAmongEdges}
use Rattle.graph_parts.specs.Patterns.{first_like}
use Rattle.graph_parts.proofs.Agreement.{label_count-agree, Agree-same_edges}
use Rattle.graph_parts.proofs.PartLaws.{label_count-same_names}
use Rattle.graph_parts.proofs.Renaming.{first_like-agree, map_agree_on}
use Rattle.state_sums.specs.LocalSums.{SameEverywhere}
use Rattle.state_sums.specs.Networks.{Node, IsNode, names_of}
use Rattle.state_sums.proofs.Coefficients.{SameEverywhere-from_worth}
use Rattle.state_sums.proofs.LabelSums.{label_weighed, pattern_sum-labels}
use Rattle.state_sums.proofs.StateEdges.{HavePlaces-from_nodes}
use Rattle.state_sums.proofs.Sums.{total}

-- edges between others, in front and behind
pub among_between : (es fs gs hs : List (ℕ × ℕ)) → IsAmongEdges fs gs → IsAmongEdges (es ++ (fs ++ hs)) (es ++ (gs ++ hs))
among_between es fs gs hs h x y c =
    let e : ℕ × ℕ = (x, y) in
    let back : ℕ × ℕ = (y, x) in
    ⊎_elim (λ l. inl (Contains-append_left es (gs ++ hs) e l))
    (λ r. ⊎_elim
    (λ l. ⊎_elim (λ a. inl (Contains-append_right es (gs ++ hs) e (Contains-append_left gs hs e a))) (λ b. inr (Contains-append_right es (gs ++ hs) back (Contains-append_left gs hs back b))) (h x y l))
    (λ s. inl (Contains-append_right es (gs ++ hs) e (Contains-append_right gs hs e s)))
    (Contains-append_cases fs hs e r))
    (Contains-append_cases es (fs ++ hs) e c)

-- the same edges and the same names count alike
pub weighed_alike : (delta : ℕ) (old new : List Node) (free : ℕ) (open_names : List ℕ) (worth : List ℕ → ℕ) (es fs : List (ℕ × ℕ)) →
    ((u : ℕ) → is_member ◌==◌ (names_of old) u ≡ is_member ◌==◌ (names_of new) u) → IsAmongEdges es fs → IsAmongEdges fs es →
    label_weighed delta old free open_names worth es ≡ label_weighed delta new free open_names worth fs
weighed_alike delta old new free open_names worth es fs same h k =
    let all : (xs : List ℕ) → AllPass (λ u. true) xs = λ xs i d l. refl in
    let agree = Agree-same_edges (λ u. true) es fs h k in
    let n = label_count-agree (λ u. true) (label_of es) (label_of fs) (names_of old) agree (all (names_of old)) ∙ label_count-same_names (label_of fs) (names_of old) (names_of new) same in
    let o = label_count-agree (λ u. true) (label_of es) (label_of fs) open_names agree (all open_names) in
    let p = map_agree_on (λ u. true) (first_like (label_of es) open_names) (first_like (label_of fs) open_names) open_names (all open_names)
    (λ u m. first_like-agree (λ v. true) (label_of es) (label_of fs) open_names u agree refl (all open_names)) in
    rw (n, o, p)

-- ALIKE BY LABELS, ALIKE EVERYWHERE
pub alike : (m delta free : ℕ) (open_names : List ℕ) (old new : List Node) → All IsNode old → All IsNode new →
    ((u : ℕ) → is_member ◌==◌ (names_of old) u ≡ is_member ◌==◌ (names_of new) u) → AllPass (is_member ◌==◌ (names_of old)) open_names →
    ((worth : List ℕ → ℕ) → total old (label_weighed delta old free open_names worth) % m ≡ total new (label_weighed delta new free open_names worth) % m) →
    SameEverywhere m delta open_names record { nodes = old; free_loops = free } record { nodes = new; free_loops = free }
alike m delta free open_names old new p q same has h =
    let new_has = All-weaker (λ u. is_member ◌==◌ (names_of old) u ≡ true) (λ u. is_member ◌==◌ (names_of new) u ≡ true) (λ u t. sym (same u) ∙ t) open_names has in
    SameEverywhere-from_worth m delta open_names _ _
    (λ worth.
    ap (λ n. n % m) (pattern_sum-labels delta old free open_names worth (HavePlaces-from_nodes old p) has)
    ∙ h worth
    ∙ sym (ap (λ n. n % m) (pattern_sum-labels delta new free open_names worth (HavePlaces-from_nodes new q) new_has)))
