-- Names do not matter: nodes with other names have states with renamed edges, and their sums stay where the renaming is
-- one to one.
use Rattle.std.proofs.Common.{◌≡◌, ℕ, ◌+◌, ◌*◌, ◌^◌, ◌<◌, ◌%◌, true, ◌==◌, List, [], ◌∷◌, ◌++◌, map, length, slice_index, zip, refl, sym, ap, ◌∙◌, All, subst}
use Rattle.std.specs.List.{AllPass}
use Rattle.std.specs.Set.{is_member}
use Rattle.std.proofs.lemmas.List.{map-append, get_or-map, length-map}
use Rattle.std.proofs.lemmas.List.Elements.{All-head, All-tail, All-map, All-weaker}
use Rattle.graph_parts.specs.Labels.{label_of, label_count, label_after}
use Rattle.graph_parts.specs.Renaming.{renamed, IsOneToOne}
use Rattle.graph_parts.proofs.Agreement.{label_count-agree}
use Rattle.graph_parts.proofs.Counting.{is_member-map}
use Rattle.graph_parts.proofs.Renaming.{zip_map, label_count-map, label_count-renamed, Agree-renamed, label_pattern-map}
use Rattle.state_sums.specs.LocalSums.{rename, pattern_sum, SameEverywhere}
use Rattle.state_sums.specs.Networks.{Node, Network, Term, names_of}
use Rattle.state_sums.specs.StateSums.{state_sum, term_edges}
use Rattle.state_sums.proofs.Coefficients.{SameEverywhere-from_worth, worth-from_SameEverywhere}
use Rattle.state_sums.proofs.LabelSums.{label_weighed, pattern_sum-labels}
use Rattle.state_sums.proofs.StateEdges.{HasPlaces, HavePlaces, total_same, sum_by_all}
use Rattle.state_sums.proofs.StateSums.{state_sum-labels}
use Rattle.state_sums.proofs.Sums.{total}

pub map_within : (r : ℕ → ℕ) (ends places : List ℕ) → All (λ place. place < length ends) places →
    map (λ place. slice_index (map r ends) place) places ≡ map r (map (λ place. slice_index ends place) places)
map_within r ends [] a = refl
map_within r ends (p ∷ places) a =
    let e = get_or-map r ends p 0 0 (All-head (λ place. place < length ends) p places a) in
    let ih = map_within r ends places (All-tail (λ place. place < length ends) p places a) in
    cc

abbrev with_ends : (ℕ → ℕ) → Node → Node
with_ends r node = record { group = node.group; ends = map r node.ends; terms = node.terms }

pub HavePlaces-rename : (r : ℕ → ℕ) (nodes : List Node) → HavePlaces nodes → HavePlaces (rename r nodes)
HavePlaces-rename r nodes a =
    All-map HasPlaces (with_ends r) nodes
    (All-weaker HasPlaces (λ node. HasPlaces (with_ends r node))
    (λ node h. subst (λ n. All (λ term. All (λ place. place < n) term.partner) node.terms) (sym (length-map node.ends r)) h) nodes a)

term_edges-rename : (r : ℕ → ℕ) (node : Node) (term : Term) → All (λ place. place < length node.ends) term.partner →
    term_edges (with_ends r node) term ≡ map (renamed r) (term_edges node term)
term_edges-rename r node term a =
    ap (zip (map r node.ends)) (map_within r node.ends term.partner a) ∙ zip_map r node.ends (map (λ place. slice_index node.ends place) term.partner)

pub total-rename : (r : ℕ → ℕ) (nodes : List Node) → HavePlaces nodes → (f : List (ℕ × ℕ) → ℕ) → total (rename r nodes) f ≡ total nodes (λ es. f (map (renamed r) es))
total-rename r [] a f = refl
total-rename r (node ∷ nodes) a f =
    let IsTerm : Term → Type 0 = λ term. All (λ place. place < length node.ends) term.partner in
    sum_by_all IsTerm _ _ node.terms (All-head (λ n. All (λ term. All (λ place. place < length n.ends) term.partner) n.terms) node nodes a)
    (λ term ok. ap (λ n. term.weight * n)
    (total-rename r nodes (All-tail (λ n. All (λ term. All (λ place. place < length n.ends) term.partner) n.terms) node nodes a) (λ es. f (term_edges (with_ends r node) term ++ es))
    ∙ ap (total nodes) (let e = term_edges-rename r node term ok in simp (e, map-append))))

pub names_of-rename : (r : ℕ → ℕ) (nodes : List Node) → names_of (rename r nodes) ≡ map r (names_of nodes)
names_of-rename r [] = refl
names_of-rename r (node ∷ nodes) = ap (λ xs. map r node.ends ++ xs) (names_of-rename r nodes) ∙ sym (map-append r node.ends (names_of nodes))

-- NAMES DO NOT MATTER
pub state_sum-rename : (delta : ℕ) (r : ℕ → ℕ) (nodes : List Node) (free : ℕ) → HavePlaces nodes → IsOneToOne r (names_of nodes) →
    state_sum delta record { nodes = rename r nodes; free_loops = free } ≡ state_sum delta record { nodes = nodes; free_loops = free }
state_sum-rename delta r nodes free a h =
    let names = names_of nodes in
    state_sum-labels delta (rename r nodes) free (HavePlaces-rename r nodes a)
    ∙ total-rename r nodes a (λ es. delta ^ (label_count (label_of es) (names_of (rename r nodes)) + free))
    ∙ total_same nodes a _ (λ es. delta ^ (label_count (label_of es) names + free))
    (λ es p. ap (λ n. delta ^ (n + free)) (ap (label_count (label_of (map (renamed r) es))) (names_of-rename r nodes) ∙ label_count-renamed r names es h p))
    ∙ sym (state_sum-labels delta nodes free a)

open_renamed : (r : ℕ → ℕ) (nodes : List Node) (open_names : List ℕ) → AllPass (is_member ◌==◌ (names_of nodes)) open_names → AllPass (is_member ◌==◌ (names_of (rename r nodes))) (map r open_names)
open_renamed r nodes open_names has =
    All-map (λ z. is_member ◌==◌ (names_of (rename r nodes)) z ≡ true) r open_names
    (All-weaker (λ x. is_member ◌==◌ (names_of nodes) x ≡ true) (λ x. is_member ◌==◌ (names_of (rename r nodes)) (r x) ≡ true)
    (λ x m. ap (λ ns. is_member ◌==◌ ns (r x)) (names_of-rename r nodes) ∙ is_member-map r (names_of nodes) x m) open_names has)

-- NOR DO THEY FOR PATTERNS
pub pattern_sum-rename : (delta : ℕ) (r : ℕ → ℕ) (nodes : List Node) (free : ℕ) (open_names : List ℕ) (worth : List ℕ → ℕ) →
    HavePlaces nodes → IsOneToOne r (names_of nodes) → AllPass (is_member ◌==◌ (names_of nodes)) open_names →
    pattern_sum delta record { nodes = rename r nodes; free_loops = free } (map r open_names) worth ≡ pattern_sum delta record { nodes = nodes; free_loops = free } open_names (λ found. worth (map r found))
pattern_sum-rename delta r nodes free open_names worth a h o =
    let names = names_of nodes in
    let there : List (ℕ × ℕ) → ℕ = label_weighed delta (rename r nodes) free (map r open_names) worth in
    let here : List (ℕ × ℕ) → ℕ = label_weighed delta nodes free open_names (λ found. worth (map r found)) in
    pattern_sum-labels delta (rename r nodes) free (map r open_names) worth (HavePlaces-rename r nodes a) (open_renamed r nodes open_names o)
    ∙ total-rename r nodes a there
    ∙ total_same nodes a _ here
    (λ es p.
    let agree = Agree-renamed r names es h p in
    let n = ap (label_count (label_of (map (renamed r) es))) (names_of-rename r nodes) ∙ label_count-renamed r names es h p in
    let k = label_count-map r es open_names ∙ label_count-agree (is_member ◌==◌ names) (label_after r es) (label_of es) open_names agree o in
    let q = label_pattern-map r names open_names es h p o in
    rw (n, k, q))
    ∙ sym (pattern_sum-labels delta nodes free open_names (λ found. worth (map r found)) a o)

-- A LOCAL EQUALITY AT ANY NAMES
pub SameEverywhere-rename : (m delta : ℕ) (r : ℕ → ℕ) (open_names : List ℕ) (old new : Network) →
    HavePlaces old.nodes → HavePlaces new.nodes → IsOneToOne r (names_of old.nodes) → IsOneToOne r (names_of new.nodes) →
    AllPass (is_member ◌==◌ (names_of old.nodes)) open_names → AllPass (is_member ◌==◌ (names_of new.nodes)) open_names →
    SameEverywhere m delta open_names old new →
    SameEverywhere m delta (map r open_names) record { nodes = rename r old.nodes; free_loops = old.free_loops } record { nodes = rename r new.nodes; free_loops = new.free_loops }
SameEverywhere-rename m delta r open_names old new a b h k p q same =
    SameEverywhere-from_worth m delta (map r open_names) _ _
    (λ worth.
    ap (λ n. n % m) (pattern_sum-rename delta r old.nodes old.free_loops open_names worth a h p)
    ∙ worth-from_SameEverywhere m delta open_names old new same (λ found. worth (map r found))
    ∙ sym (ap (λ n. n % m) (pattern_sum-rename delta r new.nodes new.free_loops open_names worth b k q)))
