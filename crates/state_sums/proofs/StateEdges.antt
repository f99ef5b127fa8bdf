-- The edges of a state join names of its nodes, so a sum over states depends on a function of its edges there alone.
--
--     HasPlaces node          each partner of each term is a place of the node
--     HavePlaces nodes        each node has its partners' places
use Rattle.std.proofs.Common.{ltb, Bool, ◌≡◌, ℕ, ◌*◌, ◌<◌, true, ◌==◌, List, [], ◌∷◌, ◌++◌, map, length, get_or, slice_index, sum_by, refl, sym, ap, ◌∙◌, arith, All}
use Rattle.std.specs.List.{list_all}
use Rattle.std.specs.Set.{is_member}
use Rattle.std.proofs.lemmas.Bool.{or_left, or_right, ltb-true}
use Rattle.std.proofs.lemmas.Grind.{get_or_default_zero}
use Rattle.std.proofs.lemmas.List.Elements.{All-head, All-tail, All-map, All-weaker}
use Rattle.std.proofs.lemmas.List.Sums.{sum_by-cons, AllPass-from_list_all}
use Rattle.graph_parts.specs.Ends.{AreAmong}
use Rattle.graph_parts.proofs.Distinct.{is_member-append}
use Rattle.graph_parts.proofs.Ends.{EndsAre-append, EndsAre-weaker, EndsAre-zip, is_member-itself, is_member-get_or}
use Rattle.state_sums.specs.Networks.{Node, Term, IsNode, names_of}
use Rattle.state_sums.specs.StateSums.{term_edges}
use Rattle.state_sums.proofs.Sums.{total}

abbrev pub HasPlaces : Node → Type 0
HasPlaces node = All (λ term. All (λ place. place < length node.ends) term.partner) node.terms

abbrev pub HavePlaces : List Node → Type 0
HavePlaces nodes = All (λ node. All (λ term. All (λ place. place < length node.ends) term.partner) node.terms) nodes

abbrev pub has_places : Node → Bool
has_places node = list_all (λ term. list_all (λ place. ltb place (length node.ends)) term.partner) node.terms

-- nodes written out pass the test by computing
pub HavePlaces-from_test : (nodes : List Node) → list_all has_places nodes ≡ true → HavePlaces nodes
HavePlaces-from_test nodes h =
    All-weaker (λ node. has_places node ≡ true) HasPlaces
    (λ node t. All-weaker (λ term. list_all (λ place. ltb place (length node.ends)) term.partner ≡ true) (λ term. All (λ place. place < length node.ends) term.partner)
    (λ term u. All-weaker (λ place. ltb place (length node.ends) ≡ true) (λ place. place < length node.ends) (λ place v. ltb-true place (length node.ends) v) term.partner
    (AllPass-from_list_all (λ place. ltb place (length node.ends)) term.partner u)) node.terms
    (AllPass-from_list_all (λ term. list_all (λ place. ltb place (length node.ends)) term.partner) node.terms t)) nodes
    (AllPass-from_list_all has_places nodes h)

pub HavePlaces-from_nodes : (nodes : List Node) → All IsNode nodes → HavePlaces nodes
HavePlaces-from_nodes nodes h i d l j e k p f q =
    let node = get_or nodes i d in
    let term = get_or node.terms j e in
    let pairs = h i d l j e k in
    let w = pairs.0.within p q in
    let same = get_or_default_zero term.partner p f q in
    let long = pairs.1 in
    grind (arith, w, same, long)

pub EndsAre-term : (node : Node) (term : Term) → All (λ place. place < length node.ends) term.partner → AreAmong node.ends (term_edges node term)
EndsAre-term node term h =
    EndsAre-zip (is_member ◌==◌ node.ends) node.ends (map (λ place. slice_index node.ends place) term.partner) (is_member-itself node.ends)
    (All-map (λ z. is_member ◌==◌ node.ends z ≡ true) (λ place. slice_index node.ends place) term.partner
    (All-weaker (λ place. place < length node.ends) (λ place. is_member ◌==◌ node.ends (slice_index node.ends place) ≡ true) (λ place l. is_member-get_or node.ends place l) term.partner h))

pub sum_by_all : {X : Type 0} (P : X → Type 0) (f g : X → ℕ) (xs : List X) → All P xs → ((x : X) → P x → f x ≡ g x) → sum_by f xs ≡ sum_by g xs
sum_by_all P f g [] a h = refl
sum_by_all P f g (x ∷ xs) a h =
    sum_by-cons f x xs
    ∙ (let e = h x (All-head P x xs a) in let ih = sum_by_all P f g xs (All-tail P x xs a) h in omega arith)
    ∙ sym (sum_by-cons g x xs)

pub total_same : (nodes : List Node) → HavePlaces nodes → (f g : List (ℕ × ℕ) → ℕ) →
    ((es : List (ℕ × ℕ)) → AreAmong (names_of nodes) es → f es ≡ g es) → total nodes f ≡ total nodes g
total_same [] a f g h = h [] tt
total_same (node ∷ nodes) a f g h =
    let IsTerm : Term → Type 0 = λ term. All (λ place. place < length node.ends) term.partner in
    sum_by_all IsTerm _ _ node.terms (All-head (λ n. All (λ term. All (λ place. place < length n.ends) term.partner) n.terms) node nodes a)
    (λ term ok. ap (λ n. term.weight * n)
    (total_same nodes (All-tail (λ n. All (λ term. All (λ place. place < length n.ends) term.partner) n.terms) node nodes a) _ _
    (λ es ends. h (term_edges node term ++ es)
    (EndsAre-append (is_member ◌==◌ (names_of (node ∷ nodes))) (term_edges node term) es
    (EndsAre-weaker (is_member ◌==◌ node.ends) (is_member ◌==◌ (names_of (node ∷ nodes)))
    (λ x m. is_member-append node.ends (names_of nodes) x ∙ or_left (is_member ◌==◌ node.ends x) (is_member ◌==◌ (names_of nodes) x) m) (term_edges node term) (EndsAre-term node term ok))
    (EndsAre-weaker (is_member ◌==◌ (names_of nodes)) (is_member ◌==◌ (names_of (node ∷ nodes)))
    (λ x m. is_member-append node.ends (names_of nodes) x ∙ or_right (is_member ◌==◌ node.ends x) (is_member ◌==◌ (names_of nodes) x) m) es ends)))))
