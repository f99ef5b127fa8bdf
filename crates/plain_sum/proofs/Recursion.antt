-- The recursion over the nodes: what is left behind the first node, what its terms add, and that the whole is the state sum.
use Rattle.std.proofs.Common.{◌≡◌, ℕ, suc, ◌+◌, ◌-◌, ◌*◌, ◌%◌, ◌^◌, ◌<◌, ◌≤◌, List, [], ◌∷◌, ◌++◌, append-nil, append_assoc, length, get_or, slice_index, take, take_all, drop, pos, ◌+ℤ◌, ◌*ℤ◌, sum_by, sym, ap, ◌∙◌, subst, arith, All, length-append, length-drop}
use Rattle.std.proofs.lemmas.Grind.{get_or_default_zero}
use Rattle.std.proofs.Math.Nat.{mod-add-mod, add-mod-mod}
use Rattle.std.proofs.lemmas.Nat.{mul-mod_second}
use Rattle.std.proofs.lemmas.List.{map-append}
use Rattle.std.proofs.lemmas.List.Elements.{All-append, All-drop, All-take}
use Rattle.std.proofs.lemmas.List.Sums.{sum_by_more}
use Rattle.ring_identities.specs.Residues.{residue}
use Rattle.ring_identities.specs.Powers.{power}
use Rattle.ring_identities.proofs.PowerLemmas.{power-pos}
use Rattle.graph_parts.specs.Parts.{part_count}
use Rattle.state_sums.specs.Networks.{Node, Term, names_of, IsPairing, WeightsBelow}
use Rattle.state_sums.specs.StateSums.{term_edges, value}
use Rattle.state_sums.proofs.Sums.{total}
use Rattle.state_sums.proofs.StateSums.{state_sum-nested}
use Rattle.arc_pairing.specs.Nodes.{IsShortNode}
use Rattle.plain_sum.specs.Places.{named, AreWithin, placed}
use Rattle.plain_sum.specs.Sums.{sum_behind, term_behind}
use Rattle.plain_sum.proofs.Placed.{drop_one, named-placed, within-placed}
use Rattle.list_lemmas.proofs.Sums.{sum_by_same}

pub first_and_rest : (nodes : List Node) (node : Node) → 0 < length nodes → node ≡ get_or nodes 0 node → nodes ≡ node ∷ take (length nodes - 1) (drop 1 nodes)
first_and_rest [] node h e = absurd (omega arith)
first_and_rest (n ∷ nodes) node h e =
    let k : suc (length nodes) - 1 ≡ length nodes = omega arith in
    let same : n ≡ node = sym e in
    rw k (ap (λ z. z ∷ nodes) same ∙ ap (λ zs. node ∷ zs) (sym (take_all (length nodes) nodes (omega arith))))

drop_past : (names xs ys : List ℕ) (start : ℕ) → drop start names ≡ xs ++ ys → drop (start + length xs) names ≡ ys
drop_past names [] ys start e = let k : start + 0 ≡ start = omega arith in rw k e
drop_past names (x ∷ xs) ys start e =
    let k : start + suc (length xs) ≡ start + 1 + length xs = omega arith in rw k (drop_past names xs ys (start + 1) (drop_one names start x (xs ++ ys) e))

module _ (names : List ℕ) (nodes : List Node) (node : Node) (start : ℕ) (some : 0 < length nodes) (is : node ≡ get_or nodes 0 node) (at : drop start names ≡ names_of nodes) where
  abbrev rest : List Node
  rest = take (length nodes - 1) (drop 1 nodes)

  pub first : nodes ≡ node ∷ rest
  first = first_and_rest nodes node some is

  at_ends : drop start names ≡ node.ends ++ names_of rest
  at_ends = at ∙ ap names_of first

  pub after : drop (start + length node.ends) names ≡ names_of rest
  after = drop_past names node.ends (names_of rest) start at_ends

  pub room : start ≤ length names → start + length node.ends ≤ length names
  room within =
      let n = length-drop start names in let e = ap length at_ends in let k = length-append node.ends (names_of rest) in omega (arith, n, e, k, within)

  module _ (term : Term) (i : ℕ) (here : IsShortNode node) (inside : i < length node.terms) (read : term ≡ get_or node.terms i term) where
    paired : IsPairing term.partner × (length term.partner ≡ length node.ends)
    paired = subst (λ t. IsPairing t.partner × (length t.partner ≡ length node.ends)) (sym read) (here.paired i term inside)

    pub partners_within : All (λ partner. partner < length term.partner) term.partner
    partners_within j d l = let w = paired.0.within j l in let e = get_or_default_zero term.partner j d l in omega (arith, w, e)

    pub named_more : (edges : List (ℕ × ℕ)) → named names (edges ++ placed start term.partner) ≡ named names edges ++ term_edges node term
    named_more edges =
        map-append (λ (edge : ℕ × ℕ). (slice_index names edge.0, slice_index names edge.1)) edges (placed start term.partner)
        ∙ ap (λ es. named names edges ++ es) (named-placed names node.ends (names_of rest) start term.partner at_ends paired.1 (λ j d l. let w = partners_within j d l in let e = paired.1 in omega (arith, w, e)))

    pub within_more : (edges : List (ℕ × ℕ)) → start ≤ length names → AreWithin names edges → AreWithin names (edges ++ placed start term.partner)
    within_more edges within a =
        All-append (λ (edge : ℕ × ℕ). (edge.0 < length names) × (edge.1 < length names)) edges (placed start term.partner) a
        (within-placed names start term.partner (let r = room within in let p = paired.1 in omega (arith, r, p)) partners_within)

-- What a turn of the loop over the terms of the first node knows, where `more` are the edges with those of its term.
pub record IsNext (m : ℕ) (names : List ℕ) (nodes rest : List Node) (node : Node) (next : ℕ) (edges more : List (ℕ × ℕ)) (term : Term) : Type 0 where
  pub nodes_are : nodes ≡ node ∷ rest
  pub placed_at : drop next names ≡ names_of rest
  pub within : next ≤ length names
  pub short : All IsShortNode rest
  pub weights : WeightsBelow m rest
  pub edges_within : AreWithin names more
  pub edges_are : named names more ≡ named names edges ++ term_edges node term

pub is_next : (m : ℕ) (names : List ℕ) (nodes : List Node) (node : Node) (start i : ℕ) (ends partners : List ℕ) (items : List Term) (edges more : List (ℕ × ℕ)) (term : Term) →
    0 < length nodes → node ≡ get_or nodes 0 node → drop start names ≡ names_of nodes → IsShortNode node →
    ends ≡ node.ends → items ≡ node.terms → i < length items → term ≡ get_or items i term → partners ≡ term.partner → more ≡ edges ++ placed start partners →
    start ≤ length names → All IsShortNode nodes → WeightsBelow m nodes → AreWithin names edges →
    IsNext m names nodes (take (length nodes - 1) (drop 1 nodes)) node (start + length ends) edges more term
is_next m names nodes node start i ends partners items edges more term some is at here ends_are items_are l read partners_are more_is within short weights a =
    let inside : i < length node.terms = (let n = ap length items_are in omega (arith, n, l)) in
    let read_in : term ≡ get_or node.terms i term = read ∙ ap (λ ts. get_or ts i term) items_are in
    let more_are : more ≡ edges ++ placed start term.partner = more_is ∙ ap (λ ps. edges ++ placed start ps) partners_are in
    record {
      nodes_are = first names nodes node start some is at;
      placed_at = ap (λ es. drop (start + length es) names) ends_are ∙ after names nodes node start some is at;
      within = (let r = room names nodes node start some is at within in let n = ap length ends_are in omega (arith, r, n));
      short = All-take IsShortNode (length nodes - 1) (drop 1 nodes) (All-drop IsShortNode 1 nodes short);
      weights = All-take (λ n. All (λ t. t.weight < m) n.terms) (length nodes - 1) (drop 1 nodes) (All-drop (λ n. All (λ t. t.weight < m) n.terms) 1 nodes weights);
      edges_within = subst (AreWithin names) (sym more_are) (within_more names nodes node start some is at term i here inside read_in edges within a);
      edges_are = ap (named names) more_are ∙ named_more names nodes node start some is at term i here inside read_in edges;
    }

-- what the term adds
worth : (m delta free : ℕ) (names : List ℕ) (nodes rest : List Node) (node : Node) (next : ℕ) (edges more : List (ℕ × ℕ)) (term : Term) →
    IsNext m names nodes rest node next edges more term → term_behind delta names free nodes (named names edges) term ≡ term.weight * sum_behind delta names free rest (named names more)
worth m delta free names nodes rest node next edges more term n =
    ap (λ ns. term_behind delta names free ns (named names edges) term) n.nodes_are
    ∙ ap (λ es. term.weight * sum_behind delta names free rest es) (sym n.edges_are)

residues : (before weight k m : ℕ) → (before % m + (weight * (k % m)) % m) % m ≡ (before + weight * k) % m
residues before weight k m = simp (mod-add-mod, add-mod-mod, mul-mod_second)

-- one more term
pub sum_step : (m delta free : ℕ) (names : List ℕ) (nodes rest : List Node) (node : Node) (next : ℕ) (edges more : List (ℕ × ℕ)) (term : Term) →
    IsNext m names nodes rest node next edges more term →
    (items : List Term) (i s inner weight product sum : ℕ) → i < length items → term ≡ get_or items i term → weight ≡ term.weight →
    s ≡ sum_by (term_behind delta names free nodes (named names edges)) (take i items) % m → inner ≡ sum_behind delta names free rest (named names more) % m →
    product ≡ residue m (pos weight *ℤ pos inner) → sum ≡ residue m (pos s +ℤ pos product) →
    sum ≡ sum_by (term_behind delta names free nodes (named names edges)) (take (i + 1) items) % m
unfolding residue
sum_step m delta free names nodes rest node next edges more term n items i s inner weight product sum l read weight_is so_far is product_is sum_is =
    let f : Term → ℕ = term_behind delta names free nodes (named names edges) in
    let k : ℕ = sum_behind delta names free rest (named names more) in
    let before : ℕ = sum_by f (take i items) in
    sum_is
    ∙ ap (λ p. (s + p) % m) product_is
    ∙ ap (λ z. (z + (weight * inner) % m) % m) so_far
    ∙ ap (λ z. (before % m + (weight * z) % m) % m) is
    ∙ ap (λ z. (before % m + (z * (k % m)) % m) % m) weight_is
    ∙ residues before term.weight k m
    ∙ ap (λ z. (before + z) % m) (sym (worth m delta free names nodes rest node next edges more term n) ∙ ap f read)
    ∙ ap (λ z. z % m) (sym (sum_by_more f items i term l))

-- where no node is left
pub sum_end : (m delta free : ℕ) (names : List ℕ) (nodes : List Node) (edges : List (ℕ × ℕ)) (parts more value : ℕ) → length nodes ≡ 0 → parts ≡ part_count names edges → more ≡ free →
    value ≡ residue m (power (pos delta) (parts + more)) → value ≡ sum_behind delta names free nodes edges % m
unfolding residue
sum_end m delta free names [] edges parts more value none parts_are free_is is =
    is ∙ ap (residue m) (power-pos delta (parts + more)) ∙ ap (λ k. delta ^ (k + more) % m) parts_are ∙ ap (λ k. delta ^ (part_count names edges + k) % m) free_is
sum_end m delta free names (node ∷ nodes) edges parts more value none parts_are free_is is = absurd (omega (arith, none))

-- the sum behind edges is the nested sum
sum_behind_is : (delta : ℕ) (names : List ℕ) (free : ℕ) (nodes : List Node) (edges : List (ℕ × ℕ)) →
    sum_behind delta names free nodes edges ≡ total nodes (λ es. delta ^ (part_count names (edges ++ es) + free))
sum_behind_is delta names free [] edges = ap (λ es. delta ^ (part_count names es + free)) (sym (append-nil edges))
sum_behind_is delta names free (node ∷ nodes) edges =
    sum_by_same _ _ node.terms (λ term. ap (λ n. term.weight * n) (sum_behind_is delta names free nodes (edges ++ term_edges node term) ∙ simp append_assoc))

-- BEHIND NO EDGE IT IS THE STATE SUM
pub whole : (m delta free : ℕ) (nodes : List Node) → sum_behind delta (names_of nodes) free nodes [] % m ≡ value m delta record { nodes = nodes; free_loops = free }
unfolding value
whole m delta free nodes = ap (λ n. n % m) (sum_behind_is delta (names_of nodes) free nodes [] ∙ sym (state_sum-nested delta nodes free))
