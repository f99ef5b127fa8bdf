-- Arcs whose ends stand in the other nodes go: each makes two names one.
--
--     joined_all pairs x         the second name of the first pair whose first name is x, or x
--     AreJoinable pairs names    the first names are different and none of them is a second one; all are among the names
use Rattle.std.proofs.Common.{◌≡◌, ◌≢◌, ℕ, Bool, true, false, cond, ◌==◌, ◌||◌, List, [], ◌∷◌, ◌++◌, map, refl, sym, ap, ap₂, ◌∙◌, arith, All, subst}
use Rattle.std.specs.Set.{is_member}
use Rattle.std.proofs.lemmas.Bool.Decides.{nat_tests}
use Rattle.std.proofs.lemmas.List.{map-append}
use Rattle.std.proofs.lemmas.List.Concat.{flat_map-append}
use Rattle.std.proofs.lemmas.List.Elements.{All-append, All-cons, All-nil}
use Rattle.graph_parts.specs.Renaming.{replaced}
use Rattle.graph_parts.proofs.Counting.{is_member-map}
use Rattle.graph_parts.proofs.Distinct.{is_member-append}
use Rattle.graph_parts.proofs.Renaming.{map_map}
use Rattle.state_sums.specs.LocalSums.{arc, rename}
use Rattle.state_sums.specs.Networks.{Node, IsNode, names_of}
use Rattle.state_sums.specs.StateSums.{value}
use Rattle.piece_laws.proofs.Closing.{arc_joins}
use Rattle.piece_laws.specs.Arcs.{arcs_of}
use Rattle.state_sums.proofs.NodeNames.{names_of-rename}
use Rattle.state_sums.proofs.WrittenNodes.{IsNode-rename, IsNode-weighted_arc}

-- the second name of the first pair whose first name is x, or x
abbrev pub joined_all : List (ℕ × ℕ) → ℕ → ℕ
joined_all [] x = x
joined_all (pair ∷ pairs) x = cond (x == pair.0) pair.1 (joined_all pairs x)

-- the first names, and the second ones
abbrev pub firsts_of : List (ℕ × ℕ) → List ℕ
firsts_of pairs = map (λ pair. pair.0) pairs

abbrev pub seconds_of : List (ℕ × ℕ) → List ℕ
seconds_of pairs = map (λ pair. pair.1) pairs

abbrev pub AreJoinable : List (ℕ × ℕ) → List ℕ → Type 0
AreJoinable [] names = Unit {0}
AreJoinable (pair ∷ pairs) names =
    (is_member ◌==◌ names pair.0 ≡ true) × (is_member ◌==◌ names pair.1 ≡ true) × (pair.0 ≢ pair.1) × (is_member ◌==◌ (firsts_of pairs) pair.0 ≡ false)
    × (is_member ◌==◌ (seconds_of pairs) pair.0 ≡ false) × (is_member ◌==◌ (firsts_of pairs) pair.1 ≡ false) × AreJoinable pairs names

pub arcs_ok : (pairs : List (ℕ × ℕ)) → All IsNode (arcs_of pairs)
arcs_ok [] = All-nil IsNode
arcs_ok (pair ∷ pairs) = All-cons IsNode (arc pair.0 pair.1) (arcs_of pairs) (IsNode-weighted_arc 1 pair.0 pair.1) (arcs_ok pairs)

turned_other : (x y z : ℕ) → z ≢ x → replaced x y z ≡ z
turned_other x y z d = grind (arith, nat_tests, d)

-- a name that is no first one stays
stays : (pairs : List (ℕ × ℕ)) (z : ℕ) → is_member ◌==◌ (firsts_of pairs) z ≡ false → joined_all pairs z ≡ z
stays [] z m = refl
stays (pair ∷ pairs) z m =
    let ih = stays pairs z (grind (arith, m)) in
    plain z pair.0 pair.1 (joined_all pairs z) (grind (arith, m)) ih
  where
    plain : (z x y t : ℕ) → (z == x) ≡ false → t ≡ z → cond (z == x) y t ≡ z
    plain z x y t e f = grind (arith, e, f)

arcs_turned : (x y : ℕ) (pairs : List (ℕ × ℕ)) → is_member ◌==◌ (firsts_of pairs) x ≡ false → is_member ◌==◌ (seconds_of pairs) x ≡ false → rename (replaced x y) (arcs_of pairs) ≡ arcs_of pairs
arcs_turned x y [] a b = refl
arcs_turned x y (pair ∷ pairs) a b =
    ap₂ (λ u v. arc u v ∷ rename (replaced x y) (arcs_of pairs)) (turned_other x y pair.0 (λ e. clash x pair.0 (is_member ◌==◌ (firsts_of pairs) x) a e)) (turned_other x y pair.1 (λ e. clash x pair.1 (is_member ◌==◌ (seconds_of pairs) x) b e))
    ∙ ap (λ ns. arc pair.0 pair.1 ∷ ns) (arcs_turned x y pairs (grind (arith, a)) (grind (arith, b)))
  where
    clash : (x z : ℕ) (t : Bool) → (x == z || t) ≡ false → z ≡ x → ⊥
    clash x z t p e = grind (arith, nat_tests, p, e)

fun_same : (f g : ℕ → ℕ) → ((z : ℕ) → f z ≡ g z) → f ≡ g
fun_same f g h = λ i z. h z i

turned_both : (x y : ℕ) (pairs : List (ℕ × ℕ)) → is_member ◌==◌ (firsts_of pairs) y ≡ false → (z : ℕ) → joined_all pairs (replaced x y z) ≡ joined_all ((x, y) ∷ pairs) z
turned_both x y pairs m z =
    elim (z == x) as (λ b. joined_all pairs (cond b y z) ≡ cond b y (joined_all pairs z)) [ true ↦ stays pairs y m | false ↦ refl ]

rename_both : (f g : ℕ → ℕ) (nodes : List Node) → rename f (rename g nodes) ≡ rename (λ z. f (g z)) nodes
rename_both f g [] = refl
rename_both f g (node ∷ nodes) = ap₂ (λ ends ns. record { group = node.group; ends = ends; terms = node.terms } ∷ ns) (map_map f g node.ends) (rename_both f g nodes)

still_joinable : (x y : ℕ) (pairs : List (ℕ × ℕ)) (names : List ℕ) → is_member ◌==◌ (firsts_of pairs) x ≡ false → is_member ◌==◌ (seconds_of pairs) x ≡ false → AreJoinable pairs names → AreJoinable pairs (map (replaced x y) names)
still_joinable x y [] names a b h = tt
still_joinable x y (pair ∷ pairs) names a b h = (
  kept pair.0 (λ e. clash x pair.0 (is_member ◌==◌ (firsts_of pairs) x) a e) h.0,
  kept pair.1 (λ e. clash x pair.1 (is_member ◌==◌ (seconds_of pairs) x) b e) h.1,
  h.2,
  h.3,
  h.4,
  h.5,
  still_joinable x y pairs names (grind (arith, a)) (grind (arith, b)) h.6,
)
  where
    clash : (x z : ℕ) (t : Bool) → (x == z || t) ≡ false → z ≡ x → ⊥
    clash x z t p e = grind (arith, nat_tests, p, e)

    kept : (z : ℕ) → z ≢ x → is_member ◌==◌ names z ≡ true → is_member ◌==◌ (map (replaced x y) names) z ≡ true
    kept z d m = ap (is_member ◌==◌ (map (replaced x y) names)) (sym (turned_other x y z d)) ∙ is_member-map (replaced x y) names z m

-- ARCS GO
pub many_arcs : (m delta free : ℕ) (pairs : List (ℕ × ℕ)) (rest : List Node) → All IsNode rest → AreJoinable pairs (names_of rest) →
    value m delta record { nodes = arcs_of pairs ++ rest; free_loops = free } ≡ value m delta record { nodes = rename (joined_all pairs) rest; free_loops = free }
many_arcs m delta free [] rest ok h = ap (λ ns. value m delta record { nodes = ns; free_loops = free }) (sym (same rest))
  where
    map_same : (xs : List ℕ) → map (λ z. z) xs ≡ xs
    map_same [] = refl
    map_same (x ∷ xs) = ap (λ ys. x ∷ ys) (map_same xs)

    same : (nodes : List Node) → rename (joined_all []) nodes ≡ nodes
    same [] = refl
    same (node ∷ nodes) = ap₂ (λ ends ns. record { group = node.group; ends = ends; terms = node.terms } ∷ ns) (map_same node.ends) (same nodes)
many_arcs m delta free (pair ∷ pairs) rest ok h =
    let x = pair.0 in
    let y = pair.1 in
    let others = arcs_of pairs ++ rest in
    let there : (z : ℕ) → is_member ◌==◌ (names_of rest) z ≡ true → is_member ◌==◌ (names_of others) z ≡ true =
    λ z k. ap (λ ns. is_member ◌==◌ ns z) (flat_map-append (λ node. node.ends) (arcs_of pairs) rest) ∙ is_member-append (names_of (arcs_of pairs)) (names_of rest) z ∙ either (is_member ◌==◌ (names_of (arcs_of pairs)) z) (is_member ◌==◌ (names_of rest) z) k in
    arc_joins m delta free x y others (All-append IsNode (arcs_of pairs) rest (arcs_ok pairs) ok) (there x h.0) (there y h.1)
    ∙ ap (λ ns. value m delta record { nodes = ns; free_loops = free })
    (map-append (λ node. record { group = node.group; ends = map (replaced x y) node.ends; terms = node.terms }) (arcs_of pairs) rest ∙ ap (λ ns. ns ++ rename (replaced x y) rest) (arcs_turned x y pairs h.3 h.4))
    ∙ many_arcs m delta free pairs (rename (replaced x y) rest) (IsNode-rename (replaced x y) rest ok) (joinable (still_joinable x y pairs (names_of rest) h.3 h.4 h.6))
    ∙ ap (λ ns. value m delta record { nodes = ns; free_loops = free })
    (rename_both (joined_all pairs) (replaced x y) rest ∙ ap (λ f. rename f rest) (fun_same (λ z. joined_all pairs (replaced x y z)) (joined_all (pair ∷ pairs)) (turned_both x y pairs h.5)))
  where
    either : (s t : Bool) → t ≡ true → (s || t) ≡ true
    either s t p = grind (arith, p)

    joinable : AreJoinable pairs (map (replaced pair.0 pair.1) (names_of rest)) → AreJoinable pairs (names_of (rename (replaced pair.0 pair.1) rest))
    joinable k = subst (AreJoinable pairs) (sym (names_of-rename (replaced pair.0 pair.1) rest)) k
