-- A crossing of two bundles as steps, where a bundle may be empty: then the strands of the other one go straight through, by arcs.
-- The names are functions of row and column as in a grid; a strand that meets nobody has its second name at index 1.
--
--     long n                                       n, but 1 for 0: how many names a strand has behind its first where it meets n strands
--     between f g n                                the pairs (f 0, g 0) to (f (n-1), g (n-1))
--     crossing_nodes x y v h rows columns          the nodes: a grid, or arcs
--     crossing_steps x y v h place rows columns    the steps, from a place on
--     Follows                                      the names behind the crossing
--     IsLongName, AreLongNames                     a name that the crossing gives; no two of them are equal
use Rattle.std.proofs.Common.{◌≡◌, ◌≢◌, ℕ, zero, suc, ◌+◌, ◌-◌, ◌<◌, ◌≤◌, ◌==◌, ◌⊎◌, inl, inr, Bool, true, List, [], ◌∷◌, map, refl, sym, ap, ap₂, ◌∙◌, arith, ⊎_elim, All, subst}
use Rattle.std.specs.List.{range_with_len, zip}
use Rattle.std.specs.Set.{is_member}
use Rattle.std.proofs.lemmas.List.Elements.{All-nil}
use Rattle.state_sums.specs.LocalSums.{arc, rename}
use Rattle.state_sums.specs.Networks.{Node, IsNode}
use Rattle.piece_laws.specs.Arcs.{arcs_of}
use Rattle.piece_laws.proofs.ArcEdges.{IsNode-arcs}
use Rattle.strand_words.specs.Grids.{crossed}
use Rattle.strand_words.specs.Words.{Letter, top}
use Rattle.word_networks.specs.GridNetworks.{grid_nodes, grid_steps, FitsGrid}
use Rattle.word_networks.specs.PlacedGrids.{passes}
use Rattle.word_networks.specs.Spelling.{Spells}
use Rattle.word_networks.specs.Steps.{Step, named, names_after, step_nodes, new_names, AreDistinct}
use Rattle.word_networks.proofs.Fresh.{in_grid, grid_distinct}
use Rattle.word_networks.proofs.Grids.{grid_is, grid_follows, grid_spells}
use Rattle.word_networks.proofs.PlacedGrids.{passes_spell}
use Rattle.word_networks.proofs.TurnedGrids.{grid_ok}
use Rattle.strand_words.specs.Grids as words
use Rattle.cable_crossings.proofs.BundleBigon.{rename_grid, grid_tops, passes_tops, passes_at, in_passes, unless_member, named_other, arcs_between}
use Rattle.cable_crossings.proofs.StepPieces.{AllTop, All-first}

-- n, but 1 for 0
abbrev pub long : ℕ → ℕ
long zero = 1
long (suc n) = suc n

pub long-some : (n : ℕ) → 1 ≤ long n
long-some zero = omega arith
long-some (suc n) = omega arith

pub long-le : (n k : ℕ) → n ≤ k → 1 ≤ k → long n ≤ k
long-le zero k l s = s
long-le (suc n) k l s = l

pub long-few : (n : ℕ) → n ≤ 8 → long n ≤ 8
long-few n l = long-le n 8 l (omega arith)

-- the pairs (f 0, g 0) to (f (n-1), g (n-1))
abbrev pub between : (ℕ → ℕ) → (ℕ → ℕ) → ℕ → List (ℕ × ℕ)
between f g n = zip (map f (range_with_len 0 n)) (map g (range_with_len 0 n))

between_from : (f g : ℕ → ℕ) (i n : ℕ) → arcs_between f g i n ≡ zip (map f (range_with_len i n)) (map g (range_with_len i n))
between_from f g i zero = refl
between_from f g i (suc n) = ap (λ es. (let e : ℕ × ℕ = (f i, g i) in e) ∷ es) (between_from f g (i + 1) n)

-- the nodes of a crossing of bundles
abbrev pub crossing_nodes : ℕ → ℕ → (ℕ → ℕ → ℕ) → (ℕ → ℕ → ℕ) → ℕ → ℕ → List Node
crossing_nodes x y v h zero columns = arcs_of (between (v 0) (v 1) columns)
crossing_nodes x y v h (suc rows) zero = arcs_of (between (λ k. h (rows - k) 0) (λ k. h (rows - k) 1) (suc rows))
crossing_nodes x y v h (suc rows) (suc columns) = grid_nodes x y v h 0 (suc rows) (suc columns)

arcs_ok : (pairs : List (ℕ × ℕ)) → All IsNode (arcs_of pairs)
arcs_ok pairs = All-first IsNode (arcs_of pairs) [] (IsNode-arcs pairs [] (All-nil IsNode))

pub crossing_ok : (x y : ℕ) (v h : ℕ → ℕ → ℕ) (rows columns : ℕ) → All IsNode (crossing_nodes x y v h rows columns)
crossing_ok x y v h zero columns = arcs_ok (between (v 0) (v 1) columns)
crossing_ok x y v h (suc rows) zero = arcs_ok (between (λ k. h (rows - k) 0) (λ k. h (rows - k) 1) (suc rows))
crossing_ok x y v h (suc rows) (suc columns) = grid_ok 0 0 0 [] x y v h 0 (suc rows) (suc columns)

-- and its steps
abbrev pub crossing_steps : ℕ → ℕ → (ℕ → ℕ → ℕ) → (ℕ → ℕ → ℕ) → ℕ → ℕ → ℕ → List Step
crossing_steps x y v h place zero columns = passes (λ k. v 1 (k - place)) place columns
crossing_steps x y v h place (suc rows) zero = passes (λ k. h (place + rows - k) 1) place (suc rows)
crossing_steps x y v h place (suc rows) (suc columns) = grid_steps x y v h place 0 (suc rows) (suc columns)

-- THE STEPS ARE ON TOPS
pub crossing_tops : (n x y : ℕ) (v h : ℕ → ℕ → ℕ) (place rows columns : ℕ) → place + rows + columns ≤ n → AllTop n (crossing_steps x y v h place rows columns)
crossing_tops n x y v h place zero columns l = passes_tops n (λ k. v 1 (k - place)) place columns (omega (arith, l))
crossing_tops n x y v h place (suc rows) zero l = passes_tops n (λ k. h (place + rows - k) 1) place (suc rows) (omega (arith, l))
crossing_tops n x y v h place (suc rows) (suc columns) l = grid_tops n x y v h place 0 (suc rows) (suc columns) l

-- ---- names behind the crossing
pub record Follows (name after : ℕ → ℕ) (v h : ℕ → ℕ → ℕ) (place rows columns : ℕ) : Type 0 where
  pub north : (k c : ℕ) → place ≤ k → k < place + columns → c + place ≡ k → after (top k) ≡ v (long rows) c
  pub east : (k r : ℕ) → place + columns ≤ k → k < place + columns + rows → r + k + 1 ≡ place + columns + rows → after (top k) ≡ h r (long columns)
  pub others : (u : ℕ) → ((k : ℕ) → place ≤ k → k < place + rows + columns → u ≢ top k) → after u ≡ name u

passes_others : (name new : ℕ → ℕ) (i count u : ℕ) → ((k : ℕ) → i ≤ k → k < i + count → u ≢ top k) → names_after name (passes new i count) u ≡ name u
passes_others name new i zero u h = refl
passes_others name new i (suc count) u h =
    passes_others (named name (top i) (new i)) new (i + 1) count u (λ k l b. h k (omega (arith, l)) (omega (arith, b)))
    ∙ named_other name (top i) (new i) u (h i (omega arith) (omega arith))

pub crossing_follows : (x y : ℕ) (v h : ℕ → ℕ → ℕ) (name : ℕ → ℕ) (place rows columns : ℕ) → FitsGrid name v h place 0 rows columns →
    Follows name (names_after name (crossing_steps x y v h place rows columns)) v h place rows columns
crossing_follows x y v h name place zero columns f = record {
  north = λ k c lo hi e. passes_at name (λ k. v 1 (k - place)) place columns k lo hi ∙ ap (v 1) (let t : k - place ≡ c = omega (arith, e) in t);
  east = λ k r lo hi e. absurd (omega (arith, lo, hi));
  others = λ u d. passes_others name (λ k. v 1 (k - place)) place columns u (λ k lo hi. d k lo (omega (arith, hi)));
}
crossing_follows x y v h name place (suc rows) zero f = record {
  north = λ k c lo hi e. absurd (omega (arith, lo, hi));
  east = λ k r lo hi e. passes_at name (λ k. h (place + rows - k) 1) place (suc rows) k (omega (arith, lo)) (omega (arith, hi)) ∙ ap (λ i. h i 1) (let t : place + rows - k ≡ r = omega (arith, e) in t);
  others = λ u d. passes_others name (λ k. h (place + rows - k) 1) place (suc rows) u (λ k lo hi. d k lo (omega (arith, hi)));
}
crossing_follows x y v h name place (suc rows) (suc columns) f =
    let g = grid_follows x y v h name place 0 (suc rows) (suc columns) f in
    record {
      north = λ k c lo hi e. g.north k c lo hi e (omega arith) ∙ ap (λ i. v i c) (let t : 0 + suc rows ≡ suc rows = omega arith in t);
      east = λ k r lo hi e. g.east k r lo hi (omega (arith, e)) (omega arith);
      others = g.others;
    }

-- ---- names that the crossing gives
abbrev pub IsLongName : (ℕ → ℕ → ℕ) → (ℕ → ℕ → ℕ) → ℕ → ℕ → ℕ → Type 0
IsLongName v h rows columns z =
    ((i : ℕ) × (j : ℕ) × (0 < i) × (i ≤ long rows) × (j < columns) × (z ≡ v i j)) ⊎ ((i : ℕ) × (j : ℕ) × (i < rows) × (0 < j) × (j ≤ long columns) × (z ≡ h i j))

pub crossing_names : (x y : ℕ) (v h : ℕ → ℕ → ℕ) (place rows columns z : ℕ) → is_member ◌==◌ (new_names (crossing_steps x y v h place rows columns)) z ≡ true → IsLongName v h rows columns z
crossing_names x y v h place zero columns z m =
    let r = in_passes (λ k. v 1 (k - place)) place columns z m in
    let k = r.0 in
    inl (1, k - place, omega arith, omega arith, (let a = r.1 in let b = r.2 in omega (arith, a, b)), r.3)
crossing_names x y v h place (suc rows) zero z m =
    let r = in_passes (λ k. h (place + rows - k) 1) place (suc rows) z m in
    let k = r.0 in
    inr (place + rows - k, 1, (let a = r.1 in omega (arith, a)), omega arith, omega arith, r.3)
crossing_names x y v h place (suc rows) (suc columns) z m =
    ⊎_elim
    (λ p. inl (p.0, p.1, p.2, p.3, p.4, p.5))
    (λ p. inr (p.0, p.1, p.3, p.4, p.5, p.6))
    (in_grid x y v h place 0 (suc rows) (suc columns) (suc rows) z (omega arith) m)

pub record AreLongNames (v h : ℕ → ℕ → ℕ) (rows columns : ℕ) : Type 0 where
  pub vertical : (i j k l : ℕ) → 0 < i → i ≤ long rows → j < columns → 0 < k → k ≤ long rows → l < columns → v i j ≡ v k l → (i ≡ k) × (j ≡ l)
  pub horizontal : (i j k l : ℕ) → i < rows → 0 < j → j ≤ long columns → k < rows → 0 < l → l ≤ long columns → h i j ≡ h k l → (i ≡ k) × (j ≡ l)
  pub apart : (i j k l : ℕ) → 0 < i → i ≤ long rows → j < columns → k < rows → 0 < l → l ≤ long columns → v i j ≢ h k l

passes_distinct : (new : ℕ → ℕ) (low high : ℕ) → ((j k : ℕ) → low ≤ j → j < high → low ≤ k → k < high → new j ≡ new k → j ≡ k) → (i count : ℕ) → low ≤ i → i + count ≤ high → AreDistinct (new_names (passes new i count))
passes_distinct new low high one i zero a b = tt
passes_distinct new low high one i (suc count) a b = (
  unless_member (new_names (passes new (i + 1) count)) (new i) (λ m. (let r = in_passes new (i + 1) count (new i) m in let p = r.1 in let q = r.2 in
      let e = one i r.0 a (omega (arith, b)) (omega (arith, a, p)) (omega (arith, b, q)) r.3 in omega (arith, p, e))),
  passes_distinct new low high one (i + 1) count (omega (arith, a)) (omega (arith, b)),
)

pub crossing_distinct : (x y : ℕ) (v h : ℕ → ℕ → ℕ) (place rows columns : ℕ) → AreLongNames v h rows columns → AreDistinct (new_names (crossing_steps x y v h place rows columns))
crossing_distinct x y v h place zero columns a =
    passes_distinct (λ k. v 1 (k - place)) place (place + columns)
    (λ j k lj hj lk hk e. (let t = (a.vertical 1 (j - place) 1 (k - place) (omega arith) (omega arith) (omega (arith, lj, hj)) (omega arith) (omega arith) (omega (arith, lk, hk)) e).1 in omega (arith, t, lj, lk)))
    place columns (omega arith) (omega arith)
crossing_distinct x y v h place (suc rows) zero a =
    passes_distinct (λ k. h (place + rows - k) 1) place (place + suc rows)
    (λ j k lj hj lk hk e. (let t = (a.horizontal (place + rows - j) 1 (place + rows - k) 1 (omega (arith, lj)) (omega arith) (omega arith) (omega (arith, lk)) (omega arith) (omega arith) e).0 in omega (arith, t, lj, lk, hj, hk)))
    place (suc rows) (omega arith) (omega arith)
crossing_distinct x y v h place (suc rows) (suc columns) a =
    grid_distinct x y v h (suc rows) (suc columns) record { vertical = a.vertical; horizontal = a.horizontal; apart = a.apart } place 0 (suc rows) (suc columns) (omega arith) (omega arith)

-- THE STEPS SPELL THE WORD OF THE CROSSING
no_columns : (a b : ℕ) (s : Bool) (place rows : ℕ) → words.grid a b s place rows 0 ≡ []
no_columns a b s place zero = refl
no_columns a b s place (suc rows) = no_columns a b s place rows

pub crossing_spells : (a b : ℕ) (s : Bool) (v h : ℕ → ℕ → ℕ) (place rows columns : ℕ) →
    Spells (words.grid a b s place rows columns) (crossing_steps (crossed a b s 0).straight (crossed a b s 0).hook v h place rows columns)
crossing_spells a b s v h place zero columns = passes_spell (λ k. v 1 (k - place)) place columns
crossing_spells a b s v h place (suc rows) zero =
    let P : List Letter → Type 0 = λ word. Spells word (passes (λ k. h (place + rows - k) 1) place (suc rows)) in
    subst P (sym (no_columns a b s place (suc rows))) (passes_spell (λ k. h (place + rows - k) 1) place (suc rows))
crossing_spells a b s v h place (suc rows) (suc columns) = grid_spells a b s v h place 0 (suc rows) (suc columns)

-- ---- its nodes, at other names
passes_nodes : (r new f g name : ℕ → ℕ) (place j count : ℕ) → ((k : ℕ) → j ≤ k → k < j + count → r (name (top (place + k))) ≡ f k) → ((k : ℕ) → j ≤ k → k < j + count → r (new (place + k)) ≡ g k) →
    rename r (step_nodes name (passes new (place + j) count)) ≡ arcs_of (arcs_between f g j count)
passes_nodes r new f g name place j zero hf hg = refl
passes_nodes r new f g name place j (suc count) hf hg =
    let i = place + j in
    let next = named name (top i) (new i) in
    let same : i + 1 ≡ place + (j + 1) = omega arith in
    ap₂ (λ p q. arc p q ∷ rename r (step_nodes next (passes new (i + 1) count))) (hf j (omega arith) (omega arith)) (hg j (omega arith) (omega arith))
    ∙ ap (λ ns. arc (f j) (g j) ∷ ns)
    (ap (λ at. rename r (step_nodes next (passes new at count))) same
    ∙ passes_nodes r new f g next place (j + 1) count
    (λ k lo hi. ap r (named_other name (top i) (new i) (top (place + k)) (λ e. omega (arith, e, lo))) ∙ hf k (omega (arith, lo)) (omega (arith, hi)))
    (λ k lo hi. hg k (omega (arith, lo)) (omega (arith, hi))))

-- THE NODES OF THE STEPS
pub crossing_renamed : (r : ℕ → ℕ) (x y : ℕ) (v h v' h' : ℕ → ℕ → ℕ) (name : ℕ → ℕ) (place rows columns : ℕ) → FitsGrid name v h place 0 rows columns →
    ((i j : ℕ) → i ≤ long rows → j < columns → r (v i j) ≡ v' i j) → ((i j : ℕ) → i < rows → j ≤ long columns → r (h i j) ≡ h' i j) →
    rename r (step_nodes name (crossing_steps x y v h place rows columns)) ≡ crossing_nodes x y v' h' rows columns
crossing_renamed r x y v h v' h' name place zero columns f vs hs =
    let new : ℕ → ℕ = λ k. v 1 (k - place) in
    let start : place ≡ place + 0 = omega arith in
    ap (λ i. rename r (step_nodes name (passes new i columns))) start
    ∙ passes_nodes r new (v' 0) (v' 1) name place 0 columns
    (λ k lo hi. ap r (f.south (place + k) k (omega arith) (omega (arith, hi)) (omega arith)) ∙ vs 0 k (omega arith) (omega (arith, hi)))
    (λ k lo hi. ap (λ c. r (v 1 c)) (let t : place + k - place ≡ k = omega arith in t) ∙ vs 1 k (omega arith) (omega (arith, hi)))
    ∙ ap arcs_of (between_from (v' 0) (v' 1) 0 columns)
crossing_renamed r x y v h v' h' name place (suc rows) zero f vs hs =
    let new : ℕ → ℕ = λ k. h (place + rows - k) 1 in
    let start : place ≡ place + 0 = omega arith in
    let from : ℕ → ℕ = λ k. h' (rows - k) 0 in
    let to : ℕ → ℕ = λ k. h' (rows - k) 1 in
    ap (λ i. rename r (step_nodes name (passes new i (suc rows)))) start
    ∙ passes_nodes r new from to name place 0 (suc rows)
    (λ k lo hi. ap r (f.west (place + k) (rows - k) (omega arith) (omega (arith, hi)) (omega (arith, hi))) ∙ hs (rows - k) 0 (omega arith) (omega arith))
    (λ k lo hi. ap (λ i. r (h i 1)) (let t : place + rows - (place + k) ≡ rows - k = omega arith in t) ∙ hs (rows - k) 1 (omega arith) (omega arith))
    ∙ ap arcs_of (between_from from to 0 (suc rows))
crossing_renamed r x y v h v' h' name place (suc rows) (suc columns) f vs hs =
    ap (rename r) (grid_is x y v h name place 0 (suc rows) (suc columns) f)
    ∙ rename_grid r x y v h v' h' 0 (suc rows) (suc rows) (suc columns) (omega arith) vs hs
