-- Two bundles that cross and cross back, at any names.
use Rattle.std.proofs.Common.{◌≡◌, ◌≢◌, ℕ, zero, suc, ◌+◌, ◌-◌, ◌*◌, ◌/◌, ◌%◌, ◌<◌, ◌≤◌, ◌==◌, ◌⊎◌, inl, inr, nat_lt, nat_le, true, false, cond, List, [], ◌∷◌, ◌++◌, map, refl, sym, ap, ap₂, ◌∙◌, arith, ⊎_elim, All, subst}
use Rattle.std.specs.Set.{is_member}
use Rattle.std.proofs.lemmas.Bool.{cases_Bool, eqb-true, or_cases}
use Rattle.std.proofs.lemmas.Bool.Decides.{nat_tests}
use Rattle.graph_parts.proofs.Distinct.{is_member-append}
use Rattle.state_sums.specs.LocalSums.{arc, crossing, rename, AreSkeinNumbers}
use Rattle.state_sums.specs.Networks.{Node, IsNode, names_of}
use Rattle.state_sums.specs.StateSums.{value}
use Rattle.state_sums.proofs.NodeNames.{names_of-rename}
use Rattle.piece_laws.specs.Arcs.{arcs_of}
use Rattle.piece_laws.specs.Pieces.{ArePaired}
use Rattle.piece_laws.proofs.RenamedNodes.{rename-append}
use Rattle.strand_words.specs.Grids.{crossed}
use Rattle.strand_words.specs.Words.{top}
use Rattle.strand_words.proofs.WordLaws.{bundle_second_move}
use Rattle.word_networks.specs.GridNetworks.{row_nodes, grid_nodes, row_steps, grid_steps, FitsGrid, FollowsGrid, AreGridNames}
use Rattle.word_networks.specs.PlacedGrids.{passes}
use Rattle.word_networks.specs.Spelling.{AgreeOn}
use Rattle.word_networks.specs.Steps.{Step, named, names_after, step_nodes, new_names, AreDistinct}
use Rattle.word_networks.specs.Strands.{strand_of, strand_points}
use Rattle.word_networks.proofs.Fresh.{in_grid, grid_distinct, new_names-append, AreDistinct-append}
use Rattle.word_networks.proofs.Grids.{grid_is, grid_follows, grid_spells, names_after-append, step_nodes-append, Spells-append}
use Rattle.word_networks.proofs.PlacedGrids.{passes_spell}
use Rattle.word_networks.proofs.Strands.{member_strands, strand_top, halves}
use Rattle.strand_words.specs.Grids as words
use Rattle.cable_crossings.proofs.StepPieces.{AllTop, AllTop-append, IsRun, based, bottoms_kept, runs_anywhere}

-- ---- a grid with other names
rename_row : (r : ℕ → ℕ) (x y : ℕ) (v h v' h' : ℕ → ℕ → ℕ) (i j count columns : ℕ) → j + count ≤ columns → ((k : ℕ) → k < columns → r (v i k) ≡ v' i k) → ((k : ℕ) → k < columns → r (v (i + 1) k) ≡ v' (i + 1) k) →
    ((k : ℕ) → k ≤ columns → r (h i k) ≡ h' i k) → rename r (row_nodes x y v h i j count) ≡ row_nodes x y v' h' i j count
rename_row r x y v h v' h' i j zero columns l south north line = refl
rename_row r x y v h v' h' i j (suc count) columns l south north line =
    let ih = rename_row r x y v h v' h' i (j + 1) count columns (omega (arith, l)) south north line in
    let s = south j (omega (arith, l)) in
    let n = north j (omega (arith, l)) in
    let w = line j (omega (arith, l)) in
    let e = line (j + 1) (omega (arith, l)) in
    let rest = rename r (row_nodes x y v h i (j + 1) count) in
    ap₂ (λ p q. crossing x y p q (r (v (i + 1) j)) (r (h i j)) ∷ rest) s e
    ∙ ap₂ (λ p q. crossing x y (v' i j) (h' i (j + 1)) p q ∷ rest) n w
    ∙ ap (λ ns. crossing x y (v' i j) (h' i (j + 1)) (v' (i + 1) j) (h' i j) ∷ ns) ih

pub rename_grid : (r : ℕ → ℕ) (x y : ℕ) (v h v' h' : ℕ → ℕ → ℕ) (i rows total columns : ℕ) → i + rows ≤ total → ((k j : ℕ) → k ≤ total → j < columns → r (v k j) ≡ v' k j) →
    ((k j : ℕ) → k < total → j ≤ columns → r (h k j) ≡ h' k j) → rename r (grid_nodes x y v h i rows columns) ≡ grid_nodes x y v' h' i rows columns
rename_grid r x y v h v' h' i zero total columns l vs hs = refl
rename_grid r x y v h v' h' i (suc rows) total columns l vs hs =
    rename-append r (row_nodes x y v h i 0 columns) (grid_nodes x y v h (i + 1) rows columns)
    ∙ ap₂ (λ xs ys. xs ++ ys)
    (rename_row r x y v h v' h' i 0 columns columns (omega arith) (λ k. vs i k (omega (arith, l))) (λ k. vs (i + 1) k (omega (arith, l))) (λ k. hs i k (omega (arith, l))))
    (rename_grid r x y v h v' h' (i + 1) rows total columns (omega (arith, l)) vs hs)

-- ---- a grid's steps are on tops
row_tops : (n x y : ℕ) (v h : ℕ → ℕ → ℕ) (place i j count : ℕ) → place + count < n → AllTop n (row_steps x y v h place i j count)
row_tops n x y v h place i j zero l = tt
row_tops n x y v h place i j (suc count) l =
    ((place, place + 1, omega (arith, l), omega (arith, l), (λ e. omega (arith, e)), refl, refl), row_tops n x y v h (place + 1) i (j + 1) count (omega (arith, l)))

pub grid_tops : (n x y : ℕ) (v h : ℕ → ℕ → ℕ) (place i rows columns : ℕ) → place + rows + columns ≤ n → AllTop n (grid_steps x y v h place i rows columns)
grid_tops n x y v h place i zero columns l = tt
grid_tops n x y v h place i (suc rows) columns l =
    AllTop-append n (row_steps x y v h (place + rows) i 0 columns) (grid_steps x y v h place (i + 1) rows columns)
    (row_tops n x y v h (place + rows) i 0 columns (omega (arith, l))) (grid_tops n x y v h place (i + 1) rows columns (omega (arith, l)))

-- ---- arcs to new names
pub passes_tops : (n : ℕ) (new : ℕ → ℕ) (i count : ℕ) → i + count ≤ n → AllTop n (passes new i count)
passes_tops n new i zero l = tt
passes_tops n new i (suc count) l = ((i, omega (arith, l), refl), passes_tops n new (i + 1) count (omega (arith, l)))

named_same : (name : ℕ → ℕ) (p new x : ℕ) → x ≡ p → named name p new x ≡ new
named_same name p new x e = plain p new (name x) x e
  where
    plain : (p new old x : ℕ) → x ≡ p → cond (x == p) new old ≡ new
    plain p new old x e = grind (arith, nat_tests, e)

pub named_other : (name : ℕ → ℕ) (p new x : ℕ) → x ≢ p → named name p new x ≡ name x
named_other name p new x d = plain p new (name x) x d
  where
    plain : (p new old x : ℕ) → x ≢ p → cond (x == p) new old ≡ old
    plain p new old x d = grind (arith, nat_tests, d)

passes_low : (name new : ℕ → ℕ) (i count k : ℕ) → k < i → names_after name (passes new i count) (top k) ≡ name (top k)
passes_low name new i zero k l = refl
passes_low name new i (suc count) k l =
    passes_low (named name (top i) (new i)) new (i + 1) count k (omega (arith, l)) ∙ named_other name (top i) (new i) (top k) (λ e. omega (arith, e, l))

pub passes_at : (name new : ℕ → ℕ) (i count k : ℕ) → i ≤ k → k < i + count → names_after name (passes new i count) (top k) ≡ new k
passes_at name new i zero k l h = absurd (omega (arith, l, h))
passes_at name new i (suc count) k l h =
    ⊎_elim
    (λ (e : k ≡ i). passes_low (named name (top i) (new i)) new (i + 1) count k (omega (arith, e)) ∙ named_same name (top i) (new i) (top k) (ap top e) ∙ ap new (sym e))
    (λ (d : i + 1 ≤ k). passes_at (named name (top i) (new i)) new (i + 1) count k d (omega (arith, h)))
    (split i k l)
  where
    split : (i k : ℕ) → i ≤ k → (k ≡ i) ⊎ (i + 1 ≤ k)
    split i k l = elim (nat_le (i + 1) k) as (λ b. nat_le (i + 1) k ≡ b → (k ≡ i) ⊎ (i + 1 ≤ k)) [ true ↦ (λ t. inr (grind (arith, nat_tests, t))) | false ↦ (λ t. inl (grind (arith, nat_tests, t, l))) ] refl

pub in_passes : (new : ℕ → ℕ) (i count z : ℕ) → is_member ◌==◌ (new_names (passes new i count)) z ≡ true → (k : ℕ) × (i ≤ k) × (k < i + count) × (z ≡ new k)
in_passes new i zero z m = absurd (grind (arith, m))
in_passes new i (suc count) z m =
    ⊎_elim
    (λ t. (i, omega arith, omega arith, eqb-true z (new i) t))
    (λ t. (let r = in_passes new (i + 1) count z t in (r.0, (let l = r.1 in omega (arith, l)), (let l = r.2 in omega (arith, l)), r.3)))
    (or_cases (z == new i) (is_member ◌==◌ (new_names (passes new (i + 1) count)) z) m)

pub unless_member : (xs : List ℕ) (z : ℕ) → (is_member ◌==◌ xs z ≡ true → ⊥) → is_member ◌==◌ xs z ≡ false
unless_member xs z h = ⊎_elim (λ t. absurd (h t)) (λ t. t) (cases_Bool (is_member ◌==◌ xs z))

pub passes_distinct : (n : ℕ) (new : ℕ → ℕ) → ((j k : ℕ) → j < n → k < n → new j ≡ new k → j ≡ k) → (i count : ℕ) → i + count ≤ n → AreDistinct (new_names (passes new i count))
passes_distinct n new one i zero l = tt
passes_distinct n new one i (suc count) l = (
  unless_member (new_names (passes new (i + 1) count)) (new i) (λ m. (let r = in_passes new (i + 1) count (new i) m in let a = r.1 in let b = r.2 in let e = one i r.0 (omega (arith, l)) (omega (arith, b, l)) r.3 in omega (arith, a, e))),
  passes_distinct n new one (i + 1) count (omega (arith, l)),
)

-- arcs from f i to g i
abbrev pub arcs_between : (ℕ → ℕ) → (ℕ → ℕ) → ℕ → ℕ → List (ℕ × ℕ)
arcs_between f g i zero = []
arcs_between f g i (suc count) = (f i, g i) ∷ arcs_between f g (i + 1) count

pub passes_arcs : (r base new f g : ℕ → ℕ) (name : ℕ → ℕ) (n : ℕ) → ((k : ℕ) → k < n → r (base k) ≡ f k) → ((k : ℕ) → k < n → r (new k) ≡ g k) → (i count : ℕ) → i + count ≤ n →
    ((k : ℕ) → i ≤ k → name (top k) ≡ base k) → rename r (step_nodes name (passes new i count)) ≡ arcs_of (arcs_between f g i count)
passes_arcs r base new f g name n hf hg i zero l at = refl
passes_arcs r base new f g name n hf hg i (suc count) l at =
    ap₂ (λ p q. arc p q ∷ rename r (step_nodes (named name (top i) (new i)) (passes new (i + 1) count))) (ap r (at i (omega arith)) ∙ hf i (omega (arith, l))) (hg i (omega (arith, l)))
    ∙ ap (λ ns. arc (f i) (g i) ∷ ns)
    (passes_arcs r base new f g (named name (top i) (new i)) n hf hg (i + 1) count (omega (arith, l)) (λ k b. named_other name (top i) (new i) (top k) (λ e. omega (arith, e, b)) ∙ at k (omega (arith, b))))

-- ---- steps behind which strands have the names that passes give
module _ (n : ℕ) (base final : ℕ → ℕ) (one_final : (i j : ℕ) → i < n → j < n → final i ≡ final j → i ≡ j) (final_new : (i j : ℕ) → i < n → j < n → final i ≢ base j) where
  pub passes_run : IsRun n base (passes final 0 n)
  passes_run = record {
    tops = passes_tops n final 0 n (omega arith);
    distinct = passes_distinct n final one_final 0 n (omega arith);
    apart = λ z k m l e. (let r = in_passes final 0 n z m in final_new r.0 k (let h = r.2 in omega (arith, h)) l (sym r.3 ∙ e));
    behind = λ j k lj lk e. final_new j k lj lk (sym (passes_at (based base) final 0 n j (omega arith) (omega (arith, lj))) ∙ e);
  }

  pub passes_agree : (steps : List Step) → IsRun n base steps → ((k : ℕ) → k < n → names_after (based base) steps (top k) ≡ final k) →
      AgreeOn (strand_points 0 n) (names_after (based base) steps) (names_after (based base) (passes final 0 n))
  passes_agree steps run last x m =
      let l = (member_strands 0 n x m).1 in
      let k = strand_of x in
      ⊎_elim
      (λ e. ap (names_after (based base) steps) e ∙ last k (omega (arith, l)) ∙ sym (ap (names_after (based base) (passes final 0 n)) e ∙ passes_at (based base) final 0 n k (omega arith) (omega (arith, l))))
      (λ e. ap (names_after (based base) steps) e ∙ bottoms_kept n (based base) steps run.tops k ∙ sym (ap (names_after (based base) (passes final 0 n)) e ∙ bottoms_kept n (based base) (passes final 0 n) passes_run.tops k))
      (halves x)

-- ---- the two crossings, the second of them read from the east, at numbers that are written out
module _ (o u : ℕ) (some_o : 0 < o) (some_u : 0 < u) (few_o : o ≤ 8) (few_u : u ≤ 8) where
  abbrev tv : ℕ → ℕ → ℕ
  tv i j = 2 * (32 * j + i) + 1

  abbrev th : ℕ → ℕ → ℕ
  th i j = 2 * (32 * j + (u - 1 - i))

  abbrev wv : ℕ → ℕ → ℕ
  wv i j = 2 * (32 * (o + i) + j)

  abbrev wh : ℕ → ℕ → ℕ
  wh i j = 2 * (32 * (o - 1 - i) + (u + j)) + 1

  abbrev base : ℕ → ℕ
  base k = cond (nat_lt k u) (2 * k) (64 * (k - u) + 1)

  abbrev final : ℕ → ℕ
  final k = cond (nat_lt k u) (2 * (32 * (o + o) + k)) (2 * (32 * (k - u) + (u + u)) + 1)

  abbrev n : ℕ
  n = u + o

  -- a strand below u, or the k-th from u on
  low : (k x y : ℕ) → k < u → cond (nat_lt k u) x y ≡ x
  low k x y l = plain k u x y l
    where
      plain : (k u x y : ℕ) → k < u → cond (nat_lt k u) x y ≡ x
      plain k u x y l = grind (arith, nat_tests, l)

  high : (k x y : ℕ) → u ≤ k → cond (nat_lt k u) x y ≡ y
  high k x y l = plain k u x y l
    where
      plain : (k u x y : ℕ) → u ≤ k → cond (nat_lt k u) x y ≡ y
      plain k u x y l = grind (arith, nat_tests, l)

  sides : (k : ℕ) → (k < u) ⊎ (u ≤ k)
  sides k = plain k u
    where
      plain : (k u : ℕ) → (k < u) ⊎ (u ≤ k)
      plain k u = elim (nat_lt k u) as (λ b. nat_lt k u ≡ b → (k < u) ⊎ (u ≤ k)) [ true ↦ (λ t. inl (grind (arith, nat_tests, t))) | false ↦ (λ t. inr (grind (arith, nat_tests, t))) ] refl

  -- what the names before and behind are
  base_is : (k : ℕ) → k < n → ((k < u) × (base k ≡ 2 * k)) ⊎ ((u ≤ k) × (k - u < o) × (base k ≡ 64 * (k - u) + 1))
  base_is k l = ⊎_elim (λ h. inl (h, low k (2 * k) (64 * (k - u) + 1) h)) (λ h. inr (h, omega (arith, h, l), high k (2 * k) (64 * (k - u) + 1) h)) (sides k)

  final_is : (k : ℕ) → k < n → ((k < u) × (final k ≡ 2 * (32 * (o + o) + k))) ⊎ ((u ≤ k) × (k - u < o) × (final k ≡ 2 * (32 * (k - u) + (u + u)) + 1))
  final_is k l =
      ⊎_elim (λ h. inl (h, low k (2 * (32 * (o + o) + k)) (2 * (32 * (k - u) + (u + u)) + 1) h))
      (λ h. inr (h, omega (arith, h, l), high k (2 * (32 * (o + o) + k)) (2 * (32 * (k - u) + (u + u)) + 1) h)) (sides k)

  one : (i j : ℕ) → i < n → j < n → base i ≡ base j → i ≡ j
  one i j a b e =
      ⊎_elim
      (λ p. ⊎_elim (λ q. (let x = p.1 in let y = q.1 in omega (arith, e, x, y))) (λ q. absurd (let x = p.1 in let y = q.2 in omega (arith, e, x, y))) (base_is j b))
      (λ p. ⊎_elim (λ q. absurd (let x = p.2 in let y = q.1 in omega (arith, e, x, y))) (λ q. (let x = p.2 in let y = q.2 in let z = p.0 in let w = q.0 in omega (arith, e, x, y, z, w))) (base_is j b))
      (base_is i a)

  one_final : (i j : ℕ) → i < n → j < n → final i ≡ final j → i ≡ j
  one_final i j a b e =
      ⊎_elim
      (λ p. ⊎_elim (λ q. (let x = p.1 in let y = q.1 in omega (arith, e, x, y))) (λ q. absurd (let x = p.1 in let y = q.2 in omega (arith, e, x, y))) (final_is j b))
      (λ p. ⊎_elim (λ q. absurd (let x = p.2 in let y = q.1 in omega (arith, e, x, y))) (λ q. (let x = p.2 in let y = q.2 in let z = p.0 in let w = q.0 in omega (arith, e, x, y, z, w))) (final_is j b))
      (final_is i a)

  final_new : (i j : ℕ) → i < n → j < n → final i ≢ base j
  final_new i j a b e =
      ⊎_elim
      (λ p. ⊎_elim (λ q. (let x = p.1 in let y = q.1 in let z = q.0 in omega (arith, e, x, y, z, some_o, few_u))) (λ q. (let x = p.1 in let y = q.2 in omega (arith, e, x, y))) (base_is j b))
      (λ p. ⊎_elim (λ q. (let x = p.2 in let y = q.1 in omega (arith, e, x, y))) (λ q. (let x = p.2 in let y = q.2 in omega (arith, e, x, y, some_u, few_u))) (base_is j b))
      (final_is i a)

  abbrev name : ℕ → ℕ
  name = based base

  name_top : (k : ℕ) → name (top k) ≡ base k
  name_top k = ap base (strand_top k)

  fits_first : FitsGrid name tv th 0 0 u o
  fits_first = record {
    west = λ k r l h e. name_top k ∙ low k (2 * k) (64 * (k - u) + 1) (omega (arith, h)) ∙ omega (arith, e);
    south = λ k c l h e. name_top k ∙ high k (2 * k) (64 * (k - u) + 1) (omega (arith, l)) ∙ omega (arith, e);
  }

  module _ (a b : ℕ) where
    abbrev s1 : List Step
    s1 = grid_steps b a tv th 0 0 u o

    abbrev s2 : List Step
    s2 = grid_steps a b wv wh 0 0 o u

    abbrev steps : List Step
    steps = s1 ++ s2

    abbrev others : List Step
    others = passes final 0 n

    abbrev between : ℕ → ℕ
    between = names_after name s1

    follows_first : FollowsGrid name between tv th 0 0 u o
    follows_first = grid_follows b a tv th name 0 0 u o fits_first

    fits_second : FitsGrid between wv wh 0 0 o u
    fits_second = record {
      west = λ k r l h e. follows_first.north k k l h (omega arith) some_u ∙ omega (arith, e);
      south = λ k c l h e. follows_first.east k (u - 1 - c) l h (omega (arith, e, h)) some_o ∙ (let t : u - 1 - (u - 1 - c) ≡ c = omega (arith, e, h) in omega (arith, t));
    }

    follows_second : FollowsGrid between (names_after between s2) wv wh 0 0 o u
    follows_second = grid_follows a b wv wh between 0 0 o u fits_second

    last_top : (k : ℕ) → k < n → names_after name steps (top k) ≡ final k
    last_top k l =
        ap (λ (f : ℕ → ℕ). f (top k)) (names_after-append name s1 s2)
        ∙ ⊎_elim
        (λ p. (let c = p.0 in follows_second.north k k (omega arith) (omega (arith, c)) (omega arith) some_o ∙ (let e = p.1 in omega (arith, e))))
        (λ p. (let c = p.0 in follows_second.east k (u + o - 1 - k) (omega (arith, c)) (omega (arith, l)) (omega (arith, l)) some_u ∙ (let e = p.2 in let t : o - 1 - (u + o - 1 - k) ≡ k - u = omega (arith, c, l) in omega (arith, e, t))))
        (final_is k l)

    first_names_apart : AreGridNames tv th u o
    first_names_apart = record {
      vertical = λ i j k l i0 iu jo k0 ku lo e. (omega (arith, e, iu, ku, few_u), omega (arith, e, iu, ku, few_u));
      horizontal = λ i j k l iu j0 jo ku l0 lo e. (omega (arith, e, iu, ku, few_u), omega (arith, e, iu, ku, few_u));
      apart = λ i j k l i0 iu jo ku l0 lo e. omega (arith, e);
    }

    second_names_apart : AreGridNames wv wh o u
    second_names_apart = record {
      vertical = λ i j k l i0 iu jo k0 ku lo e. (omega (arith, e, jo, lo, few_u), omega (arith, e, jo, lo, few_u));
      horizontal = λ i j k l iu j0 jo ku l0 lo e. (omega (arith, e, iu, ku, jo, lo, few_u), omega (arith, e, iu, ku, jo, lo, few_u));
      apart = λ i j k l i0 iu jo ku l0 lo e. omega (arith, e);
    }

    -- the names that the first crossing gives, and the second
    abbrev First : ℕ → Type 0
    First z = ((k : ℕ) × (j : ℕ) × (0 < k) × (k ≤ u) × (j < o) × (z ≡ tv k j)) ⊎ ((k : ℕ) × (j : ℕ) × (0 ≤ k) × (k < u) × (0 < j) × (j ≤ o) × (z ≡ th k j))

    abbrev Second : ℕ → Type 0
    Second z = ((k : ℕ) × (j : ℕ) × (0 < k) × (k ≤ o) × (j < u) × (z ≡ wv k j)) ⊎ ((k : ℕ) × (j : ℕ) × (0 ≤ k) × (k < o) × (0 < j) × (j ≤ u) × (z ≡ wh k j))

    in_first : (z : ℕ) → is_member ◌==◌ (new_names s1) z ≡ true → First z
    in_first z m = in_grid b a tv th 0 0 u o u z (omega arith) m

    in_second : (z : ℕ) → is_member ◌==◌ (new_names s2) z ≡ true → Second z
    in_second z m = in_grid a b wv wh 0 0 o u o z (omega arith) m

    clash : (z : ℕ) → First z → Second z → ⊥
    clash z (inl p) (inl q) = let e = p.5 in let f = q.5 in omega (arith, e, f)
    clash z (inl p) (inr q) =
        let e = p.5 in let f = q.6 in let p3 = p.3 in let q4 = q.4 in let q5 = q.5 in omega (arith, e, f, p3, q4, q5, few_u)
    clash z (inr p) (inl q) = let e = p.6 in let f = q.5 in let p5 = p.5 in let q2 = q.2 in let q4 = q.4 in omega (arith, e, f, p5, q2, q4, few_u)
    clash z (inr p) (inr q) = let e = p.6 in let f = q.6 in omega (arith, e, f)

    first_apart : (z k : ℕ) → First z → k < n → z ≢ base k
    first_apart z k (inl p) l e =
        let f = p.5 in let p2 = p.2 in let p3 = p.3 in
        ⊎_elim (λ q. (let g = q.1 in omega (arith, e, f, g))) (λ q. (let g = q.2 in omega (arith, e, f, g, p2, p3, few_u))) (base_is k l)
    first_apart z k (inr p) l e =
        let f = p.6 in let p4 = p.4 in let p3 = p.3 in
        ⊎_elim (λ q. (let g = q.1 in let q0 = q.0 in omega (arith, e, f, g, p4, p3, q0, few_u))) (λ q. (let g = q.2 in omega (arith, e, f, g))) (base_is k l)

    second_apart : (z k : ℕ) → Second z → k < n → z ≢ base k
    second_apart z k (inl p) l e =
        let f = p.5 in let p2 = p.2 in
        ⊎_elim (λ q. (let g = q.1 in let q0 = q.0 in omega (arith, e, f, g, p2, q0, few_u))) (λ q. (let g = q.2 in omega (arith, e, f, g))) (base_is k l)
    second_apart z k (inr p) l e =
        let f = p.6 in let p4 = p.4 in let p5 = p.5 in
        ⊎_elim (λ q. (let g = q.1 in omega (arith, e, f, g))) (λ q. (let g = q.2 in omega (arith, e, f, g, p4, p5, few_u))) (base_is k l)

    split_new : (z : ℕ) → is_member ◌==◌ (new_names steps) z ≡ true → First z ⊎ Second z
    split_new z m =
        ⊎_elim (λ t. inl (in_first z t)) (λ t. inr (in_second z t))
        (or_cases (is_member ◌==◌ (new_names s1) z) (is_member ◌==◌ (new_names s2) z)
        (sym (is_member-append (new_names s1) (new_names s2) z) ∙ ap (λ ns. is_member ◌==◌ ns z) (sym (new_names-append s1 s2)) ∙ m))

    run : IsRun n base steps
    run = record {
      tops = AllTop-append n s1 s2 (grid_tops n b a tv th 0 0 u o (omega arith)) (grid_tops n a b wv wh 0 0 o u (omega arith));
      distinct = subst AreDistinct (sym (new_names-append s1 s2))
          (AreDistinct-append (new_names s1) (new_names s2) (grid_distinct b a tv th u o first_names_apart 0 0 u o (omega arith) (omega arith)) (grid_distinct a b wv wh o u second_names_apart 0 0 o u (omega arith) (omega arith))
          (λ z m. unless_member (new_names s2) z (λ t. clash z (in_first z m) (in_second z t))));
      apart = λ z k m l. ⊎_elim (λ p. first_apart z k p l) (λ p. second_apart z k p l) (split_new z m);
      behind = λ j k lj lk e. final_new j k lj lk (sym (last_top j lj) ∙ e);
    }

    other_run : IsRun n base others
    other_run = passes_run n base final one_final final_new

    agree : AgreeOn (strand_points 0 n) (names_after name steps) (names_after name others)
    agree = passes_agree n base final one_final final_new steps run last_top

    nodes_are : step_nodes name steps ≡ grid_nodes b a tv th 0 u o ++ grid_nodes a b wv wh 0 o u
    nodes_are = step_nodes-append name s1 s2 ∙ ap₂ (λ xs ys. xs ++ ys) (grid_is b a tv th name 0 0 u o fits_first) (grid_is a b wv wh between 0 0 o u fits_second)

  -- ---- at any names
  module _ (v1 h1 v2 h2 : ℕ → ℕ → ℕ) (meet_h : (i : ℕ) → i < o → h1 i 0 ≡ h2 (o - 1 - i) 0) (meet_v : (c : ℕ) → c < u → v1 0 c ≡ v2 o c) where
    abbrev at_v : ℕ → ℕ → ℕ
    at_v i j = cond (nat_le i o) (v2 i j) (v1 (i - o) j)

    abbrev at_h : ℕ → ℕ → ℕ
    at_h s t = cond (nat_le t u) (h2 s (u - t)) (h1 (o - 1 - s) (t - u))

    abbrev r : ℕ → ℕ
    r z = cond (z % 2 == 0) (at_v (z / 2 / 32) (z / 2 % 32)) (at_h (z / 2 / 32) (z / 2 % 32))

    r_even : (i j : ℕ) → j < 32 → r (2 * (32 * i + j)) ≡ at_v i j
    r_even i j l =
        let z = 2 * (32 * i + j) in
        let e : z % 2 ≡ 0 = omega arith in
        let q : z / 2 / 32 ≡ i = omega (arith, l) in
        let p : z / 2 % 32 ≡ j = omega (arith, l) in
        ap (λ k. cond (k == 0) (at_v (z / 2 / 32) (z / 2 % 32)) (at_h (z / 2 / 32) (z / 2 % 32))) e ∙ ap₂ at_v q p

    r_odd : (i j : ℕ) → j < 32 → r (2 * (32 * i + j) + 1) ≡ at_h i j
    r_odd i j l =
        let z = 2 * (32 * i + j) + 1 in
        let e : z % 2 ≡ 1 = omega arith in
        let q : z / 2 / 32 ≡ i = omega (arith, l) in
        let p : z / 2 % 32 ≡ j = omega (arith, l) in
        ap (λ k. cond (k == 0) (at_v (z / 2 / 32) (z / 2 % 32)) (at_h (z / 2 / 32) (z / 2 % 32))) e ∙ ap₂ at_h q p

    in_le : (i k x y : ℕ) → i ≤ k → cond (nat_le i k) x y ≡ x
    in_le i k x y l = plain i k x y l
      where
        plain : (i k x y : ℕ) → i ≤ k → cond (nat_le i k) x y ≡ x
        plain i k x y l = grind (arith, nat_tests, l)

    out_le : (i k x y : ℕ) → k < i → cond (nat_le i k) x y ≡ y
    out_le i k x y l = plain i k x y l
      where
        plain : (i k x y : ℕ) → k < i → cond (nat_le i k) x y ≡ y
        plain i k x y l = grind (arith, nat_tests, l)

    abbrev pub turned_v : ℕ → ℕ → ℕ
    turned_v i j = h2 j (u - i)

    abbrev pub turned_h : ℕ → ℕ → ℕ
    turned_h i j = v2 j (u - 1 - i)

    tv_is : (i j : ℕ) → i ≤ u → j < o → r (tv i j) ≡ turned_v i j
    tv_is i j l h = r_odd j i (omega (arith, l, few_u)) ∙ in_le i u (h2 j (u - i)) (h1 (o - 1 - j) (i - u)) l

    th_is : (i j : ℕ) → i < u → j ≤ o → r (th i j) ≡ turned_h i j
    th_is i j l h = r_even j (u - 1 - i) (omega (arith, l, few_u)) ∙ in_le j o (v2 j (u - 1 - i)) (v1 (j - o) (u - 1 - i)) h

    wv_is : (i j : ℕ) → i ≤ o → j < u → r (wv i j) ≡ v1 i j
    wv_is zero j l h =
        let e : o + 0 ≡ o = omega arith in
        r_even (o + 0) j (omega (arith, h, few_u)) ∙ ap (λ k. at_v k j) e ∙ in_le o o (v2 o j) (v1 (o - o) j) (omega arith) ∙ sym (meet_v j h)
    wv_is (suc i) j l h =
        let e : o + suc i - o ≡ suc i = omega arith in
        r_even (o + suc i) j (omega (arith, h, few_u)) ∙ out_le (o + suc i) o (v2 (o + suc i) j) (v1 (o + suc i - o) j) (omega arith) ∙ ap (λ k. v1 k j) e

    wh_is : (i j : ℕ) → i < o → j ≤ u → r (wh i j) ≡ h1 i j
    wh_is i zero l h =
        let e : u - (u + 0) ≡ 0 = omega arith in
        r_odd (o - 1 - i) (u + 0) (omega (arith, few_u)) ∙ in_le (u + 0) u (h2 (o - 1 - i) (u - (u + 0))) (h1 (o - 1 - (o - 1 - i)) (u + 0 - u)) (omega arith)
        ∙ ap (h2 (o - 1 - i)) e ∙ sym (meet_h i l)
    wh_is i (suc j) l h =
        let e : u + suc j - u ≡ suc j = omega arith in
        let f : o - 1 - (o - 1 - i) ≡ i = omega (arith, l) in
        r_odd (o - 1 - i) (u + suc j) (omega (arith, h, few_u)) ∙ out_le (u + suc j) u (h2 (o - 1 - i) (u - (u + suc j))) (h1 (o - 1 - (o - 1 - i)) (u + suc j - u)) (omega arith)
        ∙ ap₂ h1 f e

    -- the strands before and behind
    abbrev pub from : ℕ → ℕ
    from k = cond (nat_lt k u) (v2 0 k) (h2 (k - u) u)

    abbrev pub to : ℕ → ℕ
    to k = cond (nat_lt k u) (v1 o k) (h1 (o - 1 - (k - u)) u)

    from_is : (k : ℕ) → k < n → r (base k) ≡ from k
    from_is k l =
        ⊎_elim
        (λ p. (
        let e : base k ≡ th (u - 1 - k) 0 = p.1 ∙ (let h = p.0 in let t : u - 1 - (u - 1 - k) ≡ k = omega (arith, h) in omega (arith, t)) in
        let t : u - 1 - (u - 1 - k) ≡ k = (let h = p.0 in omega (arith, h)) in
        ap r e ∙ th_is (u - 1 - k) 0 (omega (arith, some_u)) (omega arith) ∙ ap (v2 0) t ∙ sym (low k (v2 0 k) (h2 (k - u) u) p.0)))
        (λ p. (
        let e : base k ≡ tv 0 (k - u) = p.2 ∙ omega arith in
        let whole : u - 0 ≡ u = omega arith in
        ap r e ∙ tv_is 0 (k - u) (omega arith) p.1 ∙ ap (h2 (k - u)) whole ∙ sym (high k (v2 0 k) (h2 (k - u) u) p.0)))
        (base_is k l)

    to_is : (k : ℕ) → k < n → r (final k) ≡ to k
    to_is k l =
        ⊎_elim
        (λ p. ap r p.1 ∙ wv_is o k (omega arith) p.0 ∙ sym (low k (v1 o k) (h1 (o - 1 - (k - u)) u) p.0))
        (λ p. (
        let h = p.1 in
        let t : o - 1 - (o - 1 - (k - u)) ≡ k - u = omega (arith, h) in
        let e : final k ≡ wh (o - 1 - (k - u)) u = p.2 ∙ omega (arith, t) in
        ap r e ∙ wh_is (o - 1 - (k - u)) u (omega (arith, some_o)) (omega arith) ∙ sym (high k (v1 o k) (h1 (o - 1 - (k - u)) u) p.0)))
        (final_is k l)

    abbrev pub pairs : List (ℕ × ℕ)
    pairs = arcs_between from to 0 n

    module _ (m a b delta free : ℕ) (numbers : AreSkeinNumbers m a b delta) (rest : List Node) (ok : All IsNode rest) where
      abbrev pub two : List Node
      two = grid_nodes b a turned_v turned_h 0 u o ++ grid_nodes a b v1 h1 0 o u

      two_are : rename r (step_nodes name (steps a b)) ≡ two
      two_are =
          ap (rename r) (nodes_are a b)
          ∙ rename-append r (grid_nodes b a tv th 0 u o) (grid_nodes a b wv wh 0 o u)
          ∙ ap₂ (λ xs ys. xs ++ ys) (rename_grid r b a tv th turned_v turned_h 0 u u o (omega arith) tv_is th_is) (rename_grid r a b wv wh v1 h1 0 o o u (omega arith) wv_is wh_is)

      arcs_are : rename r (step_nodes name (others a b)) ≡ arcs_of pairs
      arcs_are = passes_arcs r base final from to name n from_is to_is 0 n (omega arith) (λ k l. name_top k)

      -- TWO BUNDLES ARE PULLED APART
      pub bundle_bigon_turned : ArePaired (names_of two) (names_of two ++ names_of rest) → ArePaired (names_of (arcs_of pairs)) (names_of (arcs_of pairs) ++ names_of rest) →
          value m delta record { nodes = two ++ rest; free_loops = free } ≡ value m delta record { nodes = arcs_of pairs ++ rest; free_loops = free }
      bundle_bigon_turned old_pairs new_pairs =
          let P : List ℕ → Type 0 = λ ns. ArePaired ns (ns ++ names_of rest) in
          let old_names : map r (names_of (step_nodes name (steps a b))) ≡ names_of two = sym (names_of-rename r (step_nodes name (steps a b))) ∙ ap names_of two_are in
          let new_names_are : map r (names_of (step_nodes name (others a b))) ≡ names_of (arcs_of pairs) = sym (names_of-rename r (step_nodes name (others a b))) ∙ ap names_of arcs_are in
          let word = words.grid a b false 0 u o ++ words.grid a b true 0 o u in
          ap (λ ns. value m delta record { nodes = ns ++ rest; free_loops = free }) (sym two_are)
          ∙ runs_anywhere n base one m delta free word [] (steps a b) (others a b) r rest (bundle_second_move m a b delta 0 u o false numbers)
          (Spells-append (words.grid a b false 0 u o) (words.grid a b true 0 o u) (s1 a b) (s2 a b) (grid_spells a b false tv th 0 0 u o) (grid_spells a b true wv wh 0 0 o u))
          (passes_spell final 0 n) (run a b) (other_run a b) (agree a b) ok (subst P (sym old_names) old_pairs) (subst P (sym new_names_are) new_pairs)
          ∙ ap (λ ns. value m delta record { nodes = ns ++ rest; free_loops = free }) arcs_are
