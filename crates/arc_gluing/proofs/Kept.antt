-- Labels that edges keep: names that edges join have one label, in every labelling that is equal at the ends of each edge.
-- So two lists of edges that keep each other's labels tell the same names apart: the pairs of a pairing, each once or twice.
use Rattle.std.proofs.Common.{◌≡◌, ◌≢◌, ℕ, zero, suc, ◌≤◌, ◌<◌, nat_lt, Bool, true, false, cond, ◌==◌, ⊎_elim, List, [], ◌∷◌, ◌++◌, map, length, slice_index, zip, Contains, sym, ap, subst, ◌∙◌, arith}
use Rattle.std.specs.Set.{is_member}
use Rattle.std.proofs.lemmas.Bool.{eq-eqb, eqb-true, cases_Bool}
use Rattle.std.proofs.lemmas.Bool.Decides.{nat_tests}
use Rattle.graph_parts.proofs.Distinct.{distinct_count-le_from_within}
use Rattle.graph_parts.proofs.Walks.{labels-from_Joined, Contains-head, Contains-later}
use Rattle.graph_parts.specs.Labels.{relabel, label_after, label_of, label_count}
use Rattle.graph_parts.specs.Walks.{along}
use Rattle.state_sums.specs.Networks.{IsPairing}
use Rattle.arc_gluing.specs.Mates.{pairs_below}
use Rattle.arc_gluing.specs.Pairings.{pair_edges}
use Rattle.graph_parts.proofs.PartLaws.{within_labels}

abbrev pub Keeps : (ℕ → ℕ) → List (ℕ × ℕ) → Type 0
Keeps l [] = Unit {0}
Keeps l (e ∷ es) = (l e.0 ≡ l e.1) × Keeps l es

pub Keeps-append : (l : ℕ → ℕ) (es fs : List (ℕ × ℕ)) → Keeps l es → Keeps l fs → Keeps l (es ++ fs)
Keeps-append l [] fs h k = k
Keeps-append l (e ∷ es) fs h k = (h.0, Keeps-append l es fs h.1 k)

pub Keeps-front : (l : ℕ → ℕ) (es fs : List (ℕ × ℕ)) → Keeps l (es ++ fs) → Keeps l es
Keeps-front l [] fs h = tt
Keeps-front l (e ∷ es) fs h = (h.0, Keeps-front l es fs h.1)

pub Keeps-rest : (l : ℕ → ℕ) (es fs : List (ℕ × ℕ)) → Keeps l (es ++ fs) → Keeps l fs
Keeps-rest l [] fs h = h
Keeps-rest l (e ∷ es) fs h = Keeps-rest l es fs h.1

Keeps-contained : (l : ℕ → ℕ) (es : List (ℕ × ℕ)) → ((e : ℕ × ℕ) → Contains es e → l e.0 ≡ l e.1) → Keeps l es
Keeps-contained l [] h = tt
Keeps-contained l (e ∷ es) h = (h e (Contains-head e es), Keeps-contained l es (λ f c. h f (Contains-later e f es c)))

-- the labels after the edges are kept by each of them
pub Keeps-own : (es : List (ℕ × ℕ)) → Keeps (label_of es) es
Keeps-own es = Keeps-contained (label_of es) es (λ e c. labels-from_Joined es (along c))

kept_after : (l : ℕ → ℕ) (es : List (ℕ × ℕ)) (m : ℕ → ℕ) → ((u v : ℕ) → m u ≡ m v → l u ≡ l v) → Keeps l es → (u v : ℕ) → label_after m es u ≡ label_after m es v → l u ≡ l v
kept_after l [] m h k u v e = h u v e
kept_after l (f ∷ es) m h k u v e =
    kept_after l es (relabel m f)
    (λ w z t. let a = h w z in let b = h w f.0 in let c = h z f.0 in let d = h w f.1 in let g = h z f.1 in let s = k.0 in grind (arith, nat_tests, a, b, c, d, g, s, t)) k.1 u v e

-- WHAT KEEPS THE EDGES TELLS APART NO NAMES THAT THEY JOIN
pub kept : (l : ℕ → ℕ) (es : List (ℕ × ℕ)) → Keeps l es → (u v : ℕ) → label_of es u ≡ label_of es v → l u ≡ l v
kept l es k u v e = kept_after l es (λ x. x) (λ w z t. ap l t) k u v e

-- ---- the two forms of a pairing's edges
pub Keeps-zip : (l f : ℕ → ℕ) (xs ys : List ℕ) → ((i : ℕ) → i < length xs → i < length ys → l (slice_index xs i) ≡ l (f (slice_index ys i))) → Keeps l (zip xs (map f ys))
Keeps-zip l f [] ys h = tt
Keeps-zip l f (x ∷ xs) [] h = tt
Keeps-zip l f (x ∷ xs) (y ∷ ys) h = (h 0 (omega arith) (omega arith), Keeps-zip l f xs ys (λ i p q. h (suc i) (omega arith) (omega arith)))

pub zip-Keeps : (l f : ℕ → ℕ) (xs ys : List ℕ) → Keeps l (zip xs (map f ys)) → (i : ℕ) → i < length xs → i < length ys → l (slice_index xs i) ≡ l (f (slice_index ys i))
zip-Keeps l f [] ys h i p q = absurd (omega arith)
zip-Keeps l f (x ∷ xs) [] h i p q = absurd (omega arith)
zip-Keeps l f (x ∷ xs) (y ∷ ys) h zero p q = h.0
zip-Keeps l f (x ∷ xs) (y ∷ ys) h (suc i) p q = zip-Keeps l f xs ys h.1 i (omega arith) (omega arith)

module _ (l : ℕ → ℕ) (names partner : List ℕ) where
  abbrev more_at : ℕ → Bool → List (ℕ × ℕ)
  more_at i b = cond b ((slice_index names i, slice_index names (slice_index partner i)) ∷ []) []

  pub Keeps-below : (n : ℕ) → ((i : ℕ) → i < n → l (slice_index names i) ≡ l (slice_index names (slice_index partner i))) → Keeps l (pairs_below names partner n)
  Keeps-below zero h = tt
  Keeps-below (suc n) h =
      Keeps-append l (pairs_below names partner n) (more_at n (nat_lt n (slice_index partner n))) (Keeps-below n (λ i p. h i (omega arith)))
      (elim (nat_lt n (slice_index partner n)) as (λ b. Keeps l (more_at n b)) [ true ↦ (h n (omega arith), tt) | false ↦ tt ])

  pub below-Keeps : (n : ℕ) → Keeps l (pairs_below names partner n) → (i : ℕ) → i < n → i < slice_index partner i → l (slice_index names i) ≡ l (slice_index names (slice_index partner i))
  below-Keeps zero k i p q = absurd (omega arith)
  below-Keeps (suc n) k i p q =
      ⊎_elim
      (λ t. let e : i ≡ n = eqb-true i n t in
      let P : ℕ → Type 0 = λ j. l (slice_index names j) ≡ l (slice_index names (slice_index partner j)) in
      let Q : ℕ → Type 0 = λ j. nat_lt j (slice_index partner j) ≡ true in
      let yes : nat_lt n (slice_index partner n) ≡ true = subst Q e (grind (arith, nat_tests, q)) in
      let last = Keeps-rest l (pairs_below names partner n) (more_at n (nat_lt n (slice_index partner n))) k in
      let R : Bool → Type 0 = λ b. Keeps l (more_at n b) in
      let at = subst R yes last in
      subst P (sym e) at.0)
      (λ f. below-Keeps n (Keeps-front l (pairs_below names partner n) (more_at n (nat_lt n (slice_index partner n))) k) i
      (let ne : i ≢ n = (λ t. let c = eq-eqb i n t in grind (arith, c, f)) in omega (arith, ne)) q)
      (cases_Bool (i == n))

  module _ (h : IsPairing partner) (same : length partner ≡ length names) where
    -- THE PAIRS OF A PAIRING, EACH ONCE OR TWICE
    pub Keeps-both : Keeps l (pairs_below names partner (length partner)) → Keeps l (pair_edges names partner)
    Keeps-both k =
        Keeps-zip l (slice_index names) names partner (λ i p q.
        let a = below-Keeps (length partner) k i q in
        let b = below-Keeps (length partner) k (slice_index partner i) (h.within i q) in
        let e = h.back i q in let d = h.apart i q in
        let f = ap (λ j. l (slice_index names j)) e in
        ⊎_elim (λ t. a (let z = t in grind (arith, nat_tests, z)))
        (λ t. sym (b (let z = t in grind (arith, nat_tests, z, e, d)) ∙ f))
        (cases_Bool (nat_lt i (slice_index partner i))))

    pub Keeps-once : Keeps l (pair_edges names partner) → Keeps l (pairs_below names partner (length partner))
    Keeps-once k = Keeps-below (length partner) (λ i p. zip-Keeps l (slice_index names) names partner k i (omega arith) p)

pub label_count-within : (l : ℕ → ℕ) (xs ys : List ℕ) → ((x : ℕ) → is_member ◌==◌ xs x ≡ true → is_member ◌==◌ ys x ≡ true) → label_count l xs ≤ label_count l ys
label_count-within l xs ys h = distinct_count-le_from_within (map l xs) (map l ys) (within_labels l xs ys h)
