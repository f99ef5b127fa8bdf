-- Vertices of two names taken away one after another, while a mark on the names is kept: names that are paired have the same mark.
use Rattle.std.proofs.Common.{◌≡◌, ◌≢◌, ℕ, ◌+◌, ◌*◌, ◌==◌, Bool, true, false, cond, List, [], ◌∷◌, refl, sym, ap, ◌∙◌, subst, arith, ⊎_elim}
use Rattle.std.specs.List.{range_with_len}
use Rattle.std.specs.Set.{is_member}
use Rattle.std.proofs.lemmas.Bool.{eq-eqb, eqb-true, cases_Bool, or_cases, or_left, or_right}
use Rattle.graph_parts.specs.Parts.{part_count}
use Rattle.graph_parts.specs.Walks.{Joined}
use Rattle.rotation_parts.specs.Drawings.{IsVertexOfTwo, passed}
use Rattle.rotation_parts.specs.Rotations.{exchanged, steps, cycle_count, pair_graph, IsPermutation, IsPairing, IsPairingOf, IsFlatWith, paired_edges}
use Rattle.rotation_parts.proofs.CutVertices.{cut_vertex, cut_permutes}
use Rattle.rotation_parts.proofs.Exchange.{exchange_splits}
use Rattle.rotation_parts.proofs.OtherNames.{renamed_counts}
use Rattle.rotation_parts.proofs.PairForms.{pair_form, edges_among}
use Rattle.rotation_parts.proofs.PassedVertices.{passed_vertex, passed_pairing}

-- the names with those of the vertices before them
abbrev pub with_vertices : List (ℕ × ℕ) → List ℕ → List ℕ
with_vertices [] names = names
with_vertices (pair ∷ pairs) names = pair.0 ∷ pair.1 ∷ with_vertices pairs names

-- they are vertices of two names each, beside the names
abbrev pub AreVertices : List (ℕ × ℕ) → List ℕ → (ℕ → ℕ) → Type 0
AreVertices [] names turn = (x : ℕ) → is_member ◌==◌ names x ≡ true → is_member ◌==◌ names (turn x) ≡ true
AreVertices (pair ∷ pairs) names turn =
    ((is_member ◌==◌ (with_vertices pairs names) pair.0 ≡ false) × (is_member ◌==◌ (with_vertices pairs names) pair.1 ≡ false) × (pair.0 ≢ pair.1) × (turn pair.0 ≡ pair.1) × (turn pair.1 ≡ pair.0))
    × AreVertices pairs names turn

-- both names of each have one mark
abbrev pub HaveOneMark : (ℕ → ℕ) → List (ℕ × ℕ) → Type 0
HaveOneMark mark [] = Unit {0}
HaveOneMark mark (pair ∷ pairs) = (mark pair.0 ≡ mark pair.1) × HaveOneMark mark pairs

vertices_turn : (pairs : List (ℕ × ℕ)) (names : List ℕ) (turn : ℕ → ℕ) → AreVertices pairs names turn → (x : ℕ) → is_member ◌==◌ (with_vertices pairs names) x ≡ true → is_member ◌==◌ (with_vertices pairs names) (turn x) ≡ true
vertices_turn [] names turn h x m = h x m
vertices_turn (pair ∷ pairs) names turn h x m =
    let rest = with_vertices pairs names in
    let u = pair.0 in
    let v = pair.1 in
    let H = is_member ◌==◌ (u ∷ v ∷ rest) in
    let has_u : H u ≡ true = or_left (u == u) (is_member ◌==◌ (v ∷ rest) u) (eq-eqb u u refl) in
    let has_v : H v ≡ true = or_right (v == u) (is_member ◌==◌ (v ∷ rest) v) (or_left (v == v) (is_member ◌==◌ rest v) (eq-eqb v v refl)) in
    ⊎_elim (λ t. ap (λ z. H (turn z)) (eqb-true x u t) ∙ (ap H h.0.3 ∙ has_v))
    (λ m1. ⊎_elim (λ t. ap (λ z. H (turn z)) (eqb-true x v t) ∙ (ap H h.0.4 ∙ has_u))
    (λ m2. or_right (turn x == u) (is_member ◌==◌ (v ∷ rest) (turn x)) (or_right (turn x == v) (is_member ◌==◌ rest (turn x)) (vertices_turn pairs names turn h.1 x m2)))
    (or_cases (x == v) (is_member ◌==◌ rest x) m1))
    (or_cases (x == u) (is_member ◌==◌ (v ∷ rest) x) m)

-- what is left
pub record Passed (m : ℕ) (names : List ℕ) (turn mark : ℕ → ℕ) : Type 0 where
  pub drawn : ℕ → ℕ
  pub pairing : IsPairingOf names drawn
  pub marks : (x : ℕ) → is_member ◌==◌ names x ≡ true → mark (drawn x) ≡ mark x
  pub flat : IsFlatWith m names turn drawn

pub passed_all : (m : ℕ) (pairs : List (ℕ × ℕ)) (names : List ℕ) (turn other mark : ℕ → ℕ) → AreVertices pairs names turn → HaveOneMark mark pairs → IsPairingOf (with_vertices pairs names) other →
    ((x : ℕ) → is_member ◌==◌ (with_vertices pairs names) x ≡ true → mark (other x) ≡ mark x) → IsFlatWith m (with_vertices pairs names) turn other → Passed m names turn mark
passed_all m [] names turn other mark vs one pairing marks flat = record { drawn = other; pairing = pairing; marks = marks; flat = flat }
passed_all m (pair ∷ pairs) names turn other mark vs one pairing marks flat =
    let rest = with_vertices pairs names in
    let u = pair.0 in
    let v = pair.1 in
    let H = is_member ◌==◌ (u ∷ v ∷ rest) in
    let has_u : H u ≡ true = or_left (u == u) (is_member ◌==◌ (v ∷ rest) u) (eq-eqb u u refl) in
    let has_v : H v ≡ true = or_right (v == u) (is_member ◌==◌ (v ∷ rest) v) (or_left (v == v) (is_member ◌==◌ rest v) (eq-eqb v v refl)) in
    let two : IsVertexOfTwo rest turn other u v =
    record { new_u = vs.0.0; new_v = vs.0.1; distinct = vs.0.2; tu = vs.0.3; tv = vs.0.4; turn_in = vertices_turn pairs names turn vs.1; pairing = pairing } in
    let old : (x : ℕ) → is_member ◌==◌ rest x ≡ true → H x ≡ true = λ x m. or_right (x == u) (is_member ◌==◌ (v ∷ rest) x) (or_right (x == v) (is_member ◌==◌ rest x) m) in
    let P : ℕ → Bool → Bool → Type 0 = λ x s t. mark (cond s (other v) (cond t (other u) (other x))) ≡ mark x in
    let kept : (x : ℕ) → is_member ◌==◌ rest x ≡ true → mark (passed u v other x) ≡ mark x = λ x m.
    ⊎_elim
    (λ t.
    let e = eqb-true (other x) u t in
    let Q : Bool → Type 0 = λ s. P x s (other x == v) in
    subst Q (sym t) (marks v has_v ∙ (sym one.0 ∙ (ap mark (sym e) ∙ marks x (old x m)))))
    (λ n. ⊎_elim
    (λ t.
    let e = eqb-true (other x) v t in
    let Q : Bool → Type 0 = λ s. P x s (other x == v) in
    let R : Bool → Type 0 = λ s. P x false s in
    subst Q (sym n) (subst R (sym t) (marks u has_u ∙ (one.0 ∙ (ap mark (sym e) ∙ marks x (old x m))))))
    (λ o.
    let Q : Bool → Type 0 = λ s. P x s (other x == v) in
    let R : Bool → Type 0 = λ s. P x false s in
    subst Q (sym n) (subst R (sym o) (marks x (old x m))))
    (cases_Bool (other x == v)))
    (cases_Bool (other x == u)) in
    passed_all m pairs names turn (passed u v other) mark vs.1 one.1 (passed_pairing rest turn other u v two) kept ((passed_vertex m rest turn other u v two).0 flat)

-- the order of the names does not matter
pub reordered_flat : (m : ℕ) (names others : List ℕ) (turn other : ℕ → ℕ) → ((x : ℕ) → is_member ◌==◌ names x ≡ is_member ◌==◌ others x) →
    ((x : ℕ) → is_member ◌==◌ names x ≡ true → is_member ◌==◌ names (turn x) ≡ true) → ((x : ℕ) → is_member ◌==◌ names x ≡ true → is_member ◌==◌ names (other x) ≡ true) →
    IsFlatWith m names turn other → IsFlatWith m others turn other
reordered_flat m names others turn other same turn_in other_in flat =
    let r = renamed_counts names others turn other turn other (λ x. x) (λ x. x) record {
      onto_others = λ x m. sym (same x) ∙ m;
      into_names = λ x m. same x ∙ m;
      new_again = λ x m. refl;
      old_again = λ x m. refl;
      turn_in = turn_in;
      other_in = other_in;
      turns = λ x m. refl;
      pairs = λ x m. refl;
    } in
    let f = r.0 in
    let k = r.1 in
    omega (arith, flat, f, k)

-- A vertex that is cut: one vertex more, and 2 (V + F) = n + 4k again.
pub record IsCut (n : ℕ) (turn before other : ℕ → ℕ) : Type 0 where
  pub permutes : IsPermutation (range_with_len 0 n) turn before
  pub form : 2 * (cycle_count (range_with_len 0 n) turn + cycle_count (range_with_len 0 n) (λ x. turn (other x))) ≡ n + 4 * part_count (range_with_len 0 n) (pair_graph (range_with_len 0 n) turn other)

pub cut_form : (n : ℕ) (turn before other : ℕ → ℕ) (a b : ℕ) → IsPairing n other → IsCut n turn before other →
    is_member ◌==◌ (range_with_len 0 n) a ≡ true → is_member ◌==◌ (range_with_len 0 n) b ≡ true → a ≢ b → Joined (steps turn (range_with_len 0 n)) a b →
    IsCut n (λ x. turn (exchanged a b x)) (λ x. exchanged a b (before x)) other × (cycle_count (range_with_len 0 n) (λ x. turn (exchanged a b x)) ≡ cycle_count (range_with_len 0 n) turn + 1)
cut_form n turn before other a b is cut ma mb ne j =
    let all = range_with_len 0 n in
    let permutes = cut_permutes all turn before cut.permutes a b ma mb in
    let flat = (pair_form n turn before other cut.permutes is).1 cut.form in
    let flat_after = cut_vertex all turn before a b (paired_edges other all) cut.permutes (edges_among n turn before other cut.permutes is) ma mb ne j flat in (
      record {
        permutes = permutes;
        form = (pair_form n (λ x. turn (exchanged a b x)) (λ x. exchanged a b (before x)) other permutes is).0 flat_after;
      },
      exchange_splits all turn before a b cut.permutes ma mb ne j,
    )
