-- The genus is never negative: edge by edge, each is an exchange that splits a face or joins two.
use Rattle.std.proofs.Common.{◌≡◌, ◌≢◌, ◌⊎◌, ◌↔◌, ℕ, ◌+◌, ◌*◌, ◌≤◌, ◌==◌, true, List, [], ◌∷◌, ◌++◌, length, refl, ap, ◌∙◌, subst, arith, ⊎_elim, inl, inr}
use Rattle.std.specs.Set.{is_member}
use Rattle.std.proofs.lemmas.Bool.{eq-eqb, eqb-true, cases_Bool}
use Rattle.std.proofs.lemmas.Bool.Decides.{nat_tests}
use Rattle.std.proofs.lemmas.List.Elements.{Contains-append_left, Contains-append_right}
use Rattle.graph_parts.specs.Ends.{AreAmong}
use Rattle.graph_parts.specs.Labels.{label_of}
use Rattle.graph_parts.specs.Parts.{part_count}
use Rattle.graph_parts.specs.Walks.{Joined, along, stay, back, on}
use Rattle.graph_parts.proofs.Ends.{EndsAre-append}
use Rattle.graph_parts.proofs.PartLaws.{joined_edge, apart_edge}
use Rattle.graph_parts.proofs.Walks.{labels-from_Joined, Joined-from_labels}
use Rattle.rotation_parts.specs.Laws.{GenusLaw, WithoutEdgeLaw, OneMoreEdgeLaw}
use Rattle.rotation_parts.specs.Rotations.{exchanged, across, steps, cycle_count, follower, faces_of, pieces_of, IsFlat, IsPermutation}
use Rattle.rotation_parts.proofs.Exchange.{exchange_splits, exchange_merges}
use Rattle.rotation_parts.proofs.Steps.{same_steps, walks, equal_joined, longer, first_edge, step_walks, step_along, steps_among}

pub joined_or_apart : (es : List (ℕ × ℕ)) (x y : ℕ) → Joined es x y ⊎ (Joined es x y → ⊥)
joined_or_apart es x y =
    ⊎_elim (λ t. inl (Joined-from_labels es x y (eqb-true (label_of es x) (label_of es y) t)))
    (λ f. inr (λ j. let e = eq-eqb (label_of es x) (label_of es y) (labels-from_Joined es j) in grind (arith, e, f)))
    (cases_Bool (label_of es x == label_of es y))

-- ---- exchanges
module _ (names : List ℕ) where
  pub exchanged_within : (a b x : ℕ) → is_member ◌==◌ names a ≡ true → is_member ◌==◌ names b ≡ true → is_member ◌==◌ names x ≡ true → is_member ◌==◌ names (exchanged a b x) ≡ true
  exchanged_within a b x ma mb m =
      let P : ℕ → Type 0 = λ z. is_member ◌==◌ names z ≡ true in
      ⊎_elim (λ t. subst P (grind (arith, t)) mb)
      (λ n. ⊎_elim (λ t. subst P (grind (arith, n, t)) ma) (λ o. subst P (grind (arith, n, o)) m) (cases_Bool (x == b)))
      (cases_Bool (x == a))

pub exchanged_twice : (a b x : ℕ) → exchanged a b (exchanged a b x) ≡ x
exchanged_twice a b x = grind (arith, nat_tests)

-- across, backward
abbrev pub across_back : List (ℕ × ℕ) → ℕ → ℕ
across_back [] x = x
across_back (edge ∷ edges) x = exchanged edge.0 edge.1 (across_back edges x)

module _ (names : List ℕ) where
  pub across_within : (edges : List (ℕ × ℕ)) (x : ℕ) → AreAmong names edges → is_member ◌==◌ names x ≡ true → is_member ◌==◌ names (across edges x) ≡ true
  across_within [] x among m = m
  across_within (edge ∷ edges) x among m = across_within edges (exchanged edge.0 edge.1 x) among.2 (exchanged_within names edge.0 edge.1 x among.0 among.1 m)

  pub back_within : (edges : List (ℕ × ℕ)) (x : ℕ) → AreAmong names edges → is_member ◌==◌ names x ≡ true → is_member ◌==◌ names (across_back edges x) ≡ true
  back_within [] x among m = m
  back_within (edge ∷ edges) x among m = exchanged_within names edge.0 edge.1 (across_back edges x) among.0 among.1 (back_within edges x among.2 m)

pub there_and_back : (edges : List (ℕ × ℕ)) (x : ℕ) → across_back edges (across edges x) ≡ x
there_and_back [] x = refl
there_and_back (edge ∷ edges) x = ap (exchanged edge.0 edge.1) (there_and_back edges (exchanged edge.0 edge.1 x)) ∙ exchanged_twice edge.0 edge.1 x

pub back_and_there : (edges : List (ℕ × ℕ)) (x : ℕ) → across edges (across_back edges x) ≡ x
back_and_there [] x = refl
back_and_there (edge ∷ edges) x = ap (across edges) (exchanged_twice edge.0 edge.1 (across_back edges x)) ∙ back_and_there edges x

pub follower_permutes : (names : List ℕ) (turn before : ℕ → ℕ) (edges : List (ℕ × ℕ)) → IsPermutation names turn before → AreAmong names edges →
    IsPermutation names (follower turn edges) (λ x. across_back edges (before x))
follower_permutes names turn before edges is among = record {
  inside = λ x m. is.inside (across edges x) (across_within names edges x among m);
  inside_back = λ x m. back_within names edges (before x) among (is.inside_back x m);
  undone = λ x m. ap (across_back edges) (is.undone (across edges x) (across_within names edges x among m)) ∙ there_and_back edges x;
  done_again = λ x m. ap turn (back_and_there edges (before x)) ∙ is.done_again x m;
}

-- ---- a face lies in a piece
pub across_joined : (edges : List (ℕ × ℕ)) (x : ℕ) → Joined edges x (across edges x)
across_joined [] x = stay
across_joined (edge ∷ edges) x =
    let es = edge ∷ edges in
    let first : Joined es x (exchanged edge.0 edge.1 x) =
    (let one : Joined es edge.0 edge.1 = first_edge edge.0 edge.1 edges in
    ⊎_elim
    (λ t. on (equal_joined es x edge.0 (eqb-true x edge.0 t)) (on one (equal_joined es edge.1 (exchanged edge.0 edge.1 x) (grind (arith, t)))))
    (λ n. ⊎_elim
    (λ t. on (equal_joined es x edge.1 (eqb-true x edge.1 t)) (on (back one) (equal_joined es edge.0 (exchanged edge.0 edge.1 x) (grind (arith, t, n)))))
    (λ o. equal_joined es x (exchanged edge.0 edge.1 x) (grind (arith, n, o)))
    (cases_Bool (x == edge.1)))
    (cases_Bool (x == edge.0))) in
    on first (longer edge edges (across_joined edges (exchanged edge.0 edge.1 x)))

module _ (names : List ℕ) (turn before : ℕ → ℕ) (is : IsPermutation names turn before) where
  pub in_edges : (edges : List (ℕ × ℕ)) {x y : ℕ} → Joined edges x y → Joined (edges ++ steps turn names) x y
  in_edges edges j = walks edges (edges ++ steps turn names) (λ x y c. along (Contains-append_left edges (steps turn names) (x, y) c)) j

  pub in_turns : (edges : List (ℕ × ℕ)) {x y : ℕ} → Joined (steps turn names) x y → Joined (edges ++ steps turn names) x y
  in_turns edges j = walks (steps turn names) (edges ++ steps turn names) (λ x y c. along (Contains-append_right edges (steps turn names) (x, y) c)) j

  pub face_in_piece : (edges : List (ℕ × ℕ)) → AreAmong names edges → {x y : ℕ} → Joined (steps (follower turn edges) names) x y → Joined (edges ++ steps turn names) x y
  face_in_piece edges among j =
      step_walks (follower turn edges) names (edges ++ steps turn names)
      (λ x m. on (in_edges edges (across_joined edges x)) (in_turns edges (step_along turn names (across edges x) (across_within names edges x among m)))) j

  pub graph_among : (edges : List (ℕ × ℕ)) → AreAmong names edges → AreAmong names (edges ++ steps turn names)
  graph_among edges among = EndsAre-append (is_member ◌==◌ names) edges (steps turn names) among (steps_among turn names is.inside)

  -- WHAT ONE MORE EDGE DOES
  pub one_face : (a b : ℕ) (edges : List (ℕ × ℕ)) → AreAmong names ((a, b) ∷ edges) → a ≢ b → Joined (steps (follower turn edges) names) a b →
      (faces_of names turn ((a, b) ∷ edges) ≡ faces_of names turn edges + 1) × (pieces_of names turn ((a, b) ∷ edges) ≡ pieces_of names turn edges)
  one_face a b edges among ne j = (
    exchange_splits names (follower turn edges) (λ x. across_back edges (before x)) a b (follower_permutes names turn before edges is among.2) among.0 among.1 ne j,
    joined_edge names (edges ++ steps turn names) a b (among.0, among.1, graph_among edges among.2) (face_in_piece edges among.2 j),
  )

  pub two_faces : (a b : ℕ) (edges : List (ℕ × ℕ)) → AreAmong names ((a, b) ∷ edges) → a ≢ b → (Joined (steps (follower turn edges) names) a b → ⊥) →
      faces_of names turn ((a, b) ∷ edges) + 1 ≡ faces_of names turn edges
  two_faces a b edges among ne away =
      exchange_merges names (follower turn edges) (λ x. across_back edges (before x)) a b (follower_permutes names turn before edges is among.2) among.0 among.1 ne away

  pub one_piece : (a b : ℕ) (edges : List (ℕ × ℕ)) → AreAmong names ((a, b) ∷ edges) → Joined (edges ++ steps turn names) a b →
      pieces_of names turn ((a, b) ∷ edges) ≡ pieces_of names turn edges
  one_piece a b edges among j = joined_edge names (edges ++ steps turn names) a b (among.0, among.1, graph_among edges among.2) j

  pub two_pieces : (a b : ℕ) (edges : List (ℕ × ℕ)) → AreAmong names ((a, b) ∷ edges) → (Joined (edges ++ steps turn names) a b → ⊥) →
      pieces_of names turn ((a, b) ∷ edges) + 1 ≡ pieces_of names turn edges
  two_pieces a b edges among away = apart_edge names (edges ++ steps turn names) a b (among.0, among.1, graph_among edges among.2) away

  -- an edge from a name to itself changes nothing
  pub no_edge : (a b : ℕ) (edges : List (ℕ × ℕ)) → AreAmong names ((a, b) ∷ edges) → a ≡ b →
      (faces_of names turn ((a, b) ∷ edges) ≡ faces_of names turn edges) × (pieces_of names turn ((a, b) ∷ edges) ≡ pieces_of names turn edges)
  no_edge a b edges among same = (
    ap (part_count names) (same_steps (λ x. follower turn edges (exchanged a b x)) (follower turn edges) names (λ x m. ap (follower turn edges) (grind (arith, nat_tests, same)))),
    one_piece a b edges among (equal_joined (edges ++ steps turn names) a b same),
  )

  -- THE GENUS IS NEVER NEGATIVE
  flat_most : (edges : List (ℕ × ℕ)) → AreAmong names edges → cycle_count names turn + faces_of names turn edges ≤ length edges + 2 * pieces_of names turn edges
  flat_most [] among = omega arith
  flat_most ((a, b) ∷ edges) among =
      let ih = flat_most edges among.2 in
      ⊎_elim
      (λ same. let r = no_edge a b edges among (eqb-true a b same) in let f = r.0 in let k = r.1 in omega (arith, ih, f, k))
      (λ other.
      let ne : a ≢ b = λ e. (let k = eq-eqb a b e in grind (arith, k, other)) in
      ⊎_elim
      (λ j. let r = one_face a b edges among ne j in let f = r.0 in let k = r.1 in omega (arith, ih, f, k))
      (λ away.
      let f = two_faces a b edges among ne away in
      ⊎_elim
      (λ j. let k = one_piece a b edges among j in omega (arith, ih, f, k))
      (λ far. let k = two_pieces a b edges among far in omega (arith, ih, f, k))
      (joined_or_apart (edges ++ steps turn names) a b))
      (joined_or_apart (steps (follower turn edges) names) a b))
      (cases_Bool (a == b))

  without : (a b : ℕ) (edges : List (ℕ × ℕ)) → AreAmong names ((a, b) ∷ edges) → a ≢ b → IsFlat names turn ((a, b) ∷ edges) → IsFlat names turn edges
  without a b edges among ne flat =
      let most = flat_most edges among.2 in
      ⊎_elim
      (λ j. let r = one_face a b edges among ne j in let f = r.0 in let k = r.1 in omega (arith, flat, f, k))
      (λ away.
      let f = two_faces a b edges among ne away in
      ⊎_elim
      (λ j. let k = one_piece a b edges among j in absurd (omega (arith, flat, f, k, most)))
      (λ far. let k = two_pieces a b edges among far in omega (arith, flat, f, k))
      (joined_or_apart (edges ++ steps turn names) a b))
      (joined_or_apart (steps (follower turn edges) names) a b)

  with_edge : (a b : ℕ) (edges : List (ℕ × ℕ)) → AreAmong names ((a, b) ∷ edges) → a ≢ b → IsFlat names turn edges →
      IsFlat names turn ((a, b) ∷ edges) ↔ (Joined (steps (follower turn edges) names) a b ⊎ (Joined (edges ++ steps turn names) a b → ⊥))
  with_edge a b edges among ne flat = (
    (λ after. ⊎_elim (λ j. inl j)
        (λ away. ⊎_elim
        (λ j. let f = two_faces a b edges among ne away in let k = one_piece a b edges among j in absurd (omega (arith, flat, after, f, k)))
        (λ far. inr far)
        (joined_or_apart (edges ++ steps turn names) a b))
        (joined_or_apart (steps (follower turn edges) names) a b)),
    (λ good. ⊎_elim
        (λ j. let r = one_face a b edges among ne j in let f = r.0 in let k = r.1 in omega (arith, flat, f, k))
        (λ far.
        let f = two_faces a b edges among ne (λ j. far (face_in_piece edges among.2 j)) in
        let k = two_pieces a b edges among far in
        omega (arith, flat, f, k))
        good),
  )

pub genus : GenusLaw
genus names turn before edges is among = flat_most names turn before is edges among

pub without_edge : WithoutEdgeLaw
without_edge names turn before a b edges is among ne flat = without names turn before is a b edges among ne flat

pub one_more_edge : OneMoreEdgeLaw
one_more_edge names turn before a b edges is among ne flat = with_edge names turn before is a b edges among ne flat
