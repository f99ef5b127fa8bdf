-- Labels that take the smaller of two at each edge are the least names of the parts: they tell the same pairs apart as the
-- labels of Labels.antt, no label is above its name, and a label's label is itself.
use Rattle.std.proofs.Common.{ltb, ◌≡◌, ℕ, ◌≤◌, ◌<◌, true, ◌==◌, List, [], ◌∷◌, min, refl, sym, ◌∙◌, arith, ⊎_elim, ◌⊎◌, inl, inr, ◌↔◌, fold}
use Rattle.std.specs.Set.{is_member}
use Rattle.std.proofs.lemmas.Bool.{cases_Bool, cases_order, ltb-true, lt-ltb, eq-eqb, eqb-true, or_left, or_right, or_cases}
use Rattle.std.proofs.lemmas.Bool.Decides.{Decides-eqb, nat_tests}
use Rattle.std.proofs.lemmas.List.Folds.{list_any_at, Any-from_list_any}
use Rattle.std.proofs.lemmas.Map.Made.{is_member-Decides}
use Rattle.std.specs.List.{list_any}
use Rattle.graph_parts.specs.Ends.{AreAmong}
use Rattle.graph_parts.specs.Labels.{label_of, label_after, relabel, Agree}
use Rattle.graph_parts.specs.LeastNames.{least_name, least_label, join_least}
use Rattle.graph_parts.specs.Parts.{part, is_least}
use Rattle.graph_parts.specs.Walks.{Joined, stay}
use Rattle.graph_parts.proofs.Rounds.{part-Joined}
use Rattle.graph_parts.proofs.Walks.{labels-from_Joined, Joined-from_labels}

either_min : (a b : ℕ) → (min a b ≡ a) ⊎ (min a b ≡ b)
either_min a b =
    ⊎_elim (λ e. inl (omega (arith, e))) (λ o. ⊎_elim (λ l. inl (omega (arith, l))) (λ g. inr (omega (arith, g))) o) (cases_order a b)

-- ---- labels by least names
abbrev Everywhere : (ℕ → ℕ) → (ℕ → ℕ) → Type 0
Everywhere l m = Agree (λ x. true) l m

join_least-agree : (l m : ℕ → ℕ) (e : ℕ × ℕ) → Everywhere l m → Everywhere (join_least l e) (relabel m e)
join_least-agree l m e h u v p q =
    let uv = h u v refl refl in
    let ux = h u e.0 refl refl in let uy = h u e.1 refl refl in
    let vx = h v e.0 refl refl in let vy = h v e.1 refl refl in
    let xy = h e.0 e.1 refl refl in
    grind (arith, nat_tests, uv, ux, uy, vx, vy, xy)

after_agree : (l m : ℕ → ℕ) (es : List (ℕ × ℕ)) → Everywhere l m → Everywhere (fold join_least l es) (label_after m es)
after_agree l m [] h = h
after_agree l m (e ∷ es) h = after_agree (join_least l e) (relabel m e) es (join_least-agree l m e h)

-- no label is above its name, and a label's label is itself
pub record AreLeast (label : ℕ → ℕ) : Type 0 where
  pub below : (x : ℕ) → label x ≤ x
  pub itself : (x : ℕ) → label (label x) ≡ label x

AreLeast-join : (l : ℕ → ℕ) (e : ℕ × ℕ) → AreLeast l → AreLeast (join_least l e)
AreLeast-join l e h = record {
  below = λ x.
      let a = h.below x in
      grind (arith, nat_tests, a);
  itself = λ x.
      let a = h.itself x in let b = h.itself e.0 in let c = h.itself e.1 in
      ⊎_elim (λ s. grind (arith, nat_tests, a, b, c, s)) (λ s. grind (arith, nat_tests, a, b, c, s)) (either_min (l e.0) (l e.1));
}

AreLeast-after : (l : ℕ → ℕ) (es : List (ℕ × ℕ)) → AreLeast l → AreLeast (fold join_least l es)
AreLeast-after l [] h = h
AreLeast-after l (e ∷ es) h = AreLeast-after (join_least l e) es (AreLeast-join l e h)

pub AreLeast-labels : (es : List (ℕ × ℕ)) → AreLeast (least_label es)
AreLeast-labels es = AreLeast-after (λ x. x) es record { below = λ x. omega arith; itself = λ x. refl }

pub least_label-Joined : (es : List (ℕ × ℕ)) (x y : ℕ) → (least_label es x ≡ least_label es y) ↔ Joined es x y
least_label-Joined es x y =
    let h = after_agree (λ z. z) (λ z. z) es (λ u v p q. refl) x y refl refl in (
      λ t. Joined-from_labels es x y (eqb-true (label_of es x) (label_of es y) (sym h ∙ eq-eqb (least_label es x) (least_label es y) t)),
      λ j. eqb-true (least_label es x) (least_label es y) (h ∙ eq-eqb (label_of es x) (label_of es y) (labels-from_Joined es j)),
    )

-- ---- the least of a list
fold_min-le : (x : ℕ) (ys : List ℕ) → fold min x ys ≤ x
fold_min-le x [] = omega arith
fold_min-le x (y ∷ ys) = let ih = fold_min-le (min x y) ys in omega (arith, ih)

fold_min-below : (x y : ℕ) (ys : List ℕ) → is_member ◌==◌ ys y ≡ true → fold min x ys ≤ y
fold_min-below x y [] m = absurd (grind (arith, m))
fold_min-below x y (z ∷ ys) m =
    ⊎_elim
    (λ t. let same : y ≡ z = eqb-true y z t in let le = fold_min-le (min x z) ys in omega (arith, same, le))
    (λ t. fold_min-below (min x z) y ys t)
    (or_cases (y == z) (is_member ◌==◌ ys y) m)

fold_min-one : (x : ℕ) (ys : List ℕ) → (fold min x ys ≡ x) ⊎ (is_member ◌==◌ ys (fold min x ys) ≡ true)
fold_min-one x [] = inl refl
fold_min-one x (y ∷ ys) =
    let n = fold min (min x y) ys in
    ⊎_elim
    (λ e. ⊎_elim
    (λ p. inl (e ∙ p))
    (λ p. inr (or_left (n == y) (is_member ◌==◌ ys n) (eq-eqb n y (e ∙ p))))
    (either_min x y))
    (λ m. inr (or_right (n == y) (is_member ◌==◌ ys n) m))
    (fold_min-one (min x y) ys)

module _ (names : List ℕ) (edges : List (ℕ × ℕ)) (among : AreAmong names edges) where
  -- A LEAST NAME IS THE LABEL
  pub least_name-label : (x : ℕ) → is_member ◌==◌ names x ≡ true → least_name names edges x ≡ least_label edges x
  unfolding least_name
  least_name-label x there =
      let ys = part names edges x in
      let n = fold min x ys in
      let l : ℕ → ℕ = least_label edges in
      let rules = AreLeast-labels edges in
      let joined : Joined edges x n =
      ⊎_elim (λ e. rw e stay) (λ m. (part-Joined names edges x n there among).0 m) (fold_min-one x ys) in
      let same = (least_label-Joined edges x n).1 joined in
      let below = rules.below n in
      let in_part = (part-Joined names edges x (l x) there among).1 ((least_label-Joined edges x (l x)).0 (sym (rules.itself x))) in
      let above = fold_min-below x (l x) ys in_part in
      omega (arith, same, below, above)

  -- LEAST NAMES TELL WHAT IS JOINED
  pub least_name-Joined : (x y : ℕ) → is_member ◌==◌ names x ≡ true → is_member ◌==◌ names y ≡ true → (least_name names edges x ≡ least_name names edges y) ↔ Joined edges x y
  least_name-Joined x y p q =
      let a = least_name-label x p in let b = least_name-label y q in
      (λ t. (least_label-Joined edges x y).0 (sym a ∙ t ∙ b), λ j. a ∙ (least_label-Joined edges x y).1 j ∙ sym b)

  -- A NAME IS THE LEAST OF ITS PART WHERE IT IS ITS OWN LABEL
  pub is_least-label : (x : ℕ) → is_member ◌==◌ names x ≡ true → is_least names edges x ≡ (least_label edges x == x)
  is_least-label x there =
      let l : ℕ → ℕ = least_label edges in
      let rules = AreLeast-labels edges in
      let ys = part names edges x in
      ⊎_elim
      (λ some.
      let a = Any-from_list_any (λ y. ltb y x) ys some in
      let lt : a.1 < x = ltb-true a.1 x a.4 in
      let m = (is_member-Decides Decides-eqb ys a.1).1 (a.0, a.2, a.3) in
      let same = (least_label-Joined edges x a.1).1 ((part-Joined names edges x a.1 there among).0 m) in
      let below = rules.below a.1 in
      let apart : l x < x = omega (arith, same, below, lt) in
      grind (arith, nat_tests, some, apart))
      (λ none.
      let in_part = (part-Joined names edges x (l x) there among).1 ((least_label-Joined edges x (l x)).0 (sym (rules.itself x))) in
      let c = (is_member-Decides Decides-eqb ys (l x)).0 in_part in
      let no = λ (lt : l x < x). list_any_at (λ z. ltb z x) ys c.0 (l x) c.1 (let e = c.2 in let k = lt-ltb (l x) x lt in rw e k) in
      let below = rules.below x in
      let own : l x ≡ x = ⊎_elim (λ e. e) (λ o. ⊎_elim (λ lt. absurd (let t = no lt in grind (arith, t, none))) (λ gt. absurd (omega (arith, gt, below))) o) (cases_order (l x) x) in
      grind (arith, nat_tests, none, own))
      (cases_Bool (list_any (λ y. ltb y x) ys))
