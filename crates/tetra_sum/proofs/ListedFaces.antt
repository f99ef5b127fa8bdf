-- What is allowed at a face is admissible there, in any order of its labels; so it is at each face of a tetrahedron.
--
--     turned, swapped       an admissible vertex, in another order of its edges
--     at_face               a face's colours, where it allows them
--     at_listed             the colours of three labels that have a listed face
use Rattle.std.proofs.Common.{◌≡◌, inl, inr, ℕ, zero, suc, ◌+◌, ◌*◌, ◌-◌, ◌%◌, ◌<◌, ◌==◌, ◌||◌, ◌&&◌, nat_le, Bool, true, List, [], ◌∷◌, length, get_or, Some, sym, ap, ap₂, ◌∙◌, arith}
use Rattle.std.proofs.lemmas.Bool.{eqb-true, and_parts, and_from, or_cases}
use Rattle.cables.specs.Nets.{is_admissible}
use Rattle.tetra_reader.specs.Tetras.{are_pair, is_face, is_listed}
use Rattle.tetra_sum.specs.Colourings.{colour_of, admits, allows, are_allowed}

-- ---- orders of a vertex
pub turned : (a b c : ℕ) → is_admissible a b c ≡ true → is_admissible b c a ≡ true
turned a b c h =
    let even = (and_parts ((a + b + c) % 2 == 0) (nat_le a (b + c) && (nat_le b (c + a) && nat_le c (a + b))) h).0 in
    let rest = (and_parts ((a + b + c) % 2 == 0) (nat_le a (b + c) && (nat_le b (c + a) && nat_le c (a + b))) h).1 in
    let first = (and_parts (nat_le a (b + c)) (nat_le b (c + a) && nat_le c (a + b)) rest).0 in
    let both = (and_parts (nat_le a (b + c)) (nat_le b (c + a) && nat_le c (a + b)) rest).1 in
    let sum : b + c + a ≡ a + b + c = omega arith in
    and_from ((b + c + a) % 2 == 0) (nat_le b (c + a) && (nat_le c (a + b) && nat_le a (b + c))) (ap (λ n. n % 2 == 0) sum ∙ even)
    (and_from (nat_le b (c + a)) (nat_le c (a + b) && nat_le a (b + c)) ((and_parts (nat_le b (c + a)) (nat_le c (a + b)) both).0)
    (and_from (nat_le c (a + b)) (nat_le a (b + c)) ((and_parts (nat_le b (c + a)) (nat_le c (a + b)) both).1) first))

pub swapped : (a b c : ℕ) → is_admissible a b c ≡ true → is_admissible b a c ≡ true
swapped a b c h =
    let even = (and_parts ((a + b + c) % 2 == 0) (nat_le a (b + c) && (nat_le b (c + a) && nat_le c (a + b))) h).0 in
    let rest = (and_parts ((a + b + c) % 2 == 0) (nat_le a (b + c) && (nat_le b (c + a) && nat_le c (a + b))) h).1 in
    let first = (and_parts (nat_le a (b + c)) (nat_le b (c + a) && nat_le c (a + b)) rest).0 in
    let both = (and_parts (nat_le a (b + c)) (nat_le b (c + a) && nat_le c (a + b)) rest).1 in
    let sum : b + a + c ≡ a + b + c = omega arith in
    let ca : a + c ≡ c + a = omega arith in
    let cb : c + b ≡ b + c = omega arith in
    let ba : b + a ≡ a + b = omega arith in
    and_from ((b + a + c) % 2 == 0) (nat_le b (a + c) && (nat_le a (c + b) && nat_le c (b + a))) (ap (λ n. n % 2 == 0) sum ∙ even)
    (and_from (nat_le b (a + c)) (nat_le a (c + b) && nat_le c (b + a)) (ap (nat_le b) ca ∙ (and_parts (nat_le b (c + a)) (nat_le c (a + b)) both).0)
    (and_from (nat_le a (c + b)) (nat_le c (b + a)) (ap (nat_le a) cb ∙ first) (ap (nat_le c) ba ∙ (and_parts (nat_le b (c + a)) (nat_le c (a + b)) both).1)))

-- ---- faces
module _ (r : ℕ) (labels colours : List ℕ) where
  pub allowed_at : (faces : List (List ℕ)) (i : ℕ) → i < length faces → are_allowed r labels colours faces ≡ true → allows r labels colours (get_or faces i []) ≡ true
  allowed_at [] i h e = absurd (omega (arith, h))
  allowed_at (face ∷ faces) zero h e = (and_parts (allows r labels colours face) (are_allowed r labels colours faces) e).0
  allowed_at (face ∷ faces) (suc i) h e = allowed_at faces i (omega (arith, h)) ((and_parts (allows r labels colours face) (are_allowed r labels colours faces) e).1)

  -- WHAT A FACE ALLOWS
  pub at_face : (a b c x y z : ℕ) → colour_of labels colours a ≡ Some x → colour_of labels colours b ≡ Some y → colour_of labels colours c ≡ Some z →
      allows r labels colours (a ∷ b ∷ c ∷ []) ≡ true → is_admissible x y z ≡ true
  at_face a b c x y z p q s e =
      let whole : admits r x y z ≡ true = rw (p, q, s) at e in (and_parts (is_admissible x y z) (nat_le (x + y + z) (2 * r - 4)) whole).0

  -- in any order of its labels
  module _ (a b c x y z : ℕ) (p : colour_of labels colours a ≡ Some x) (q : colour_of labels colours b ≡ Some y) (s : colour_of labels colours c ≡ Some z) where
    of_orders : (u v w : ℕ) → is_face a b c (u ∷ v ∷ w ∷ []) ≡ true → allows r labels colours (u ∷ v ∷ w ∷ []) ≡ true → is_admissible x y z ≡ true
    of_orders u v w face e =
        elim (or_cases (u == a && are_pair v w b c) ((u == b && are_pair v w a c) || (u == c && are_pair v w a b)) face) [
          | inl h ↦ (
              let ua = eqb-true u a ((and_parts (u == a) (are_pair v w b c) h).0) in
              let here : allows r labels colours (a ∷ v ∷ w ∷ []) ≡ true = ap (λ n. allows r labels colours (n ∷ v ∷ w ∷ [])) (sym ua) ∙ e in
              elim (or_cases (v == b && w == c) (v == c && w == b) ((and_parts (u == a) (are_pair v w b c) h).1)) [
                | inl k ↦ at_face a b c x y z p q s (to v w b c k (λ m n. allows r labels colours (a ∷ m ∷ n ∷ [])) here)
                | inr k ↦ turned z x y (swapped x z y (at_face a c b x z y p s q (to v w c b k (λ m n. allows r labels colours (a ∷ m ∷ n ∷ [])) here)))
              ])
          | inr more ↦ elim (or_cases (u == b && are_pair v w a c) (u == c && are_pair v w a b) more) [
            | inl h ↦ (
                let ub = eqb-true u b ((and_parts (u == b) (are_pair v w a c) h).0) in
                let here : allows r labels colours (b ∷ v ∷ w ∷ []) ≡ true = ap (λ n. allows r labels colours (n ∷ v ∷ w ∷ [])) (sym ub) ∙ e in
                elim (or_cases (v == a && w == c) (v == c && w == a) ((and_parts (u == b) (are_pair v w a c) h).1)) [
                  | inl k ↦ swapped y x z (at_face b a c y x z q p s (to v w a c k (λ m n. allows r labels colours (b ∷ m ∷ n ∷ [])) here))
                  | inr k ↦ turned z x y (turned y z x (at_face b c a y z x q s p (to v w c a k (λ m n. allows r labels colours (b ∷ m ∷ n ∷ [])) here)))
                ])
            | inr h ↦ (
                let uc = eqb-true u c ((and_parts (u == c) (are_pair v w a b) h).0) in
                let here : allows r labels colours (c ∷ v ∷ w ∷ []) ≡ true = ap (λ n. allows r labels colours (n ∷ v ∷ w ∷ [])) (sym uc) ∙ e in
                elim (or_cases (v == a && w == b) (v == b && w == a) ((and_parts (u == c) (are_pair v w a b) h).1)) [
                  | inl k ↦ turned z x y (at_face c a b z x y s p q (to v w a b k (λ m n. allows r labels colours (c ∷ m ∷ n ∷ [])) here))
                  | inr k ↦ swapped y x z (turned z y x (at_face c b a z y x s q p (to v w b a k (λ m n. allows r labels colours (c ∷ m ∷ n ∷ [])) here)))
                ])
          ]
        ]
      where
        to : (v w m n : ℕ) → (v == m && w == n) ≡ true → (f : ℕ → ℕ → Bool) → f v w ≡ true → f m n ≡ true
        to v w m n k f h = sym (ap₂ f (eqb-true v m ((and_parts (v == m) (w == n) k).0)) (eqb-true w n ((and_parts (v == m) (w == n) k).1))) ∙ h

    of_face : (face : List ℕ) → is_face a b c face ≡ true → allows r labels colours face ≡ true → is_admissible x y z ≡ true
    of_face (u ∷ v ∷ w ∷ []) face e = of_orders u v w face e
    of_face [] face e = absurd (cc)
    of_face (u ∷ []) face e = absurd (cc)
    of_face (u ∷ v ∷ []) face e = absurd (cc)
    of_face (u ∷ v ∷ w ∷ t ∷ rest) face e = absurd (cc)

    -- THREE LABELS WITH A LISTED FACE
    pub at_listed : (faces : List (List ℕ)) → is_listed faces a b c ≡ true → are_allowed r labels colours faces ≡ true → is_admissible x y z ≡ true
    at_listed [] listed e = absurd (cc)
    at_listed (face ∷ faces) listed e = elim (or_cases (is_face a b c face) (is_listed faces a b c) listed) [
      | inl h ↦ of_face face h ((and_parts (allows r labels colours face) (are_allowed r labels colours faces) e).0)
      | inr h ↦ at_listed faces h ((and_parts (allows r labels colours face) (are_allowed r labels colours faces) e).1)
    ]
