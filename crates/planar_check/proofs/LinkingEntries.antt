-- The entries of the linking matrix: one entry more fits, and together they are a symmetric matrix, with the
-- framings on its diagonal, the linking numbers elsewhere.
use Rattle.std.proofs.Common.{◌≡◌, ℕ, ◌+◌, ◌-◌, ◌*◌, ◌/◌, ◌%◌, ◌<◌, ◌^◌, ◌==◌, ◌&&◌, ◌||◌, Bool, true, false, not, cond, ℤ, pos, negsuc, ◌-ℤ◌, List, [], ◌∷◌, ◌++◌, length, map, count_by, get_or, IsTrue, FitsSigned, inl, inr, refl, sym, subst, ap, ap₂, ◌∙◌, arith, length-append, to_z, of_z}
use Rattle.std.specs.Int.{w64, w128}
use Rattle.std.specs.List.{range_with_len}
use Rattle.std.proofs.lemmas.Bool.{cases_Bool, eq-eqb, eqb-true, eqb-false, ne_eqb}
use Rattle.std.proofs.lemmas.Int.{to_z-of_z}
use Rattle.std.proofs.lemmas.Nat.{div-mul-add, mod-mul-add}
use Rattle.std.proofs.lemmas.List.FromFn.{get_or-map-range_with_len, length-map-range_with_len}
use Rattle.std.proofs.lemmas.List.Sums.{sum_by-le-sum_by}
use Rattle.std.proofs.Math.ListN.{get_or-append}
use Rattle.std.proofs.Math.Seq.{get_or-append_seam}
use Rattle.inertia_laws.specs.Range.{fits}
use Rattle.inertia_cert.specs.SymmetricMatrices.{square, AllFit, IsEqualAcross}
use Rattle.inertia_cert.proofs.Bounds.{means_fits}
use Rattle.planar_check.specs.declared.sign.Signed.{Signed}
use Rattle.planar_check.specs.Signs.{is_between, is_plus, signs_between, signed_crossings, halved, linking}
use Rattle.planar_check.specs.Framings.{FramedDiagram, framing_of, linking_entry}
use Rattle.planar_check.proofs.SignSums.{place_below}
use Rattle.planar_check.specs.Tables.{entry_from, AreSignSums}

-- ---- what has 64 bits fits into 128
long_fits : (z : ℤ) → FitsSigned w64 z → IsTrue (fits z)
long_fits (pos n) h = means_fits (pos n) (let l : n < 2 ^ 63 = h.sfits in omega (arith, l))
long_fits (negsuc n) h = means_fits (negsuc n) (let l : n < 2 ^ 63 = h.sfits in omega (arith, l))

pub widened : (z : ℤ) → FitsSigned w64 z → to_z w128 (of_z w128 z) ≡ z
widened (pos n) h = to_z-of_z w128 (pos n) record { sfits = let l : n < 2 ^ 63 = h.sfits in omega (arith, l) }
widened (negsuc n) h = to_z-of_z w128 (negsuc n) record { sfits = let l : n < 2 ^ 63 = h.sfits in omega (arith, l) }

pub fits_more : (xs ys : List ℤ) (z : ℤ) → AllFit xs → FitsSigned w64 z → ys ≡ xs ++ z ∷ [] → AllFit ys
fits_more xs ys z before h e k l =
    let P : ℤ → Type 0 = λ v. IsTrue (fits v) in
    let Q : List ℤ → Type 0 = λ vs. P (get_or vs k (pos 0)) in
    let long = length-append xs (z ∷ []) in
    subst Q (sym e) (elim (cases_Bool (k == length xs)) [
      | inl t ↦ subst P (sym (ap (λ m. get_or (xs ++ z ∷ []) m (pos 0)) (eqb-true k (length xs) t) ∙ get_or-append_seam xs z [] (pos 0))) (long_fits z h)
      | inr t ↦ (let other = eqb-false k (length xs) t in let within : k < length xs = omega (arith, other, l, ap length e, long) in
          subst P (sym (get_or-append xs (z ∷ []) (pos 0) k within)) (before k within))
    ])

-- ---- linking numbers do not depend on the order of the components
either_order : (a b : Bool) → (a || b) ≡ (b || a)
either_order true true = refl
either_order true false = refl
either_order false true = refl
either_order false false = refl

counted_alike : (p q : Signed → Bool) (list : List Signed) → ((s : Signed) → p s ≡ q s) → count_by p list ≡ count_by q list
counted_alike p q list same =
    let once : Bool → ℕ = λ b. cond b 1 0 in
    let up = sum_by-le-sum_by (λ s. once (p s)) (λ s. once (q s)) list (λ s. let e = ap once (same s) in omega (arith, e)) in
    let down = sum_by-le-sum_by (λ s. once (q s)) (λ s. once (p s)) list (λ s. let e = ap once (same s) in omega (arith, e)) in
    omega (arith, up, down)

signs_between-swap : (i j : ℕ) (list : List Signed) → signs_between i j list ≡ signs_between j i list
signs_between-swap i j list =
    let order : (s : Signed) → is_between i j s ≡ is_between j i s = λ s. either_order (s.under == i && s.over == j) (s.under == j && s.over == i) in
    ap₂ (λ a b. pos a -ℤ pos b)
    (counted_alike (λ s. is_between i j s && is_plus s.sign) (λ s. is_between j i s && is_plus s.sign) list (λ s. ap (λ (b : Bool). b && is_plus s.sign) (order s)))
    (counted_alike (λ s. is_between i j s && not (is_plus s.sign)) (λ s. is_between j i s && not (is_plus s.sign)) list (λ s. ap (λ (b : Bool). b && not (is_plus s.sign)) (order s)))

-- THE ENTRIES ARE THE SAME ACROSS THE DIAGONAL
pub linking_entry-swap : (framed : FramedDiagram) (i j : ℕ) → linking_entry framed i j ≡ linking_entry framed j i
linking_entry-swap framed i j =
    elim (cases_Bool (i == j)) [
      | inl t ↦ ap₂ (linking_entry framed) (eqb-true i j t) (sym (eqb-true i j t))
      | inr t ↦ (let other = eqb-false i j t in
          ap (λ (b : Bool). cond b (framing_of framed i) (linking framed.items i j)) t
          ∙ (ap halved (signs_between-swap i j (signed_crossings framed.items))
          ∙ sym (ap (λ (b : Bool). cond b (framing_of framed j) (linking framed.items j i)) (ne_eqb j i (λ e. other (sym e))))))
    ]

-- ---- the list of the entries is the matrix
module _ (framed : FramedDiagram) (n : ℕ) (sums : List ℤ) (is : n ≡ length framed.framings) (are : AreSignSums n (signed_crossings framed.items) sums) where
  abbrev list : List ℤ
  list = map (entry_from framed.framings sums) (range_with_len 0 (length sums))

  pub entry_is : (i j : ℕ) → i < n → j < n → get_or list (i * n + j) (pos 0) ≡ linking_entry framed (i + 1) (j + 1)
  entry_is i j h k =
      let place = i * n + j in
      let within : place < length sums = omega (arith, are.full, place_below n i j h k) in
      let row : place / length framed.framings ≡ i = ap (λ m. place / m) (sym is) ∙ div-mul-add i n j k in
      let column : place % length framed.framings ≡ j = ap (λ m. place % m) (sym is) ∙ mod-mul-add i n j k in
      let there : get_or list place (pos 0) ≡ entry_from framed.framings sums place =
      get_or-map-range_with_len (entry_from framed.framings sums) 0 (length sums) place place (pos 0) within (let e : 0 + place ≡ place = omega arith in e) in
      let rows : entry_from framed.framings sums place ≡ cond (i == j) (get_or framed.framings i (pos 0)) (halved (get_or sums place (pos 0))) =
      ap₂ (λ a b. cond (a == b) (get_or framed.framings a (pos 0)) (halved (get_or sums place (pos 0)))) row column in
      there ∙ (rows ∙ elim (cases_Bool (i == j)) [
        | inl t ↦ (let same = eqb-true i j t in
            ap (λ (b : Bool). cond b (get_or framed.framings i (pos 0)) (halved (get_or sums place (pos 0)))) t
            ∙ (ap (λ m. get_or framed.framings m (pos 0)) (let e : i ≡ i + 1 - 1 = omega arith in e)
            ∙ sym (ap (λ (b : Bool). cond b (framing_of framed (i + 1)) (linking framed.items (i + 1) (j + 1))) (eq-eqb (i + 1) (j + 1) (omega (arith, same))))))
        | inr t ↦ (let other = eqb-false i j t in
            ap (λ (b : Bool). cond b (get_or framed.framings i (pos 0)) (halved (get_or sums place (pos 0)))) t
            ∙ (ap halved (are.between i j h k other)
            ∙ sym (ap (λ (b : Bool). cond b (framing_of framed (i + 1)) (linking framed.items (i + 1) (j + 1))) (ne_eqb (i + 1) (j + 1) (λ e. other (omega (arith, e)))))))
      ])

  pub entries_long : length list ≡ n * n
  entries_long = length-map-range_with_len (entry_from framed.framings sums) 0 (length sums) ∙ are.full

  pub equal_across : (i j : ℕ) → i < n → j < n → IsEqualAcross (square n list) i j
  equal_across i j h k = entry_is i j h k ∙ (linking_entry-swap framed (i + 1) (j + 1) ∙ sym (entry_is j i k h))
