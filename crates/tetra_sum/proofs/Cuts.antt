-- A face that forbids a colouring of the first labels forbids each longer one. So colourings that are left early would be left at the end.
--
--     passed, no_colours        the colour of a label, searched from the left
--     keeps                     a longer colouring is allowed only where the shorter one is
--     one_label                 one label more, from the colourings that were kept
use Rattle.std.proofs.Common.{inl, inr, ◌≡◌, ℕ, ◌+◌, ◌<◌, ◌==◌, ◌&&◌, Bool, true, false, cond, List, [], ◌∷◌, ◌++◌, length, filter, flat_map, drop, slice_index, Option, Some, None, refl, sym, ap, ap₂, ◌∙◌, arith}
use Rattle.std.proofs.lemmas.Bool.{cases_lt}
use Rattle.std.proofs.lemmas.Bool.Decides.{nat_tests}
use Rattle.std.proofs.lemmas.List.{drop_more, drop_all}
use Rattle.std.proofs.lemmas.List.Elements.{filter-append}
use Rattle.tetra_sum.specs.Colourings.{colour_of, allows_three, allows, are_allowed}
use Rattle.tetra_sum.specs.Lists.{longer_by}

-- ---- the colour of a label
pub no_colours : (labels : List ℕ) (label : ℕ) → colour_of labels [] label ≡ None
no_colours [] label = refl
no_colours (l ∷ labels) label = refl

pub passed : (labels colours : List ℕ) (i label : ℕ) → i < length labels → (slice_index labels i ≡ label → ⊥) →
    colour_of (drop i labels) (drop i colours) label ≡ colour_of (drop (i + 1) labels) (drop (i + 1) colours) label
passed labels colours i label h other =
    elim (cases_lt i (length colours)) [
      | inl lt ↦
          let none : (slice_index labels i == label) ≡ false = grind (arith, nat_tests, other) in
          ap₂ (λ ls cs. colour_of ls cs label) (drop_more labels i 0 h) (drop_more colours i 0 lt)
          ∙ ap (λ b. cond b (Some (slice_index colours i)) (colour_of (drop (i + 1) labels) (drop (i + 1) colours) label)) none
      | inr past ↦
          ap (λ cs. colour_of (drop i labels) cs label) (drop_all i colours (omega (arith, past)))
          ∙ no_colours (drop i labels) label
          ∙ sym (ap (λ cs. colour_of (drop (i + 1) labels) cs label) (drop_all (i + 1) colours (omega (arith, past))) ∙ no_colours (drop (i + 1) labels) label)
    ]

-- ---- a colour more keeps those before
kept : (labels colours : List ℕ) (c label x : ℕ) → colour_of labels colours label ≡ Some x → colour_of labels (colours ++ c ∷ []) label ≡ Some x
kept [] colours c label x e = absurd cc
kept (l ∷ labels) [] c label x e = absurd cc
kept (l ∷ labels) (d ∷ colours) c label x e = by_test (l == label) (kept labels colours c label x) e
  where
    by_test : (b : Bool) → (colour_of labels colours label ≡ Some x → colour_of labels (colours ++ c ∷ []) label ≡ Some x) →
        cond b (Some d) (colour_of labels colours label) ≡ Some x → cond b (Some d) (colour_of labels (colours ++ c ∷ []) label) ≡ Some x
    by_test true rest s = s
    by_test false rest s = rest s

-- so what three colours forbid, they forbid still
forbids : (r : ℕ) (a b c a' b' c' : Option ℕ) → ((x : ℕ) → a ≡ Some x → a' ≡ Some x) → ((x : ℕ) → b ≡ Some x → b' ≡ Some x) → ((x : ℕ) → c ≡ Some x → c' ≡ Some x) →
    allows_three r a' b' c' ≡ true → allows_three r a b c ≡ true
forbids r (Some x) (Some y) (Some z) a' b' c' f g h e = rw (f x refl, g y refl, h z refl) at e
forbids r None b c a' b' c' f g h e = refl
forbids r (Some x) None c a' b' c' f g h e = refl
forbids r (Some x) (Some y) None a' b' c' f g h e = refl

face_keeps : (r : ℕ) (labels colours : List ℕ) (c : ℕ) (face : List ℕ) → allows r labels (colours ++ c ∷ []) face ≡ true → allows r labels colours face ≡ true
face_keeps r labels colours c (x ∷ y ∷ z ∷ []) e =
    forbids r (colour_of labels colours x) (colour_of labels colours y) (colour_of labels colours z) (colour_of labels (colours ++ c ∷ []) x) (colour_of labels (colours ++ c ∷ []) y)
    (colour_of labels (colours ++ c ∷ []) z) (kept labels colours c x) (kept labels colours c y) (kept labels colours c z) e
face_keeps r labels colours c [] e = refl
face_keeps r labels colours c (x ∷ []) e = refl
face_keeps r labels colours c (x ∷ y ∷ []) e = refl
face_keeps r labels colours c (x ∷ y ∷ z ∷ w ∷ rest) e = refl

both : (a b : Bool) → (a && b) ≡ true → (a ≡ true) × (b ≡ true)
both true b e = (refl, e)
both false b e = absurd cc

together : (a b : Bool) → a ≡ true → b ≡ true → (a && b) ≡ true
together true b e f = f
together false b e f = absurd cc

pub keeps : (r : ℕ) (labels colours : List ℕ) (c : ℕ) (faces : List (List ℕ)) → are_allowed r labels (colours ++ c ∷ []) faces ≡ true → are_allowed r labels colours faces ≡ true
keeps r labels colours c [] e = refl
keeps r labels colours c (face ∷ faces) e =
    let parts = both (allows r labels (colours ++ c ∷ []) face) (are_allowed r labels (colours ++ c ∷ []) faces) e in
    together (allows r labels colours face) (are_allowed r labels colours faces) (face_keeps r labels colours c face parts.0) (keeps r labels colours c faces parts.1)

-- no label is coloured yet
pub none_coloured : (r : ℕ) (labels : List ℕ) (faces : List (List ℕ)) → are_allowed r labels [] faces ≡ true
none_coloured r labels [] = refl
none_coloured r labels (face ∷ faces) = together (allows r labels [] face) (are_allowed r labels [] faces) (free face) (none_coloured r labels faces)
  where
    free : (face : List ℕ) → allows r labels [] face ≡ true
    free (x ∷ y ∷ z ∷ []) = ap (λ o. allows_three r o (colour_of labels [] y) (colour_of labels [] z)) (no_colours labels x)
    free [] = refl
    free (x ∷ []) = refl
    free (x ∷ y ∷ []) = refl
    free (x ∷ y ∷ z ∷ w ∷ rest) = refl

-- ---- one label more
module _ (ok : List ℕ → Bool) (shorter : (colours : List ℕ) (c : ℕ) → ok (colours ++ c ∷ []) ≡ true → ok colours ≡ true) (each : List ℕ) where
  none_longer : (cs : List ℕ) (colours : List ℕ) → ok colours ≡ false → filter ok (longer_by cs colours) ≡ []
  none_longer [] colours left = refl
  none_longer (c ∷ cs) colours left = by_test (ok (colours ++ c ∷ [])) refl (none_longer cs colours left)
    where
      by_test : (b : Bool) → ok (colours ++ c ∷ []) ≡ b → filter ok (longer_by cs colours) ≡ [] → filter ok (longer_by (c ∷ cs) colours) ≡ []
      by_test true e rest = let yes = shorter colours c e in absurd cc
      by_test false e rest = ap (λ t. cond t ((colours ++ c ∷ []) ∷ filter ok (longer_by cs colours)) (filter ok (longer_by cs colours))) e ∙ rest

  -- WHAT IS LEFT EARLY WOULD BE LEFT AT THE END
  pub one_label : (list : List (List ℕ)) → flat_map (λ colours. filter ok (longer_by each colours)) (filter ok list) ≡ filter ok (flat_map (longer_by each) list)
  one_label [] = refl
  one_label (colours ∷ list) = by_test (ok colours) refl (one_label list)
    where
      whole : filter ok (flat_map (longer_by each) (colours ∷ list)) ≡ filter ok (longer_by each colours) ++ filter ok (flat_map (longer_by each) list)
      whole = filter-append ok (longer_by each colours) (flat_map (longer_by each) list)

      by_test : (b : Bool) → ok colours ≡ b → flat_map (λ cs. filter ok (longer_by each cs)) (filter ok list) ≡ filter ok (flat_map (longer_by each) list) →
          flat_map (λ cs. filter ok (longer_by each cs)) (filter ok (colours ∷ list)) ≡ filter ok (flat_map (longer_by each) (colours ∷ list))
      by_test true e rest =
          ap (λ t. flat_map (λ cs. filter ok (longer_by each cs)) (cond t (colours ∷ filter ok list) (filter ok list))) e
          ∙ ap (λ back. filter ok (longer_by each colours) ++ back) rest
          ∙ sym whole
      by_test false e rest =
          ap (λ t. flat_map (λ cs. filter ok (longer_by each cs)) (cond t (colours ∷ filter ok list) (filter ok list))) e
          ∙ rest
          ∙ sym (whole ∙ ap (λ front. front ++ filter ok (flat_map (longer_by each) list)) (none_longer each colours e))
