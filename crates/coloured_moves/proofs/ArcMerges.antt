-- Arcs between two lists of names close: where the names of the first list stand in the other nodes, too, they become those of the second.
use Rattle.std.proofs.Common.{◌≡◌, ℕ, zero, suc, ◌≤◌, ◌==◌, not, true, cond, List, [], ◌∷◌, ◌++◌, map, length, slice_index, refl, sym, ap, ap₂, ◌∙◌, arith, ⊎_elim, All, subst}
use Rattle.std.specs.List.{AllByRecursion, zip}
use Rattle.std.specs.Set.{is_member}
use Rattle.std.proofs.lemmas.Bool.{cases_Bool, eq-eqb, eqb-true, or_cases, or_left, or_right}
use Rattle.std.proofs.lemmas.Bool.Decides.{nat_tests}
use Rattle.std.proofs.lemmas.List.{get_or-map}
use Rattle.graph_parts.proofs.Counting.{is_member-map}
use Rattle.graph_parts.proofs.Ends.{is_member-get_or}
use Rattle.graph_parts.specs.Ends.{ends_of}
use Rattle.graph_parts.specs.Walks.{Joined, along, stay}
use Rattle.list_lemmas.specs.Times.{times_in}
use Rattle.list_lemmas.proofs.Times.{times_in-cons, times_of_member}
use Rattle.state_sums.specs.LocalSums.{rename}
use Rattle.state_sums.specs.Networks.{Node, IsNode, names_of}
use Rattle.state_sums.specs.StateSums.{value}
use Rattle.piece_laws.specs.Arcs.{arcs_of, closed_classes}
use Rattle.piece_laws.proofs.Closing.{arcs_close, none_counted}
use Rattle.piece_laws.proofs.NameCounts.{member_mapped}
use Rattle.diagram_moves.proofs.Undone.{contraction_from}
use Rattle.move_results.proofs.LeastLabelLists.{joined_through}
use Rattle.cable_crossings.proofs.ManyArcs.{joined_all, firsts_of}
use Rattle.coloured_moves.proofs.CutCloses.{zip_all}
use Rattle.coloured_moves.proofs.Tests.{one_if}

-- ---- names that do not stand in a list
pub map_fixed : (f : ℕ → ℕ) (xs : List ℕ) → ((z : ℕ) → 1 ≤ times_in xs z → f z ≡ z) → map f xs ≡ xs
map_fixed f [] h = refl
map_fixed f (x ∷ xs) h =
    ap₂ (λ y ys. y ∷ ys) (h x (let c = times_in-cons x xs x in let t : one_if (x == x) ≡ 1 = grind (arith, nat_tests) in omega (arith, c, t)))
    (map_fixed f xs (λ z l. h z (let c = times_in-cons x xs z in omega (arith, c, l))))

passed_by : (x y : ℕ) (f : ℕ → ℕ) (xs : List ℕ) → times_in xs x ≡ 0 → map (λ z. cond (z == x) y (f z)) xs ≡ map f xs
passed_by x y f [] h = refl
passed_by x y f (w ∷ ws) h =
    let c = times_in-cons w ws x in
    ap₂ (λ a b. a ∷ b) (left w x y (f w) (omega (arith, c, h))) (passed_by x y f ws (omega (arith, c, h)))
  where
    left : (w x y t : ℕ) → one_if (x == w) ≡ 0 → cond (w == x) y t ≡ t
    left w x y t e = grind (arith, nat_tests, e)

-- ---- the first list becomes the second, and other names stay
pub joined_first : (xs ys : List ℕ) → length xs ≡ length ys → ((z : ℕ) → times_in xs z ≤ 1) → map (joined_all (zip xs ys)) xs ≡ ys
joined_first [] [] e once = refl
joined_first [] (y ∷ ys) e once = absurd (omega (arith, e))
joined_first (x ∷ xs) [] e once = absurd (omega (arith, e))
joined_first (x ∷ xs) (y ∷ ys) e once =
    let c = times_in-cons x xs x in
    let o = once x in
    let one : one_if (x == x) ≡ 1 = grind (arith, nat_tests) in
    let J = joined_all (zip xs ys) in
    ap₂ (λ a b. a ∷ b) (let t : cond (x == x) y (J x) ≡ y = grind (arith, nat_tests) in t)
    (passed_by x y J xs (omega (arith, c, o, one)) ∙ joined_first xs ys (omega (arith, e)) (λ z. (let d = times_in-cons x xs z in let b = once z in omega (arith, d, b))))

pub joined_other : (xs ys : List ℕ) (z : ℕ) → times_in xs z ≡ 0 → joined_all (zip xs ys) z ≡ z
joined_other [] ys z h = refl
joined_other (x ∷ xs) [] z h = refl
joined_other (x ∷ xs) (y ∷ ys) z h =
    let c = times_in-cons x xs z in
    left z x y (joined_all (zip xs ys) z) (omega (arith, c, h)) ∙ joined_other xs ys z (omega (arith, c, h))
  where
    left : (w x y t : ℕ) → one_if (w == x) ≡ 0 → cond (w == x) y t ≡ t
    left w x y t e = grind (arith, nat_tests, e)

-- ---- the classes that the arcs join
joined_walk : (pairs : List (ℕ × ℕ)) (z : ℕ) → Joined pairs z (joined_all pairs z)
joined_walk [] z = stay
joined_walk (pair ∷ pairs) z =
    let J : ℕ → Type 0 = λ y. Joined (pair ∷ pairs) z y in
    ⊎_elim
    (λ t.
    let K : ℕ → Type 0 = λ y. Joined (pair ∷ pairs) y pair.1 in
    subst J (sym (ap (λ b. cond b pair.1 (joined_all pairs z)) t)) (subst K (sym (eqb-true z pair.0 t)) (along (0, omega arith, refl))))
    (λ t. subst J (sym (ap (λ b. cond b pair.1 (joined_all pairs z)) t)) (joined_through pairs (pair ∷ pairs) (λ x y c. along (suc c.0, omega (arith, c.1), c.2)) (joined_walk pairs z)))
    (cases_Bool (z == pair.0))

firsts-zip : (xs ys : List ℕ) → length xs ≡ length ys → firsts_of (zip xs ys) ≡ xs
firsts-zip [] ys e = refl
firsts-zip (x ∷ xs) [] e = absurd (omega (arith, e))
firsts-zip (x ∷ xs) (y ∷ ys) e = ap (λ zs. x ∷ zs) (firsts-zip xs ys (omega (arith, e)))

-- an end has the label of a first end
first_of_class : (f : ℕ → ℕ) (pairs : List (ℕ × ℕ)) → AllByRecursion (λ pair. f pair.0 ≡ f pair.1) pairs → (e : ℕ) → is_member ◌==◌ (ends_of pairs) e ≡ true →
    (x : ℕ) × (is_member ◌==◌ (firsts_of pairs) x ≡ true) × (f x ≡ f e)
first_of_class f [] h e m = absurd (grind (arith, m))
first_of_class f (pair ∷ pairs) h e m =
    ⊎_elim
    (λ t. (pair.0, or_left (pair.0 == pair.0) _ (eq-eqb pair.0 pair.0 refl), ap f (sym (eqb-true e pair.0 t))))
    (λ n. ⊎_elim
    (λ t. (pair.0, or_left (pair.0 == pair.0) _ (eq-eqb pair.0 pair.0 refl), h.0 ∙ ap f (sym (eqb-true e pair.1 t))))
    (λ k. let r = first_of_class f pairs h.1 e k in (r.0, or_right (r.0 == pair.0) _ r.1, r.2))
    (or_cases (e == pair.1) (is_member ◌==◌ (ends_of pairs) e) n))
    (or_cases (e == pair.0) (is_member ◌==◌ (pair.1 ∷ ends_of pairs) e) m)

-- TWO LISTS BECOME ONE
pub merged_arcs : (m delta free : ℕ) (xs ys : List ℕ) (rest : List Node) → length xs ≡ length ys → ((z : ℕ) → times_in xs z ≤ 1) → ((z : ℕ) → 1 ≤ times_in xs z → times_in ys z ≡ 0) → All IsNode rest →
    ((z : ℕ) → is_member ◌==◌ xs z ≡ true → is_member ◌==◌ (names_of rest) z ≡ true) →
    value m delta record { nodes = arcs_of (zip xs ys) ++ rest; free_loops = free } ≡ value m delta record { nodes = rename (joined_all (zip xs ys)) rest; free_loops = free }
merged_arcs m delta free xs ys rest long once apart ok there =
    let pairs = zip xs ys in
    let J = joined_all pairs in
    let all = joined_first xs ys long once in
    let edges : AllByRecursion (λ (pair : ℕ × ℕ). J pair.0 ≡ J pair.1) pairs =
    zip_all J xs ys (λ i l.
    let to : J (slice_index xs i) ≡ slice_index ys i = sym (get_or-map J xs i 0 0 l) ∙ ap (λ zs. slice_index zs i) all in
    let here : J (slice_index ys i) ≡ slice_index ys i = joined_other xs ys (slice_index ys i) (none (slice_index ys i) (times_of_member (slice_index ys i) ys (is_member-get_or ys i (omega (arith, l, long))))) in
    to ∙ sym here) in
    let none_closed : closed_classes J pairs (names_of rest) ≡ 0 =
    none_counted (λ end. not (is_member ◌==◌ (map J (names_of rest)) end)) (map J (ends_of pairs))
    (λ z mem.
    let r = member_mapped J (ends_of pairs) z mem in
    let q = first_of_class J pairs edges r.0 r.1 in
    let x = q.0 in
    let stands = there x (ap (λ zs. is_member ◌==◌ zs x) (sym (firsts-zip xs ys long)) ∙ q.1) in
    ap not (ap (is_member ◌==◌ (map J (names_of rest))) (r.2 ∙ sym q.2) ∙ is_member-map J (names_of rest) x stands)) in
    arcs_close m delta free pairs J rest ok (contraction_from pairs J (joined_walk pairs) edges)
    ∙ ap (λ k. value m delta record { nodes = rename J rest; free_loops = k }) (omega (arith, none_closed))
  where
    none : (z : ℕ) → 1 ≤ times_in ys z → times_in xs z ≡ 0
    none z one = zero_of (times_in xs z) (λ h. (let k = apart z h in absurd (omega (arith, one, k))))
      where
        zero_of : (n : ℕ) → (1 ≤ n → ⊥) → n ≡ 0
        zero_of zero f = refl
        zero_of (suc n) f = absurd (f (omega arith))
