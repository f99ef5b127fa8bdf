-- There are as many labels as representatives, whichever are chosen: their labels are apart, and are those of all names.
use Rattle.std.proofs.Common.{◌≢◌, ◌≡◌, ℕ, suc, ◌+◌, true, ◌==◌, List, [], ◌∷◌, map, length, get_or, refl, sym, ap, ◌∙◌, arith, ⊎_elim, Any, AllPairs}
use Rattle.std.specs.Set.{is_member}
use Rattle.std.proofs.lemmas.Bool.{eqb-true, or_cases}
use Rattle.std.proofs.lemmas.List.{length-map, get_or-map}
use Rattle.graph_parts.specs.Labels.{label_of, label_count}
use Rattle.graph_parts.specs.Representatives.{AreRepresentatives}
use Rattle.std.proofs.lemmas.Bool.Decides.{Decides-eqb}
use Rattle.std.proofs.lemmas.Cmp.{nat_eq_equiv}
use Rattle.std.proofs.lemmas.Map.Made.{IsDistinct-from_AllPairs, length-from_keys}
use Rattle.graph_parts.proofs.Counting.{is_member-map}
use Rattle.graph_parts.proofs.Walks.{Joined-from_labels, labels-from_Joined}
use Rattle.list_lemmas.proofs.Bools.{same_bool}
use Rattle.list_lemmas.proofs.Members.{member_of}

any_here : (P : ℕ → Type 0) (x : ℕ) (xs : List ℕ) → P x → Any P (x ∷ xs)
any_here P x xs p = (0, x, omega arith, refl, p)

any_later : (P : ℕ → Type 0) (x : ℕ) (xs : List ℕ) → Any P xs → Any P (x ∷ xs)
any_later P x xs a = (suc a.0, a.1, omega (arith, a.2), a.3, a.4)

preimage : (l : ℕ → ℕ) (n : ℕ) (xs : List ℕ) → is_member ◌==◌ (map l xs) n ≡ true → Any (λ y. n ≡ l y) xs
preimage l n [] m = absurd (grind (arith, m))
preimage l n (x ∷ xs) m =
    ⊎_elim (λ e. any_here (λ y. n ≡ l y) x xs (eqb-true n (l x) e)) (λ k. any_later (λ y. n ≡ l y) x xs (preimage l n xs k)) (or_cases (n == l x) _ m)

-- AS MANY LABELS AS REPRESENTATIVES
pub length-AreRepresentatives : (edges : List (ℕ × ℕ)) (names chosen : List ℕ) → AreRepresentatives edges names chosen → length chosen ≡ label_count (label_of edges) names
length-AreRepresentatives edges names chosen r =
    let l : ℕ → ℕ = label_of edges in
    let n = length-map chosen l in
    let pairs : AllPairs (λ x y. x ≢ y) (map l chosen) =
    λ i j d h k t. r.are_apart i j 0 h (omega (arith, n, k))
    (Joined-from_labels edges (get_or chosen i 0) (get_or chosen j 0) (sym (get_or-map l chosen i 0 d (omega (arith, n, h, k))) ∙ t ∙ get_or-map l chosen j 0 d (omega (arith, n, k)))) in
    sym n
    ∙ length-from_keys nat_eq_equiv (map l chosen) (map l names) (IsDistinct-from_AllPairs Decides-eqb (map l chosen) pairs)
    (λ q. same_bool (is_member ◌==◌ (map l chosen) q) (is_member ◌==◌ (map l names) q)
    (λ m. let a = preimage l q chosen m in
    let c = is_member-map l names a.1 (let t = member_of names (get_or chosen a.0 a.1) (r.are_names a.0 a.1 a.2) in rw a.3 at t) in
    ap (is_member ◌==◌ (map l names)) a.4 ∙ c)
    (λ m. let a = preimage l q names m in
    let z = r.reach_all a.0 a.1 a.2 in
    let e : q ≡ l z.1 = a.4 ∙ ap l (sym a.3) ∙ labels-from_Joined edges z.4 in
    ap (is_member ◌==◌ (map l chosen)) e ∙ is_member-map l chosen z.1 (member_of chosen z.1 (z.0, z.2, z.3))))
