-- The loops that collect terms one by one: after i of them, the element is z and what f makes of the first i terms of the list,
-- and after all of them z and the whole list. A term of weight 0 may be passed over. Each loop starts from some z, mostly from
-- nothing, where it ends at the element that is collected from the list.
--
--     IsSumSo m n z f xs i element      the element on n strands that is z and what f makes of the first i terms of xs
use Rattle.std.proofs.Common.{◌≡◌, ℕ, ◌+◌, ◌%◌, ◌<◌, ◌≤◌, List, [], ◌∷◌, ◌++◌, map, take, take_all, length, get_or, sym, ap, ap₂, ◌∙◌, arith, subst, All}
use Rattle.std.proofs.lemmas.List.{map_more}
use Rattle.std.proofs.lemmas.List.Elements.{All-nil, All-cons}
use Rattle.state_sums.specs.Networks.{Term}
use Rattle.strand_algebra.specs.Elements.{IsElement, collected, add}
use Rattle.strand_algebra.specs.Laws.{IsNoncrossingOn}
use Rattle.strand_algebra.proofs.Collecting.{IsElement-collected}
use Rattle.strand_algebra.proofs.Operations.{IsElement-add}
use Rattle.temperley_lieb.specs.Elements.{Element, AreBelow, element_of}
use Rattle.temperley_lieb.proofs.AddedTerms.{add_more, add_none, add_zeros, add_reduced, collected_more}

-- z and what f makes of the first i terms
abbrev pub IsSumSo : ℕ → ℕ → List Term → (Term → Term) → List Term → ℕ → Element → Type 0
IsSumSo m n z f xs i element = element ≡ element_of n (add m n z (map f (take i xs)))

pub started : (m n : ℕ) (z : List Term) (f : Term → Term) (xs : List Term) (element : Element) → 0 < m → IsElement m n z → element ≡ element_of n z → IsSumSo m n z f xs 0 element
started m n z f xs element h e is = is ∙ ap (element_of n) (sym (add_none m n z h e))

-- a term at its place
read_more : (f : Term → Term) (xs : List Term) (i : ℕ) (t : Term) → i < length xs → t ≡ get_or xs i t → map f (take (i + 1) xs) ≡ map f (take i xs) ++ f t ∷ []
read_more f xs i t l read = map_more f xs i t l ∙ ap (λ u. map f (take i xs) ++ f u ∷ []) (sym read)

pub one_more : (m n : ℕ) (z : List Term) (f : Term → Term) (xs : List Term) (i : ℕ) (t : Term) (old new : Element) (w : ℕ) (p : List ℕ) → 0 < m → i < length xs → t ≡ get_or xs i t →
    IsSumSo m n z f xs i old → w ≡ (f t).weight % m → p ≡ (f t).partner → new ≡ element_of old.strands (add m old.strands old.terms (record { weight = w; partner = p } ∷ [])) →
    IsSumSo m n z f xs (i + 1) new
one_more m n z f xs i t old new w p h l read so weight partner is =
    is
    ∙ ap (λ (e : Element). element_of e.strands (add m e.strands e.terms (record { weight = w; partner = p } ∷ []))) so
    ∙ ap₂ (λ v q. element_of n (add m n (add m n z (map f (take i xs))) (record { weight = v; partner = q } ∷ []))) weight partner
    ∙ ap (element_of n)
    (add_reduced m n (f t).weight (add m n z (map f (take i xs))) (f t).partner h
    ∙ add_more m n z (map f (take i xs)) (f t ∷ []) h
    ∙ ap (add m n z) (sym (read_more f xs i t l read)))

pub one_skipped : (m n : ℕ) (z : List Term) (f : Term → Term) (xs : List Term) (i : ℕ) (t : Term) (old : Element) → 0 < m → i < length xs → t ≡ get_or xs i t →
    IsSumSo m n z f xs i old → (f t).weight ≡ 0 → IsSumSo m n z f xs (i + 1) old
one_skipped m n z f xs i t old h l read so none =
    so
    ∙ ap (element_of n)
    (sym (add_zeros m n (add m n z (map f (take i xs))) (f t ∷ []) h (IsElement-add m n z (map f (take i xs)) h) (All-cons (λ term. term.weight ≡ 0) (f t) [] none (All-nil (λ term. term.weight ≡ 0))))
    ∙ add_more m n z (map f (take i xs)) (f t ∷ []) h
    ∙ ap (add m n z) (sym (read_more f xs i t l read)))

pub ended : (m n : ℕ) (z : List Term) (f : Term → Term) (xs : List Term) (i : ℕ) (element : Element) → length xs ≤ i → IsSumSo m n z f xs i element → element ≡ element_of n (add m n z (map f xs))
ended m n z f xs i element l so = so ∙ ap (λ ys. element_of n (add m n z (map f ys))) (take_all i xs l)

-- from nothing
pub collected_whole : (m n : ℕ) (y : List Term) (element : Element) → 0 < m → element ≡ element_of n (add m n (collected m n []) y) → element ≡ element_of n (collected m n y)
collected_whole m n y element h is = is ∙ ap (element_of n) (collected_more m n [] y h)

-- ---- what a call of `collect` asks
pub below_sum : (m n : ℕ) (z y : List Term) (element : Element) → 0 < m → element ≡ element_of n (add m n z y) → AreBelow m element
below_sum m n z y element h is = subst (AreBelow m) (sym is) (IsElement-add m n z y h).below

pub at_strands : (n : ℕ) (x p : List ℕ) (y : List Term) (element : Element) → element ≡ element_of n y → x ≡ p → IsNoncrossingOn n p → IsNoncrossingOn element.strands x
at_strands n x p y element is e h =
    let P : Element → Type 0 = λ k. IsNoncrossingOn k.strands x in
    subst P (sym is) (subst (IsNoncrossingOn n) (sym e) h)

-- the term that a loop reads
pub read_noncrossing : (n : ℕ) (xs : List Term) (i : ℕ) (t : Term) → i < length xs → t ≡ get_or xs i t → All (λ term. IsNoncrossingOn n term.partner) xs → IsNoncrossingOn n t.partner
read_noncrossing n xs i t l read h = let P : Term → Type 0 = λ term. IsNoncrossingOn n term.partner in subst P (sym read) (h i t l)

pub read_below : (m : ℕ) (xs : List Term) (i : ℕ) (t : Term) → i < length xs → t ≡ get_or xs i t → All (λ term. term.weight < m) xs → t.weight < m
read_below m xs i t l read h = let P : Term → Type 0 = λ term. term.weight < m in subst P (sym read) (h i t l)

-- a single term in nothing else
pub single_term : (m k n : ℕ) (e new : Element) (p q : List ℕ) → 0 < m → e ≡ element_of n (collected m n []) →
    new ≡ element_of e.strands (add m e.strands e.terms (record { weight = 1; partner = p } ∷ [])) → p ≡ q → m ≡ k →
    new ≡ element_of n (collected k n (record { weight = 1; partner = q } ∷ []))
single_term m k n e new p q h start is pairing same =
    is ∙ ap (λ (x : Element). element_of x.strands (add m x.strands x.terms (record { weight = 1; partner = p } ∷ []))) start
    ∙ ap (element_of n) (collected_more m n [] (record { weight = 1; partner = p } ∷ []) h)
    ∙ ap₂ (λ j r. element_of n (collected j n (record { weight = 1; partner = r } ∷ []))) same pairing

-- a loop from nothing, at its start and at its end
pub nothing_started : (m n k : ℕ) (f : Term → Term) (xs : List Term) (element : Element) → 0 < m → element ≡ element_of k (collected m k []) → k ≡ n → IsSumSo m n (collected m n []) f xs 0 element
nothing_started m n k f xs element h is same =
    started m n (collected m n []) f xs element h (IsElement-collected m n [] h) (is ∙ ap (λ j. element_of j (collected m j [])) same)

pub nothing_ended : (m k n : ℕ) (f : Term → Term) (xs ys : List Term) (i : ℕ) (element : Element) → 0 < m → IsSumSo m n (collected m n []) f xs i element → length xs ≤ i → xs ≡ ys → m ≡ k →
    element ≡ element_of n (collected k n (map f ys))
nothing_ended m k n f xs ys i element h so l same modulus =
    collected_whole m n (map f xs) element h (ended m n (collected m n []) f xs i element l so) ∙ ap₂ (λ j zs. element_of n (collected j n (map f zs))) modulus same

pub below_so : (m n : ℕ) (z : List Term) (f : Term → Term) (xs : List Term) (i : ℕ) (element : Element) → 0 < m → IsSumSo m n z f xs i element → AreBelow m element
below_so m n z f xs i element h so = below_sum m n z (map f (take i xs)) element h so

-- two lists of terms, one after the other, from nothing
pub first_added : (m n j : ℕ) (x : List Term) (e a : Element) → 0 < m → e ≡ element_of j (collected m j []) → j ≡ n → a ≡ element_of e.strands (add m e.strands e.terms x) → a ≡ element_of n (collected m n x)
first_added m n j x e a h start same first =
    first ∙ ap (λ (u : Element). element_of u.strands (add m u.strands u.terms x)) start
    ∙ ap (element_of j) (collected_more m j [] x h) ∙ ap (λ i. element_of i (collected m i x)) same

pub both_added : (m k n j : ℕ) (x y : List Term) (e a b : Element) → 0 < m → e ≡ element_of j (collected m j []) → j ≡ n → a ≡ element_of e.strands (add m e.strands e.terms x) →
    b ≡ element_of a.strands (add m a.strands a.terms y) → m ≡ k → b ≡ element_of n (add k n x y)
both_added m k n j x y e a b h start same first second modulus =
    second ∙ ap (λ (u : Element). element_of u.strands (add m u.strands u.terms y)) (first_added m n j x e a h start same first)
    ∙ ap (element_of n) (collected_more m n x y h) ∙ ap (λ i. element_of n (add i n x y)) modulus

pub element_read : (m n : ℕ) (x : List Term) (e : Element) → 0 < m → e ≡ element_of n (collected m n x) → IsElement m e.strands e.terms
element_read m n x e h is = let P : Element → Type 0 = λ u. IsElement m u.strands u.terms in subst P (sym is) (IsElement-collected m n x h)

-- the pairing and the weight of a term that a loop reads from a copy of a list
pub term_noncrossing : (n : ℕ) (xs ys : List Term) (i : ℕ) (t : Term) (p : List ℕ) → i < length xs → t ≡ get_or xs i t → xs ≡ ys → All (λ term. IsNoncrossingOn n term.partner) ys → p ≡ t.partner → IsNoncrossingOn n p
term_noncrossing n xs ys i t p l read same all is =
    let P : List Term → Type 0 = λ zs. All (λ term. IsNoncrossingOn n term.partner) zs in
    subst (IsNoncrossingOn n) (sym is) (read_noncrossing n xs i t l read (subst P (sym same) all))

pub term_below : (m : ℕ) (xs ys : List Term) (i : ℕ) (t : Term) (w : ℕ) → i < length xs → t ≡ get_or xs i t → xs ≡ ys → All (λ term. term.weight < m) ys → w ≡ t.weight → w < m
term_below m xs ys i t w l read same all is =
    let P : List Term → Type 0 = λ zs. All (λ term. term.weight < m) zs in
    let small = read_below m xs i t l read (subst P (sym same) all) in
    omega (arith, small, is)
