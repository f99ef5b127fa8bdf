-- The rows of a product: one term of the upper element on each of the lower one's.
use Rattle.std.proofs.Common.{◌≡◌, ℕ, ◌+◌, ◌*◌, ◌%◌, ◌^◌, ◌<◌, ◌≤◌, List, [], ◌∷◌, ◌++◌, map, take, take_all, length, get_or, pos, ◌*ℤ◌, sym, ap, ap₂, ◌∙◌, arith}
use Rattle.std.specs.List.{flat_map}
use Rattle.std.proofs.lemmas.Nat.{mul-mod_second}
use Rattle.std.proofs.lemmas.List.{take_more, flat_map_more}
use Rattle.std.proofs.lemmas.List.Elements.{All-map}
use Rattle.ring_identities.specs.Residues.{residue}
use Rattle.ring_identities.specs.Powers.{power}
use Rattle.ring_identities.proofs.PowerLemmas.{power-pos}
use Rattle.state_sums.specs.Networks.{Term}
use Rattle.strand_algebra.specs.Elements.{collected, add, multiply, term_on}
use Rattle.strand_algebra.specs.StrandPairings.{product, product_loops}
use Rattle.strand_algebra.proofs.Collecting.{IsElement-collected}
use Rattle.temperley_lieb.specs.Elements.{Element, element_of}
use Rattle.temperley_lieb.proofs.AddedTerms.{add_zeros, collected_more}

-- the residue of the weight of one term on another
pub worth_is : (m a b d l p q r : ℕ) → p ≡ residue m (power (pos d) l) → q ≡ residue m (pos b *ℤ pos p) → r ≡ residue m (pos a *ℤ pos q) → r ≡ (a * (b * d ^ l)) % m
unfolding residue
worth_is m a b d l p q r power_is inner outer =
    let x : p ≡ d ^ l % m = power_is ∙ ap (residue m) (power-pos d l) in
    let y : q ≡ (b * d ^ l) % m = inner ∙ ap (λ k. (b * k) % m) x ∙ mul-mod_second b (d ^ l) m in
    outer ∙ ap (λ k. (a * k) % m) y ∙ mul-mod_second a (b * d ^ l) m

-- a term of weight 0 below or above
pub no_weight_below : (a b k : ℕ) → b ≡ 0 → a * (b * k) ≡ 0
no_weight_below a b k e = ap (λ z. a * (z * k)) e ∙ omega arith

pub no_weight_above : (a b k : ℕ) → a ≡ 0 → a * (b * k) ≡ 0
no_weight_above a b k e = ap (λ z. z * (b * k)) e ∙ omega arith

-- one term on each of these
abbrev pub row : ℕ → ℕ → List Term → Term → List Term
row d n ys above = map (term_on d n above) ys

rows_more : (d n : ℕ) (xs ys : List Term) (i : ℕ) (t : Term) → i < length xs → t ≡ get_or xs i t → flat_map (row d n ys) (take (i + 1) xs) ≡ flat_map (row d n ys) (take i xs) ++ row d n ys t
rows_more d n xs ys i t l read =
    ap (flat_map (row d n ys)) (take_more xs i t l ∙ ap (λ u. take i xs ++ u ∷ []) (sym read))
    ∙ sym (flat_map_more (row d n ys) [] (take i xs) t)

pub row_added : (m d n : ℕ) (xs ys : List Term) (i : ℕ) (t : Term) (old new : Element) → 0 < m → i < length xs → t ≡ get_or xs i t →
    old ≡ element_of n (collected m n (flat_map (row d n ys) (take i xs))) → new ≡ element_of old.strands (add m old.strands old.terms (row d old.strands ys t)) →
    new ≡ element_of n (collected m n (flat_map (row d n ys) (take (i + 1) xs)))
row_added m d n xs ys i t old new h l read so is =
    is
    ∙ ap (λ (e : Element). element_of e.strands (add m e.strands e.terms (row d e.strands ys t))) so
    ∙ ap (element_of n) (collected_more m n (flat_map (row d n ys) (take i xs)) (row d n ys t) h ∙ ap (collected m n) (sym (rows_more d n xs ys i t l read)))

pub row_skipped : (m d n : ℕ) (xs ys : List Term) (i : ℕ) (t : Term) (old : Element) → 0 < m → i < length xs → t ≡ get_or xs i t →
    old ≡ element_of n (collected m n (flat_map (row d n ys) (take i xs))) → t.weight ≡ 0 →
    old ≡ element_of n (collected m n (flat_map (row d n ys) (take (i + 1) xs)))
row_skipped m d n xs ys i t old h l read so none =
    so
    ∙ ap (element_of n)
    (sym (add_zeros m n (collected m n (flat_map (row d n ys) (take i xs))) (row d n ys t) h (IsElement-collected m n (flat_map (row d n ys) (take i xs)) h)
    (All-map (λ term. term.weight ≡ 0) (term_on d n t) ys (λ j u b. no_weight_above t.weight (get_or ys j u).weight (d ^ product_loops n t.partner (get_or ys j u).partner) none)))
    ∙ collected_more m n (flat_map (row d n ys) (take i xs)) (row d n ys t) h
    ∙ ap (collected m n) (sym (rows_more d n xs ys i t l read)))

pub rows_ended : (m k d e n : ℕ) (xs us ys : List Term) (i : ℕ) (element : Element) → length xs ≤ i → xs ≡ us → m ≡ k → d ≡ e →
    element ≡ element_of n (collected m n (flat_map (row d n ys) (take i xs))) → element ≡ element_of n (multiply k e n us ys)
rows_ended m k d e n xs us ys i element l same modulus value so =
    so ∙ ap (λ zs. element_of n (collected m n (flat_map (row d n ys) zs))) (take_all i xs l ∙ same)
    ∙ ap₂ (λ j z. element_of n (collected j n (flat_map (row z n ys) us))) modulus value

-- the same pairings under other names
pub same_product : (s n : ℕ) (a b p q : List ℕ) → n ≡ s → a ≡ p → b ≡ q → product s a b ≡ product n p q
same_product s n a b p q e f g = ap (λ k. product k a b) (sym e) ∙ ap₂ (product n) f g

pub same_worth : (m d s n v u x y l : ℕ) (a b p q : List ℕ) → n ≡ s → a ≡ p → b ≡ q → v ≡ x → u ≡ y → l ≡ product_loops s a b →
    (v * (u * d ^ l)) % m ≡ (x * (y * d ^ product_loops n p q)) % m
same_worth m d s n v u x y l a b p q e f g h k loops =
    ap (λ j. (v * (u * d ^ j)) % m) (loops ∙ ap (λ i. product_loops i a b) (sym e) ∙ ap₂ (product_loops n) f g)
    ∙ ap₂ (λ i j. (i * (j * d ^ product_loops n p q)) % m) h k
