-- Sums over states that agree at each pattern agree for every worth of the patterns.
use Rattle.std.proofs.Common.{Bool, ◌++◌, map, get_or, ◌≡◌, ℕ, ◌+◌, ◌*◌, ◌^◌, ◌%◌, true, false, cond, List, [], ◌∷◌, mul_assoc, sum_by, refl, sym, ap, ◌∙◌, arith, All}
use Rattle.std.specs.List.{list_any}
use Rattle.std.proofs.lemmas.Bool.{or_left, or_right}
use Rattle.std.proofs.lemmas.List.Sums.{sum_by-cons}
use Rattle.std.proofs.lemmas.List.{length-map, get_or-map}
use Rattle.std.proofs.lemmas.List.Elements.{All-weaker}
use Rattle.std.proofs.lemmas.List.Folds.{list_any_at, list_any-append}
use Rattle.std.proofs.lemmas.Slice.Eq.{bytes_eq-Decides}
use Rattle.std.specs.Str.{bytes_eq}
use Rattle.graph_parts.specs.Patterns.{pattern, closed_parts}
use Rattle.state_sums.specs.LocalSums.{pattern_sum, SameEverywhere}
use Rattle.state_sums.specs.Networks.{Network, Term, names_of}
use Rattle.state_sums.specs.StateSums.{states, state_edges, state_weight}
use Rattle.state_sums.proofs.Congruent.{add_same_mod, mul_same_mod}
use Rattle.state_sums.proofs.StateEdges.{sum_by_all}
use Rattle.list_lemmas.proofs.Sums.{sum_by_same}

module _ {K : Type 0} (eq : K → K → Bool) (sound : (p q : K) → eq p q ≡ true → p ≡ q) (itself : (p : K) → eq p p ≡ true) where
  -- 1 at p, 0 elsewhere
  abbrev pub only : K → K → ℕ
  only p q = cond (eq p q) 1 0

  -- g without p
  abbrev but : (K → ℕ) → K → K → ℕ
  but g p q = cond (eq p q) 0 (g q)

  split : (g : K → ℕ) (p q : K) → g q ≡ g p * only p q + but g p q
  split g p q = let e = λ (t : eq p q ≡ true). ap g (sound p q t) in grind (arith, e)

  module _ {X Y : Type 0} (m : ℕ) (c : X → ℕ) (k : X → K) (d : Y → ℕ) (j : Y → K) (xs : List X) (ys : List Y)
      (each : (p : K) → sum_by (λ x. c x * only p (k x)) xs % m ≡ sum_by (λ y. d y * only p (j y)) ys % m) where
    keyed : {Z : Type 0} (c : Z → ℕ) (k : Z → K) (g : K → ℕ) (p : K) (zs : List Z) →
        sum_by (λ z. c z * g (k z)) zs ≡ g p * sum_by (λ z. c z * only p (k z)) zs + sum_by (λ z. c z * but g p (k z)) zs
    keyed c k g p [] = omega arith
    keyed c k g p (z ∷ zs) =
        let ih = keyed c k g p zs in
        let a = sum_by-cons (λ w. c w * g (k w)) z zs in
        let b = ap (λ n. g p * n) (sum_by-cons (λ w. c w * only p (k w)) z zs) in
        let e = sum_by-cons (λ w. c w * but g p (k w)) z zs in
        let s = ap (λ n. c z * n) (split g p (k z)) in
        omega (arith, ih, a, b, e, s)

    null : {Z : Type 0} (c : Z → ℕ) (k : Z → K) (g : K → ℕ) → ((q : K) → g q ≡ 0) → (zs : List Z) → sum_by (λ z. c z * g (k z)) zs ≡ 0
    null c k g h [] = refl
    null c k g h (z ∷ zs) =
        let ih = null c k g h zs in let a = sum_by-cons (λ w. c w * g (k w)) z zs in let s = ap (λ n. c z * n) (h (k z)) in omega (arith, ih, a, s)

    within : (keys : List K) (g : K → ℕ) → ((q : K) → list_any (eq q) keys ≡ false → g q ≡ 0) →
        sum_by (λ x. c x * g (k x)) xs % m ≡ sum_by (λ y. d y * g (j y)) ys % m
    within [] g h = ap (λ n. n % m) (null c k g (λ q. h q refl) xs ∙ sym (null d j g (λ q. h q refl) ys))
    within (p ∷ keys) g h =
        let rest = within keys (but g p) (λ q t.
        let e = λ (s : eq q p ≡ false). h q (grind (arith, t, s)) in
        let back = λ (s : eq q p ≡ true). (let v = sound q p s in ap (λ z. eq z q) (sym v) ∙ itself q) in
        grind (arith, t, e, back)) in
        ap (λ n. n % m) (keyed c k g p xs)
        ∙ add_same_mod m _ _ _ _ (mul_same_mod m (g p) _ _ (each p)) rest
        ∙ sym (ap (λ n. n % m) (keyed d j g p ys))

    among : {Z : Type 0} (k : Z → K) (zs : List Z) → All (λ z. list_any (eq (k z)) (map k zs) ≡ true) zs
    among k zs i d l =
        list_any_at (eq (k (get_or zs i d))) (map k zs) i (k d) (let n = length-map zs k in omega (arith, n, l))
        (ap (eq (k (get_or zs i d))) (get_or-map k zs i d (k d) l) ∙ itself (k (get_or zs i d)))

    -- SUMS THAT AGREE AT EACH KEY
    pub grouped : (g : K → ℕ) → sum_by (λ x. c x * g (k x)) xs % m ≡ sum_by (λ y. d y * g (j y)) ys % m
    grouped g =
        let keys = map k xs ++ map j ys in
        let inside : K → ℕ = λ q. cond (list_any (eq q) keys) (g q) 0 in
        let left = All-weaker (λ x. list_any (eq (k x)) (map k xs) ≡ true) (λ x. list_any (eq (k x)) keys ≡ true)
        (λ x h. list_any-append (eq (k x)) (map k xs) (map j ys) ∙ or_left (list_any (eq (k x)) (map k xs)) _ h) xs (among k xs) in
        let right = All-weaker (λ y. list_any (eq (j y)) (map j ys) ≡ true) (λ y. list_any (eq (j y)) keys ≡ true)
        (λ y h. list_any-append (eq (j y)) (map k xs) (map j ys) ∙ or_right (list_any (eq (j y)) (map k xs)) _ h) ys (among j ys) in
        ap (λ n. n % m) (sum_by_all (λ x. list_any (eq (k x)) keys ≡ true) (λ x. c x * g (k x)) (λ x. c x * inside (k x)) xs left (λ x h. ap (λ b. c x * cond b (g (k x)) 0) (sym h)))
        ∙ within keys inside (λ q h. ap (λ b. cond b (g q) 0) h)
        ∙ sym (ap (λ n. n % m) (sum_by_all (λ y. list_any (eq (j y)) keys ≡ true) (λ y. d y * g (j y)) (λ y. d y * inside (j y)) ys right (λ y h. ap (λ b. d y * cond b (g (j y)) 0) (sym h))))

-- ALIKE FOR EVERY WORTH
pub SameEverywhere-from_worth : (m delta : ℕ) (open_names : List ℕ) (old new : Network) →
    ((worth : List ℕ → ℕ) → pattern_sum delta old open_names worth % m ≡ pattern_sum delta new open_names worth % m) → SameEverywhere m delta open_names old new
SameEverywhere-from_worth m delta open_names old new h = record { at = λ wanted. h (λ found. cond (bytes_eq wanted found) 1 0) }

pub worth-from_SameEverywhere : (m delta : ℕ) (open_names : List ℕ) (old new : Network) → SameEverywhere m delta open_names old new →
    (worth : List ℕ → ℕ) → pattern_sum delta old open_names worth % m ≡ pattern_sum delta new open_names worth % m
unfolding pattern_sum
worth-from_SameEverywhere m delta open_names old new same worth =
    let power : Network → List Term → ℕ = λ piece state. delta ^ (closed_parts (names_of piece.nodes) (state_edges piece.nodes state) open_names + piece.free_loops) in
    let key : Network → List Term → List ℕ = λ piece state. pattern (names_of piece.nodes) (state_edges piece.nodes state) open_names in
    let flat : (piece : Network) (w : List ℕ → ℕ) → pattern_sum delta piece open_names w ≡ sum_by (λ state. (state_weight state * power piece state) * w (key piece state)) (states piece.nodes) =
    λ piece w. sum_by_same _ _ (states piece.nodes) (λ state. sym (mul_assoc (state_weight state) (power piece state) (w (key piece state)))) in
    ap (λ n. n % m) (flat old worth)
    ∙ grouped bytes_eq (λ p q t. (bytes_eq-Decides p q).0 t) (λ p. (bytes_eq-Decides p p).1 refl) m
    (λ state. state_weight state * power old state) (key old) (λ state. state_weight state * power new state) (key new) (states old.nodes) (states new.nodes)
    (λ p. sym (ap (λ n. n % m) (flat old (λ other. cond (bytes_eq p other) 1 0))) ∙ same.at p ∙ ap (λ n. n % m) (flat new (λ other. cond (bytes_eq p other) 1 0)))
    worth
    ∙ sym (ap (λ n. n % m) (flat new worth))
