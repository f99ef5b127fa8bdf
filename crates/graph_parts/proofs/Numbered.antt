-- Names that are the numbers from 0 on: a name stands among the first n just where it is below n, and each stands once.
use Rattle.std.proofs.Common.{◌≡◌, ℕ, ◌+◌, ◌<◌, true, ◌==◌, List, [], ◌∷◌, sym, ap, ◌∙◌, arith, All, ⊎_elim, zero, suc, false, cond, refl}
use Rattle.std.specs.List.{range_with_len}
use Rattle.std.specs.Set.{is_member, unique_keys}
use Rattle.std.proofs.lemmas.Bool.{eqb-true, or_cases}
use Rattle.std.proofs.lemmas.Bool.Decides.{nat_tests}
use Rattle.std.proofs.lemmas.List.Elements.{All-head, All-tail}
use Rattle.std.proofs.lemmas.List.FromFn.{length-range_with_len, get_or-range_with_len}
use Rattle.graph_parts.specs.Ends.{AreAmong}
use Rattle.graph_parts.proofs.Ends.{is_member-get_or}

pub is_member-numbered : (n x : ℕ) → x < n → is_member ◌==◌ (range_with_len 0 n) x ≡ true
is_member-numbered n x l =
    let e = get_or-range_with_len 0 n x 0 l in
    let same : 0 + x ≡ x = omega arith in
    let long = length-range_with_len 0 n in
    ap (is_member ◌==◌ (range_with_len 0 n)) (sym (e ∙ same)) ∙ is_member-get_or (range_with_len 0 n) x (omega (arith, long, l))

pub AreAmong-numbered : (n : ℕ) (edges : List (ℕ × ℕ)) → All (λ edge. (edge.0 < n) × (edge.1 < n)) edges → AreAmong (range_with_len 0 n) edges
AreAmong-numbered n [] h = tt
AreAmong-numbered n (e ∷ edges) h =
    let here = All-head (λ edge. (edge.0 < n) × (edge.1 < n)) e edges h in
    (is_member-numbered n e.0 here.0, is_member-numbered n e.1 here.1, AreAmong-numbered n edges (All-tail (λ edge. (edge.0 < n) × (edge.1 < n)) e edges h))

below_all : (a x n : ℕ) → x < a → is_member ◌==◌ (range_with_len a n) x ≡ false
below_all a x zero l = refl
below_all a x (suc n) l = let ih = below_all (a + 1) x n (omega (arith, l)) in grind (arith, nat_tests, ih, l)

unique-range : (a n : ℕ) → unique_keys ◌==◌ (range_with_len a n) ≡ range_with_len a n
unique-range a zero = refl
unique-range a (suc n) =
    let ih = unique-range (a + 1) n in
    let new = below_all (a + 1) a n (omega arith) in
    ap (λ b. cond b (unique_keys ◌==◌ (range_with_len (a + 1) n)) (a ∷ unique_keys ◌==◌ (range_with_len (a + 1) n))) new ∙ ap (λ ns. a ∷ ns) ih

pub unique-numbered : (n : ℕ) → unique_keys ◌==◌ (range_with_len 0 n) ≡ range_with_len 0 n
unique-numbered n = unique-range 0 n

below_end : (a x n : ℕ) → is_member ◌==◌ (range_with_len a n) x ≡ true → x < a + n
below_end a x zero m = absurd (grind (arith, m))
below_end a x (suc n) m =
    ⊎_elim (λ t. let e = eqb-true x a t in omega (arith, e)) (λ t. let ih = below_end (a + 1) x n t in omega (arith, ih)) (or_cases (x == a) (is_member ◌==◌ (range_with_len (a + 1) n) x) m)

-- WHAT STANDS AMONG THE FIRST N NUMBERS IS BELOW N
pub numbered-member : (n x : ℕ) → is_member ◌==◌ (range_with_len 0 n) x ≡ true → x < n
numbered-member n x m = let h = below_end 0 x n m in omega (arith, h)
