-- The mates before a term is joined, as the loop over the points of the old pairing makes them.
--
--     AreFirstMates partners mates point     the points before `point` have their partners, each other slot itself
use Rattle.std.proofs.Common.{◌≡◌, ℕ, ◌≤◌, ◌<◌, List, length, slice_index, ◌∙◌, ⊎_elim, arith}
use Rattle.std.specs.List.{range_with_len}
use Rattle.std.proofs.lemmas.Bool.{cases_lt}
use Rattle.std.proofs.lemmas.List.FromFn.{length-range_with_len, get_or-range_with_len}
use Rattle.list_lemmas.proofs.Items.{get_past}

pub record AreFirstMates (partners mates : List ℕ) (point : ℕ) : Type 0 where
  pub whole : length mates ≡ 48
  pub points : (i : ℕ) → i < point → slice_index mates i ≡ slice_index partners i
  pub others : (x : ℕ) → point ≤ x → x < 48 → slice_index mates x ≡ x

pub first_none : (partners : List ℕ) → AreFirstMates partners (range_with_len 0 48) 0
first_none partners = record {
  whole = length-range_with_len 0 48;
  points = λ i l. absurd (omega (arith, l));
  others = λ x l m. get_or-range_with_len 0 48 x 0 m ∙ omega arith;
}

-- EACH FIRST MATE IS A SLOT
pub first_small : (partners mates : List ℕ) (point : ℕ) → AreFirstMates partners mates point → point ≤ 48 → ((i : ℕ) → i < point → slice_index partners i < 48) → (x : ℕ) → slice_index mates x < 48
first_small partners mates point h l small x =
    ⊎_elim
    (λ (a : x < point). let e = h.points x a in let s = small x a in omega (arith, e, s))
    (λ (a : point ≤ x).
    ⊎_elim
    (λ (b : x < 48). let e = h.others x a b in omega (arith, e, b))
    (λ (b : 48 ≤ x). let e = get_past mates x (let w = h.whole in omega (arith, w, b)) in omega (arith, e))
    (cases_lt x 48))
    (cases_lt x point)
