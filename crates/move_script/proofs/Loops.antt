-- What the loops of moves have to do yet.
use Rattle.std.proofs.Common.{◌≡◌, ℕ, ◌+◌, ◌/◌, ◌%◌, ◌<◌, ◌||◌, ◌==◌, Bool, true, false, cond, Some, List, [], ◌∷◌, if◌then◌else◌, map, drop, sym, ap, ◌∙◌, arith}
use Rattle.std.specs.List.{find, range_with_len}
use Rattle.std.specs.Set.{is_member}
use Rattle.std.proofs.lemmas.List.{drop_more}
use Rattle.std.proofs.lemmas.List.FromFn.{get_or-map-range_with_len, length-map-range_with_len}
use Rattle.pd_reader.specs.declared.item.Item.{Item}
use Rattle.pd_reader.specs.declared.item.Item.TheVariants as item
use Rattle.diagram_moves.specs.Moves.{four, is_triangle, slot_pairs, slot_triples}
use Rattle.diagram_moves.specs.Rewriting.{rewritten}
use Rattle.move_script.specs.Tables.{anew}

abbrev pub removed_from : List ℕ → (ℕ → ℕ) → ℕ → List Item → List Item
removed_from gone label k items = rewritten (λ k slots. if is_member ◌==◌ gone k then [] else item.X (map label slots) ∷ []) k items

abbrev pub anew_item : List (ℕ × List ℕ) → ℕ → List ℕ → List Item
anew_item new number slots = item.X (anew new number slots) ∷ []

abbrev pub either_triangle : List ℕ → List ℕ → List ℕ → ℕ × (ℕ × ℕ) → Bool
either_triangle first second third at = is_triangle first second third at || is_triangle first third second at

-- ---- the k-th of a list that a rule gives
rest_from : {X : Type 0} (f : ℕ → X) (n k : ℕ) → k < n → drop k (map f (range_with_len 0 n)) ≡ f k ∷ drop (k + 1) (map f (range_with_len 0 n))
rest_from f n k lt =
    let xs = map f (range_with_len 0 n) in
    drop_more xs k (f 0) (let e = length-map-range_with_len f 0 n in omega (arith, e, lt))
    ∙ ap (λ x. x ∷ drop (k + 1) xs) (get_or-map-range_with_len f 0 n k k (f 0) lt (omega arith))

abbrev pub pair_at : ℕ → ℕ × ℕ
pair_at k = (k / 4, k % 4)

abbrev pub triple_at : ℕ → ℕ × (ℕ × ℕ)
triple_at k = (k / 16, (k / 4 % 4, k % 4))

pub slots_from : (k : ℕ) → k < 4 → drop k four ≡ k ∷ drop (k + 1) four
slots_from k lt = rest_from (λ i. i) 4 k lt

pub pairs_from : (k : ℕ) → k < 16 → drop k slot_pairs ≡ pair_at k ∷ drop (k + 1) slot_pairs
pairs_from k lt = rest_from pair_at 16 k lt

pub triples_from : (k : ℕ) → k < 64 → drop k slot_triples ≡ triple_at k ∷ drop (k + 1) slot_triples
triples_from k lt = rest_from triple_at 64 k lt

-- ---- the first that passes a test
module _ {X : Type 0} (p : X → Bool) (xs : List X) (k : ℕ) (x : X) (rest : List X) (none : find p (drop k xs) ≡ find p xs) (at : drop k xs ≡ x ∷ rest) where
  pub find_here : p x ≡ true → Some x ≡ find p xs
  find_here t = sym (ap (λ c. cond c (Some x) (find p rest)) t) ∙ sym (ap (find p) at) ∙ none

  pub find_more : p x ≡ false → find p rest ≡ find p xs
  find_more t = sym (ap (λ c. cond c (Some x) (find p rest)) t) ∙ sym (ap (find p) at) ∙ none
