-- What is known where a move is accepted.
use Rattle.std.proofs.Common.{◌≡◌, ltb, ℕ, ◌<◌, ◌≤◌, Bool, true, false, cond, ◌&&◌, List, [], ◌∷◌, length, Option, Some, None, Ok, Err, refl, sym, ap, ◌∙◌, arith, ⊎_elim, All}
use Rattle.std.specs.List.{find}
use Rattle.std.proofs.lemmas.Bool.{cases_Bool, and_parts, ltb-true}
use Rattle.std.proofs.lemmas.Bool.Decides.{nat_tests}
use Rattle.std.proofs.lemmas.List.Elements.{All-head, All-tail}
use Rattle.std.proofs.lemmas.List.Sums.{AllPass-from_list_all}
use Rattle.pd_reader.specs.declared.item.Item.{Item}
use Rattle.diagram_moves.specs.Moves.{given, unless, finished, slot_pairs, slot_triples, four}
use Rattle.diagram_moves.specs.declared.factor.Factor.{Factor}
use Rattle.diagram_moves.specs.declared.fault.MoveFault.{MoveFault}
use Rattle.diagram_moves.specs.declared.fault.MoveFault.TheVariants.{TooMany}
use Rattle.diagram_moves.specs.Steps.{Answer, Moved}

err_ok : (refusal : MoveFault) (moved : Moved) → ◌≡◌ {A = Answer} (Err refusal) (Ok moved) → ⊥
err_ok refusal moved h = cc

pub given_Ok : {X : Type 0} (o : Option X) (refusal : MoveFault) (next : X → Answer) (moved : Moved) → given o refusal next ≡ Ok moved → (x : X) × (o ≡ Some x) × (next x ≡ Ok moved)
given_Ok None refusal next moved h = absurd (err_ok refusal moved h)
given_Ok (Some x) refusal next moved h = (x, refl, h)

pub unless_Ok : (test : Bool) (refusal : MoveFault) (next : Answer) (moved : Moved) → unless test refusal next ≡ Ok moved → (test ≡ false) × (next ≡ Ok moved)
unless_Ok true refusal next moved h = absurd (err_ok refusal moved h)
unless_Ok false refusal next moved h = (refl, h)

pub finished_Ok : (factor : Factor) (items : List Item) (moved : Moved) → finished factor items ≡ Ok moved → moved ≡ record { items = items; factor = factor }
finished_Ok factor items moved h =
    let done : Moved = record { items = items; factor = factor } in
    ⊎_elim
    (λ t. absurd (err_ok (TooMany 256) moved (sym (ap (λ c. cond {A = Answer} c (Err (TooMany 256)) (Ok done)) t) ∙ h)))
    (λ t. let e : ◌≡◌ {A = Answer} (Ok done) (Ok moved) = sym (ap (λ c. cond {A = Answer} c (Err (TooMany 256)) (Ok done)) t) ∙ h in cc)
    (cases_Bool (ltb 256 (length items)))

pub finished_few : (factor : Factor) (items : List Item) (moved : Moved) → finished factor items ≡ Ok moved → length moved.items ≤ 256
finished_few factor items moved h =
    let done : Moved = record { items = items; factor = factor } in
    let same = ap (λ (w : Moved). length w.items) (finished_Ok factor items moved h) in
    ⊎_elim
    (λ t. absurd (err_ok (TooMany 256) moved (sym (ap (λ c. cond {A = Answer} c (Err (TooMany 256)) (Ok done)) t) ∙ h)))
    (λ t. let few : length items ≤ 256 = grind (arith, nat_tests, t) in omega (arith, same, few))
    (cases_Bool (ltb 256 (length items)))

-- what passes a test is one of the list
pub passing_test : {X : Type 0} (test q : X → Bool) (xs : List X) (x : X) → find test xs ≡ Some x → All (λ y. q y ≡ true) xs → (test x ≡ true) × (q x ≡ true)
passing_test test q [] x h a = absurd (let e : None ≡ Some x = h in cc)
passing_test test q (y ∷ xs) x h a =
    ⊎_elim
    (λ t. let e : Some y ≡ Some x = sym (ap (λ c. cond c (Some y) (find test xs)) t) ∙ h in let same : y ≡ x = cc in
    (ap test (sym same) ∙ t, ap q (sym same) ∙ All-head (λ z. q z ≡ true) y xs a))
    (λ t. passing_test test q xs x (sym (ap (λ c. cond c (Some y) (find test xs)) t) ∙ h) (All-tail (λ z. q z ≡ true) y xs a))
    (cases_Bool (test y))

abbrev pub small_pair : ℕ × ℕ → Bool
small_pair at = ltb at.0 4 && ltb at.1 4

abbrev pub small_triple : ℕ × (ℕ × ℕ) → Bool
small_triple at = ltb at.0 4 && (ltb at.1.0 4 && ltb at.1.1 4)

pub low_pair : (at : ℕ × ℕ) → small_pair at ≡ true → (at.0 < 4) × (at.1 < 4)
low_pair at h = let p = and_parts (ltb at.0 4) (ltb at.1 4) h in (ltb-true at.0 4 p.0, ltb-true at.1 4 p.1)

pub low_triple : (at : ℕ × (ℕ × ℕ)) → small_triple at ≡ true → (at.0 < 4) × (at.1.0 < 4) × (at.1.1 < 4)
low_triple at h =
    let p = and_parts (ltb at.0 4) (ltb at.1.0 4 && ltb at.1.1 4) h in let q = and_parts (ltb at.1.0 4) (ltb at.1.1 4) p.1 in
    (ltb-true at.0 4 p.0, ltb-true at.1.0 4 q.0, ltb-true at.1.1 4 q.1)

pub small_pairs : All (λ at. small_pair at ≡ true) slot_pairs
small_pairs = AllPass-from_list_all small_pair slot_pairs refl

pub small_triples : All (λ at. small_triple at ≡ true) slot_triples
small_triples = AllPass-from_list_all small_triple slot_triples refl

pub small_slots : All (λ s. ltb s 4 ≡ true) four
small_slots = AllPass-from_list_all (λ s. ltb s 4) four refl
