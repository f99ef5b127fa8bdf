-- Three crossings of a cable come to its front; and what corners tell of a crossing's four bundles.
use Rattle.std.proofs.Common.{◌≡◌, ℕ, zero, suc, ◌+◌, ◌*◌, ◌%◌, ◌<◌, ◌==◌, false, List, [], ◌∷◌, ◌++◌, length, slice_index, Some, refl, sym, ap, ◌∙◌, arith, All, append_assoc}
use Rattle.std.specs.List.Sorted.{IsPermutation}
use Rattle.std.specs.Set.{is_member}
use Rattle.std.proofs.lemmas.List.Elements.{All-append}
use Rattle.std.proofs.lemmas.List.Sorted.{IsPermutation-trans, IsPermutation-append_right}
use Rattle.list_lemmas.specs.Times.{times_in}
use Rattle.state_sums.specs.Networks.{Node, IsNode, names_of}
use Rattle.state_sums.specs.StateSums.{value}
use Rattle.root_quantum.specs.Parameters.{Parameters}
use Rattle.pd_reader.specs.declared.item.Item.{Item}
use Rattle.cables.specs.Strands.{Strands}
use Rattle.cables.proofs.GridNames.{crossing-times, crossing_inner}
use Rattle.diagram_moves.specs.Rewriting.{crossing_at, slot}
use Rattle.diagram_moves.proofs.Rewritten.{anew}
use Rattle.cable_crossings.proofs.BundleTurns.{runs_exchanged}
use Rattle.coloured_moves.proofs.StubItems.{at_stub, stub_crossing, stub_nodes, pulled, moved_out}
use Rattle.cable_crossings.proofs.ToldCrossings.{four_summed}

module _ (p : Parameters) (strands : Strands) (loop_group : ℕ) (items : List Item) (c : ℕ) (sc : List ℕ) (found : crossing_at items c ≡ Some sc) (d : ℕ) (sd : List ℕ) (also : crossing_at items d ≡ Some sd)
    (f : ℕ) (sf : List ℕ) (too : crossing_at items f ≡ Some sf) (apart_dc : (d == c) ≡ false) (apart_fc : (f == c) ≡ false) (apart_fd : (f == d) ≡ false) where
  abbrev pub at_c : (g : ℕ) × (k : ℕ) × ((h : ℕ → List ℕ → List ℕ) → IsPermutation (stub_nodes p strands [] 1 1 0 loop_group (anew h 1 items)) (stub_crossing p strands g k (h c sc) ++ stub_nodes p strands (c ∷ []) 1 1 0 loop_group (anew h 1 items)))
  at_c = pulled p strands [] 1 1 0 loop_group items c sc found refl

  pub out_d : is_member ◌==◌ (c ∷ []) d ≡ false
  out_d = grind (arith, apart_dc)

  pub out_f : is_member ◌==◌ (d ∷ c ∷ []) f ≡ false
  out_f = grind (arith, apart_fc, apart_fd)

  abbrev pub at_d : (g : ℕ) × (k : ℕ) × ((h : ℕ → List ℕ → List ℕ) → IsPermutation (stub_nodes p strands (c ∷ []) 1 1 0 loop_group (anew h 1 items)) (stub_crossing p strands g k (h d sd) ++ stub_nodes p strands (d ∷ c ∷ []) 1 1 0 loop_group (anew h 1 items)))
  at_d = pulled p strands (c ∷ []) 1 1 0 loop_group items d sd also out_d

  abbrev pub at_f : (g : ℕ) × (k : ℕ) × ((h : ℕ → List ℕ → List ℕ) → IsPermutation (stub_nodes p strands (d ∷ c ∷ []) 1 1 0 loop_group (anew h 1 items)) (stub_crossing p strands g k (h f sf) ++ stub_nodes p strands (f ∷ d ∷ c ∷ []) 1 1 0 loop_group (anew h 1 items)))
  at_f = pulled p strands (d ∷ c ∷ []) 1 1 0 loop_group items f sf too out_f

  abbrev pub first : List ℕ → List Node
  first slots = stub_crossing p strands at_c.0 at_c.1 slots

  abbrev pub second : List ℕ → List Node
  second slots = stub_crossing p strands at_d.0 at_d.1 slots

  abbrev pub third : List ℕ → List Node
  third slots = stub_crossing p strands at_f.0 at_f.1 slots

  abbrev pub others : (ℕ → List ℕ → List ℕ) → List Node
  others h = stub_nodes p strands (f ∷ d ∷ c ∷ []) 1 1 0 loop_group (anew h 1 items)

  -- THREE CROSSINGS IN FRONT
  pub three_pulled : (boxes : List Node) (h : ℕ → List ℕ → List ℕ) → IsPermutation (boxes ++ stub_nodes p strands [] 1 1 0 loop_group (anew h 1 items)) (first (h c sc) ++ (second (h d sd) ++ (third (h f sf) ++ (boxes ++ others h))))
  three_pulled boxes h =
      let s0 = stub_nodes p strands [] 1 1 0 loop_group (anew h 1 items) in
      let s1 = stub_nodes p strands (c ∷ []) 1 1 0 loop_group (anew h 1 items) in
      let s2 = stub_nodes p strands (d ∷ c ∷ []) 1 1 0 loop_group (anew h 1 items) in
      let A = first (h c sc) in let B = second (h d sd) in let C = third (h f sf) in
      IsPermutation-trans (boxes ++ s0) (A ++ (boxes ++ s1)) (A ++ (B ++ (C ++ (boxes ++ others h)))) (moved_out boxes A s0 s1 (at_c.2 h))
      (IsPermutation-append_right A (boxes ++ s1) (B ++ (C ++ (boxes ++ others h)))
      (IsPermutation-trans (boxes ++ s1) (B ++ (boxes ++ s2)) (B ++ (C ++ (boxes ++ others h))) (moved_out boxes B s1 s2 (at_d.2 h))
      (IsPermutation-append_right B (boxes ++ s2) (C ++ (boxes ++ others h)) (moved_out boxes C s2 (others h) (at_f.2 h)))))

-- ---- three runs in the other order
pub three_reversed : (m delta free : ℕ) (a b c rest : List Node) → All IsNode a → All IsNode b → All IsNode c → All IsNode rest →
    value m delta record { nodes = a ++ (b ++ (c ++ rest)); free_loops = free } ≡ value m delta record { nodes = c ++ (b ++ (a ++ rest)); free_loops = free }
three_reversed m delta free a b c rest oka okb okc ok =
    let V : List Node → ℕ = λ ns. value m delta record { nodes = ns; free_loops = free } in
    ap (λ ns. V (a ++ ns)) (sym (append_assoc b c rest))
    ∙ runs_exchanged m delta free a (b ++ c) rest oka (All-append IsNode b c okb okc) ok
    ∙ ap V (append_assoc b c (a ++ rest))
    ∙ runs_exchanged m delta free b c (a ++ rest) okb okc (All-append IsNode a rest oka ok)

-- ---- corners
-- what holds from a corner on holds of all four slots
pub by_corner : (P : ℕ → Type 0) (k : ℕ) → k < 8 → P (k % 4) → P ((k + 1) % 4) → P ((k + 2) % 4) → P ((k + 3) % 4) → (P 0) × (P 1) × (P 2) × (P 3)
by_corner P zero l a b c d = (a, b, c, d)
by_corner P (suc zero) l a b c d = (d, a, b, c)
by_corner P (suc (suc zero)) l a b c d = (c, d, a, b)
by_corner P (suc (suc (suc zero))) l a b c d = (b, c, d, a)
by_corner P (suc (suc (suc (suc zero)))) l a b c d = (a, b, c, d)
by_corner P (suc (suc (suc (suc (suc zero))))) l a b c d = (d, a, b, c)
by_corner P (suc (suc (suc (suc (suc (suc zero)))))) l a b c d = (c, d, a, b)
by_corner P (suc (suc (suc (suc (suc (suc (suc zero))))))) l a b c d = (b, c, d, a)
by_corner P (suc (suc (suc (suc (suc (suc (suc (suc k)))))))) l a b c d = absurd (omega (arith, l))

-- HOW OFTEN A NAME STANDS AT A CROSSING, TOLD FROM A CORNER
pub corner_times : (p : Parameters) (strands : Strands) (g i z : ℕ) (slots : List ℕ) (k : ℕ) → k < 8 → length (at_stub strands (slice_index slots 0)) ≡ length (at_stub strands (slice_index slots 2)) →
    length (at_stub strands (slice_index slots 1)) ≡ length (at_stub strands (slice_index slots 3)) →
    times_in (names_of (stub_crossing p strands g i slots)) z
    ≡ times_in (at_stub strands (slot slots k)) z + times_in (at_stub strands (slot slots (k + 1))) z + times_in (at_stub strands (slot slots (k + 2))) z + times_in (at_stub strands (slot slots (k + 3))) z
    + 2 * crossing_inner i (length (at_stub strands (slice_index slots 0))) (length (at_stub strands (slice_index slots 1))) z
corner_times p strands g i z slots k low l0 l1 =
    let F : ℕ → ℕ = λ r. times_in (at_stub strands (slice_index slots r)) z in
    let t = crossing-times p g i z (at_stub strands (slice_index slots 0)) (at_stub strands (slice_index slots 1)) (at_stub strands (slice_index slots 2)) (at_stub strands (slice_index slots 3)) l0 l1 in
    let s = four_summed F k low in
    omega (arith, t, s)
