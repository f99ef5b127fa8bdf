-- The crossings of a twist at a stub of a component of colour n from 2 on: each walks along the component to its box, so the twist counts as its weights
-- of going straight on.
use Rattle.std.proofs.Common.{◌≡◌, ℕ, zero, suc, ◌+◌, ◌-◌, ◌*◌, ◌%◌, ◌^◌, ◌<◌, ◌≤◌, ◌⊎◌, inl, inr, Bool, List, [], ◌∷◌, ◌++◌, map, length, reverse, slice_index, refl, sym, ◌∙◌, arith, ⊎_elim, subst}
use Rattle.std.specs.List.{range_with_len, zip}
use Rattle.graph_parts.specs.Walks.{Joined, stay}
use Rattle.list_lemmas.specs.Times.{times_in}
use Rattle.list_lemmas.proofs.Times.{times_in-append}
use Rattle.state_sums.specs.Networks.{Node, Term, names_of}
use Rattle.state_sums.specs.StateSums.{value}
use Rattle.root_quantum.specs.Parameters.{Parameters}
use Rattle.root_quantum.specs.QuantumNumbers.{inverse_root, loop_value}
use Rattle.strand_algebra.specs.Projectors.{IsProjector}
use Rattle.strand_words.specs.Boxes as words
use Rattle.strand_words.specs.Grids.{row}
use Rattle.strand_words.specs.Words.{Letter}
use Rattle.piece_laws.specs.Arcs.{arcs_of}
use Rattle.pd_reader.specs.declared.item.Item.{Item}
use Rattle.planar_check.specs.Components.{strand_edges}
use Rattle.planar_check.specs.declared.sign.Sign.{Sign}
use Rattle.cables.specs.CableNodes.{box_node}
use Rattle.cables.specs.Cables.{loop_nodes}
use Rattle.cables.specs.Strands.{Strands}
use Rattle.cables.proofs.NameCounts.{times-reverse}
use Rattle.diagram_moves.specs.Rewriting.{crossing_labels}
use Rattle.diagram_moves.proofs.Curling.{is_plus}
use Rattle.coloured_moves.proofs.StubItems.{half, halved, at_stub, stub_nodes, boxes_of}
use Rattle.coloured_moves.proofs.StubNames.{loop_sum}
use Rattle.coloured_curls.specs.Boxes.{letter_nodes, names_behind}
use Rattle.coloured_curls.proofs.AbsorbedTwists.{count, twist_count}
use Rattle.coloured_curls.proofs.CutStubs as stubs
use Rattle.coloured_curls.proofs.EdgeLetters.{AreNumbered, IsHigh}
use Rattle.coloured_curls.proofs.LetterSteps.{AreStubs, weight}
use Rattle.coloured_curls.proofs.LetterWalks.{AllFree, IsFree, along_component, at_label, boxed_label}
use Rattle.coloured_curls.proofs.LetterWords.{AreLetters, word_counts}

-- ---- a twist's letters
letters-append : (p : Parameters) (t : Bool) (n : ℕ) (u w : List Letter) → AreLetters p t n u → AreLetters p t n w → AreLetters p t n (u ++ w)
letters-append p t n [] w a b = b
letters-append p t n (l ∷ u) w a b = (a.0, a.1, a.2, letters-append p t n u w a.3 b)

row_letters : (p : Parameters) (t : Bool) (n i k : ℕ) → i + k < n → AreLetters p t n (row p.root (inverse_root p) t i k)
row_letters p t n i zero l = tt
row_letters p t n i (suc k) l = (omega (arith, l), refl, refl, row_letters p t n (i + 1) k (omega (arith, l)))

pub twist_letters : (p : Parameters) (t : Bool) (n i k turns : ℕ) → i + k < n → AreLetters p t n (words.twist p.root (inverse_root p) t i k turns)
twist_letters p t n i k zero l = tt
twist_letters p t n i k (suc turns) l = letters-append p t n (row p.root (inverse_root p) t i k) (words.twist p.root (inverse_root p) t i k turns) (row_letters p t n i k l) (twist_letters p t n i k turns l)

count_length : (u : List Letter) → length u ≡ count u
count_length [] = refl
count_length (l ∷ u) = let ih = count_length u in omega (arith, ih)

few_letters : (c : ℕ) → suc c ≤ 8 → suc c * c ≤ 56
few_letters zero l = omega arith
few_letters (suc zero) l = omega arith
few_letters (suc (suc zero)) l = omega arith
few_letters (suc (suc (suc zero))) l = omega arith
few_letters (suc (suc (suc (suc zero)))) l = omega arith
few_letters (suc (suc (suc (suc (suc zero))))) l = omega arith
few_letters (suc (suc (suc (suc (suc (suc zero)))))) l = omega arith
few_letters (suc (suc (suc (suc (suc (suc (suc zero))))))) l = omega arith
few_letters (suc (suc (suc (suc (suc (suc (suc (suc c)))))))) l = absurd (omega (arith, l))

-- the twist of a curl is short
pub short_twist : (p : Parameters) (t : Bool) (k : ℕ) → suc k ≤ 8 → 2 * length (words.twist p.root (inverse_root p) t 0 k (suc k)) ≤ 112
short_twist p t k few =
    let u = words.twist p.root (inverse_root p) t 0 k (suc k) in
    let a = count_length u in
    let b = twist_count p.root (inverse_root p) t 0 k (suc k) in
    let d = few_letters k few in
    omega (arith, a, b, d)

-- ---- names of boxes and loops
pub boxes_none : (S : Strands) (ls : List ℕ) (z : ℕ) → ((l : ℕ) → 1 ≤ times_in ls l → (times_in (S.first l) z ≡ 0) × (times_in (S.second l) z ≡ 0)) → times_in (names_of (boxes_of S ls)) z ≡ 0
boxes_none S [] z h = refl
boxes_none S (l ∷ ls) z h =
    let o = h l (stubs.own_time l ls) in
    let o0 = o.0 in
    let o1 = o.1 in
    let a = times_in-append (S.first l ++ S.second l) (names_of (boxes_of S ls)) z in
    let b = times_in-append (S.first l) (S.second l) z in
    let ih = boxes_none S ls z (λ k one. h k (stubs.later_time l ls k one)) in
    omega (arith, a, b, ih, o0, o1)

loop_none : (S : Strands) (xs : List ℕ) (z : ℕ) → times_in xs z ≡ 0 → times_in (names_of (loop_nodes S 0 xs)) z ≡ 0
loop_none S [] z h = refl
loop_none S (x ∷ []) z h = refl
loop_none S (x ∷ y ∷ xs) z h =
    let ns = x ∷ y ∷ xs in
    let a = times_in-append (ns ++ reverse ns) [] z in
    let b = times_in-append ns (reverse ns) z in
    let r = times-reverse z ns in
    omega (arith, a, b, r, h)

pub loops_none : (S : Strands) (ls : List ℕ) (z : ℕ) → ((l : ℕ) → 1 ≤ times_in ls l → times_in (S.first l) z ≡ 0) → loop_sum S ls z ≡ 0
loops_none S [] z h = refl
loops_none S (l ∷ ls) z h =
    let a = loop_none S (S.first l) z (h l (stubs.own_time l ls)) in
    let ih = loops_none S ls z (λ k one. h k (stubs.later_time l ls k one)) in
    omega (arith, a, ih)

-- ---- at a stub
module _ (p : Parameters) (free : ℕ) (sign : Sign) (S : Strands) (D : List Item) (lg : ℕ) (numbered : AreNumbered S D) (l0 k : ℕ) (f0 : List Term) (is : IsProjector p.modulus (loop_value p) (suc k) f0)
    (long : (x : ℕ) → half x ≡ l0 → length (at_stub S x) ≡ suc k) (OB : List Node) (w : ℕ) (stands : 1 ≤ times_in (crossing_labels D) w) (alone : (x : ℕ) → 1 ≤ times_in (crossing_labels D) x → half x ≡ half w → x ≡ w)
    (long_w : length (at_stub S w) ≡ suc k) (walk : Joined (strand_edges (halved D)) l0 (half w))
    (plain : (l : ℕ) → Joined (strand_edges (halved D)) l0 l → (l ≡ l0) ⊎ (at_stub S (2 * l + 1) ≡ reverse (at_stub S (2 * l)))) (Ys : List ℕ) (long_Ys : length Ys ≡ suc k)
    (are : AreStubs p S (box_node 0 f0 (at_stub S (2 * l0)) (at_stub S (2 * l0 + 1)) ∷ (OB ++ arcs_of (zip (reverse (at_stub S w)) Ys))) 1 1 0 lg D)
    (no_high : (z : ℕ) → IsHigh z → times_in (names_of ((box_node 0 f0 (at_stub S (2 * l0)) (at_stub S (2 * l0 + 1)) ∷ (OB ++ arcs_of (zip (reverse (at_stub S w)) Ys))) ++ stub_nodes p S [] 1 1 0 lg D)) z ≡ 0) where
  abbrev pub A : List ℕ
  A = at_stub S w

  abbrev pub box : Node
  box = box_node 0 f0 (at_stub S (2 * l0)) (at_stub S (2 * l0 + 1))

  abbrev N : List Node
  N = stub_nodes p S [] 1 1 0 lg D

  abbrev V : List Node → ℕ
  V ns = value p.modulus (loop_value p) record { nodes = ns; free_loops = free }

  few_k : suc k ≤ 8
  few_k = let a = are.few w in omega (arith, a, long_w)

  frees : (K : List Node) → AreStubs p S (box ∷ K) 1 1 0 lg D → IsFree p free (is_plus sign) S (box ∷ K) 1 1 0 lg D w
  frees K here =
      let at_box = boxed_label p free (is_plus sign) S K 1 1 0 lg D f0 l0 k is (long (2 * l0) (omega arith)) (long (2 * l0 + 1) (omega arith)) here numbered in
      let whole = along_component p free (is_plus sign) S (box ∷ K) 1 1 0 lg D here numbered (halved D) refl l0
      (λ l j. ⊎_elim
      (λ b. inl (let P : ℕ → Type 0 = λ i. AllFree p free (is_plus sign) S (box ∷ K) 1 1 0 lg D here numbered i in subst P (sym b) at_box))
      (λ b. inr (λ one two. b))
      (plain l j))
      walk stay in
      at_label p free (is_plus sign) S (box ∷ K) 1 1 0 lg D here numbered w stands (whole.0 at_box)

  abbrev pub u : List Letter
  u = words.twist p.root (inverse_root p) (is_plus sign) 0 k (suc k)

  abbrev pub tA : ℕ → ℕ
  tA j = slice_index A (length A - 1 - j)

  abbrev pub H : ℕ
  H = 16 * 2000001

  abbrev pub word : List Node
  word = letter_nodes u tA H ++ arcs_of (zip (map (names_behind u tA H) (range_with_len 0 (length A))) Ys)

  letters_u : AreLetters p (is_plus sign) (length A) u
  letters_u = subst (λ n. AreLetters p (is_plus sign) n u) (sym long_w) (twist_letters p (is_plus sign) (suc k) 0 k (suc k) (omega arith))

  -- A TWIST AT A STUB
  pub twist_counts : V ((box ∷ (OB ++ word)) ++ N) ≡ weight p (is_plus sign) ^ count u * V ((box ∷ (OB ++ arcs_of (zip (reverse A) Ys))) ++ N) % p.modulus
  twist_counts =
      word_counts p free (is_plus sign) S box OB 1 1 0 lg D numbered w stands alone Ys (long_Ys ∙ sym long_w) are no_high frees u H letters_u (omega arith)
      (let s = short_twist p (is_plus sign) k few_k in omega (arith, s))
