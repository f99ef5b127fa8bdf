-- A projector's box absorbs a word of crossings beside it, at any names, from the word's beginning or from its end: one crossing after the other.
use Rattle.std.proofs.Common.{◌≡◌, ℕ, zero, suc, ◌+◌, ◌-◌, ◌*◌, ◌%◌, ◌^◌, ◌<◌, ◌≤◌, ◌==◌, nat_lt, Bool, cond, List, [], ◌∷◌, ◌++◌, map, length, refl, sym, ap, ap₂, ◌∙◌, arith, ⊎_elim, All, append_assoc}
use Rattle.std.specs.List.{range_with_len}
use Rattle.std.specs.Set.{is_member}
use Rattle.std.proofs.lemmas.Bool.{cases_Bool}
use Rattle.std.proofs.lemmas.Bool.Decides.{nat_tests}
use Rattle.std.proofs.lemmas.List.Elements.{All-append, All-cons, All-nil, All-weaker}
use Rattle.std.proofs.lemmas.List.Sums.{AllPass-from_list_all}
use Rattle.std.proofs.lemmas.Nat.{mul-mod_second}
use Rattle.std.proofs.Math.Nat.{mod-mod, pow-zero, pow-suc}
use Rattle.list_lemmas.specs.Times.{times_in}
use Rattle.list_lemmas.proofs.Times.{times_in-append, times_in-cons}
use Rattle.state_sums.specs.LocalSums.{crossing}
use Rattle.state_sums.specs.Networks.{Node, Term, IsNode, IsPairing, names_of}
use Rattle.state_sums.specs.StateSums.{value}
use Rattle.state_sums.proofs.WrittenNodes.{IsNode-crossing}
use Rattle.std.proofs.lemmas.List.FromFn.{length-map-range_with_len}
use Rattle.strand_algebra.specs.Projectors.{IsProjector}
use Rattle.strand_algebra.proofs.ByLabels.{IsPairingOn-from_points}
use Rattle.strand_algebra.proofs.LabelProducts.{IsPairingOf}
use Rattle.strand_algebra.proofs.ProjectorLaws.{projector_element}
use Rattle.box_laws.proofs.ClosedBoxes.{element_pairings}
use Rattle.strand_words.specs.Boxes.{twist}
use Rattle.strand_words.specs.Grids.{crossed, row}
use Rattle.strand_words.specs.Words.{Letter}
use Rattle.piece_laws.specs.TurnedNodes.{AreInverse}
use Rattle.piece_laws.proofs.TurnedEnds.{turned_node_same}
use Rattle.cables.proofs.NameCounts.{at, times_of-append}
use Rattle.cable_crossings.proofs.BundleTurns.{runs_exchanged, value_of_same}
use Rattle.coloured_curls.specs.Boxes.{round, box_at, behind, letter_nodes, names_behind}
use Rattle.coloured_curls.proofs.BoxedLetters.{boxed_letter, exchanged}
use Rattle.coloured_curls.proofs.GridCounts.{among, among_same}
use Rattle.coloured_curls.proofs.LetterCounts.{among_reversed, among_split, among_further, letter_counts}
use Rattle.coloured_curls.proofs.LetterNets.{AreAmong}
use Rattle.coloured_curls.proofs.PieceCounts.{same_range}

-- ---- a crossing and an arc, told from the other end
four_cases : (P : ℕ → Type 0) → P 0 → P 1 → P 2 → P 3 → (i : ℕ) → i < 4 → P i
four_cases P a b c d zero l = a
four_cases P a b c d (suc zero) l = b
four_cases P a b c d (suc (suc zero)) l = c
four_cases P a b c d (suc (suc (suc zero))) l = d
four_cases P a b c d (suc (suc (suc (suc i)))) l = absurd (omega (arith, l))

backwards : ℕ → ℕ
backwards i = 3 - i

exchanging : ℕ → ℕ
exchanging i = cond (i == 0) 1 (cond (i == 1) 0 (cond (i == 2) 3 2))

reversal : AreInverse 4 backwards backwards
unfolding backwards
reversal = record {
  order_within = four_cases (λ i. backwards i < 4) (omega arith) (omega arith) (omega arith) (omega arith);
  back_within = four_cases (λ i. backwards i < 4) (omega arith) (omega arith) (omega arith) (omega arith);
  there = four_cases (λ i. backwards (backwards i) ≡ i) refl refl refl refl;
  again = four_cases (λ i. backwards (backwards i) ≡ i) refl refl refl refl;
}

exchange : AreInverse 4 exchanging exchanging
unfolding exchanging
exchange = record {
  order_within = four_cases (λ i. exchanging i < 4) (omega arith) (omega arith) (omega arith) (omega arith);
  back_within = four_cases (λ i. exchanging i < 4) (omega arith) (omega arith) (omega arith) (omega arith);
  there = four_cases (λ i. exchanging (exchanging i) ≡ i) refl refl refl refl;
  again = four_cases (λ i. exchanging (exchanging i) ≡ i) refl refl refl refl;
}

module _ (m delta free a b w x y z : ℕ) (rest : List Node) (ok : All IsNode rest) where
  abbrev V : List Node → ℕ
  V ns = value m delta record { nodes = ns; free_loops = free }

  abbrev old : Node
  old = crossing a b w x y z

  with_rest : (node : Node) → IsNode node → All IsNode (node ∷ rest)
  with_rest node p = All-cons IsNode node rest p ok

  pub told_backwards : V (crossing a b w x y z ∷ rest) ≡ V (crossing a b z y x w ∷ rest)
  unfolding backwards
  told_backwards =
      value_of_same m delta free (old ∷ rest) (crossing a b z y x w ∷ rest) (with_rest old (IsNode-crossing a b w x y z)) (with_rest (crossing a b z y x w) (IsNode-crossing a b z y x w))
      (turned_node_same m delta 0 backwards backwards old [] rest [] (IsNode-crossing a b w x y z) (All-nil IsNode) ok reversal (AllPass-from_list_all (is_member ◌==◌ (names_of (old ∷ rest))) [] refl))

  pub told_exchanged : V (crossing a b w x y z ∷ rest) ≡ V (crossing a b x w z y ∷ rest)
  unfolding exchanging
  told_exchanged =
      value_of_same m delta free (old ∷ rest) (crossing a b x w z y ∷ rest) (with_rest old (IsNode-crossing a b w x y z)) (with_rest (crossing a b x w z y) (IsNode-crossing a b x w z y))
      (turned_node_same m delta 0 exchanging exchanging old [] rest [] (IsNode-crossing a b w x y z) (All-nil IsNode) ok exchange (AllPass-from_list_all (is_member ◌==◌ (names_of (old ∷ rest))) [] refl))

pub once : (m delta free : ℕ) (ns : List Node) → 1 * value m delta record { nodes = ns; free_loops = free } % m ≡ value m delta record { nodes = ns; free_loops = free }
unfolding value
once m delta free ns =
    ap (λ k. k % m) (let e : 1 * value m delta record { nodes = ns; free_loops = free } ≡ value m delta record { nodes = ns; free_loops = free } = omega arith in e) ∙ mod-mod _ m

-- ---- words of one weight
abbrev pub AreOf : ℕ → ℕ → List Letter → Type 0
AreOf x n [] = Unit {0}
AreOf x n (l ∷ u) = (l.at + 1 < n) × (l.straight ≡ x) × AreOf x n u

abbrev pub count : List Letter → ℕ
count [] = 0
count (l ∷ u) = suc (count u)

AreOf-append : (x n : ℕ) (u w : List Letter) → AreOf x n u → AreOf x n w → AreOf x n (u ++ w)
AreOf-append x n [] w a b = b
AreOf-append x n (l ∷ u) w a b = (a.0, a.1, AreOf-append x n u w a.2 b)

row_of : (a b : ℕ) (s : Bool) (n i k : ℕ) → i + k < n → AreOf (crossed a b s 0).straight n (row a b s i k)
row_of a b s n i zero l = tt
row_of a b s n i (suc k) l = (omega (arith, l), refl, row_of a b s n (i + 1) k (omega (arith, l)))

pub twist_of : (a b : ℕ) (s : Bool) (n i k turns : ℕ) → i + k < n → AreOf (crossed a b s 0).straight n (twist a b s i k turns)
twist_of a b s n i k zero l = tt
twist_of a b s n i k (suc turns) l = AreOf-append (crossed a b s 0).straight n (row a b s i k) (twist a b s i k turns) (row_of a b s n i k l) (twist_of a b s n i k turns l)

count-append : (u w : List Letter) → count (u ++ w) ≡ count u + count w
count-append [] w = omega arith
count-append (l ∷ u) w = let ih = count-append u w in omega (arith, ih)

row_count : (a b : ℕ) (s : Bool) (i k : ℕ) → count (row a b s i k) ≡ k
row_count a b s i zero = refl
row_count a b s i (suc k) = let ih = row_count a b s (i + 1) k in omega (arith, ih)

pub twist_count : (a b : ℕ) (s : Bool) (i k turns : ℕ) → count (twist a b s i k turns) ≡ turns * k
twist_count a b s i k zero = omega arith
twist_count a b s i k (suc turns) =
    let e = count-append (row a b s i k) (twist a b s i k turns) in
    let r = row_count a b s i k in
    let ih = twist_count a b s i k turns in
    omega (arith, e, r, ih)

-- ---- beside a box of c+1 strands
module _ (m delta group c : ℕ) (f : List Term) (some : 0 < m) (few : suc c ≤ 8) (is : IsProjector m delta (suc c) f) (bottoms : ℕ → ℕ) (x free : ℕ) where
  abbrev n : ℕ
  n = suc c

  abbrev box : (ℕ → ℕ) → Node
  box tops = box_at group n f bottoms tops

  abbrev ends : (ℕ → ℕ) → ℕ → ℕ
  ends tops z = times_in (map (round n bottoms tops) (range_with_len 0 (n + n))) z

  abbrev U : List Node → ℕ
  U ns = value m delta record { nodes = ns; free_loops = free }

  pub box_ok : (bs tops : ℕ → ℕ) → IsNode (box_at group n f bs tops)
  box_ok bs tops =
      All-weaker (λ (term : Term). IsPairingOf (n + n) term.partner) (λ (term : Term). IsPairing term.partner × (length term.partner ≡ length (map (round n bs tops) (range_with_len 0 (n + n)))))
      (λ term h. ((IsPairingOn-from_points n term.partner h).is_pairing, h.length_is ∙ sym (length-map-range_with_len (round n bs tops) 0 (n + n)))) f
      (element_pairings m n f (projector_element m delta n f some is))

  pub same_box : (t s : ℕ → ℕ) → ((j : ℕ) → j < n → t j ≡ s j) → box t ≡ box s
  same_box t s h =
      ap (λ es. record { group = group; ends = es; terms = f })
      (same_range (round n bottoms t) (round n bottoms s) 0 (n + n)
      (λ j lo hi.
      ⊎_elim
      (λ e. ap (λ d. cond d (bottoms j) (t (n + n - 1 - j))) e ∙ sym (ap (λ d. cond d (bottoms j) (s (n + n - 1 - j))) e))
      (λ e. (let l : n ≤ j = grind (arith, nat_tests, e) in
      ap (λ d. cond d (bottoms j) (t (n + n - 1 - j))) e ∙ h (n + n - 1 - j) (omega (arith, l, hi)) ∙ sym (ap (λ d. cond d (bottoms j) (s (n + n - 1 - j))) e)))
      (cases_Bool (nat_lt j n))))

  same_ends : (t s : ℕ → ℕ) → ((j : ℕ) → j < n → t j ≡ s j) → (z : ℕ) → ends t z ≡ ends s z
  same_ends t s h z = ap (λ node. times_in node.ends z) (same_box t s h)

  box_times : (tops : ℕ → ℕ) (ns : List Node) (z : ℕ) → times_in (names_of (box tops ∷ ns)) z ≡ ends tops z + times_in (names_of ns) z
  box_times tops ns z = times_in-append (map (round n bottoms tops) (range_with_len 0 (n + n))) (names_of ns) z

  crossing_times : (a b w y v q : ℕ) (ns : List Node) (z : ℕ) → times_in (names_of (crossing a b w y v q ∷ ns)) z ≡ at z w + at z y + at z v + at z q + times_in (names_of ns) z
  crossing_times a b w y v q ns z =
      let k = times_in-cons w (y ∷ v ∷ q ∷ names_of ns) z in let l = times_in-cons y (v ∷ q ∷ names_of ns) z in let o = times_in-cons v (q ∷ names_of ns) z in let i = times_in-cons q (names_of ns) z in
      omega (arith, k, l, o, i)

  pub letters_ok : (u : List Letter) (t : ℕ → ℕ) (d : ℕ) → All IsNode (letter_nodes u t d)
  letters_ok [] t d = All-nil IsNode
  letters_ok (l ∷ u) t d =
      All-cons IsNode (crossing l.straight l.hook (t (l.at + 1)) (d + 1) d (t l.at)) (letter_nodes u (behind t l.at d (d + 1)) (d + 2)) (IsNode-crossing l.straight l.hook (t (l.at + 1)) (d + 1) d (t l.at)) (letters_ok u (behind t l.at d (d + 1)) (d + 2))

  is_box : (tops : ℕ → ℕ) → All IsNode (box tops ∷ [])
  is_box tops = All-cons IsNode (box tops) [] (box_ok bottoms tops) (All-nil IsNode)

  factors : (l : Letter) (k v : ℕ) → l.straight ≡ x → l.straight * (x ^ k * v % m) % m ≡ x ^ suc k * v % m
  factors l k v e =
      ap (λ s. s * (x ^ k * v % m) % m) e ∙ mul-mod_second x (x ^ k * v) m ∙ ap (λ j. j % m) (plain x (x ^ k) v ∙ ap (λ j. j * v) (sym (pow-suc x k)))
    where
      plain : (x p v : ℕ) → x * (p * v) ≡ p * x * v
      plain x p v = omega arith

  factors_back : (l : Letter) (k v : ℕ) → l.straight ≡ x → x ^ k * (l.straight * v % m) % m ≡ x ^ suc k * v % m
  factors_back l k v e =
      ap (λ s. x ^ k * (s * v % m) % m) e ∙ mul-mod_second (x ^ k) (x * v) m ∙ ap (λ j. j % m) (plain x (x ^ k) v ∙ ap (λ j. j * v) (sym (pow-suc x k)))
    where
      plain : (x p v : ℕ) → p * (x * v) ≡ p * x * v
      plain x p v = omega arith

  of_among : (u : List Letter) → AreOf x n u → AreAmong n u
  of_among [] a = tt
  of_among (l ∷ u) a = (a.0, of_among u a.2)

  -- the names at the box's ends are those of its bottoms and of its tops
  pub ends_split : (tops : ℕ → ℕ) (z : ℕ) → ends tops z ≡ among bottoms 0 n z + among tops 0 n z
  ends_split tops z =
      let g : ℕ → ℕ = round n bottoms tops in
      let a = among_split g 0 n n z in
      let b = among_same g bottoms 0 n z (λ j lo hi. (let h : j < n = omega (arith, hi) in low_end j n (bottoms j) (tops (n + n - 1 - j)) h)) in
      let d : among g (0 + n) n z ≡ among (λ j. g (j + n)) 0 n z = among_further g n 0 n z in
      let e : among (λ j. g (j + n)) 0 n z ≡ among (λ j. tops (c - j)) 0 n z =
      among_same (λ j. g (j + n)) (λ j. tops (c - j)) 0 n z (λ j lo hi. high_end (j + n) n (bottoms (j + n)) (tops (n + n - 1 - (j + n))) (omega arith) ∙ ap tops (let t : n + n - 1 - (j + n) ≡ c - j = omega arith in t)) in
      let r = among_reversed tops c z in
      omega (arith, a, b, d, e, r)
    where
      low_end : (j n p q : ℕ) → j < n → cond (nat_lt j n) p q ≡ p
      low_end j n p q h = grind (arith, nat_tests, h)

      high_end : (j n p q : ℕ) → n ≤ j → cond (nat_lt j n) p q ≡ q
      high_end j n p q h = grind (arith, nat_tests, h)

  abbrev pub Twice : List Letter → (ℕ → ℕ) → ℕ → (ℕ → ℕ) → List Node → Type 0
  Twice u t d tops rest =
      (z : ℕ) → 1 ≤ times_in (names_of (letter_nodes u t d)) z + ends tops z + times_in (names_of rest) z → times_in (names_of (letter_nodes u t d)) z + ends tops z + times_in (names_of rest) z ≡ 2

  -- FROM THE WORD'S BEGINNING
  pub absorbed_front : (u : List Letter) (t : ℕ → ℕ) (d : ℕ) (rest : List Node) → All IsNode rest → AreOf x n u → Twice u t d (λ j. t (c - j)) rest →
      U (letter_nodes u t d ++ (box (λ j. t (c - j)) ∷ rest)) ≡ x ^ count u * U (box (λ j. names_behind u t d (c - j)) ∷ rest) % m
  absorbed_front [] t d rest ok a twice = sym (ap (λ k. k * U (box (λ j. t (c - j)) ∷ rest) % m) (pow-zero x) ∙ once m delta free (box (λ j. t (c - j)) ∷ rest))
  absorbed_front (l ∷ u) t d rest ok a twice =
      let k = l.at in
      let low = a.0 in
      let j0 = c - k - 1 in
      let tops : ℕ → ℕ = λ j. t (c - j) in
      let next : ℕ → ℕ = behind t k d (d + 1) in
      let others : ℕ → ℕ = λ j. next (c - j) in
      let L = letter_nodes u next (d + 2) in
      let Lok = letters_ok u next (d + 2) in
      let here = crossing l.straight l.hook (t (k + 1)) (d + 1) d (t k) in
      let back = crossing l.straight l.hook (t k) d (d + 1) (t (k + 1)) in
      let first : tops (j0 + 1) ≡ t k = ap t (let e : c - (c - k - 1 + 1) ≡ k = omega (arith, low) in e) in
      let second : tops j0 ≡ t (k + 1) = ap t (let e : c - (c - k - 1) ≡ k + 1 = omega (arith, low) in e) in
      let as_told : crossing l.straight l.hook (tops (j0 + 1)) d (d + 1) (tops j0) ≡ back = ap₂ (λ p q. crossing l.straight l.hook p d (d + 1) q) first second in
      let same : (j : ℕ) → j < n → behind tops j0 (d + 1) d j ≡ others j = λ j h. mirrored j k c d (t (c - j)) h low in
      let inner : List Node = L ++ rest in
      let inner_ok : All IsNode inner = All-append IsNode L rest Lok ok in
      let told_twice : (z : ℕ) → 1 ≤ times_in (names_of (box tops ∷ crossing l.straight l.hook (tops (j0 + 1)) d (d + 1) (tops j0) ∷ inner)) z →
      times_in (names_of (box tops ∷ crossing l.straight l.hook (tops (j0 + 1)) d (d + 1) (tops j0) ∷ inner)) z ≡ 2 =
      λ z h.
      (let p = box_times tops (crossing l.straight l.hook (tops (j0 + 1)) d (d + 1) (tops j0) ∷ inner) z in
      let q = ap (λ node. times_in (names_of (node ∷ inner)) z) as_told ∙ crossing_times l.straight l.hook (t k) d (d + 1) (t (k + 1)) inner z in
      let r = times_of-append z L rest in
      let o = crossing_times l.straight l.hook (t (k + 1)) (d + 1) d (t k) L z in
      let two = twice z (omega (arith, p, q, r, o, h)) in
      omega (arith, p, q, r, o, two)) in
      let next_twice : (z : ℕ) → 1 ≤ times_in (names_of L) z + ends others z + times_in (names_of rest) z → times_in (names_of L) z + ends others z + times_in (names_of rest) z ≡ 2 =
      λ z h.
      (let e = exchanged m delta l.straight l.hook group n j0 f some few (omega (arith, low)) is bottoms tops (d + 1) d free inner inner_ok told_twice z in
      let g = same_ends (behind tops j0 (d + 1) d) others same z in
      let p = ap (at z) first in let q = ap (at z) second in
      let o = crossing_times l.straight l.hook (t (k + 1)) (d + 1) d (t k) L z in
      let two = twice z (omega (arith, e, g, p, q, o, h)) in
      omega (arith, e, g, p, q, o, h, two)) in
      told_backwards m delta free l.straight l.hook (t (k + 1)) (d + 1) d (t k) (L ++ (box tops ∷ rest)) (All-append IsNode L (box tops ∷ rest) Lok (All-cons IsNode (box tops) rest (box_ok bottoms tops) ok))
      ∙ runs_exchanged m delta free (back ∷ L) (box tops ∷ []) rest (All-cons IsNode back L (IsNode-crossing l.straight l.hook (t k) d (d + 1) (t (k + 1))) Lok) (is_box tops) ok
      ∙ ap (λ node. U (box tops ∷ node ∷ inner)) (sym as_told)
      ∙ boxed_letter m delta l.straight l.hook group n j0 f some few (omega (arith, low)) is bottoms tops (d + 1) d free inner inner_ok told_twice
      ∙ ap (λ node. l.straight * U (node ∷ inner) % m) (same_box (behind tops j0 (d + 1) d) others same)
      ∙ ap (λ i. l.straight * i % m) (sym (runs_exchanged m delta free L (box others ∷ []) rest Lok (is_box others) ok) ∙ absorbed_front u next (d + 2) rest ok a.2 next_twice)
      ∙ factors l (count u) (U (box (λ j. names_behind u next (d + 2) (c - j)) ∷ rest)) a.1
    where
      mirrored : (j k c d s : ℕ) → j < suc c → k + 1 < suc c → cond (j == c - k - 1) (d + 1) (cond (j == c - k - 1 + 1) d s) ≡ cond (c - j == k) d (cond (c - j == k + 1) (d + 1) s)
      mirrored j k c d s h low = grind (arith, nat_tests, h, low)

  -- FROM THE WORD'S END
  pub absorbed_back : (u : List Letter) (t : ℕ → ℕ) (d : ℕ) (rest : List Node) → All IsNode rest → AreOf x n u → Twice u t d (names_behind u t d) rest →
      U (letter_nodes u t d ++ (box (names_behind u t d) ∷ rest)) ≡ x ^ count u * U (box t ∷ rest) % m
  absorbed_back [] t d rest ok a twice = sym (ap (λ k. k * U (box t ∷ rest) % m) (pow-zero x) ∙ once m delta free (box t ∷ rest))
  absorbed_back (l ∷ u) t d rest ok a twice =
      let k = l.at in
      let low = a.0 in
      let next : ℕ → ℕ = behind t k d (d + 1) in
      let last : ℕ → ℕ = names_behind u next (d + 2) in
      let L = letter_nodes u next (d + 2) in
      let Lok = letters_ok u next (d + 2) in
      let here = crossing l.straight l.hook (t (k + 1)) (d + 1) d (t k) in
      let here_ok = IsNode-crossing l.straight l.hook (t (k + 1)) (d + 1) d (t k) in
      let first : next k ≡ d = plain_first k d (cond (k == k + 1) (d + 1) (t k)) in
      let second : next (k + 1) ≡ d + 1 = plain_second k d (d + 1) (t (k + 1)) in
      let as_told : crossing l.straight l.hook (next (k + 1)) (t (k + 1)) (t k) (next k) ≡ crossing l.straight l.hook (d + 1) (t (k + 1)) (t k) d = ap₂ (λ p q. crossing l.straight l.hook p (t (k + 1)) (t k) q) second first in
      let same : (j : ℕ) → j < n → behind next k (t k) (t (k + 1)) j ≡ t j = λ j h. undone j k d (t k) (t (k + 1)) (t j) (ap t) (ap t) in
      let o_times : (z : ℕ) → times_in (names_of (letter_nodes (l ∷ u) t d)) z ≡ at z (t (k + 1)) + at z (d + 1) + at z d + at z (t k) + times_in (names_of L) z = λ z. crossing_times l.straight l.hook (t (k + 1)) (d + 1) d (t k) L z in
      let inner_twice : (z : ℕ) → 1 ≤ times_in (names_of L) z + ends last z + times_in (names_of (here ∷ rest)) z → times_in (names_of L) z + ends last z + times_in (names_of (here ∷ rest)) z ≡ 2 =
      λ z h. (let o = o_times z in let q = crossing_times l.straight l.hook (t (k + 1)) (d + 1) d (t k) rest z in let two = twice z (omega (arith, o, q, h)) in omega (arith, o, q, two)) in
      let told_twice : (z : ℕ) → 1 ≤ times_in (names_of (box next ∷ crossing l.straight l.hook (next (k + 1)) (t (k + 1)) (t k) (next k) ∷ rest)) z →
      times_in (names_of (box next ∷ crossing l.straight l.hook (next (k + 1)) (t (k + 1)) (t k) (next k) ∷ rest)) z ≡ 2 =
      λ z h.
      (let p = box_times next (crossing l.straight l.hook (next (k + 1)) (t (k + 1)) (t k) (next k) ∷ rest) z in
      let q = ap (λ node. times_in (names_of (node ∷ rest)) z) as_told ∙ crossing_times l.straight l.hook (d + 1) (t (k + 1)) (t k) d rest z in
      let o = crossing_times l.straight l.hook (t (k + 1)) (d + 1) d (t k) rest z in
      let e = letter_counts n u next (d + 2) z (of_among u a.2) in
      let e1 = ends_split last z in
      let e2 = ends_split next z in
      let two = inner_twice z (omega (arith, p, q, o, e, e1, e2, h)) in
      omega (arith, p, q, o, e, e1, e2, h, two)) in
      ap (λ ns. U (here ∷ ns)) (sym (append_assoc L (box last ∷ []) rest))
      ∙ runs_exchanged m delta free (here ∷ []) (L ++ box last ∷ []) rest (All-cons IsNode here [] here_ok (All-nil IsNode)) (All-append IsNode L (box last ∷ []) Lok (is_box last)) ok
      ∙ ap U (append_assoc L (box last ∷ []) (here ∷ rest))
      ∙ absorbed_back u next (d + 2) (here ∷ rest) (All-cons IsNode here rest here_ok ok) a.2 inner_twice
      ∙ ap (λ i. x ^ count u * i % m)
      (runs_exchanged m delta free (box next ∷ []) (here ∷ []) rest (is_box next) (All-cons IsNode here [] here_ok (All-nil IsNode)) ok
      ∙ told_exchanged m delta free l.straight l.hook (t (k + 1)) (d + 1) d (t k) (box next ∷ rest) (All-cons IsNode (box next) rest (box_ok bottoms next) ok)
      ∙ runs_exchanged m delta free (crossing l.straight l.hook (d + 1) (t (k + 1)) (t k) d ∷ []) (box next ∷ []) rest (All-cons IsNode (crossing l.straight l.hook (d + 1) (t (k + 1)) (t k) d) [] (IsNode-crossing l.straight l.hook (d + 1) (t (k + 1)) (t k) d) (All-nil IsNode)) (is_box next) ok
      ∙ ap (λ node. U (box next ∷ node ∷ rest)) (sym as_told)
      ∙ boxed_letter m delta l.straight l.hook group n k f some few low is bottoms next (t k) (t (k + 1)) free rest ok told_twice
      ∙ ap (λ node. l.straight * U (node ∷ rest) % m) (same_box (behind next k (t k) (t (k + 1))) t same))
      ∙ factors_back l (count u) (U (box t ∷ rest)) a.1
    where
      plain_first : (k d s : ℕ) → cond (k == k) d s ≡ d
      plain_first k d s = grind (arith, nat_tests)

      plain_second : (k d e s : ℕ) → cond (k + 1 == k) d (cond (k + 1 == k + 1) e s) ≡ e
      plain_second k d e s = grind (arith, nat_tests)

      undone : (j k d p q s : ℕ) → (j ≡ k → s ≡ p) → (j ≡ k + 1 → s ≡ q) → cond (j == k) p (cond (j == k + 1) q (cond (j == k) d (cond (j == k + 1) (d + 1) s))) ≡ s
      undone j k d p q s f g = grind (arith, nat_tests, f, g)
