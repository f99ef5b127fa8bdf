-- A crossing of two neighbouring strands goes along an edge, from the stub at one end to the stub at the other.
use Rattle.std.proofs.Common.{◌≡◌, ◌≢◌, ℕ, suc, ◌+◌, ◌*◌, ◌/◌, ◌%◌, ◌^◌, ◌<◌, ◌≤◌, ◌==◌, Bool, true, cond, List, [], ◌∷◌, ◌++◌, map, length, slice_index, refl, sym, ap, ap₂, ◌∙◌, arith, ⊎_elim}
use Rattle.std.specs.Set.{is_member}
use Rattle.std.proofs.lemmas.Bool.{cases_eq}
use Rattle.std.proofs.lemmas.Bool.Decides.{nat_tests}
use Rattle.graph_parts.proofs.Ends.{is_member-get_or}
use Rattle.list_lemmas.specs.Times.{times_in}
use Rattle.list_lemmas.proofs.Times.{times_in-cons, times_of_member}
use Rattle.state_sums.specs.LocalSums.{crossing, rename}
use Rattle.state_sums.specs.Networks.{Node, names_of}
use Rattle.state_sums.specs.StateSums.{value}
use Rattle.root_quantum.specs.Parameters.{Parameters}
use Rattle.root_quantum.specs.QuantumNumbers.{loop_value}
use Rattle.piece_laws.proofs.RenamedNodes.{rename_fixed}
use Rattle.pd_reader.specs.declared.item.Item.{Item}
use Rattle.pd_reader.specs.declared.item.Item.TheVariants as item
use Rattle.cables.specs.Strands.{Strands}
use Rattle.cables.proofs.NameCounts.{at}
use Rattle.diagram_moves.specs.Rewriting.{crossing_labels}
use Rattle.diagram_moves.proofs.Paired.{loop_labels}
use Rattle.coloured_moves.proofs.StubItems.{half, at_stub, stub_nodes}
use Rattle.coloured_moves.proofs.StubNames.{kept_stubs, stub_sum, stub_nodes_times}
use Rattle.coloured_curls.proofs.LetterSteps.{AreStubs}
use Rattle.coloured_curls.proofs.StubLetters.{changed, changed_times}
use Rattle.coloured_curls.proofs.StubSlides.{letter_at}
use Rattle.coloured_curls.proofs.SwappedNames.{AreFour, swap, swap_p, swap_q, swap_u, swap_v, swap_other, swapped_back, map_changed}

-- The names at a stub tell its label, and stand there once; labels are those of a diagram.
pub record AreNumbered (S : Strands) (D : List Item) : Type 0 where
  pub label : (w z : ℕ) → 1 ≤ times_in (at_stub S w) z → z / 16 ≡ half w
  pub single : (w z : ℕ) → times_in (at_stub S w) z ≤ 1
  pub small : (w : ℕ) → 1 ≤ times_in (crossing_labels D) w → half w ≤ 2000000
  pub small_loops : (l : ℕ) → is_member ◌==◌ (loop_labels D) l ≡ true → l ≤ 2000000

-- names past those of all labels, and below those within grids
abbrev pub IsHigh : ℕ → Type 0
IsHigh y = (16 * 2000001 ≤ y) × (y < 2 ^ 25)

pub kept_all : (n : ℕ) (D : List Item) → kept_stubs [] n D ≡ crossing_labels D
kept_all n [] = refl
kept_all n (item.X ws ∷ rest) = ap (λ ns. ws ++ ns) (kept_all (n + 1) rest)
kept_all n (item.Loop l ∷ rest) = kept_all n rest

-- the names of one stub, and of two
stub_sum_one : (S : Strands) (ws : List ℕ) (w z : ℕ) → 1 ≤ times_in ws w → times_in (at_stub S w) z ≤ stub_sum S ws z
stub_sum_one S [] w z h = absurd (omega (arith, h))
stub_sum_one S (x ∷ ws) w z h =
    let c = times_in-cons x ws w in
    ⊎_elim
    (λ (e : w ≡ x). (let s = ap (λ i. times_in (at_stub S i) z) e in omega (arith, s)))
    (λ d. (let a : at w x ≡ 0 = grind (arith, nat_tests, d) in let ih = stub_sum_one S ws w z (omega (arith, c, a, h)) in omega (arith, ih)))
    (cases_eq w x)

stub_sum_two : (S : Strands) (ws : List ℕ) (w v z : ℕ) → w ≢ v → 1 ≤ times_in ws w → 1 ≤ times_in ws v → times_in (at_stub S w) z + times_in (at_stub S v) z ≤ stub_sum S ws z
stub_sum_two S [] w v z d h k = absurd (omega (arith, h))
stub_sum_two S (x ∷ ws) w v z d h k =
    let c = times_in-cons x ws w in
    let b = times_in-cons x ws v in
    ⊎_elim
    (λ (e : w ≡ x).
    let s = ap (λ i. times_in (at_stub S i) z) e in
    let a : at v x ≡ 0 = grind (arith, nat_tests, e, d) in
    let o = stub_sum_one S ws v z (omega (arith, b, a, k)) in
    omega (arith, s, o))
    (λ n. ⊎_elim
    (λ (e : v ≡ x).
    let s = ap (λ i. times_in (at_stub S i) z) e in
    let a : at w x ≡ 0 = grind (arith, nat_tests, n) in
    let o = stub_sum_one S ws w z (omega (arith, c, a, h)) in
    omega (arith, s, o))
    (λ m.
    let a1 : at w x ≡ 0 = grind (arith, nat_tests, n) in
    let a2 : at v x ≡ 0 = grind (arith, nat_tests, m) in
    let ih = stub_sum_two S ws w v z d (omega (arith, c, a1, h)) (omega (arith, b, a2, k)) in
    omega (arith, ih))
    (cases_eq v x))
    (cases_eq w x)

-- ---- two strands at a stub, and new names for them
module _ (p : Parameters) (free : ℕ) (t : Bool) (S : Strands) (K : List Node) (n0 g0 i0 lg0 : ℕ) (D : List Item) (are : AreStubs p S K n0 g0 i0 lg0 D) (numbered : AreNumbered S D) where
  abbrev base : List ℕ
  base = names_of (K ++ stub_nodes p S [] n0 g0 i0 lg0 D)

  abbrev N : Strands → List Node
  N T = stub_nodes p T [] n0 g0 i0 lg0 D

  abbrev V : List Node → ℕ
  V ns = value p.modulus (loop_value p) record { nodes = ns; free_loops = free }

  -- names of one stub, and of two, among those of the crossings
  pub stub_count : (w z : ℕ) → z < 2 ^ 25 → 1 ≤ times_in (crossing_labels D) w → times_in (at_stub S w) z ≤ times_in (names_of (N S)) z
  stub_count w z low h =
      let c = stub_nodes_times p S [] z low are.few n0 g0 i0 lg0 D are.straight in
      let e = ap (λ ws. stub_sum S ws z) (kept_all n0 D) in
      let s = stub_sum_one S (crossing_labels D) w z h in
      omega (arith, c, e, s)

  pub two_stubs : (w v z : ℕ) → z < 2 ^ 25 → w ≢ v → 1 ≤ times_in (crossing_labels D) w → 1 ≤ times_in (crossing_labels D) v → times_in (at_stub S w) z + times_in (at_stub S v) z ≤ times_in (names_of (N S)) z
  two_stubs w v z low d h k =
      let c = stub_nodes_times p S [] z low are.few n0 g0 i0 lg0 D are.straight in
      let e = ap (λ ws. stub_sum S ws z) (kept_all n0 D) in
      let s = stub_sum_two S (crossing_labels D) w v z d h k in
      omega (arith, c, e, s)

  module _ (w : ℕ) (stands : 1 ≤ times_in (crossing_labels D) w) (k : ℕ) (inside : k + 1 < length (at_stub S w)) (u v : ℕ) (high_u : IsHigh u) (high_v : IsHigh v) (apart : u ≢ v) where
    abbrev A : List ℕ
    A = at_stub S w

    abbrev pub first_name : ℕ
    first_name = slice_index A k

    abbrev pub second_name : ℕ
    second_name = slice_index A (suc k)

    pub own : (i : ℕ) → i < length A → 1 ≤ times_in A (slice_index A i)
    own i l = times_of_member (slice_index A i) A (is_member-get_or A i l)

    pub first_label : first_name / 16 ≡ half w
    first_label = numbered.label w first_name (own k (omega (arith, inside)))

    pub second_label : second_name / 16 ≡ half w
    second_label = numbered.label w second_name (own (suc k) (omega (arith, inside)))

    small_w : half w ≤ 2000000
    small_w = numbered.small w stands

    below : (x y : ℕ) → x / 16 ≡ half w → IsHigh y → x ≢ y
    below x y e h s = let a = h.0 in let b = small_w in omega (arith, e, a, b, s)

    pub are_four : AreFour first_name second_name u v
    are_four =
        let pu = below first_name u first_label high_u in
        let pv = below first_name v first_label high_v in
        record {
          pq = λ e. (
              let c = changed_times A k u v first_name inside in
              let o = numbered.single w first_name in
              let a : at first_name first_name ≡ 1 = grind (arith, nat_tests) in
              let b : at first_name second_name ≡ 1 = grind (arith, nat_tests, e) in
              let d : at first_name u ≡ 0 = grind (arith, nat_tests, pu) in
              let g : at first_name v ≡ 0 = grind (arith, nat_tests, pv) in
              omega (arith, c, o, a, b, d, g));
          pu = pu;
          pv = pv;
          qu = below second_name u second_label high_u;
          qv = below second_name v second_label high_v;
          uv = apart;
        }

    abbrev pub f : ℕ → ℕ
    f = swap first_name second_name u v

    pub low_first : first_name < 2 ^ 25
    low_first = let e = first_label in let b = small_w in omega (arith, e, b)

    pub low_second : second_name < 2 ^ 25
    low_second = let e = second_label in let b = small_w in omega (arith, e, b)

    pub inner_fixed : (i o : ℕ) → f (2 ^ 25 + 128 * i + o) ≡ 2 ^ 25 + 128 * i + o
    inner_fixed i o =
        let a = low_first in let b = low_second in let c = high_u.1 in let d = high_v.1 in
        swap_other first_name second_name u v are_four (2 ^ 25 + 128 * i + o) (λ s. omega (arith, s, a)) (λ s. omega (arith, s, b)) (λ s. omega (arith, s, c)) (λ s. omega (arith, s, d))

    -- names of other labels stay
    pub label_fixed : (z l : ℕ) → z / 16 ≡ l → l ≢ half w → l ≤ 2000000 → f z ≡ z
    label_fixed z l e d s =
        let a = first_label in let b = second_label in let x = high_u.0 in let y = high_v.0 in
        swap_other first_name second_name u v are_four z (λ q. d (omega (arith, q, e, a))) (λ q. d (omega (arith, q, e, b))) (λ q. omega (arith, q, e, s, x)) (λ q. omega (arith, q, e, s, y))

    pub all_fixed : (xs : List ℕ) → ((z : ℕ) → 1 ≤ times_in xs z → f z ≡ z) → map f xs ≡ xs
    all_fixed [] h = refl
    all_fixed (x ∷ xs) h =
        ap₂ (λ y ys. y ∷ ys) (h x (let c = times_in-cons x xs x in let a : at x x ≡ 1 = grind (arith, nat_tests) in omega (arith, c, a))) (all_fixed xs (λ z l. h z (let c = times_in-cons x xs z in omega (arith, c, l))))

    pub stub_fixed : (x : ℕ) → 1 ≤ times_in (crossing_labels D) x → half x ≢ half w → map f (at_stub S x) ≡ at_stub S x
    stub_fixed x h d = all_fixed (at_stub S x) (λ z one. label_fixed z (half x) (numbered.label x z one) d (numbered.small x h))

    pub loop_fixed : (l : ℕ) → is_member ◌==◌ (loop_labels D) l ≡ true → map f (S.first l) ≡ S.first l
    loop_fixed l m =
        all_fixed (S.first l)
        (λ z one. label_fixed z l (told z one) (λ e. (let none = are.loops l w m (sym e) in omega (arith, none, stands))) (numbered.small_loops l m))
      where
        at_low : at_stub S (2 * l) ≡ S.first l
        at_low =
            let r : (2 * l) % 2 ≡ 0 = omega arith in let h : half (2 * l) ≡ l = omega arith in
            ap (λ i. cond (i == 1) (S.second (half (2 * l))) (S.first (half (2 * l)))) r ∙ ap S.first h

        told : (z : ℕ) → 1 ≤ times_in (S.first l) z → z / 16 ≡ l
        told z one = let e = ap (λ xs. times_in xs z) at_low in let s = numbered.label (2 * l) z (omega (arith, e, one)) in let h : half (2 * l) ≡ l = omega arith in s ∙ h

    -- the list at the stub
    pub list_fixed : (z : ℕ) → 1 ≤ times_in A z → z ≢ first_name → z ≢ second_name → f z ≡ z
    list_fixed z one d e = let l = numbered.label w z one in swap_other first_name second_name u v are_four z d e (below z u l high_u) (below z v l high_v)

    pub list_swapped : map f A ≡ changed A k u v
    list_swapped =
        let four = are_four in
        map_changed f A k inside (numbered.single w) list_fixed
        ∙ ap₂ (changed A k) (swap_p first_name second_name u v four) (swap_q first_name second_name u v four)

    pub list_back : map f (changed A k u v) ≡ A
    list_back = ap (map f) (sym list_swapped) ∙ swapped_back first_name second_name u v are_four A

    -- the small crossing, turned
    pub letter_swapped : (x y : ℕ) → rename f (letter_at x y A k u v ∷ []) ≡ crossing x y v second_name first_name u ∷ []
    letter_swapped x y =
        let four = are_four in
        named x y (f second_name) (f v) (f u) (f first_name) v second_name first_name u (swap_q first_name second_name u v four) (swap_v first_name second_name u v four) (swap_u first_name second_name u v four) (swap_p first_name second_name u v four)
      where
        named : (x y a b c d a' b' c' d' : ℕ) → a ≡ a' → b ≡ b' → c ≡ c' → d ≡ d' → ◌≡◌ {A = List Node} (crossing x y a b c d ∷ []) (crossing x y a' b' c' d' ∷ [])
        named x y a b c d a' b' c' d' e g h i = rw (e, g, h, i) refl

    -- nodes without these names stay
    pub nodes_fixed : (ns : List Node) → times_in (names_of ns) first_name ≡ 0 → times_in (names_of ns) second_name ≡ 0 → times_in (names_of ns) u ≡ 0 → times_in (names_of ns) v ≡ 0 → rename f ns ≡ ns
    nodes_fixed ns a b c d =
        rename_fixed f ns (λ z m.
        let one = times_of_member z (names_of ns) m in
        let other : (y : ℕ) → times_in (names_of ns) y ≡ 0 → z ≢ y = λ y none e. (let s = ap (times_in (names_of ns)) e in omega (arith, s, none, one)) in
        swap_other first_name second_name u v are_four z (other first_name a) (other second_name b) (other u c) (other v d))
