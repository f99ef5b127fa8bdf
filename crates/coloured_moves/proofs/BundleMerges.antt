-- Bundles of arcs between stubs close one after the other: where they join two labels, the strands of the one become those of the other.
--
-- A state is a list of bundles, each with its two stubs, the boxes and the crossings by stubs. Each stub of a present label stands once,
-- at a bundle or at a crossing. A step takes the first bundle, between the labels a and b, and tells b by a: its other stub becomes the
-- stub of a at the bundle. So the bundle is gone, and a has again two stubs.
--
--     bundles strands pairs       the arcs of bundles, from the first stubs to the second ones
--     told b u w                  u in the place of the stubs of b
use Rattle.std.proofs.Common.{◌≡◌, ◌≢◌, ℕ, ◌+◌, ◌*◌, ◌/◌, ◌%◌, ◌^◌, ◌≤◌, ◌==◌, ◌&&◌, not, Bool, true, false, cond, List, [], ◌∷◌, ◌++◌, map, length, reverse, refl, sym, ap, ap₂, ◌∙◌, arith, ⊎_elim, All, subst, append_assoc}
use Rattle.std.specs.List.{AllByRecursion, zip}
use Rattle.std.specs.Set.{is_member}
use Rattle.std.proofs.lemmas.Bool.{cases_Bool, cases_eq, eq-eqb, eqb-true}
use Rattle.std.proofs.lemmas.Bool.Decides.{nat_tests}
use Rattle.std.proofs.lemmas.List.{length-reverse, map-append, reverse-reverse}
use Rattle.std.proofs.lemmas.List.Elements.{All-append}
use Rattle.graph_parts.specs.Ends.{ends_of}
use Rattle.list_lemmas.specs.Times.{times_in}
use Rattle.list_lemmas.proofs.Times.{times_in-cons, times_in-append, times_of_member}
use Rattle.state_sums.specs.LocalSums.{rename}
use Rattle.state_sums.specs.Networks.{Node, IsNode, names_of}
use Rattle.state_sums.specs.StateSums.{value}
use Rattle.state_sums.proofs.WrittenNodes.{IsNode-rename}
use Rattle.piece_laws.specs.Arcs.{arcs_of}
use Rattle.piece_laws.proofs.RenamedNodes.{rename-append}
use Rattle.root_quantum.specs.Parameters.{Parameters}
use Rattle.root_quantum.specs.QuantumNumbers.{loop_value}
use Rattle.pd_reader.specs.declared.item.Item.{Item}
use Rattle.pd_reader.specs.declared.item.Item.TheVariants as item
use Rattle.cables.specs.Nets.{projector_of}
use Rattle.cables.specs.Strands.{Strands, strands_of}
use Rattle.cables.proofs.LabelNames.{zero_or_some}
use Rattle.cables.proofs.NameCounts.{times-reverse, times_of-append}
use Rattle.cables.proofs.NumberedStrands.{as_many_strands, first_length}
use Rattle.cables.proofs.RenamedCables.{map-reverse}
use Rattle.diagram_moves.proofs.Paired.{loop_labels}
use Rattle.cable_crossings.proofs.CabledBigon.{names_of_arcs, zip-times}
use Rattle.cable_crossings.proofs.ManyArcs.{joined_all, arcs_ok}
use Rattle.cable_crossings.proofs.StepPieces.{member_of_one}
use Rattle.cable_crossings.proofs.ThroughArcs.{turned_arcs}
use Rattle.coloured_moves.proofs.ArcMerges.{map_fixed, joined_first, joined_other, merged_arcs}
use Rattle.coloured_moves.proofs.LabelColours.{long_stub, opposite_stub}
use Rattle.coloured_moves.proofs.NetAppends.{arcs_of-append, ends_of-append}
use Rattle.coloured_moves.proofs.PushedCables.{unboxed_second}
use Rattle.coloured_moves.proofs.StubItems.{half, at_stub, stub_nodes, boxes_of}
use Rattle.coloured_moves.proofs.StubNames.{kept_stubs, relabelled, Straight, stub_sum, stub_label, stub_once, stub_low, stub_apart, stub_sum_some, stub_nodes_times, stub_nodes_renamed, kept_stubs-relabelled, loop_labels-relabelled}
use Rattle.coloured_moves.proofs.Tests.{clash, one_apart, one_if, one_most, one_same, one_shown}
use Rattle.cable_crossings.proofs.OneBundle.{rename_zip}

abbrev pub bundles : Strands → List (ℕ × ℕ) → List (ℕ × ℕ)
bundles strands [] = []
bundles strands (pair ∷ pairs) = zip (at_stub strands pair.0) (reverse (at_stub strands pair.1)) ++ bundles strands pairs

abbrev pub told : ℕ → ℕ → ℕ → ℕ
told b u w = cond (half w == b) u w

abbrev pub told_pair : (ℕ → ℕ) → ℕ × ℕ → ℕ × ℕ
told_pair t pair = (t pair.0, t pair.1)

-- ---- arcs with other names
arcs_renamed : (f : ℕ → ℕ) (xs ys : List ℕ) (pairs : List (ℕ × ℕ)) → rename f (arcs_of (zip xs ys ++ pairs)) ≡ arcs_of (zip (map f xs) (map f ys)) ++ rename f (arcs_of pairs)
arcs_renamed f xs ys pairs =
    ap (rename f) (arcs_of-append (zip xs ys) pairs) ∙ rename-append f (arcs_of (zip xs ys)) (arcs_of pairs) ∙ ap (λ ns. ns ++ rename f (arcs_of pairs)) (rename_zip f xs ys)

bundles_renamed : (strands : Strands) (f t : ℕ → ℕ) (pairs : List (ℕ × ℕ)) → ((w : ℕ) → 1 ≤ times_in (ends_of pairs) w → map f (at_stub strands w) ≡ at_stub strands (t w)) →
    rename f (arcs_of (bundles strands pairs)) ≡ arcs_of (bundles strands (map (told_pair t) pairs))
bundles_renamed strands f t [] h = refl
bundles_renamed strands f t (pair ∷ pairs) h =
    let N : ℕ → List ℕ = at_stub strands in
    let c : (w : ℕ) → times_in (pair.0 ∷ pair.1 ∷ ends_of pairs) w ≡ one_if (w == pair.0) + (one_if (w == pair.1) + times_in (ends_of pairs) w) =
    λ w. (let i = times_in-cons pair.0 (pair.1 ∷ ends_of pairs) w in let j = times_in-cons pair.1 (ends_of pairs) w in omega (arith, i, j)) in
    let own : (w : ℕ) → one_if (w == w) ≡ 1 = λ w. grind (arith, nat_tests) in
    let one = h pair.0 (let k = c pair.0 in let o = one_same pair.0 pair.0 refl in omega (arith, k, o)) in
    let two = h pair.1 (let k = c pair.1 in let o = one_same pair.1 pair.1 refl in omega (arith, k, o)) in
    let ih = bundles_renamed strands f t pairs (λ w l. h w (let k = c w in omega (arith, k, l))) in
    arcs_renamed f (N pair.0) (reverse (N pair.1)) (bundles strands pairs)
    ∙ ap₂ (λ xs ys. arcs_of (zip xs ys) ++ rename f (arcs_of (bundles strands pairs))) one (map-reverse f (N pair.1) ∙ ap reverse two)
    ∙ ap (λ ns. arcs_of (zip (N (t pair.0)) (reverse (N (t pair.1)))) ++ ns) ih
    ∙ sym (arcs_of-append (zip (N (t pair.0)) (reverse (N (t pair.1)))) (bundles strands (map (told_pair t) pairs)))

pub bundles_times : (strands : Strands) (z : ℕ) (pairs : List (ℕ × ℕ)) → AllByRecursion (λ pair. length (at_stub strands pair.0) ≡ length (at_stub strands pair.1)) pairs →
    times_in (ends_of (bundles strands pairs)) z ≡ stub_sum strands (ends_of pairs) z
bundles_times strands z [] h = refl
bundles_times strands z (pair ∷ pairs) h =
    let xs = at_stub strands pair.0 in
    let ys = at_stub strands pair.1 in
    let ih = bundles_times strands z pairs h.1 in
    let a = ap (λ ns. times_in ns z) (ends_of-append (zip xs (reverse ys)) (bundles strands pairs)) in
    let b = times_in-append (ends_of (zip xs (reverse ys))) (ends_of (bundles strands pairs)) z in
    let c = zip-times z xs (reverse ys) (length-reverse ys ∙ sym h.0) in
    let d = times-reverse z ys in
    omega (arith, ih, a, b, c, d)

-- ---- boxes that keep their names
pub boxes_fixed : (strands : Strands) (f : ℕ → ℕ) (ls : List ℕ) → AllByRecursion (λ l. (map f (strands.first l) ≡ strands.first l) × (map f (strands.second l) ≡ strands.second l)) ls → rename f (boxes_of strands ls) ≡ boxes_of strands ls
boxes_fixed strands f [] h = refl
boxes_fixed strands f (l ∷ ls) h =
    ap₂ (λ ends ns. record { group = 0; ends = ends; terms = strands.box (length (strands.first l)) } ∷ ns)
    (map-append f (strands.first l) (strands.second l) ∙ ap₂ (λ x y. x ++ y) h.0.0 h.0.1) (boxes_fixed strands f ls h.1)

-- ---- how often stubs stand, told by another label
told_times : (b u : ℕ) → half u ≢ b → (ws : List ℕ) (z : ℕ) →
    times_in (map (told b u) ws) z ≡ cond (half z == b) 0 (times_in ws z + cond (z == u) (times_in ws (2 * b) + times_in ws (2 * b + 1)) 0)
told_times b u d [] z = none (half z == b) (z == u)
  where
    none : (h q : Bool) → ◌≡◌ {A = ℕ} 0 (cond h 0 (0 + cond q (0 + 0) 0))
    none true q = refl
    none false true = refl
    none false false = refl
told_times b u d (w ∷ ws) z =
    let ih = told_times b u d ws z in
    let k = times_in-cons (told b u w) (map (told b u) ws) z in
    let i = times_in-cons w ws z in
    let e = times_in-cons w ws (2 * b) in
    let o = times_in-cons w ws (2 * b + 1) in
    let sides : one_if (2 * b == w) + one_if (2 * b + 1 == w) ≡ one_if (half w == b) = both w in
    ⊎_elim
    (λ t.
    let z_b : half z ≡ b = eqb-true (half z) b t in
    let none : one_if (z == told b u w) ≡ 0 = never w z_b in
    ap (λ h. h) k ∙ (let s : times_in (map (told b u) ws) z ≡ 0 = ih ∙ ap (λ h. cond h 0 (times_in ws z + cond (z == u) (times_in ws (2 * b) + times_in ws (2 * b + 1)) 0)) t in omega (arith, s, none))
    ∙ sym (ap (λ h. cond h 0 (times_in (w ∷ ws) z + cond (z == u) (times_in (w ∷ ws) (2 * b) + times_in (w ∷ ws) (2 * b + 1)) 0)) t))
    (λ t.
    let s : times_in (map (told b u) ws) z ≡ times_in ws z + cond (z == u) (times_in ws (2 * b) + times_in ws (2 * b + 1)) 0 =
    ih ∙ ap (λ h. cond h 0 (times_in ws z + cond (z == u) (times_in ws (2 * b) + times_in ws (2 * b + 1)) 0)) t in
    let here : one_if (z == told b u w) ≡ one_if (z == w) + cond (z == u) (one_if (half w == b)) 0 = head w t in
    let sum : times_in (w ∷ ws) z + cond (z == u) (times_in (w ∷ ws) (2 * b) + times_in (w ∷ ws) (2 * b + 1)) 0 ≡ times_in (map (told b u) (w ∷ ws)) z =
    ⊎_elim
    (λ q. (let p0 = ap (λ h. cond h (times_in (w ∷ ws) (2 * b) + times_in (w ∷ ws) (2 * b + 1)) 0) q in let p1 = ap (λ h. cond h (times_in ws (2 * b) + times_in ws (2 * b + 1)) 0) q in let p2 = ap (λ h. cond h (one_if (half w == b)) 0) q in
    omega (arith, k, i, e, o, sides, s, here, p0, p1, p2)))
    (λ q. (let p0 = ap (λ h. cond h (times_in (w ∷ ws) (2 * b) + times_in (w ∷ ws) (2 * b + 1)) 0) q in let p1 = ap (λ h. cond h (times_in ws (2 * b) + times_in ws (2 * b + 1)) 0) q in let p2 = ap (λ h. cond h (one_if (half w == b)) 0) q in
    omega (arith, k, i, s, here, p0, p1, p2)))
    (cases_Bool (z == u)) in
    sym sum ∙ sym (ap (λ h. cond h 0 (times_in (w ∷ ws) z + cond (z == u) (times_in (w ∷ ws) (2 * b) + times_in (w ∷ ws) (2 * b + 1)) 0)) t))
    (cases_Bool (half z == b))
  where
    both : (w : ℕ) → one_if (2 * b == w) + one_if (2 * b + 1 == w) ≡ one_if (half w == b)
    both w =
        ⊎_elim
        (λ (e : half w ≡ b). (let t : one_if (half w == b) ≡ 1 = grind (arith, nat_tests, e) in
        ⊎_elim
        (λ (f : 2 * b ≡ w). (let x : one_if (2 * b == w) ≡ 1 = grind (arith, nat_tests, f) in let y : one_if (2 * b + 1 == w) ≡ 0 = one_apart (2 * b + 1) w (λ g. omega (arith, f, g)) in omega (arith, t, x, y)))
        (λ f. (let x : one_if (2 * b == w) ≡ 0 = one_apart (2 * b) w f in let y : one_if (2 * b + 1 == w) ≡ 1 = one_same (2 * b + 1) w (omega (arith, e, f)) in omega (arith, t, x, y)))
        (cases_eq (2 * b) w)))
        (λ d. (let t : one_if (half w == b) ≡ 0 = one_apart (half w) b d in let x = one_apart (2 * b) w (λ g. d (omega (arith, g))) in let y = one_apart (2 * b + 1) w (λ g. d (omega (arith, g))) in omega (arith, t, x, y)))
        (cases_eq (half w) b)

    never : (w : ℕ) → half z ≡ b → one_if (z == told b u w) ≡ 0
    never w e =
        ⊎_elim
        (λ t. ap (λ h. one_if (z == cond h u w)) t ∙ one_apart z u (λ s. d (ap half (sym s) ∙ e)))
        (λ t. ap (λ h. one_if (z == cond h u w)) t ∙ one_apart z w (λ s. (let f : (half w == b) ≡ true = eq-eqb (half w) b (ap half (sym s) ∙ e) in clash (half w == b) f t)))
        (cases_Bool (half w == b))

    head : (w : ℕ) → (half z == b) ≡ false → one_if (z == told b u w) ≡ one_if (z == w) + cond (z == u) (one_if (half w == b)) 0
    head w out =
        ⊎_elim
        (λ t.
        let differ : one_if (z == w) ≡ 0 = one_apart z w (λ s. (let f : (half z == b) ≡ true = ap (λ x. half x == b) s ∙ t in clash (half z == b) f out)) in
        let l = ap (λ h. one_if (z == cond h u w)) t in
        let r = ap (λ h. cond (z == u) (one_if h) 0) t in
        omega (arith, differ, l, r))
        (λ t.
        let l = ap (λ h. one_if (z == cond h u w)) t in
        let r : cond (z == u) (one_if (half w == b)) 0 ≡ 0 = ap (λ h. cond (z == u) (one_if h) 0) t ∙ elim (z == u) as (λ h. ◌≡◌ {A = ℕ} (cond h 0 0) 0) [ true ↦ refl | false ↦ refl ] in
        omega (arith, l, r))
        (cases_Bool (half w == b))

-- ---- states
module _ (p : Parameters) (colour : ℕ → ℕ) (boxed : ℕ → Bool) (few : (l : ℕ) → colour l ≤ 8) (gone : List ℕ) (lg free : ℕ) (labels_boxed : List ℕ) where
  abbrev pub S : Strands
  S = strands_of colour boxed (projector_of p)

  abbrev pub others : List Item → List Node
  others items = boxes_of S labels_boxed ++ stub_nodes p S gone 1 1 0 lg items

  abbrev pub V : List (ℕ × ℕ) → List Item → ℕ
  V pairs items = value p.modulus (loop_value p) record { nodes = arcs_of (bundles S pairs) ++ others items; free_loops = free }

  -- each stub of a present label stands once, and bundles join labels of one colour
  pub record IsState (present : ℕ → Bool) (pairs : List (ℕ × ℕ)) (items : List Item) : Type 0 where
    pub straight : AllByRecursion (Straight S) items
    pub once : (z : ℕ) → times_in (kept_stubs gone 1 items) z + times_in (ends_of pairs) z ≡ one_if (present (half z))
    pub even : AllByRecursion (λ pair. colour (half pair.0) ≡ colour (half pair.1)) pairs
    pub small : (l : ℕ) → present l ≡ true → l ≤ 2000000
    pub loops : (l : ℕ) → is_member ◌==◌ (loop_labels items) l ≡ true → present l ≡ false
    pub nodes : All IsNode (others items)

  pub long : (w : ℕ) → length (at_stub S w) ≡ colour (half w)
  long w = long_stub S (as_many_strands colour boxed (projector_of p)) w ∙ first_length colour boxed (projector_of p) (half w)

  -- opposite stubs stay opposite
  straight_told : (t : ℕ → ℕ) → ((w : ℕ) → colour (half (t w)) ≡ colour (half w)) → (items : List Item) → AllByRecursion (Straight S) items → AllByRecursion (Straight S) (relabelled t items)
  straight_told t same [] h = tt
  straight_told t same (item.Loop l ∷ rest) h = (tt, straight_told t same rest h.1)
  straight_told t same (item.X (a ∷ b ∷ c ∷ d ∷ []) ∷ rest) h =
      let as_long : (w : ℕ) → length (at_stub S (t w)) ≡ length (at_stub S w) = λ w. long (t w) ∙ same w ∙ sym (long w) in
      ((as_long a ∙ h.0.0 ∙ sym (as_long c), as_long b ∙ h.0.1 ∙ sym (as_long d)), straight_told t same rest h.1)
  straight_told t same (item.X [] ∷ rest) h = absurd h.0
  straight_told t same (item.X (a ∷ []) ∷ rest) h = absurd h.0
  straight_told t same (item.X (a ∷ b ∷ []) ∷ rest) h = absurd h.0
  straight_told t same (item.X (a ∷ b ∷ c ∷ []) ∷ rest) h = absurd h.0
  straight_told t same (item.X (a ∷ b ∷ c ∷ d ∷ e ∷ ws) ∷ rest) h = absurd h.0

  ends_told : (t : ℕ → ℕ) (pairs : List (ℕ × ℕ)) → ends_of (map (told_pair t) pairs) ≡ map t (ends_of pairs)
  ends_told t [] = refl
  ends_told t (pair ∷ pairs) = ap (λ ws. t pair.0 ∷ t pair.1 ∷ ws) (ends_told t pairs)

  even_told : (t : ℕ → ℕ) → ((w : ℕ) → colour (half (t w)) ≡ colour (half w)) → (pairs : List (ℕ × ℕ)) → AllByRecursion (λ (pair : ℕ × ℕ). colour (half pair.0) ≡ colour (half pair.1)) pairs →
      AllByRecursion (λ (pair : ℕ × ℕ). colour (half pair.0) ≡ colour (half pair.1)) (map (told_pair t) pairs)
  even_told t same [] h = tt
  even_told t same (pair ∷ pairs) h = (same pair.0 ∙ h.0 ∙ sym (same pair.1), even_told t same pairs h.1)

  long_pairs : (pairs : List (ℕ × ℕ)) → AllByRecursion (λ (pair : ℕ × ℕ). colour (half pair.0) ≡ colour (half pair.1)) pairs → AllByRecursion (λ (pair : ℕ × ℕ). length (at_stub S pair.0) ≡ length (at_stub S pair.1)) pairs
  long_pairs [] h = tt
  long_pairs (pair ∷ pairs) h = (long pair.0 ∙ h.0 ∙ sym (long pair.1), long_pairs pairs h.1)

  -- the labels at a bundle are present
  pub present_ends : (present : ℕ → Bool) (u v : ℕ) (pairs : List (ℕ × ℕ)) (items : List Item) → IsState present ((u, v) ∷ pairs) items → (present (half u) ≡ true) × (present (half v) ≡ true)
  present_ends present u v pairs items state =
      let at_u = state.once u in let at_v = state.once v in
      let iu = times_in-cons u (v ∷ ends_of pairs) u in let iv = times_in-cons u (v ∷ ends_of pairs) v in let jv = times_in-cons v (ends_of pairs) v in
      let own_u : one_if (u == u) ≡ 1 = grind (arith, nat_tests) in
      let own_v : one_if (v == v) ≡ 1 = grind (arith, nat_tests) in
      (one_shown (present (half u)) _ (omega (arith, iu, own_u)) at_u, one_shown (present (half v)) _ (omega (arith, iv, jv, own_v)) at_v)

  module _ (boxes : AllByRecursion (λ l. boxed l ≡ true) labels_boxed) (present : ℕ → Bool) (u v : ℕ) (pairs : List (ℕ × ℕ)) (items : List Item) (state : IsState present ((u, v) ∷ pairs) items)
      (differ : half u ≢ half v) (free_v : boxed (half v) ≡ false) where
    abbrev b : ℕ
    b = half v

    abbrev pub t : ℕ → ℕ
    t = told b u

    abbrev N : ℕ → List ℕ
    N w = at_stub S w

    abbrev J : ℕ → ℕ
    J = joined_all (zip (N v) (reverse (N u)))

    abbrev kept : List ℕ
    kept = kept_stubs gone 1 items

    one_colour : colour (half u) ≡ colour b
    one_colour = state.even.0

    same_colour : (w : ℕ) → colour (half (t w)) ≡ colour (half w)
    same_colour w =
        ⊎_elim
        (λ e. ap (λ h. colour (half (cond h u w))) e ∙ one_colour ∙ ap colour (sym (eqb-true (half w) b e)))
        (λ e. ap (λ h. colour (half (cond h u w))) e)
        (cases_Bool (half w == b))

    -- ---- where stubs stand
    counted : (w : ℕ) → times_in kept w + (one_if (w == u) + (one_if (w == v) + times_in (ends_of pairs) w)) ≡ one_if (present (half w))
    counted w =
        let o = state.once w in
        let i = times_in-cons u (v ∷ ends_of pairs) w in
        let j = times_in-cons v (ends_of pairs) w in
        omega (arith, o, i, j)

    present_b : present b ≡ true
    present_b = (present_ends present u v pairs items state).1

    v_gone : (times_in kept v ≡ 0) × (times_in (ends_of pairs) v ≡ 0)
    v_gone = let c = counted v in let o = one_same v v refl in let m = one_most (present b) in (omega (arith, c, o, m), omega (arith, c, o, m))

    -- the other stub of b
    abbrev w : ℕ
    w = cond (v % 2 == 1) (2 * b) (2 * b + 1)

    other_stub : (half w ≡ b) × (w ≢ v)
    other_stub =
        ⊎_elim
        (λ e. (ap (λ h. half (cond h (2 * b) (2 * b + 1))) e ∙ (let q : half (2 * b) ≡ b = omega arith in q), λ s. (let r = eqb-true (v % 2) 1 e in let k = sym (ap (λ h. cond h (2 * b) (2 * b + 1)) e) ∙ s in omega (arith, r, k))))
        (λ e. (ap (λ h. half (cond h (2 * b) (2 * b + 1))) e ∙ (let q : half (2 * b + 1) ≡ b = omega arith in q), λ s. (let r = not_odd v e in let k = sym (ap (λ h. cond h (2 * b) (2 * b + 1)) e) ∙ s in omega (arith, r, k))))
        (cases_Bool (v % 2 == 1))
      where
        not_odd : (v : ℕ) → (v % 2 == 1) ≡ false → v % 2 ≡ 0
        not_odd v e = grind (arith, nat_tests, e)

    w_stands : times_in kept w + times_in (ends_of pairs) w ≡ 1
    w_stands =
        let c = counted w in
        let x = one_apart w u (λ s. differ (sym (ap half s) ∙ other_stub.0)) in
        let y = one_apart w v other_stub.1 in
        let z : one_if (present (half w)) ≡ 1 = ap (λ h. one_if h) (ap present other_stub.0 ∙ present_b) in
        omega (arith, c, x, y, z)

    -- ---- the names
    plain_v : S.second (half v) ≡ reverse (S.first (half v))
    plain_v = unboxed_second (colour b) b (boxed b) free_v

    -- another stub of b has v's names in the other direction
    turned_names : (x : ℕ) → half x ≡ b → x ≢ v → N x ≡ reverse (N v)
    turned_names x e d = opposite_stub S v x (sym e) (λ s. d (sym s)) plain_v

    long_lists : length (N v) ≡ length (reverse (N u))
    long_lists = long v ∙ sym one_colour ∙ sym (long u) ∙ sym (length-reverse (N u))

    once_v : (z : ℕ) → times_in (N v) z ≤ 1
    once_v z = stub_once colour boxed (projector_of p) few v z

    become : map J (N v) ≡ reverse (N u)
    become = joined_first (N v) (reverse (N u)) long_lists once_v

    stays : (z : ℕ) → z / 16 ≢ b → J z ≡ z
    stays z d = joined_other (N v) (reverse (N u)) z (stub_apart colour boxed (projector_of p) few v z d)

    inner : (k o : ℕ) → J (2 ^ 25 + 128 * k + o) ≡ 2 ^ 25 + 128 * k + o
    inner k o = let s = state.small b present_b in stays (2 ^ 25 + 128 * k + o) (λ e. omega (arith, s, e))

    fixed : (x : ℕ) → half x ≢ b → map J (N x) ≡ N x
    fixed x d = map_fixed J (N x) (λ z l. stays z (λ e. d (sym (stub_label colour boxed (projector_of p) few x z l) ∙ e)))

    renamed_stub : (x : ℕ) → x ≢ v → map J (N x) ≡ N (t x)
    renamed_stub x d =
        ⊎_elim
        (λ e. ap (map J) (turned_names x (eqb-true (half x) b e) d) ∙ map-reverse J (N v) ∙ ap reverse become ∙ reverse-reverse (N u) ∙ sym (ap (λ h. N (cond h u x)) e))
        (λ e. fixed x (λ s. (let f = eq-eqb (half x) b s in clash (half x == b) f e)) ∙ sym (ap (λ h. N (cond h u x)) e))
        (cases_Bool (half x == b))

    first_fixed : (l : ℕ) → l ≢ b → (map J (S.first l) ≡ S.first l) × (map J (S.second l) ≡ S.second l)
    first_fixed l d =
        let e : half (2 * l) ≡ l = omega arith in
        let o : half (2 * l + 1) ≡ l = omega arith in
        let even : (2 * l) % 2 ≡ 0 = omega arith in
        let odd : (2 * l + 1) % 2 ≡ 1 = omega arith in
        let at_even : N (2 * l) ≡ S.first l = ap (λ r. cond (r == 1) (S.second (half (2 * l))) (S.first (half (2 * l)))) even ∙ ap S.first e in
        let at_odd : N (2 * l + 1) ≡ S.second l = ap (λ r. cond (r == 1) (S.second (half (2 * l + 1))) (S.first (half (2 * l + 1)))) odd ∙ ap S.second o in
        (ap (map J) (sym at_even) ∙ fixed (2 * l) (λ s. d (sym e ∙ s)) ∙ at_even, ap (map J) (sym at_odd) ∙ fixed (2 * l + 1) (λ s. d (sym o ∙ s)) ∙ at_odd)

    -- ---- the other nodes, with the names of u
    abbrev rest : List Node
    rest = arcs_of (bundles S pairs) ++ others items

    ok_rest : All IsNode rest
    ok_rest = All-append IsNode (arcs_of (bundles S pairs)) (others items) (arcs_ok (bundles S pairs)) state.nodes

    box_fixed : (ls : List ℕ) → AllByRecursion (λ l. boxed l ≡ true) ls → AllByRecursion (λ l. (map J (S.first l) ≡ S.first l) × (map J (S.second l) ≡ S.second l)) ls
    box_fixed [] h = tt
    box_fixed (l ∷ ls) h = (first_fixed l (λ s. clash (boxed b) (ap boxed (sym s) ∙ h.0) free_v), box_fixed ls h.1)

    others_renamed : rename J (others items) ≡ others (relabelled t items)
    others_renamed =
        rename-append J (boxes_of S labels_boxed) (stub_nodes p S gone 1 1 0 lg items)
        ∙ ap₂ (λ x y. x ++ y) (boxes_fixed S J labels_boxed (box_fixed labels_boxed boxes))
        (stub_nodes_renamed p S gone J t inner 1 1 0 lg items state.straight
        (λ x m. renamed_stub x (λ s. (let k = v_gone.0 in let one = times_of_member x kept m in let q = ap (times_in kept) s in omega (arith, k, one, q))))
        (λ l m. (first_fixed l (λ s. clash (present b) present_b (ap present (sym s) ∙ state.loops l m))).0))

    rest_renamed : rename J rest ≡ arcs_of (bundles S (map (told_pair t) pairs)) ++ others (relabelled t items)
    rest_renamed =
        rename-append J (arcs_of (bundles S pairs)) (others items)
        ∙ ap₂ (λ x y. x ++ y) (bundles_renamed S J t pairs (λ x l. renamed_stub x (λ s. (let k = v_gone.1 in let q = ap (times_in (ends_of pairs)) s in omega (arith, k, l, q))))) others_renamed

    -- v's names stand there, too
    stands : (z : ℕ) → is_member ◌==◌ (N v) z ≡ true → is_member ◌==◌ (names_of rest) z ≡ true
    stands z m =
        let one = times_of_member z (N v) m in
        let low = stub_low colour boxed (projector_of p) few v z (state.small b present_b) one in
        let at_w : times_in (N w) z ≡ times_in (N v) z = ap (λ ns. times_in ns z) (turned_names w other_stub.0 other_stub.1) ∙ times-reverse z (N v) in
        let a = times_of-append z (arcs_of (bundles S pairs)) (others items) in
        let c = times_of-append z (boxes_of S labels_boxed) (stub_nodes p S gone 1 1 0 lg items) in
        let e = ap (λ ns. times_in ns z) (names_of_arcs (bundles S pairs)) in
        let f = bundles_times S z pairs (long_pairs pairs state.even.1) in
        let g = stub_nodes_times p S gone z low (λ x. (let i = long x in let j = few (half x) in omega (arith, i, j))) 1 1 0 lg items state.straight in
        let here = w_stands in
        member_of_one z (names_of rest)
        (⊎_elim
        (λ (n : times_in kept w ≡ 0). (let s = stub_sum_some S (ends_of pairs) w z (omega (arith, here, n)) in omega (arith, one, at_w, a, c, e, f, s)))
        (λ n. (let n1 = n.1 in let s = stub_sum_some S kept w z (omega (arith, n1)) in omega (arith, one, at_w, a, c, g, s)))
        (zero_or_some (times_in kept w)))

    -- THE VALUE STAYS
    pub told_value : V ((u, v) ∷ pairs) items ≡ V (map (told_pair t) pairs) (relabelled t items)
    told_value =
        let m = p.modulus in
        let d = loop_value p in
        let W : List Node → ℕ = λ ns. value m d record { nodes = ns; free_loops = free } in
        ap (λ ns. W (ns ++ others items)) (arcs_of-append (zip (N u) (reverse (N v))) (bundles S pairs))
        ∙ ap W (append_assoc (arcs_of (zip (N u) (reverse (N v)))) (arcs_of (bundles S pairs)) (others items))
        ∙ turned_arcs m d free (colour b) (N u) (N v) rest (long u ∙ one_colour) (long v) ok_rest
        ∙ merged_arcs m d free (N v) (reverse (N u)) rest long_lists once_v
        (λ z l. times-reverse z (N u) ∙ stub_apart colour boxed (projector_of p) few u z (λ e. differ (sym e ∙ stub_label colour boxed (projector_of p) few v z l))) ok_rest stands
        ∙ ap W rest_renamed

    abbrev pub present_told : ℕ → Bool
    present_told l = present l && not (l == b)

    still : (l : ℕ) → present_told l ≡ true → present l ≡ true
    still l h = grind (arith, h)

    -- AND IT IS A STATE AGAIN
    pub told_state : IsState present_told (map (told_pair t) pairs) (relabelled t items)
    told_state = record {
      straight = straight_told t same_colour items state.straight;
      once = once_told;
      even = even_told t same_colour pairs state.even.1;
      small = λ l h. state.small l (still l h);
      loops = λ l m. (let e = state.loops l (ap (λ ls. is_member ◌==◌ ls l) (sym (loop_labels-relabelled t items)) ∙ m) in ap (λ h. h && not (l == b)) e);
      nodes = subst (All IsNode) others_renamed (IsNode-rename J (others items) state.nodes);
    }
      where
        once_told : (z : ℕ) → times_in (kept_stubs gone 1 (relabelled t items)) z + times_in (ends_of (map (told_pair t) pairs)) z ≡ one_if (present_told (half z))
        once_told z =
            let a = ap (λ ws. times_in ws z) (kept_stubs-relabelled t gone 1 items) ∙ told_times b u differ kept z in
            let c = ap (λ ws. times_in ws z) (ends_told t pairs) ∙ told_times b u differ (ends_of pairs) z in
            let k = counted z in
            ⊎_elim
            (λ e.
            let a0 = a ∙ ap (λ h. cond h 0 (times_in kept z + cond (z == u) (times_in kept (2 * b) + times_in kept (2 * b + 1)) 0)) e in
            let c0 = c ∙ ap (λ h. cond h 0 (times_in (ends_of pairs) z + cond (z == u) (times_in (ends_of pairs) (2 * b) + times_in (ends_of pairs) (2 * b + 1)) 0)) e in
            let f : one_if (present_told (half z)) ≡ 0 = ap (λ h. one_if (present (half z) && not h)) e ∙ none (present (half z)) in
            omega (arith, a0, c0, f))
            (λ e.
            let a0 = a ∙ ap (λ h. cond h 0 (times_in kept z + cond (z == u) (times_in kept (2 * b) + times_in kept (2 * b + 1)) 0)) e in
            let c0 = c ∙ ap (λ h. cond h 0 (times_in (ends_of pairs) z + cond (z == u) (times_in (ends_of pairs) (2 * b) + times_in (ends_of pairs) (2 * b + 1)) 0)) e in
            let f : one_if (present_told (half z)) ≡ one_if (present (half z)) = ap (λ h. one_if (present (half z) && not h)) e ∙ whole (present (half z)) in
            let not_v : one_if (z == v) ≡ 0 = one_apart z v (λ s. clash (half z == b) (eq-eqb (half z) b (ap half s)) e) in
            ⊎_elim
            (λ q.
            let is_u : z ≡ u = eqb-true z u q in
            let a1 = a0 ∙ ap (λ h. times_in kept z + cond h (times_in kept (2 * b) + times_in kept (2 * b + 1)) 0) q in
            let c1 = c0 ∙ ap (λ h. times_in (ends_of pairs) z + cond h (times_in (ends_of pairs) (2 * b) + times_in (ends_of pairs) (2 * b + 1)) 0) q in
            let at_u = ap (λ h. one_if h) q in
            let m = one_most (present (half z)) in
            let sides = both_sides in
            omega (arith, a1, c1, f, not_v, at_u, k, m, sides))
            (λ q.
            let a1 = a0 ∙ ap (λ h. times_in kept z + cond h (times_in kept (2 * b) + times_in kept (2 * b + 1)) 0) q in
            let c1 = c0 ∙ ap (λ h. times_in (ends_of pairs) z + cond h (times_in (ends_of pairs) (2 * b) + times_in (ends_of pairs) (2 * b + 1)) 0) q in
            let at_u = ap (λ h. one_if h) q in
            omega (arith, a1, c1, f, not_v, at_u, k))
            (cases_Bool (z == u)))
            (cases_Bool (half z == b))
          where
            none : (h : Bool) → one_if (h && false) ≡ 0
            none true = refl
            none false = refl

            whole : (h : Bool) → one_if (h && true) ≡ one_if h
            whole true = refl
            whole false = refl

            -- of b's two stubs one is v, and the other stands once
            both_sides : (times_in kept (2 * b) + times_in kept (2 * b + 1)) + (times_in (ends_of pairs) (2 * b) + times_in (ends_of pairs) (2 * b + 1)) ≡ 1
            both_sides =
                let x = counted (2 * b) in
                let y = counted (2 * b + 1) in
                let hx : half (2 * b) ≡ b = omega arith in
                let hy : half (2 * b + 1) ≡ b = omega arith in
                let px : one_if (present (half (2 * b))) ≡ 1 = ap (λ h. one_if h) (ap present hx ∙ present_b) in
                let py : one_if (present (half (2 * b + 1))) ≡ 1 = ap (λ h. one_if h) (ap present hy ∙ present_b) in
                let ux = one_apart (2 * b) u (λ s. differ (sym (ap half s) ∙ hx)) in
                let uy = one_apart (2 * b + 1) u (λ s. differ (sym (ap half s) ∙ hy)) in
                let one : one_if (2 * b == v) + one_if (2 * b + 1 == v) ≡ 1 = parity in
                omega (arith, x, y, px, py, ux, uy, one)
              where
                parity : one_if (2 * b == v) + one_if (2 * b + 1 == v) ≡ 1
                parity =
                    ⊎_elim
                    (λ (e : 2 * b ≡ v). (let i : one_if (2 * b == v) ≡ 1 = grind (arith, nat_tests, e) in let j = one_apart (2 * b + 1) v (λ s. omega (arith, s, e)) in omega (arith, i, j)))
                    (λ d. (let i = one_apart (2 * b) v d in let s : 2 * b + 1 ≡ v = omega (arith, d) in let j : one_if (2 * b + 1 == v) ≡ 1 = grind (arith, nat_tests, s) in omega (arith, i, j)))
                    (cases_eq (2 * b) v)
