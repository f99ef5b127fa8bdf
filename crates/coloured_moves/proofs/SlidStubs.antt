-- R3 on the stubs of a diagram: the result by labels is the result by stubs, halved; and each stub stands once before and behind the move.
use Rattle.std.proofs.Common.{◌≡◌, ◌≢◌, ℕ, zero, suc, ◌+◌, ◌-◌, ◌%◌, ◌<◌, ◌≤◌, ◌==◌, true, false, cond, List, [], ◌∷◌, map, slice_index, Some, refl, sym, ap, ap₂, ◌∙◌, arith}
use Rattle.std.specs.List.{AllByRecursion}
use Rattle.std.specs.Set.{is_member}
use Rattle.std.proofs.lemmas.Bool.{eq-eqb}
use Rattle.std.proofs.lemmas.Bool.Decides.{nat_tests}
use Rattle.list_lemmas.specs.Times.{times_in}
use Rattle.pd_reader.specs.declared.item.Item.{Item}
use Rattle.pd_reader.specs.declared.item.Item.TheVariants as item
use Rattle.pd_reader.specs.Items.{HasItsSlots}
use Rattle.state_sums.specs.Networks.{names_of}
use Rattle.diagram_moves.specs.Laws.{IsPairedDiagram}
use Rattle.diagram_moves.specs.Moves.{moved_slots, triangle_slots, triangle_rewritten}
use Rattle.diagram_moves.specs.Rewriting.{slot, around, crossing_at, crossing_labels}
use Rattle.diagram_moves.proofs.Corners.{three_times}
use Rattle.diagram_moves.proofs.Nodes.{kept}
use Rattle.diagram_moves.proofs.Paired.{paired}
use Rattle.diagram_moves.proofs.Rewritten.{anew, crossing_from-rewritten, kept-rewritten}
use Rattle.diagram_moves.proofs.Triangles.{sizes-triangle}
use Rattle.coloured_moves.proofs.ExchangedStubs.{stubs_once, stubs_halved, halved_stubbed, crossing_stubbed, crossing_labels-stubbed, sizes-stubbed}
use Rattle.coloured_moves.proofs.StubItems.{half, stubs, stubbed, halved}

-- ---- halves
pub slice_half : (ws : List ℕ) (i : ℕ) → slice_index (map half ws) i ≡ half (slice_index ws i)
slice_half [] i = refl
slice_half (w ∷ ws) zero = refl
slice_half (w ∷ ws) (suc i) = slice_half ws i

pub slot_half : (seen ls : List ℕ) (i : ℕ) → half (slot (stubs seen ls) i) ≡ slot ls i
slot_half seen ls i = sym (slice_half (stubs seen ls) (i % 4)) ∙ ap (λ xs. slice_index xs (i % 4)) (stubs_halved seen ls)

around_half : (k : ℕ) (ws : List ℕ) → map half (around k ws) ≡ around k (map half ws)
around_half k ws =
    let h : (i : ℕ) → half (slot ws i) ≡ slot (map half ws) i = λ i. sym (slice_half ws (i % 4)) in
    ap₂ (λ a b. a ∷ b ∷ half (slot ws (k + 2)) ∷ half (slot ws (k + 3)) ∷ []) (h k) (h (k + 1))
    ∙ ap₂ (λ a b. slot (map half ws) k ∷ slot (map half ws) (k + 1) ∷ a ∷ b ∷ []) (h (k + 2)) (h (k + 3))

moved_half : (k : ℕ) (ws : List ℕ) (x y : ℕ) → map half (moved_slots k ws x y) ≡ moved_slots k (map half ws) (half x) (half y)
moved_half k ws x y =
    around_half (4 - k % 4) (x ∷ y ∷ slot ws k ∷ slot ws (k + 1) ∷ [])
    ∙ ap₂ (λ a b. around (4 - k % 4) (half x ∷ half y ∷ a ∷ b ∷ [])) (sym (slice_half ws (k % 4))) (sym (slice_half ws ((k + 1) % 4)))

halved_anew : (h g : ℕ → List ℕ → List ℕ) → ((n : ℕ) (ws : List ℕ) → map half (h n ws) ≡ g n (map half ws)) → (n : ℕ) (items : List Item) → halved (anew h n items) ≡ anew g n (halved items)
halved_anew h g e n [] = refl
halved_anew h g e n (item.X ws ∷ rest) = ap₂ (λ s is. item.X s ∷ is) (e n ws) (halved_anew h g e (n + 1) rest)
halved_anew h g e n (item.Loop l ∷ rest) = ap (λ is. item.Loop l ∷ is) (halved_anew h g e n rest)

pub moved_around : (k : ℕ) → k < 8 → (w x y z : ℕ) → around k (around (4 - k % 4) (w ∷ x ∷ y ∷ z ∷ [])) ≡ w ∷ x ∷ y ∷ z ∷ []
moved_around zero l w x y z = refl
moved_around (suc zero) l w x y z = refl
moved_around (suc (suc zero)) l w x y z = refl
moved_around (suc (suc (suc zero))) l w x y z = refl
moved_around (suc (suc (suc (suc zero)))) l w x y z = refl
moved_around (suc (suc (suc (suc (suc zero))))) l w x y z = refl
moved_around (suc (suc (suc (suc (suc (suc zero)))))) l w x y z = refl
moved_around (suc (suc (suc (suc (suc (suc (suc zero))))))) l w x y z = refl
moved_around (suc (suc (suc (suc (suc (suc (suc (suc k)))))))) l w x y z = absurd (omega (arith, l))

module _ (items : List Item) (pd : IsPairedDiagram items)
    (c : ℕ) (here : List ℕ) (found : crossing_at items c ≡ Some here) (d : ℕ) (there : List ℕ) (also : crossing_at items d ≡ Some there) (f : ℕ) (beyond : List ℕ) (too : crossing_at items f ≡ Some beyond)
    (apart_dc : (d == c) ≡ false) (apart_fc : (f == c) ≡ false) (apart_fd : (f == d) ≡ false) (k l j : ℕ) (low_k : k < 8) (low_l : l < 8) (low_j : j < 8) where
  abbrev pub B : List Item
  B = stubbed [] items

  abbrev pub hereB : List ℕ
  hereB = stubs (crossing_stubbed 1 [] items c here found).0 here

  abbrev pub thereB : List ℕ
  thereB = stubs (crossing_stubbed 1 [] items d there also).0 there

  abbrev pub beyondB : List ℕ
  beyondB = stubs (crossing_stubbed 1 [] items f beyond too).0 beyond

  pub found_B : crossing_at B c ≡ Some hereB
  found_B = (crossing_stubbed 1 [] items c here found).1

  pub also_B : crossing_at B d ≡ Some thereB
  also_B = (crossing_stubbed 1 [] items d there also).1

  pub too_B : crossing_at B f ≡ Some beyondB
  too_B = (crossing_stubbed 1 [] items f beyond too).1

  abbrev pub slots_B : ℕ → List ℕ → List ℕ
  slots_B = triangle_slots c d f hereB thereB beyondB k l j

  abbrev pub D : List Item
  D = anew slots_B 1 B

  abbrev pub new_here : List ℕ
  new_here = moved_slots k hereB (slot beyondB (j + 3)) (slot thereB (l + 2))

  abbrev pub new_there : List ℕ
  new_there = moved_slots l thereB (slot hereB (k + 3)) (slot beyondB (j + 2))

  abbrev pub new_beyond : List ℕ
  new_beyond = moved_slots j beyondB (slot thereB (l + 3)) (slot hereB (k + 2))

  pub here_is : slots_B c hereB ≡ new_here
  here_is = ap (λ z. cond z new_here (cond (c == d) new_there (cond (c == f) new_beyond hereB))) (eq-eqb c c refl)

  pub there_is : slots_B d thereB ≡ new_there
  there_is = ap (λ z. cond z new_here (cond (d == d) new_there (cond (d == f) new_beyond thereB))) apart_dc ∙ ap (λ z. cond z new_there (cond (d == f) new_beyond thereB)) (eq-eqb d d refl)

  pub beyond_is : slots_B f beyondB ≡ new_beyond
  beyond_is =
      ap (λ z. cond z new_here (cond (f == d) new_there (cond (f == f) new_beyond beyondB))) apart_fc ∙ ap (λ z. cond z new_there (cond (f == f) new_beyond beyondB)) apart_fd
      ∙ ap (λ z. cond z new_beyond beyondB) (eq-eqb f f refl)

  -- THE RESULT BY LABELS IS THE RESULT BY STUBS, HALVED
  pub halved_D : halved D ≡ triangle_rewritten items c d f here there beyond k l j
  halved_D =
      halved_anew slots_B (triangle_slots c d f here there beyond k l j)
      (λ n ws.
      let x = moved_half k hereB (slot beyondB (j + 3)) (slot thereB (l + 2)) in
      let y = moved_half l thereB (slot hereB (k + 3)) (slot beyondB (j + 2)) in
      let z = moved_half j beyondB (slot thereB (l + 3)) (slot hereB (k + 2)) in
      let bh = (crossing_stubbed 1 [] items c here found).0 in let bt = (crossing_stubbed 1 [] items d there also).0 in let bb = (crossing_stubbed 1 [] items f beyond too).0 in
      let x' : map half new_here ≡ moved_slots k here (slot beyond (j + 3)) (slot there (l + 2)) = x ∙ ap (λ s. moved_slots k s (half (slot beyondB (j + 3))) (half (slot thereB (l + 2)))) (stubs_halved bh here) ∙ ap₂ (moved_slots k here) (slot_half bb beyond (j + 3)) (slot_half bt there (l + 2)) in
      let y' : map half new_there ≡ moved_slots l there (slot here (k + 3)) (slot beyond (j + 2)) = y ∙ ap (λ s. moved_slots l s (half (slot hereB (k + 3))) (half (slot beyondB (j + 2)))) (stubs_halved bt there) ∙ ap₂ (moved_slots l there) (slot_half bh here (k + 3)) (slot_half bb beyond (j + 2)) in
      let z' : map half new_beyond ≡ moved_slots j beyond (slot there (l + 3)) (slot here (k + 2)) = z ∙ ap (λ s. moved_slots j s (half (slot thereB (l + 3))) (half (slot hereB (k + 2)))) (stubs_halved bb beyond) ∙ ap₂ (moved_slots j beyond) (slot_half bt there (l + 3)) (slot_half bh here (k + 2)) in
      elim (n == c) as (λ t. map half (cond t new_here (cond (n == d) new_there (cond (n == f) new_beyond ws))) ≡ cond t (moved_slots k here (slot beyond (j + 3)) (slot there (l + 2)))
      (cond (n == d) (moved_slots l there (slot here (k + 3)) (slot beyond (j + 2))) (cond (n == f) (moved_slots j beyond (slot there (l + 3)) (slot here (k + 2))) (map half ws)))) [
        | true ↦ x'
        | false ↦ elim (n == d) as (λ t. map half (cond t new_there (cond (n == f) new_beyond ws)) ≡ cond t (moved_slots l there (slot here (k + 3)) (slot beyond (j + 2))) (cond (n == f) (moved_slots j beyond (slot there (l + 3)) (slot here (k + 2))) (map half ws))) [
          | true ↦ y'
          | false ↦ elim (n == f) as (λ t. map half (cond t new_beyond ws) ≡ cond t (moved_slots j beyond (slot there (l + 3)) (slot here (k + 2))) (map half ws)) [ true ↦ z' | false ↦ refl ]
        ]
      ])
      1 B
      ∙ ap (anew (triangle_slots c d f here there beyond k l j) 1) (halved_stubbed [] items)

  -- the other crossings stay
  pub stays : (n : ℕ) (slots : List ℕ) → is_member ◌==◌ (f ∷ d ∷ c ∷ []) n ≡ false → slots_B n slots ≡ slots
  stays n slots out = grind (arith, out)

  -- ---- what stands around the corners behind the move
  pub around_here : around k new_here ≡ slot beyondB (j + 3) ∷ slot thereB (l + 2) ∷ slot hereB k ∷ slot hereB (k + 1) ∷ []
  around_here = moved_around k low_k (slot beyondB (j + 3)) (slot thereB (l + 2)) (slot hereB k) (slot hereB (k + 1))

  pub around_there : around l new_there ≡ slot hereB (k + 3) ∷ slot beyondB (j + 2) ∷ slot thereB l ∷ slot thereB (l + 1) ∷ []
  around_there = moved_around l low_l (slot hereB (k + 3)) (slot beyondB (j + 2)) (slot thereB l) (slot thereB (l + 1))

  pub around_beyond : around j new_beyond ≡ slot thereB (l + 3) ∷ slot hereB (k + 2) ∷ slot beyondB j ∷ slot beyondB (j + 1) ∷ []
  around_beyond = moved_around j low_j (slot thereB (l + 3)) (slot hereB (k + 2)) (slot beyondB j) (slot beyondB (j + 1))

  sizes_B : AllByRecursion HasItsSlots B
  sizes_B = sizes-stubbed [] items pd.sizes

  pub sizes_D : AllByRecursion HasItsSlots D
  sizes_D = sizes-triangle B c d f hereB thereB beyondB k l j sizes_B

  -- ---- each stub stands once
  pub once_B : (w : ℕ) → times_in (crossing_labels B) w ≤ 1
  once_B w = let e = ap (λ ws. times_in ws w) (crossing_labels-stubbed [] items) in let o = stubs_once (crossing_labels items) (λ x h. paired items pd x h) w in omega (arith, e, o)

  counted : (w : ℕ) → times_in (crossing_labels B) w ≡ times_in (around k hereB) w + (times_in (around l thereB) w + (times_in (around j beyondB) w + times_in (names_of (kept 0 0 (f ∷ d ∷ c ∷ []) 1 B)) w))
  counted w = three_times 0 0 B sizes_B c hereB found_B k low_k d thereB also_B apart_dc l low_l f beyondB too_B apart_fc apart_fd j low_j w

  pub once_D : (w : ℕ) → times_in (crossing_labels D) w ≤ 1
  once_D w =
      let found_D : crossing_at D c ≡ Some new_here = crossing_from-rewritten slots_B 1 B c hereB found_B ∙ ap (λ s. Some s) here_is in
      let also_D : crossing_at D d ≡ Some new_there = crossing_from-rewritten slots_B 1 B d thereB also_B ∙ ap (λ s. Some s) there_is in
      let too_D : crossing_at D f ≡ Some new_beyond = crossing_from-rewritten slots_B 1 B f beyondB too_B ∙ ap (λ s. Some s) beyond_is in
      let old = counted w in
      let new = three_times 0 0 D sizes_D c new_here found_D k low_k d new_there also_D apart_dc l low_l f new_beyond too_D apart_fc apart_fd j low_j w in
      let rest = ap (λ ns. times_in (names_of ns) w) (kept-rewritten slots_B 0 0 (f ∷ d ∷ c ∷ []) stays 1 B) in
      let p = ap (λ ws. times_in ws w) around_here in
      let q = ap (λ ws. times_in ws w) around_there in
      let r = ap (λ ws. times_in ws w) around_beyond in
      let o = once_B w in
      let same : times_in (slot beyondB (j + 3) ∷ slot thereB (l + 2) ∷ slot hereB k ∷ slot hereB (k + 1) ∷ []) w
      + (times_in (slot hereB (k + 3) ∷ slot beyondB (j + 2) ∷ slot thereB l ∷ slot thereB (l + 1) ∷ []) w + times_in (slot thereB (l + 3) ∷ slot hereB (k + 2) ∷ slot beyondB j ∷ slot beyondB (j + 1) ∷ []) w)
      ≡ times_in (around k hereB) w + (times_in (around l thereB) w + times_in (around j beyondB) w) = omega arith in
      omega (arith, old, new, rest, p, q, r, o, same)

  -- stubs at two of the crossings differ
  in_four : (a b x y w : ℕ) → (w ≡ a) → 1 ≤ times_in (a ∷ b ∷ x ∷ y ∷ []) w
  in_four a b x y w e = grind (arith, nat_tests, e)

  in_four' : (a b x y w : ℕ) → (w ≡ b) → 1 ≤ times_in (a ∷ b ∷ x ∷ y ∷ []) w
  in_four' a b x y w e = grind (arith, nat_tests, e)

  pub differ_0 : slot hereB (k + 1) ≢ slot thereB l
  differ_0 e =
      let w = slot hereB (k + 1) in
      let x = in_four' (slot hereB k) (slot hereB (k + 1)) (slot hereB (k + 2)) (slot hereB (k + 3)) w refl in
      let y = in_four (slot thereB l) (slot thereB (l + 1)) (slot thereB (l + 2)) (slot thereB (l + 3)) w e in
      let t = counted w in let o = once_B w in omega (arith, x, y, t, o)

  pub differ_1 : slot thereB (l + 1) ≢ slot beyondB j
  differ_1 e =
      let w = slot thereB (l + 1) in
      let x = in_four' (slot thereB l) (slot thereB (l + 1)) (slot thereB (l + 2)) (slot thereB (l + 3)) w refl in
      let y = in_four (slot beyondB j) (slot beyondB (j + 1)) (slot beyondB (j + 2)) (slot beyondB (j + 3)) w e in
      let t = counted w in let o = once_B w in omega (arith, x, y, t, o)

  pub differ_2 : slot hereB k ≢ slot beyondB (j + 1)
  differ_2 e =
      let w = slot hereB k in
      let x = in_four (slot hereB k) (slot hereB (k + 1)) (slot hereB (k + 2)) (slot hereB (k + 3)) w refl in
      let y = in_four' (slot beyondB j) (slot beyondB (j + 1)) (slot beyondB (j + 2)) (slot beyondB (j + 3)) w e in
      let t = counted w in let o = once_B w in omega (arith, x, y, t, o)
