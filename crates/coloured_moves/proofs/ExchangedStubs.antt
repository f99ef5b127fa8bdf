-- Stubs of a diagram whose slots were rewritten: where a label's second stub now comes first, its places are exchanged. With the names of
-- exchanged places the cable of the diagram has at each slot the names that the stub there had before.
use Rattle.std.proofs.Common.{◌≡◌, ◌≢◌, ℕ, zero, suc, ◌+◌, ◌*◌, ◌%◌, ◌≤◌, ◌==◌, ◌||◌, Bool, true, false, cond, List, [], ◌∷◌, ◌++◌, map, length, Some, refl, sym, ap, ap₂, ◌∙◌, arith, ⊎_elim, subst, append_assoc}
use Rattle.std.specs.List.{AllByRecursion}
use Rattle.std.specs.Set.{is_member}
use Rattle.std.proofs.lemmas.Bool.{cases_Bool, cases_eq, eqb-true}
use Rattle.std.proofs.lemmas.Bool.Decides.{nat_tests}
use Rattle.std.proofs.lemmas.List.{map-append}
use Rattle.graph_parts.proofs.Distinct.{is_member-append}
use Rattle.list_lemmas.specs.Times.{times_in}
use Rattle.list_lemmas.proofs.Times.{times_in-append, times_in-cons, times_none, times_of_member}
use Rattle.state_sums.specs.Networks.{Node}
use Rattle.root_quantum.specs.Parameters.{Parameters}
use Rattle.pd_reader.specs.declared.item.Item.{Item}
use Rattle.pd_reader.specs.declared.item.Item.TheVariants as item
use Rattle.pd_reader.specs.Items.{HasItsSlots}
use Rattle.cables.specs.CableNodes.{crossing_cable}
use Rattle.cables.specs.Cables.{loop_nodes}
use Rattle.cables.specs.Strands.{Strands, exchanged}
use Rattle.cables.proofs.NameCounts.{at}
use Rattle.diagram_moves.specs.Rewriting.{crossing_labels, crossing_from}
use Rattle.diagram_moves.proofs.Paired.{loop_labels}
use Rattle.coloured_moves.proofs.StubItems.{half, stub, stubs, seen_after, stubbed, halved, at_stub, stub_nodes, stub_half}

-- the first stub of the label is the one of its second place
abbrev pub second_first : List ℕ → ℕ → Bool
second_first [] l = false
second_first (w ∷ ws) l = cond (half w == l) (w % 2 == 1) (second_first ws l)

-- a label's first stub in front, and which it is
first_found : (ws zs : List ℕ) (l : ℕ) → is_member ◌==◌ (map half ws) l ≡ true → (w : ℕ) × (1 ≤ times_in ws w) × (half w ≡ l) × (second_first (ws ++ zs) l ≡ (w % 2 == 1))
first_found [] zs l m = absurd (grind (arith, m))
first_found (w ∷ ws) zs l m =
    ⊎_elim
    (λ t. (w, (let c = times_in-cons w ws w in let one : at w w ≡ 1 = grind (arith, nat_tests) in omega (arith, c, one)), eqb-true (half w) l t, ap (λ b. cond b (w % 2 == 1) (second_first (ws ++ zs) l)) t))
    (λ t.
    let later : is_member ◌==◌ (map half ws) l ≡ true = other l (half w) (is_member ◌==◌ (map half ws) l) m t in
    let r = first_found ws zs l later in
    (r.0, (let c = times_in-cons w ws r.0 in let s = r.1 in omega (arith, c, s)), r.2, ap (λ b. cond b (w % 2 == 1) (second_first (ws ++ zs) l)) t ∙ r.3))
    (cases_Bool (half w == l))
  where
    other : (l h : ℕ) (t : Bool) → (l == h || t) ≡ true → (h == l) ≡ false → t ≡ true
    other l h t m d = grind (arith, nat_tests, m, d)

pub first_after : (ws zs : List ℕ) (l : ℕ) → is_member ◌==◌ (map half ws) l ≡ false → second_first (ws ++ zs) l ≡ second_first zs l
first_after [] zs l m = refl
first_after (w ∷ ws) zs l m =
    let d : (half w == l) ≡ false = apart l (half w) (is_member ◌==◌ (map half ws) l) m in
    ap (λ b. cond b (w % 2 == 1) (second_first (ws ++ zs) l)) d ∙ first_after ws zs l (behind (l == half w) (is_member ◌==◌ (map half ws) l) m)
  where
    apart : (l h : ℕ) (t : Bool) → (l == h || t) ≡ false → (h == l) ≡ false
    apart l h t m = grind (arith, nat_tests, m)

    behind : (s t : Bool) → (s || t) ≡ false → t ≡ false
    behind s t m = grind (arith, m)

module _ (strands : Strands) (all : List ℕ) (once : (w : ℕ) → times_in all w ≤ 1) where
  abbrev pub turned_strands : Strands
  turned_strands = exchanged strands (second_first all)

  -- the names at the stubs of the rewritten diagram, by the order there, are those that the stubs had
  at_place : (pre : List ℕ) (w : ℕ) (post seen : List ℕ) → all ≡ pre ++ (w ∷ post) → ((y : ℕ) → is_member ◌==◌ seen y ≡ is_member ◌==◌ (map half pre) y) → at_stub turned_strands (stub seen (half w)) ≡ at_stub strands w
  at_place pre w post seen e same =
      let l = half w in
      let h = stub_half seen l in
      ⊎_elim
      (λ t.
      let m : is_member ◌==◌ seen l ≡ true = same l ∙ t in
      let r = first_found pre (w ∷ post) l t in
      let chosen : second_first all l ≡ (r.0 % 2 == 1) = ap (λ ws. second_first ws l) e ∙ r.3 in
      let differ : w ≢ r.0 = λ s. (let a = times_in-append pre (w ∷ post) w in let b = times_in-cons w post w in let one : at w w ≡ 1 = grind (arith, nat_tests) in let k = once w in let f = ap (λ ws. times_in ws w) e in
      let g = r.1 in let i = ap (times_in pre) s in omega (arith, a, b, one, k, f, g, i)) in
      let odd : (2 * l + 1) % 2 ≡ 1 = omega arith in
      let own : half (2 * l + 1) ≡ l = omega arith in
      ap (λ b. at_stub turned_strands (2 * l + cond b 1 0)) m
      ∙ ap (λ k. cond (k == 1) (turned_strands.second (half (2 * l + 1))) (turned_strands.first (half (2 * l + 1)))) odd
      ∙ ap turned_strands.second own
      ∙ ap (λ b. cond b (strands.first l) (strands.second l)) chosen
      ∙ sides w r.0 (strands.first l) (strands.second l) differ r.2)
      (λ t.
      let m : is_member ◌==◌ seen l ≡ false = same l ∙ t in
      let chosen : second_first all l ≡ (w % 2 == 1) =
      ap (λ ws. second_first ws l) e ∙ first_after pre (w ∷ post) l t ∙ (let s : (half w == l) ≡ true = grind (arith, nat_tests) in ap (λ b. cond b (w % 2 == 1) (second_first post l)) s) in
      let even : (2 * l + 0) % 2 ≡ 0 = omega arith in
      let own : half (2 * l + 0) ≡ l = omega arith in
      ap (λ b. at_stub turned_strands (2 * l + cond b 1 0)) m
      ∙ ap (λ k. cond (k == 1) (turned_strands.second (half (2 * l + 0))) (turned_strands.first (half (2 * l + 0)))) even
      ∙ ap turned_strands.first own
      ∙ ap (λ b. cond b (strands.second l) (strands.first l)) chosen)
      (cases_Bool (is_member ◌==◌ (map half pre) l))
    where
      -- another stub of the label is the other one
      sides : (w v : ℕ) (xs ys : List ℕ) → w ≢ v → half v ≡ half w → cond (v % 2 == 1) xs ys ≡ cond (w % 2 == 1) ys xs
      sides w v xs ys d e =
          ⊎_elim
          (λ t. (let s : (w % 2 == 1) ≡ false = other v w d e t in ap (λ b. cond b xs ys) t ∙ sym (ap (λ b. cond b ys xs) s)))
          (λ t. (let s : (w % 2 == 1) ≡ true = own v w d e t in ap (λ b. cond b xs ys) t ∙ sym (ap (λ b. cond b ys xs) s)))
          (cases_Bool (v % 2 == 1))
        where
          other : (v w : ℕ) → w ≢ v → half v ≡ half w → (v % 2 == 1) ≡ true → (w % 2 == 1) ≡ false
          other v w d e t = ⊎_elim (λ s. absurd (let p = eqb-true (v % 2) 1 t in let q = eqb-true (w % 2) 1 s in d (omega (arith, e, p, q)))) (λ s. s) (cases_Bool (w % 2 == 1))

          own : (v w : ℕ) → w ≢ v → half v ≡ half w → (v % 2 == 1) ≡ false → (w % 2 == 1) ≡ true
          own v w d e t = ⊎_elim (λ s. s) (λ s. absurd (let p = even v t in let q = even w s in d (omega (arith, e, p, q)))) (cases_Bool (w % 2 == 1))
            where
              even : (v : ℕ) → (v % 2 == 1) ≡ false → v % 2 ≡ 0
              even v t = grind (arith, nat_tests, t)

  next_seen : (pre : List ℕ) (w : ℕ) (seen : List ℕ) → ((y : ℕ) → is_member ◌==◌ seen y ≡ is_member ◌==◌ (map half pre) y) → (y : ℕ) → is_member ◌==◌ (half w ∷ seen) y ≡ is_member ◌==◌ (map half (pre ++ w ∷ [])) y
  next_seen pre w seen same y =
      ap (λ b. y == half w || b) (same y) ∙ swap (y == half w) (is_member ◌==◌ (map half pre) y)
      ∙ sym (ap (λ ns. is_member ◌==◌ ns y) (map-append half pre (w ∷ [])) ∙ is_member-append (map half pre) (half w ∷ []) y)
    where
      swap : (a b : Bool) → (a || b) ≡ (b || (a || false))
      swap true true = refl
      swap true false = refl
      swap false true = refl
      swap false false = refl

  longer : (pre : List ℕ) (w : ℕ) (post : List ℕ) → all ≡ pre ++ (w ∷ post) → all ≡ (pre ++ w ∷ []) ++ post
  longer pre w post e = e ∙ sym (append_assoc pre (w ∷ []) post)

  -- EACH STUB TAKES ITS NAMES ALONG
  pub exchanged_stubs : (p : Parameters) (gone pre seen : List ℕ) (n group index loop_group : ℕ) (items : List Item) → AllByRecursion HasItsSlots items → all ≡ pre ++ crossing_labels items →
      ((y : ℕ) → is_member ◌==◌ seen y ≡ is_member ◌==◌ (map half pre) y) → AllByRecursion (λ l. turned_strands.first l ≡ strands.first l) (loop_labels items) →
      stub_nodes p turned_strands gone n group index loop_group (stubbed seen (halved items)) ≡ stub_nodes p strands gone n group index loop_group items
  exchanged_stubs p gone pre seen n group index loop_group [] sizes e same still = refl
  exchanged_stubs p gone pre seen n group index loop_group (item.Loop l ∷ rest) sizes e same still =
      ap₂ (λ xs ys. xs ++ ys) (ap (loop_nodes strands loop_group) still.0) (exchanged_stubs p gone pre seen n group (index + 1) (loop_group + 1) rest sizes.1 e same still.1)
  exchanged_stubs p gone pre seen n group index loop_group (item.X (a ∷ b ∷ c ∷ d ∷ []) ∷ rest) sizes e same still =
      let ls = crossing_labels rest in
      let C : List ℕ → List ℕ → List ℕ → List ℕ → List Node = crossing_cable p group index in
      let s1 = half a ∷ seen in let s2 = half b ∷ s1 in let s3 = half c ∷ s2 in
      let p1 = pre ++ a ∷ [] in let p2 = p1 ++ b ∷ [] in let p3 = p2 ++ c ∷ [] in let p4 = p3 ++ d ∷ [] in
      let e1 = longer pre a (b ∷ c ∷ d ∷ ls) e in
      let e2 = longer p1 b (c ∷ d ∷ ls) e1 in
      let e3 = longer p2 c (d ∷ ls) e2 in
      let m1 = next_seen pre a seen same in
      let m2 = next_seen p1 b s1 m1 in
      let m3 = next_seen p2 c s2 m2 in
      let na = at_place pre a (b ∷ c ∷ d ∷ ls) seen e same in
      let nb = at_place p1 b (c ∷ d ∷ ls) s1 e1 m1 in
      let nc = at_place p2 c (d ∷ ls) s2 e2 m2 in
      let nd = at_place p3 d ls s3 e3 m3 in
      ap₂ (λ xs ys. cond (is_member ◌==◌ gone n) [] xs ++ ys)
      (ap₂ (λ x y. C x y (at_stub turned_strands (stub s2 (half c))) (at_stub turned_strands (stub s3 (half d)))) na nb ∙ ap₂ (λ x y. C (at_stub strands a) (at_stub strands b) x y) nc nd)
      (exchanged_stubs p gone p4 (half d ∷ s3) (n + 1) (group + 1) (index + 1) loop_group rest sizes.1 (longer p3 d ls e3) (next_seen p3 d s3 m3) still)
  exchanged_stubs p gone pre seen n group index loop_group (item.X [] ∷ rest) sizes e same still = absurd (omega (arith, sizes.0))
  exchanged_stubs p gone pre seen n group index loop_group (item.X (a ∷ []) ∷ rest) sizes e same still = absurd (omega (arith, sizes.0))
  exchanged_stubs p gone pre seen n group index loop_group (item.X (a ∷ b ∷ []) ∷ rest) sizes e same still = absurd (omega (arith, sizes.0))
  exchanged_stubs p gone pre seen n group index loop_group (item.X (a ∷ b ∷ c ∷ []) ∷ rest) sizes e same still = absurd (omega (arith, sizes.0))
  exchanged_stubs p gone pre seen n group index loop_group (item.X (a ∷ b ∷ c ∷ d ∷ y ∷ slots) ∷ rest) sizes e same still = absurd (omega (arith, sizes.0))

-- ---- the stubs of a diagram
stubs-append : (seen xs ys : List ℕ) → stubs seen (xs ++ ys) ≡ stubs seen xs ++ stubs (seen_after seen xs) ys
stubs-append seen [] ys = refl
stubs-append seen (x ∷ xs) ys = ap (λ ws. stub seen x ∷ ws) (stubs-append (x ∷ seen) xs ys)

pub crossing_labels-stubbed : (seen : List ℕ) (items : List Item) → crossing_labels (stubbed seen items) ≡ stubs seen (crossing_labels items)
crossing_labels-stubbed seen [] = refl
crossing_labels-stubbed seen (item.X slots ∷ rest) = ap (λ ws. stubs seen slots ++ ws) (crossing_labels-stubbed (seen_after seen slots) rest) ∙ sym (stubs-append seen slots (crossing_labels rest))
crossing_labels-stubbed seen (item.Loop l ∷ rest) = crossing_labels-stubbed seen rest

pub stubs_halved : (seen ls : List ℕ) → map half (stubs seen ls) ≡ ls
stubs_halved seen [] = refl
stubs_halved seen (l ∷ ls) = ap₂ (λ x xs. x ∷ xs) (stub_half seen l) (stubs_halved (l ∷ seen) ls)

pub halved_stubbed : (seen : List ℕ) (items : List Item) → halved (stubbed seen items) ≡ items
halved_stubbed seen [] = refl
halved_stubbed seen (item.X slots ∷ rest) = ap₂ (λ s is. item.X s ∷ is) (stubs_halved seen slots) (halved_stubbed (seen_after seen slots) rest)
halved_stubbed seen (item.Loop l ∷ rest) = ap (λ is. item.Loop l ∷ is) (halved_stubbed seen rest)

pub length-stubs : (seen ls : List ℕ) → length (stubs seen ls) ≡ length ls
length-stubs seen [] = refl
length-stubs seen (l ∷ ls) = ap suc (length-stubs (l ∷ seen) ls)

pub sizes-stubbed : (seen : List ℕ) (items : List Item) → AllByRecursion HasItsSlots items → AllByRecursion HasItsSlots (stubbed seen items)
sizes-stubbed seen [] h = tt
sizes-stubbed seen (item.X slots ∷ rest) h = (length-stubs seen slots ∙ h.0, sizes-stubbed (seen_after seen slots) rest h.1)
sizes-stubbed seen (item.Loop l ∷ rest) h = (tt, sizes-stubbed seen rest h.1)

-- the stubs at a crossing
pub crossing_stubbed : (n : ℕ) (seen : List ℕ) (items : List Item) (c : ℕ) (slots : List ℕ) → crossing_from n items c ≡ Some slots → (before : List ℕ) × (crossing_from n (stubbed seen items) c ≡ Some (stubs before slots))
crossing_stubbed n seen [] c slots found = (seen, absurd (none_is slots found))
  where
    none_is : (slots : List ℕ) → crossing_from n [] c ≡ Some slots → ⊥
    none_is slots e = cc
crossing_stubbed n seen (item.X here ∷ rest) c slots found =
    let Q : Bool → Type 0 = λ z. cond z (Some here) (crossing_from (n + 1) rest c) ≡ Some slots in
    let P : List ℕ → Bool → Type 0 = λ before z. cond z (Some (stubs seen here)) (crossing_from (n + 1) (stubbed (seen_after seen here) rest) c) ≡ Some (stubs before slots) in
    ⊎_elim
    (λ t.
    let e : Some here ≡ Some slots = subst Q t found in
    let is : here ≡ slots = cc in
    (seen, subst (P seen) (sym t) (ap (λ s. Some (stubs seen s)) is)))
    (λ t.
    let r = crossing_stubbed (n + 1) (seen_after seen here) rest c slots (subst Q t found) in
    (r.0, subst (P r.0) (sym t) r.1))
    (cases_Bool (n == c))
crossing_stubbed n seen (item.Loop l ∷ rest) c slots found = crossing_stubbed n seen rest c slots found

-- ---- each stub stands at most once, where labels stand twice
none_seen : (seen ls : List ℕ) (l : ℕ) → is_member ◌==◌ seen l ≡ true → times_in (stubs seen ls) (2 * l) ≡ 0
none_seen seen [] l m = refl
none_seen seen (x ∷ ls) l m =
    let c = times_in-cons (stub seen x) (stubs (x ∷ seen) ls) (2 * l) in
    let ih = none_seen (x ∷ seen) ls l (later (l == x) (is_member ◌==◌ seen l) m) in
    let none : at (2 * l) (stub seen x) ≡ 0 =
    ⊎_elim
    (λ (e : l ≡ x). (let s : is_member ◌==◌ seen x ≡ true = sym (ap (is_member ◌==◌ seen) e) ∙ m in ap (λ b. at (2 * l) (2 * x + cond b 1 0)) s ∙ odd l x))
    (λ d. other l x (is_member ◌==◌ seen x) d)
    (cases_eq l x) in
    omega (arith, c, ih, none)
  where
    later : (s t : Bool) → t ≡ true → (s || t) ≡ true
    later s t h = grind (arith, h)

    away : (a b : ℕ) → a ≢ b → at a b ≡ 0
    away a b d = grind (arith, nat_tests, d)

    odd : (l x : ℕ) → at (2 * l) (2 * x + 1) ≡ 0
    odd l x = away (2 * l) (2 * x + 1) (λ e. omega (arith, e))

    other : (l x : ℕ) (b : Bool) → l ≢ x → at (2 * l) (2 * x + cond b 1 0) ≡ 0
    other l x true d = odd l x
    other l x false d = away (2 * l) (2 * x + 0) (λ e. d (omega (arith, e)))

pub both_stubs : (seen ls : List ℕ) (l : ℕ) → times_in (stubs seen ls) (2 * l) + times_in (stubs seen ls) (2 * l + 1) ≡ times_in ls l
both_stubs seen [] l = refl
both_stubs seen (x ∷ ls) l =
    let a = times_in-cons (stub seen x) (stubs (x ∷ seen) ls) (2 * l) in
    let b = times_in-cons (stub seen x) (stubs (x ∷ seen) ls) (2 * l + 1) in
    let c = times_in-cons x ls l in
    let ih = both_stubs (x ∷ seen) ls l in
    let s = split_at (is_member ◌==◌ seen x) in
    omega (arith, a, b, c, ih, s)
  where
    same : (a b : ℕ) → a ≡ b → at a b ≡ 1
    same a b e = grind (arith, nat_tests, e)

    away : (a b : ℕ) → a ≢ b → at a b ≡ 0
    away a b d = grind (arith, nat_tests, d)

    split_at : (t : Bool) → at (2 * l) (2 * x + cond t 1 0) + at (2 * l + 1) (2 * x + cond t 1 0) ≡ at l x
    split_at true =
        ⊎_elim
        (λ (e : l ≡ x). (let p = away (2 * l) (2 * x + 1) (λ s. omega (arith, s)) in let q = same (2 * l + 1) (2 * x + 1) (omega (arith, e)) in let r = same l x e in omega (arith, p, q, r)))
        (λ d. (let p = away (2 * l) (2 * x + 1) (λ s. omega (arith, s)) in let q = away (2 * l + 1) (2 * x + 1) (λ s. d (omega (arith, s))) in let r = away l x d in omega (arith, p, q, r)))
        (cases_eq l x)
    split_at false =
        ⊎_elim
        (λ (e : l ≡ x). (let p = same (2 * l) (2 * x + 0) (omega (arith, e)) in let q = away (2 * l + 1) (2 * x + 0) (λ s. omega (arith, s)) in let r = same l x e in omega (arith, p, q, r)))
        (λ d. (let p = away (2 * l) (2 * x + 0) (λ s. d (omega (arith, s))) in let q = away (2 * l + 1) (2 * x + 0) (λ s. omega (arith, s)) in let r = away l x d in omega (arith, p, q, r)))
        (cases_eq l x)

first_once : (seen ls : List ℕ) (l : ℕ) → is_member ◌==◌ seen l ≡ false → 1 ≤ times_in ls l → times_in (stubs seen ls) (2 * l) ≡ 1
first_once seen [] l m h = absurd (omega (arith, h))
first_once seen (x ∷ ls) l m h =
    let c = times_in-cons (stub seen x) (stubs (x ∷ seen) ls) (2 * l) in
    let d = times_in-cons x ls l in
    ⊎_elim
    (λ (e : l ≡ x).
    (let s : is_member ◌==◌ seen x ≡ false = sym (ap (is_member ◌==◌ seen) e) ∙ m in
    let one : at (2 * l) (stub seen x) ≡ 1 = ap (λ b. at (2 * l) (2 * x + cond b 1 0)) s ∙ same (2 * l) (2 * x + 0) (omega (arith, e)) in
    let none = none_seen (x ∷ seen) ls l (front l x (is_member ◌==◌ seen l) e) in
    omega (arith, c, one, none)))
    (λ n.
    (let none : at (2 * l) (stub seen x) ≡ 0 = other (is_member ◌==◌ seen x) n in
    let zero_x = away l x n in
    let ih = first_once (x ∷ seen) ls l (still l x (is_member ◌==◌ seen l) n m) (omega (arith, h, d, zero_x)) in
    omega (arith, c, none, ih)))
    (cases_eq l x)
  where
    same : (a b : ℕ) → a ≡ b → at a b ≡ 1
    same a b e = grind (arith, nat_tests, e)

    away : (a b : ℕ) → a ≢ b → at a b ≡ 0
    away a b d = grind (arith, nat_tests, d)

    front : (l x : ℕ) (t : Bool) → l ≡ x → ((l == x) || t) ≡ true
    front l x t e = grind (arith, nat_tests, e)

    still : (l x : ℕ) (t : Bool) → l ≢ x → t ≡ false → ((l == x) || t) ≡ false
    still l x t d m = grind (arith, nat_tests, d, m)

    other : (b : Bool) → l ≢ x → at (2 * l) (2 * x + cond b 1 0) ≡ 0
    other true d = away (2 * l) (2 * x + 1) (λ e. omega (arith, e))
    other false d = away (2 * l) (2 * x + 0) (λ e. d (omega (arith, e)))

-- EACH STUB STANDS ONCE
pub stubs_once : (ls : List ℕ) → ((l : ℕ) → 1 ≤ times_in ls l → times_in ls l ≡ 2) → (w : ℕ) → times_in (stubs [] ls) w ≤ 1
stubs_once ls twice w =
    let l = half w in
    let both = both_stubs [] ls l in
    let even : w % 2 ≡ 0 → w ≡ 2 * l = λ e. omega (arith, e) in
    let odd : w % 2 ≡ 1 → w ≡ 2 * l + 1 = λ e. omega (arith, e) in
    let T : ℕ → ℕ = times_in (stubs [] ls) in
    some (times_in ls l)
    (λ z. parity w (λ e. (let t = ap T (even e) in omega (arith, t, both, z))) (λ e. (let t = ap T (odd e) in omega (arith, t, both, z))))
    (λ h. (let two = twice l h in let one = first_once [] ls l refl h in
    parity w (λ e. (let t = ap T (even e) in omega (arith, t, one))) (λ e. (let t = ap T (odd e) in omega (arith, t, both, two, one)))))
  where
    some : (k : ℕ) → {P : Type 0} → (k ≡ 0 → P) → (1 ≤ k → P) → P
    some zero f g = f refl
    some (suc k) f g = g (omega arith)

    parity : (w : ℕ) → {P : Type 0} → (w % 2 ≡ 0 → P) → (w % 2 ≡ 1 → P) → P
    parity w f g = ⊎_elim (λ t. f t) (λ t. g (omega (arith, t))) (cases_eq (w % 2) 0)

-- the stubs of the labels that stand there, and no others
pub stubs_times : (ls : List ℕ) → ((l : ℕ) → 1 ≤ times_in ls l → times_in ls l ≡ 2) → (w : ℕ) → times_in (stubs [] ls) w ≡ cond (is_member ◌==◌ ls (half w)) 1 0
stubs_times ls twice w =
    let l = half w in
    let both = both_stubs [] ls l in
    let a = stubs_once ls twice (2 * l) in
    let b = stubs_once ls twice (2 * l + 1) in
    let T : ℕ → ℕ = times_in (stubs [] ls) in
    ⊎_elim
    (λ t.
    let two = twice l (times_of_member l ls t) in
    let even : T (2 * l) ≡ 1 = omega (arith, both, a, b, two) in
    let odd : T (2 * l + 1) ≡ 1 = omega (arith, both, a, b, two) in
    side w (λ e. ap T e ∙ even) (λ e. ap T e ∙ odd) ∙ sym (ap (λ h. cond h 1 0) t))
    (λ t.
    let none = times_none ls l t in
    let even : T (2 * l) ≡ 0 = omega (arith, both, none) in
    let odd : T (2 * l + 1) ≡ 0 = omega (arith, both, none) in
    side w (λ e. ap T e ∙ even) (λ e. ap T e ∙ odd) ∙ sym (ap (λ h. cond h 1 0) t))
    (cases_Bool (is_member ◌==◌ ls l))
  where
    side : (w : ℕ) → {P : Type 0} → (w ≡ 2 * half w → P) → (w ≡ 2 * half w + 1 → P) → P
    side w f g = ⊎_elim (λ t. f (omega (arith, t))) (λ t. g (omega (arith, t))) (cases_eq (w % 2) 0)
