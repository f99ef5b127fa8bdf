-- Bundles of arcs close one after the other, and the labels become the least ones of the classes that the bundles join; a bundle between the
-- two stubs of one label stays to the end.
--
--     join a b x               the lesser of a and b for both of them
--     Matches label pairs edges      the bundles join what the edges join, told by these labels
use Rattle.std.proofs.Common.{◌≡◌, ◌≢◌, ℕ, ◌<◌, ◌≤◌, ◌==◌, ◌&&◌, ◌||◌, not, Bool, true, false, cond, min, max, List, [], ◌∷◌, ◌++◌, map, fold, refl, sym, ap, ap₂, ◌∙◌, arith, ⊎_elim, subst}
use Rattle.std.specs.List.{AllByRecursion}
use Rattle.std.proofs.lemmas.Bool.{cases_Bool, cases_eq, cases_order, eq-eqb, eqb-true}
use Rattle.std.proofs.lemmas.Bool.Decides.{nat_tests}
use Rattle.std.proofs.lemmas.List.{map-append}
use Rattle.graph_parts.specs.LeastNames.{join_least}
use Rattle.graph_parts.proofs.Renaming.{map_map}
use Rattle.root_quantum.specs.Parameters.{Parameters}
use Rattle.pd_reader.specs.declared.item.Item.{Item}
use Rattle.pd_reader.specs.declared.item.Item.TheVariants as item
use Rattle.cables.specs.Nets.{projector_of}
use Rattle.cables.specs.Strands.{Strands, strands_of}
use Rattle.coloured_moves.proofs.BundleMerges.{bundles, told, told_pair, IsState, present_ends, told_state, told_value, long}
use Rattle.coloured_moves.proofs.BundleMerges as merges
use Rattle.coloured_moves.proofs.BundleOrder.{turned_state, turned_value, later_state, later_value}
use Rattle.coloured_moves.proofs.StubItems.{half, halved}
use Rattle.coloured_moves.proofs.StubNames.{relabelled}

abbrev pub join : ℕ → ℕ → ℕ → ℕ
join a b x = cond (x == a || x == b) (min a b) x

abbrev pub Matches : (ℕ → ℕ) → List (ℕ × ℕ) → List (ℕ × ℕ) → Type 0
Matches label [] [] = Unit {0}
Matches label [] (edge ∷ edges) = ⊥
Matches label (pair ∷ pairs) [] = ⊥
Matches label (pair ∷ pairs) (edge ∷ edges) = ((half pair.0 ≡ label edge.0) × (half pair.1 ≡ label edge.1)) × Matches label pairs edges

-- ---- labels
relabelled_both : (f g : ℕ → ℕ) (items : List Item) → relabelled f (relabelled g items) ≡ relabelled (λ l. f (g l)) items
relabelled_both f g [] = refl
relabelled_both f g (item.X ws ∷ rest) = ap₂ (λ s is. item.X s ∷ is) (map_map f g ws) (relabelled_both f g rest)
relabelled_both f g (item.Loop l ∷ rest) = ap (λ is. item.Loop l ∷ is) (relabelled_both f g rest)

map_halves : (t g : ℕ → ℕ) → ((w : ℕ) → half (t w) ≡ g (half w)) → (ws : List ℕ) → map half (map t ws) ≡ map g (map half ws)
map_halves t g h [] = refl
map_halves t g h (w ∷ ws) = ap₂ (λ x xs. x ∷ xs) (h w) (map_halves t g h ws)

halved_told : (t g : ℕ → ℕ) → ((w : ℕ) → half (t w) ≡ g (half w)) → (items : List Item) → halved (relabelled t items) ≡ relabelled g (halved items)
halved_told t g h [] = refl
halved_told t g h (item.X ws ∷ rest) = ap₂ (λ s is. item.X s ∷ is) (map_halves t g h ws) (halved_told t g h rest)
halved_told t g h (item.Loop l ∷ rest) = ap (λ is. item.Loop l ∷ is) (halved_told t g h rest)

matches_told : (label t : ℕ → ℕ) (edge : ℕ × ℕ) (a b : ℕ) → a ≡ label edge.0 → b ≡ label edge.1 → ((w : ℕ) → half (t w) ≡ join a b (half w)) → (pairs edges : List (ℕ × ℕ)) → Matches label pairs edges →
    Matches (join_least label edge) (map (told_pair t) pairs) edges
matches_told label t edge a b ea eb h [] [] m = tt
matches_told label t edge a b ea eb h [] (e ∷ edges) m = absurd m
matches_told label t edge a b ea eb h (pair ∷ pairs) [] m = absurd m
matches_told label t edge a b ea eb h (pair ∷ pairs) (e ∷ edges) m = (
  (h pair.0 ∙ ap₂ (λ x y. join x y (half pair.0)) ea eb ∙ ap (join (label edge.0) (label edge.1)) m.0.0, h pair.1 ∙ ap₂ (λ x y. join x y (half pair.1)) ea eb ∙ ap (join (label edge.0) (label edge.1)) m.0.1),
  matches_told label t edge a b ea eb h pairs edges m.1,
)

closed_told : (t : ℕ → ℕ) (g : ℕ → ℕ) → ((w : ℕ) → half (t w) ≡ g (half w)) → (pairs : List (ℕ × ℕ)) → AllByRecursion (λ (pair : ℕ × ℕ). half pair.0 ≡ half pair.1) pairs → AllByRecursion (λ (pair : ℕ × ℕ). half pair.0 ≡ half pair.1) (map (told_pair t) pairs)
closed_told t g h [] k = tt
closed_told t g h (pair ∷ pairs) k = (h pair.0 ∙ ap g k.0 ∙ sym (h pair.1), closed_told t g h pairs k.1)

-- ---- runs
module _ (p : Parameters) (colour : ℕ → ℕ) (boxed : ℕ → Bool) (few : (l : ℕ) → colour l ≤ 8) (gone : List ℕ) (lg free : ℕ) (labels_boxed : List ℕ) (boxes : AllByRecursion (λ l. boxed l ≡ true) labels_boxed)
    (base : ℕ → Bool) (component : ℕ → ℕ) (boxed_least : (l : ℕ) → base l ≡ true → boxed l ≡ true → component l ≡ l) (component_le : (l : ℕ) → component l ≤ l)
    (base_items : List Item) (Class : ℕ × ℕ → Type 0) where
  abbrev S : Strands
  S = strands_of colour boxed (projector_of p)

  abbrev State : (ℕ → Bool) → List (ℕ × ℕ) → List Item → Type 0
  State = IsState p colour boxed few gone lg free labels_boxed

  abbrev V : List (ℕ × ℕ) → List Item → ℕ
  V = merges.V p colour boxed few gone lg free labels_boxed

  -- of two labels of one component the greater has no box
  greater_free : (a b : ℕ) → component a ≡ component b → a < b → base b ≡ true → boxed b ≡ false
  greater_free a b e l m = ⊎_elim (λ t. absurd (let k = boxed_least b m t in let i = component_le a in omega (arith, e, l, k, i))) (λ t. t) (cases_Bool (boxed b))

  -- the labels of a state
  pub record AreLabels (label : ℕ → ℕ) (present : ℕ → Bool) (items : List Item) : Type 0 where
    pub halves : halved items ≡ relabelled label base_items
    pub fixes : (l : ℕ) → present l ≡ true → label l ≡ l
    pub covers : (l : ℕ) → base l ≡ true → present (label l) ≡ true
    pub within : (l : ℕ) → component (label l) ≡ component l
    pub inside : (l : ℕ) → present l ≡ true → base l ≡ true

  -- ---- one bundle between two labels
  record IsTold (present : ℕ → Bool) (u v : ℕ) (pairs : List (ℕ × ℕ)) (items : List Item) : Type 0 where
    t : ℕ → ℕ
    halves : (w : ℕ) → half (t w) ≡ join (half u) (half v) (half w)
    state : State (λ l. present l && not (l == max (half u) (half v))) (map (told_pair t) pairs) (relabelled t items)
    same : V ((u, v) ∷ pairs) items ≡ V (map (told_pair t) pairs) (relabelled t items)

  told_step : (present : ℕ → Bool) (u v : ℕ) (pairs : List (ℕ × ℕ)) (items : List Item) → State present ((u, v) ∷ pairs) items → half u ≢ half v → component (half u) ≡ component (half v) → base (half u) ≡ true → base (half v) ≡ true → IsTold present u v pairs items
  told_step present u v pairs items state differ joined in_u in_v =
      let a = half u in let b = half v in
      ⊎_elim
      (λ (e : a ≡ b). absurd (differ e))
      (λ o. ⊎_elim
      (λ (l : a < b).
      let greatest : max a b ≡ b = omega (arith, l) in
      let least : min a b ≡ a = omega (arith, l) in
      let free_b = greater_free a b joined l in_v in
      let P : ℕ → Type 0 = λ x. State (λ l. present l && not (l == x)) (map (told_pair (told b u)) pairs) (relabelled (told b u) items) in
      record {
        t = told b u;
        halves = λ w. first w u b least;
        state = subst P (sym greatest) (told_state p colour boxed few gone lg free labels_boxed boxes present u v pairs items state differ free_b);
        same = told_value p colour boxed few gone lg free labels_boxed boxes present u v pairs items state differ free_b;
      })
      (λ (l : b < a).
      let greatest : max a b ≡ a = omega (arith, l) in
      let least : min a b ≡ b = omega (arith, l) in
      let free_a = greater_free b a (sym joined) l in_u in
      let other = turned_state p colour boxed few gone lg free labels_boxed present u v pairs items state in
      let P : ℕ → Type 0 = λ x. State (λ l. present l && not (l == x)) (map (told_pair (told a v)) pairs) (relabelled (told a v) items) in
      record {
        t = told a v;
        halves = λ w. second w v a least;
        state = subst P (sym greatest) (told_state p colour boxed few gone lg free labels_boxed boxes present v u pairs items other (λ s. differ (sym s)) free_a);
        same = turned_value p colour boxed few gone lg free labels_boxed present u v pairs items state ∙ told_value p colour boxed few gone lg free labels_boxed boxes present v u pairs items other (λ s. differ (sym s)) free_a;
      })
      o)
      (cases_order a b)
    where
      first : (w u b : ℕ) → min (half u) b ≡ half u → half (told b u w) ≡ join (half u) b (half w)
      first w u b e =
          ⊎_elim
          (λ t. ap (λ h. half (cond h u w)) t ∙ sym (pick (half w == half u) (half w == b) (min (half u) b) (half w) t ∙ e))
          (λ t. ap (λ h. half (cond h u w)) t ∙ sym (leave (half u) b (half w) t e))
          (cases_Bool (half w == b))
        where
          pick : (s r : Bool) (x y : ℕ) → r ≡ true → cond (s || r) x y ≡ x
          pick s r x y h = grind (arith, h)

          leave : (a b x : ℕ) → (x == b) ≡ false → min a b ≡ a → join a b x ≡ x
          leave a b x h e =
              ⊎_elim
              (λ t. (let s : (x == a || x == b) ≡ true = grind (arith, t) in ap (λ h. cond h (min a b) x) s ∙ e ∙ sym (eqb-true x a t)))
              (λ t. (let s : (x == a || x == b) ≡ false = grind (arith, t, h) in ap (λ h. cond h (min a b) x) s))
              (cases_Bool (x == a))

      second : (w v a : ℕ) → min a (half v) ≡ half v → half (told a v w) ≡ join a (half v) (half w)
      second w v a e =
          ⊎_elim
          (λ t. ap (λ h. half (cond h v w)) t ∙ sym (pick (half w == a) (half w == half v) (min a (half v)) (half w) t ∙ e))
          (λ t. ap (λ h. half (cond h v w)) t ∙ sym (leave a (half v) (half w) t e))
          (cases_Bool (half w == a))
        where
          pick : (s r : Bool) (x y : ℕ) → s ≡ true → cond (s || r) x y ≡ x
          pick s r x y h = grind (arith, h)

          leave : (a b x : ℕ) → (x == a) ≡ false → min a b ≡ b → join a b x ≡ x
          leave a b x h e =
              ⊎_elim
              (λ t. (let s : (x == a || x == b) ≡ true = grind (arith, t) in ap (λ h. cond h (min a b) x) s ∙ e ∙ sym (eqb-true x b t)))
              (λ t. (let s : (x == a || x == b) ≡ false = grind (arith, t, h) in ap (λ h. cond h (min a b) x) s))
              (cases_Bool (x == b))

  -- ---- all of them
  pub record IsRun (label : ℕ → ℕ) (before : ℕ) : Type 0 where
    pub present : ℕ → Bool
    pub shut : List (ℕ × ℕ)
    pub edges : List (ℕ × ℕ)
    pub items : List Item
    pub state : State present shut items
    pub labels : AreLabels label present items
    pub matches : Matches label shut edges
    pub closed : AllByRecursion (λ pair. half pair.0 ≡ half pair.1) shut
    pub classes : AllByRecursion Class edges
    pub same : before ≡ V shut items

  same_label : (label : ℕ → ℕ) (edge : ℕ × ℕ) → label edge.0 ≡ label edge.1 → label ≡ join_least label edge
  same_label label edge e = λ i l. one (label edge.0) (label edge.1) (label l) e i
    where
      one : (a b x : ℕ) → a ≡ b → x ≡ join a b x
      one a b x e =
          ⊎_elim
          (λ t. (let least : min a b ≡ a = omega (arith, e) in let q : x ≡ a = grind (arith, nat_tests, t, e) in q ∙ sym least ∙ sym (ap (λ h. cond h (min a b) x) t)))
          (λ t. sym (ap (λ h. cond h (min a b) x) t))
          (cases_Bool (x == a || x == b))

  next_labels : (label : ℕ → ℕ) (present : ℕ → Bool) (items : List Item) → AreLabels label present items → (edge : ℕ × ℕ) (a b : ℕ) → a ≡ label edge.0 → b ≡ label edge.1 → component a ≡ component b → a ≢ b → present a ≡ true → present b ≡ true →
      (t : ℕ → ℕ) → ((w : ℕ) → half (t w) ≡ join a b (half w)) → AreLabels (join_least label edge) (λ l. present l && not (l == max a b)) (relabelled t items)
  next_labels label present items are edge a b ea eb joined differ has_a has_b t h =
      record {
        halves = halved_told t (join a b) h items ∙ ap (relabelled (join a b)) are.halves ∙ relabelled_both (join a b) label base_items ∙ ap₂ (λ x y. relabelled (λ l. join x y (label l)) base_items) ea eb;
        fixes = λ l m. ap₂ (λ x y. join x y (label l)) (sym ea) (sym eb) ∙ ap (join a b) (are.fixes l (front (present l) (not (l == max a b)) m)) ∙ fixed l (behind (present l) (l == max a b) m);
        covers = λ l m. ap (λ x. present x && not (x == max a b)) (ap₂ (λ x y. join x y (label l)) (sym ea) (sym eb)) ∙ covered (label l) (are.covers l m);
        within = λ l. ap component (ap₂ (λ x y. join x y (label l)) (sym ea) (sym eb)) ∙ joined_alike (label l) ∙ are.within l;
        inside = λ l m. are.inside l (front (present l) (not (l == max a b)) m);
      }
    where
      front : (s r : Bool) → (s && r) ≡ true → s ≡ true
      front s r m = grind (arith, m)

      behind : (s r : Bool) → (s && not r) ≡ true → r ≡ false
      behind s r m = grind (arith, m)

      fixed : (l : ℕ) → (l == max a b) ≡ false → join a b l ≡ l
      fixed l out =
          ⊎_elim
          (λ q. (let e : min a b ≡ l = least a b l q out in ap (λ h. cond h (min a b) l) q ∙ e))
          (λ q. ap (λ h. cond h (min a b) l) q)
          (cases_Bool (l == a || l == b))
        where
          least : (a b l : ℕ) → (l == a || l == b) ≡ true → (l == max a b) ≡ false → min a b ≡ l
          least a b l q out =
              ⊎_elim
              (λ (e : l ≡ a). (let n : l ≢ max a b = λ s. (let z = eq-eqb l (max a b) s in grind (arith, z, out)) in ⊎_elim (λ (k : max a b ≡ a). absurd (n (e ∙ sym k))) (λ k. omega (arith, e, k)) (cases_eq (max a b) a)))
              (λ d. (let e : l ≡ b = grind (arith, nat_tests, q, d) in let n : l ≢ max a b = λ s. (let z = eq-eqb l (max a b) s in grind (arith, z, out)) in ⊎_elim (λ (k : max a b ≡ b). absurd (n (e ∙ sym k))) (λ k. omega (arith, e, k)) (cases_eq (max a b) b)))
              (cases_eq l a)

      covered : (x : ℕ) → present x ≡ true → (present (join a b x) && not (join a b x == max a b)) ≡ true
      covered x m =
          ⊎_elim
          (λ q. ap (λ h. present (cond h (min a b) x) && not (cond h (min a b) x == max a b)) q ∙ both (present (min a b)) (min a b == max a b) at_least differs)
          (λ q. ap (λ h. present (cond h (min a b) x) && not (cond h (min a b) x == max a b)) q ∙ both (present x) (x == max a b) m (out x q))
          (cases_Bool (x == a || x == b))
        where
          both : (s r : Bool) → s ≡ true → r ≡ false → (s && not r) ≡ true
          both s r h k = grind (arith, h, k)

          at_least : present (min a b) ≡ true
          at_least = ⊎_elim (λ (e : min a b ≡ a). ap present e ∙ has_a) (λ d. (let e : min a b ≡ b = omega (arith, d) in ap present e ∙ has_b)) (cases_eq (min a b) a)

          differs : (min a b == max a b) ≡ false
          differs = ⊎_elim (λ q. absurd (let e = eqb-true (min a b) (max a b) q in differ (omega (arith, e)))) (λ q. q) (cases_Bool (min a b == max a b))

          out : (x : ℕ) → (x == a || x == b) ≡ false → (x == max a b) ≡ false
          out x q =
              ⊎_elim
              (λ s. absurd
              (let e = eqb-true x (max a b) s in
              ⊎_elim (λ (k : x ≡ a). (let z = eq-eqb x a k in clash_left (x == a) (x == b) z q)) (λ d. (let k : x ≡ b = omega (arith, e, d) in let z = eq-eqb x b k in clash_right (x == a) (x == b) z q)) (cases_eq x a)))
              (λ s. s)
              (cases_Bool (x == max a b))
            where
              clash_left : (s r : Bool) → s ≡ true → (s || r) ≡ false → ⊥
              clash_left s r h k = grind (arith, h, k)

              clash_right : (s r : Bool) → r ≡ true → (s || r) ≡ false → ⊥
              clash_right s r h k = grind (arith, h, k)

      joined_alike : (x : ℕ) → component (join a b x) ≡ component x
      joined_alike x =
          ⊎_elim
          (λ q. ap (λ h. component (cond h (min a b) x)) q
          ∙ ⊎_elim
          (λ (e : min a b ≡ a). ap component e ∙ of_a x q)
          (λ d. (let e : min a b ≡ b = omega (arith, d) in ap component e ∙ sym joined ∙ of_a x q))
          (cases_eq (min a b) a))
          (λ q. ap (λ h. component (cond h (min a b) x)) q)
          (cases_Bool (x == a || x == b))
        where
          of_a : (x : ℕ) → (x == a || x == b) ≡ true → component a ≡ component x
          of_a x q = ⊎_elim (λ (k : x ≡ a). ap component (sym k)) (λ d. (let k : x ≡ b = grind (arith, nat_tests, q, d) in joined ∙ ap component (sym k))) (cases_eq x a)

  -- ALL BUNDLES
  pub run : (edges : List (ℕ × ℕ)) (label : ℕ → ℕ) (present : ℕ → Bool) (todo shut done : List (ℕ × ℕ)) (items : List Item) → State present (todo ++ shut) items → AreLabels label present items → Matches label todo edges → Matches label shut done →
      AllByRecursion (λ pair. half pair.0 ≡ half pair.1) shut → AllByRecursion (λ edge. component edge.0 ≡ component edge.1) edges → AllByRecursion Class edges → AllByRecursion Class done →
      IsRun (fold join_least label edges) (V (todo ++ shut) items)
  run [] label present [] shut done items state labels m n closed joined classes shut_classes =
      record { present = present; shut = shut; edges = done; items = items; state = state; labels = labels; matches = n; closed = closed; classes = shut_classes; same = refl }
  run [] label present (pair ∷ todo) shut done items state labels m n closed joined classes shut_classes = absurd m
  run (edge ∷ edges) label present [] shut done items state labels m n closed joined classes shut_classes = absurd m
  run (edge ∷ edges) label present (pair ∷ todo) shut done items state labels m n closed joined classes shut_classes =
      let u = pair.0 in let v = pair.1 in
      let a = half u in let b = half v in
      let ea = m.0.0 in let eb = m.0.1 in
      let one : component a ≡ component b = ap component ea ∙ labels.within edge.0 ∙ joined.0 ∙ sym (labels.within edge.1) ∙ ap component (sym eb) in
      ⊎_elim
      (λ (e : a ≡ b).
      let r = run edges label present todo (pair ∷ shut) (edge ∷ done) items (later_state p colour boxed few gone lg free labels_boxed present pair todo shut items state) labels m.1 (m.0, n) (e, closed) joined.1 classes.1 (classes.0, shut_classes) in
      let P : (ℕ → ℕ) → Type 0 = λ f. AreLabels f r.present r.items in
      let Q : (ℕ → ℕ) → Type 0 = λ f. Matches f r.shut r.edges in
      let path = ap (λ f. fold join_least f edges) (same_label label edge (sym ea ∙ e ∙ eb)) in
      record {
        present = r.present;
        shut = r.shut;
        edges = r.edges;
        items = r.items;
        state = r.state;
        labels = subst P path r.labels;
        matches = subst Q path r.matches;
        closed = r.closed;
        classes = r.classes;
        same = later_value p colour boxed few gone lg free labels_boxed pair todo shut items state.nodes ∙ r.same;
      })
      (λ differ.
      let has = present_ends p colour boxed few gone lg free labels_boxed present u v (todo ++ shut) items state in
      let s = told_step present u v (todo ++ shut) items state differ one (labels.inside a has.0) (labels.inside b has.1) in
      let split = map-append (told_pair s.t) todo shut in
      let P : List (ℕ × ℕ) → Type 0 = λ pairs. State (λ l. present l && not (l == max a b)) pairs (relabelled s.t items) in
      let r = run edges (join_least label edge) (λ l. present l && not (l == max a b)) (map (told_pair s.t) todo) (map (told_pair s.t) shut) done (relabelled s.t items) (subst P split s.state)
      (next_labels label present items labels edge a b ea eb one differ has.0 has.1 s.t s.halves) (matches_told label s.t edge a b ea eb s.halves todo edges m.1) (matches_told label s.t edge a b ea eb s.halves shut done n)
      (closed_told s.t (join a b) s.halves shut closed) joined.1 classes.1 shut_classes in
      record {
        present = r.present;
        shut = r.shut;
        edges = r.edges;
        items = r.items;
        state = r.state;
        labels = r.labels;
        matches = r.matches;
        closed = r.closed;
        classes = r.classes;
        same = s.same ∙ ap (λ pairs. V pairs (relabelled s.t items)) split ∙ r.same;
      })
      (cases_eq a b)
