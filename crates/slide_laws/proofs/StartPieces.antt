-- What is known of a diagram's pieces before a slide: they are directed, their classes are the numbers of the components, their roots the
-- least labels, and each label is entered once.
use Rattle.std.proofs.Common.{◌≡◌, ◌≢◌, ℕ, ◌+◌, ◌*◌, ◌<◌, ◌≤◌, ◌==◌, ◌&&◌, Bool, true, false, not, cond, List, [], ◌∷◌, length, get_or, slice_index, count_by, refl, sym, ap, subst, ◌∙◌, arith, inl, inr, ⊎_elim, eq-eqb, ne_eqb}
use Rattle.std.specs.Prelude.{nat_lt, nat_le}
use Rattle.std.specs.List.{AllByRecursion}
use Rattle.std.specs.Set.{is_member}
use Rattle.std.proofs.lemmas.Bool.{cases_Bool, eqb-true, lt-ltb, le-ltb}
use Rattle.graph_parts.specs.Walks.{Joined}
use Rattle.graph_parts.proofs.Ends.{is_member-get_or}
use Rattle.pd_reader.specs.declared.item.Item.{Item}
use Rattle.pd_reader.specs.Items.{item_labels}
use Rattle.pd_reader.specs.Diagrams.{labels, IsDiagram}
use Rattle.planar_check.specs.Places.{labels_by_place, other_place, crossings_of}
use Rattle.planar_check.specs.Components.{least_labels, number_of, strand_edges}
use Rattle.planar_check.specs.Signs.{enters}
use Rattle.slide_strands.specs.declared.strand.Strand.{Strand}
use Rattle.slide_strands.specs.declared.strand.Piece.{Piece}
use Rattle.slide_strands.specs.declared.strand.Piece.TheVariants.{Crossed, Free}
use Rattle.slide_strands.specs.Strands.{alike, ends, strands, end_sum, is_label, IsDirected, piece_edges}
use Rattle.slide_strands.specs.Components.{Ready}
use Rattle.slide_strands.proofs.Counted.{from_counts}
use Rattle.slide_strands.proofs.Joins.{every_weaker}
use Rattle.planar_check.proofs.Reversal.{ArePlaced}
use Rattle.slide_strands.proofs.Slides.{every_classed}
use Rattle.planar_check.specs.Directions.{opposite}
use Rattle.slide_laws.specs.Directed.{under_strand, over_strand, directed, items_of}
use Rattle.slide_laws.specs.Slides.{top_of}
use Rattle.slide_laws.proofs.DirectedItems.{items_back, is_end, count_ends, count_none, count_one, across, ends_at, every_directed}
use Rattle.planar_check.proofs.Directions.{joined_least, least_opposite, label_there}
use Rattle.list_lemmas.proofs.Items.{member_at}
use Rattle.planar_check.proofs.OppositePlaces.{placed, same_label, other_label, places_twice}
use Rattle.slide_laws.proofs.Roots.{root, root_of}
use Rattle.planar_check.proofs.FewComponents.{number_last}
use Rattle.planar_check.proofs.Strands.{member_at_most}

-- ---- edges
pub edges_same : (ps : List Piece) → strand_edges (items_of ps) ≡ piece_edges ps
edges_same [] = refl
edges_same (Crossed u o ∷ ps) = ap (λ (es : List (ℕ × ℕ)). (u.from, u.to) ∷ (o.to, o.from) ∷ es) (edges_same ps)
edges_same (Free label ∷ ps) = edges_same ps

pub ends_count : (ps : List Piece) → length (ends ps) ≡ length (labels_by_place (crossings_of (items_of ps)))
ends_count [] = refl
ends_count (Crossed u o ∷ ps) = omega (arith, ends_count ps)
ends_count (Free label ∷ ps) = ends_count ps

module _ (xs : List Item) (diagram : IsDiagram xs) where
  abbrev ls : List ℕ
  ls = labels_by_place (crossings_of xs)

  abbrev pieces : List Piece
  pieces = directed xs

  ends_long : length (ends pieces) ≡ length ls
  ends_long =
      ends_count pieces ∙ ap (λ (its : List Item). length (labels_by_place (crossings_of its))) (items_back xs diagram.sizes)

  -- ---- each label is entered once and left once
  test_at : (into : Bool) (x p : ℕ) → p < length ls → is_end into x (get_or (ends pieces) p (0, false)) ≡ ((slice_index ls p == x) && alike into (enters xs p))
  test_at into x p l = ap (is_end into x) (ends_at xs diagram p l)

  both_true : (a b : Bool) → (a && b) ≡ true → (a ≡ true) × (b ≡ true)
  both_true true b h = (refl, h)
  both_true false b h = absurd cc

  alike_turned : (a b : Bool) → alike a (not b) ≡ not (alike a b)
  alike_turned true b = refl
  alike_turned false true = refl
  alike_turned false false = refl

  once_at : (into : Bool) (x p : ℕ) → p < length ls → slice_index ls p ≡ x → alike into (enters xs p) ≡ true → count_by (is_end into x) (ends pieces) ≡ 1
  once_at into x p l e t =
      count_one (is_end into x) (0, false) (ends pieces) p (omega (arith, l, ends_long))
      (test_at into x p l ∙ rw (eq-eqb (slice_index ls p) x e, t) refl)
      (λ q k s.
      let within : q < length ls = omega (arith, k, ends_long) in
      let two = both_true (slice_index ls q == x) (alike into (enters xs q)) (sym (test_at into x q within) ∙ s) in
      ⊎_elim (λ r. r)
      (λ r. absurd (let clash : true ≡ false = sym two.1 ∙ (ap (λ (m : ℕ). alike into (enters xs m)) r ∙ (ap (alike into) (across xs diagram p l) ∙ (alike_turned into (enters xs p) ∙ ap not t))) in cc))
      (same_label xs diagram p q l within (eqb-true (slice_index ls q) x two.0 ∙ sym e)))

  pub entered_once : (into : Bool) (p : ℕ) → p < length ls → end_sum into (is_label (slice_index ls p)) (strands pieces) ≡ 1
  entered_once into p l =
      let x = slice_index ls p in
      sym (count_ends into x pieces)
      ∙ (elim (cases_Bool (alike into (enters xs p))) [
        | inl t ↦ once_at into x p l refl t
        | inr t ↦ once_at into x (other_place ls p) (ArePlaced.other_within (placed xs diagram) p l) (other_label ls p l (places_twice xs diagram p l))
            (ap (alike into) (across xs diagram p l) ∙ (alike_turned into (enters xs p) ∙ ap not t))
      ])

  never_entered : (into : Bool) (x : ℕ) → is_member ◌==◌ ls x ≡ false → end_sum into (is_label x) (strands pieces) ≡ 0
  never_entered into x none =
      sym (count_ends into x pieces)
      ∙ count_none (is_end into x) (0, false) (ends pieces) (λ q k.
      let within : q < length ls = omega (arith, k, ends_long) in
      let apart : (slice_index ls q == x) ≡ false = ne_eqb (slice_index ls q) x (λ e. let clash : true ≡ false = sym (is_member-get_or ls q within) ∙ (ap (is_member ◌==◌ ls) e ∙ none) in absurd cc) in
      test_at into x q within ∙ rw apart refl)

  pub directed_pieces : IsDirected (strands pieces)
  directed_pieces = from_counts (strands pieces) (λ x. elim (cases_Bool (is_member ◌==◌ ls x)) [
    | inl m ↦ (let p = member_at ls x m in
        subst (λ (y : ℕ). end_sum true (is_label y) (strands pieces) ≡ end_sum false (is_label y) (strands pieces)) p.2 (entered_once true p.0 p.1 ∙ sym (entered_once false p.0 p.1)))
    | inr m ↦ never_entered true x m ∙ sym (never_entered false x m)
  ])

  -- ---- classes
  -- the component of a label; labels above the diagram's are to be of component j
  abbrev pub start_class : ℕ → ℕ → ℕ
  start_class j x = cond (nat_lt (top_of xs) x) j (cond (is_member ◌==◌ ls x) (number_of xs x) 0)

  pub start_below : (j x : ℕ) → x ≤ top_of xs → start_class j x ≡ cond (is_member ◌==◌ ls x) (number_of xs x) 0
  start_below j x l = ap (λ (b : Bool). cond b j (cond (is_member ◌==◌ ls x) (number_of xs x) 0)) (le-ltb (top_of xs) x l)

  label_small : (p : ℕ) → p < length ls → slice_index ls p ≤ top_of xs
  label_small p l = member_at_most (labels item_labels xs) (slice_index ls p) (label_there xs diagram p l)

  pub start_label : (j p : ℕ) → p < length ls → start_class j (slice_index ls p) ≡ number_of xs (slice_index ls p)
  start_label j p l =
      start_below j (slice_index ls p) (label_small p l)
      ∙ ap (λ (b : Bool). cond b (number_of xs (slice_index ls p)) 0) (is_member-get_or ls p l)

  number_opposite : (p : ℕ) → p < length ls → number_of xs (slice_index ls (opposite p)) ≡ number_of xs (slice_index ls p)
  number_opposite p l = ap (λ (y : ℕ). count_by (λ least. nat_le least y) (least_labels xs)) (least_opposite xs diagram p l)

  -- ---- roots
  edges_are : strand_edges xs ≡ piece_edges pieces
  edges_are = ap strand_edges (sym (items_back xs diagram.sizes)) ∙ edges_same pieces

  pub label_rooted : (p : ℕ) → p < length ls → Joined (piece_edges pieces) (slice_index ls p) (root xs diagram (number_of xs (slice_index ls p)))
  label_rooted p l =
      let x = slice_index ls p in
      subst (λ (es : List (ℕ × ℕ)). Joined es x (root xs diagram (number_of xs x))) edges_are
      (subst (λ (y : ℕ). Joined (strand_edges xs) x y) (sym (root_of xs diagram p l)) (joined_least xs diagram p l))

  -- ---- all facts on a strand
  abbrev pub none : ℕ
  none = length (least_labels xs) + 1

  -- a component that has labels
  abbrev pub IsComponent : ℕ → Type 0
  IsComponent c = (p : ℕ) × ((p < length ls) × (number_of xs (slice_index ls p) ≡ c))

  abbrev pub Known : ℕ → Strand → Type 0
  Known j s =
      ((start_class j s.from ≡ s.component) × (start_class j s.to ≡ s.component))
      × (((s.from < top_of xs + 1) × (s.to < top_of xs + 1) × (s.component ≢ none))
      × (Joined (piece_edges pieces) s.from (root xs diagram s.component) × IsComponent s.component))

  not_none : (x : ℕ) → number_of xs x ≢ none
  not_none x e = absurd (omega (arith, e, number_last xs x))

  -- a strand from the place p to the opposite one
  known_at : (j : ℕ) (s : Strand) (p q : ℕ) → p < length ls → q < length ls → s.from ≡ slice_index ls p → s.to ≡ slice_index ls q → (r : ℕ) → r < length ls →
      s.component ≡ number_of xs (slice_index ls r) → number_of xs (slice_index ls p) ≡ number_of xs (slice_index ls r) → number_of xs (slice_index ls q) ≡ number_of xs (slice_index ls r) → Known j s
  known_at j s p q l k f t r w c a b =
      let small = label_small p l in
      let small' = label_small q k in (
        (ap (start_class j) f ∙ (start_label j p l ∙ (a ∙ sym c)), ap (start_class j) t ∙ (start_label j q k ∙ (b ∙ sym c))),
        (
          ((omega (arith, f, small)), (omega (arith, t, small')), (λ e. not_none (slice_index ls r) (sym c ∙ e))),
          (
            subst (λ (y : ℕ). Joined (piece_edges pieces) y (root xs diagram s.component)) (sym f)
                (subst (λ (d : ℕ). Joined (piece_edges pieces) (slice_index ls p) (root xs diagram d)) (a ∙ sym c) (label_rooted p l)),
            (r, (w, sym c)),
          ),
        ),
      )

  pub known : (j : ℕ) → AllByRecursion (Known j) (strands pieces)
  known j = every_directed xs diagram (Known j) (λ k at l e.
      let a : slice_index at 0 ≡ slice_index ls (4 * k) = e 0 (omega arith) ∙ ap (slice_index ls) (let q : 4 * k + 0 ≡ 4 * k = omega arith in q) in
      let b = e 1 (omega arith) in
      let c = e 2 (omega arith) in
      let d = e 3 (omega arith) in
      let l0 : 4 * k < length ls = omega (arith, l) in
      let l1 : 4 * k + 1 < length ls = omega (arith, l) in
      let l2 : 4 * k + 2 < length ls = omega (arith, l) in
      let l3 : 4 * k + 3 < length ls = omega (arith, l) in
      let across_under : number_of xs (slice_index ls (4 * k + 2)) ≡ number_of xs (slice_index ls (4 * k)) =
      ap (λ (p : ℕ). number_of xs (slice_index ls p)) (let q : 4 * k + 2 ≡ opposite (4 * k) = omega arith in q) ∙ number_opposite (4 * k) l0 in
      let across_over : number_of xs (slice_index ls (4 * k + 3)) ≡ number_of xs (slice_index ls (4 * k + 1)) =
      ap (λ (p : ℕ). number_of xs (slice_index ls p)) (let q : 4 * k + 3 ≡ opposite (4 * k + 1) = omega arith in q) ∙ number_opposite (4 * k + 1) l1 in (
        known_at j (under_strand xs k at) (4 * k) (4 * k + 2) l0 l2 a c (4 * k) l0 (ap (number_of xs) a) refl across_under,
        known_at j (over_strand xs k at) (4 * k + 3) (4 * k + 1) l3 l1 d b (4 * k + 1) l1 (ap (number_of xs) b) across_over refl,
      ))

  -- WHAT IS KNOWN BEFORE THE CURLS
  pub start_ready : (e f : ℕ) → is_member ◌==◌ ls e ≡ true → is_member ◌==◌ ls f ≡ true → number_of xs f ≢ number_of xs e →
      Ready (start_class (number_of xs f)) (root xs diagram) e f (number_of xs e) (number_of xs f) none (top_of xs + 1) pieces
  start_ready e f me mf apart =
      let j = number_of xs f in
      let p = member_at ls e me in
      let q = member_at ls f mf in
      record {
        has = record {
          directed = directed_pieces;
          classed = every_classed (start_class j) (strands pieces) (every_weaker (Known j) (λ s. (start_class j s.from ≡ s.component) × (start_class j s.to ≡ s.component)) (λ s k. k.0) (strands pieces) (known j));
          rooted = every_weaker (Known j) (λ s. Joined (piece_edges pieces) s.from (root xs diagram s.component)) (λ s k. k.1.1.0) (strands pieces) (known j);
        };
        below = every_weaker (Known j) (λ s. (s.from < top_of xs + 1) × (s.to < top_of xs + 1) × (s.component ≢ none)) (λ s k. k.1.0) (strands pieces) (known j);
        e_once = ap (λ (x : ℕ). end_sum true (is_label x) (strands pieces)) (sym p.2) ∙ entered_once true p.0 p.1;
        f_once = ap (λ (x : ℕ). end_sum true (is_label x) (strands pieces)) (sym q.2) ∙ entered_once true q.0 q.1;
        e_root = subst (λ (x : ℕ). Joined (piece_edges pieces) x (root xs diagram (number_of xs x))) p.2 (label_rooted p.0 p.1);
        f_root = subst (λ (x : ℕ). Joined (piece_edges pieces) x (root xs diagram (number_of xs x))) q.2 (label_rooted q.0 q.1);
        of_e = ap (start_class j) (sym p.2) ∙ (start_label j p.0 p.1 ∙ ap (number_of xs) p.2);
        of_f = ap (start_class j) (sym q.2) ∙ (start_label j q.0 q.1 ∙ ap (number_of xs) q.2);
        later = λ x l. ap (λ (b : Bool). cond b j (cond (is_member ◌==◌ ls x) (number_of xs x) 0)) (lt-ltb (top_of xs) x (omega (arith, l)));
        e_below = let s = label_small p.0 p.1 in let is = p.2 in omega (arith, s, is);
        f_below = let s = label_small q.0 q.1 in let is = q.2 in omega (arith, s, is);
        not_none = (not_none e, not_none f);
        apart = apart;
      }
