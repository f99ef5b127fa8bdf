-- The components of the pieces of a slide: their roots are the least labels of the old components, and old labels have their old classes.
use Rattle.std.proofs.Common.{◌≡◌, ◌≢◌, ℕ, ◌+◌, ◌*◌, ◌<◌, ◌≤◌, ◌==◌, Bool, true, false, cond, List, [], ◌∷◌, length, slice_index, unsigned_abs, refl, sym, ap, subst, ◌∙◌, arith, inl, inr, eq-eqb}
use Rattle.std.specs.List.{AllByRecursion}
use Rattle.std.specs.Set.{is_member}
use Rattle.std.proofs.lemmas.Bool.{cases_Bool, eqb-false, or_left, or_right}
use Rattle.inertia_laws.specs.Matrices.{is_positive}
use Rattle.pd_reader.specs.Diagrams.{IsDiagram}
use Rattle.planar_check.specs.Places.{labels_by_place, crossings_of, first_place}
use Rattle.planar_check.specs.Components.{distinct, rank, number_of}
use Rattle.planar_check.specs.Framings.{FramedDiagram}
use Rattle.planar_check.specs.Directions.{comes_in}
use Rattle.planar_check.proofs.ComponentLists.{distinct_sorted, distinct-member}
use Rattle.planar_check.proofs.Ranks.{at_rank}
use Rattle.slide_strands.specs.declared.strand.Strand.{Strand}
use Rattle.slide_strands.specs.declared.strand.Piece.{Piece}
use Rattle.slide_strands.specs.Strands.{strands, end_of, end_sum, is_label, entered_at}
use Rattle.slide_strands.specs.Doubling.{Slide, doubled, exchanged, curls}
use Rattle.slide_strands.specs.Components.{Ready, IsCopying, KeepsRoots}
use Rattle.slide_strands.proofs.Counted.{some_end}
use Rattle.slide_strands.proofs.Curls.{curls_ready, curls_stand}
use Rattle.slide_strands.proofs.Directions.{doubled_direction}
use Rattle.slide_strands.proofs.Frees.{free, free_curls, free_doubled, free_on_side, still_entered}
use Rattle.slide_strands.proofs.Joins.{every_weaker, every_both}
use Rattle.slide_strands.proofs.Sources.{curls_components, slid_components}
use Rattle.slide_strands.proofs.Slides.{slide_components, classed_every}
use Rattle.slide_strands.proofs.Starts.{slide_at}
use Rattle.slide_laws.specs.Directed.{directed}
use Rattle.slide_laws.specs.Slides.{excess, top_of, framed_top, framed_pieces, strand_labels, labels_of_component, slide_of, slid_pieces}
use Rattle.list_lemmas.proofs.Items.{member_at}
use Rattle.slide_laws.proofs.Roots.{root}
use Rattle.slide_laws.proofs.StartPieces.{start_class, start_ready, IsComponent, none, known}

-- ---- ranks
pub rank_in : (ls : List ℕ) (x : ℕ) → is_member ◌==◌ (distinct ls) x ≡ true → (rank (distinct ls) x < length (distinct ls)) × (slice_index (distinct ls) (rank (distinct ls) x) ≡ x)
rank_in ls x m = at_rank (distinct ls) (distinct_sorted ls) x m

pub distinct_has : (ls : List ℕ) (x : ℕ) → is_member ◌==◌ ls x ≡ true → is_member ◌==◌ (distinct ls) x ≡ true
distinct_has ls x m = distinct-member ls x ∙ m

-- ---- the labels of a component
abbrev pub Listed : ℕ → List ℕ → Strand → Type 0
Listed j names s = s.component ≡ j → (is_member ◌==◌ names s.from ≡ true) × (is_member ◌==◌ names s.to ≡ true)

listed_more : (j : ℕ) (x y : ℕ) (names : List ℕ) (s : Strand) → Listed j names s → Listed j (x ∷ y ∷ names) s
listed_more j x y names s h e =
    let k = h e in (
      or_right (s.from == x) (is_member ◌==◌ (y ∷ names) s.from) (or_right (s.from == y) (is_member ◌==◌ names s.from) k.0),
      or_right (s.to == x) (is_member ◌==◌ (y ∷ names) s.to) (or_right (s.to == y) (is_member ◌==◌ names s.to) k.1),
    )

pub all_listed : (j : ℕ) (ss : List Strand) → AllByRecursion (Listed j (strand_labels j ss)) ss
all_listed j [] = tt
all_listed j (s ∷ ss) =
    let P : List ℕ → Type 0 = λ names. AllByRecursion (Listed j names) (s ∷ ss) in
    elim (cases_Bool (s.component == j)) [
      | inl t ↦ subst P (sym (ap (λ (b : Bool). cond b (s.from ∷ s.to ∷ strand_labels j ss) (strand_labels j ss)) t)) (
        λ e. (
          or_left (s.from == s.from) (is_member ◌==◌ (s.to ∷ strand_labels j ss) s.from) (eq-eqb s.from s.from refl),
          or_right (s.to == s.from) (is_member ◌==◌ (s.to ∷ strand_labels j ss) s.to) (or_left (s.to == s.to) (is_member ◌==◌ (strand_labels j ss) s.to) (eq-eqb s.to s.to refl)),
        ),
        every_weaker (Listed j (strand_labels j ss)) (Listed j (s.from ∷ s.to ∷ strand_labels j ss)) (listed_more j s.from s.to (strand_labels j ss)) ss (all_listed j ss),
      )
      | inr t ↦ subst P (sym (ap (λ (b : Bool). cond b (s.from ∷ s.to ∷ strand_labels j ss) (strand_labels j ss)) t))
          ((λ e. absurd (eqb-false s.component j t e)), all_listed j ss)
    ]

-- which end it is
from_or_to : (G : Type 0) (s : Strand) (x : ℕ) → end_of true s ≡ x → (s.from ≡ x → G) → (s.to ≡ x → G) → G
from_or_to G s x e f t = by_test s.ahead e
  where
    by_test : (b : Bool) → cond b s.from s.to ≡ x → G
    by_test true h = f h
    by_test false h = t h

module _ (framed : FramedDiagram) (diagram : IsDiagram framed.items) (e f : ℕ)
    (at_e : is_member ◌==◌ (labels_by_place (crossings_of framed.items)) e ≡ true) (at_f : is_member ◌==◌ (labels_by_place (crossings_of framed.items)) f ≡ true)
    (apart : number_of framed.items f ≢ number_of framed.items e) where
  abbrev i : ℕ
  i = number_of framed.items e

  abbrev j : ℕ
  j = number_of framed.items f

  abbrev class : ℕ → ℕ
  class = start_class framed.items diagram j

  abbrev roots : ℕ → ℕ
  roots = root framed.items diagram

  abbrev nothing : ℕ
  nothing = none framed.items diagram

  abbrev top : ℕ
  top = framed_top framed f

  abbrev pieces : List Piece
  pieces = framed_pieces framed f

  -- AFTER THE CURLS
  pub framed_ready : Ready class roots e f i j nothing (top + 1) pieces
  unfolding framed_pieces
  framed_ready =
      let start = directed framed.items in
      let plus = is_positive (excess framed j) in
      let entered = comes_in (entered_at start) (first_place (labels_by_place (crossings_of framed.items)) f) in
      let k = unsigned_abs (excess framed j) in
      subst (λ (n : ℕ). Ready class roots e f i j nothing n (curls plus f j entered k (top_of framed.items + 1) start)) (let h : top_of framed.items + 1 + 2 * k ≡ top_of framed.items + 2 * k + 1 = omega arith in h)
      (curls_ready plus f j entered class roots e i nothing k (top_of framed.items + 1) start (start_ready framed.items diagram e f at_e at_f apart))

  pub framed_known : AllByRecursion (λ s. IsComponent framed.items diagram s.component) (strands pieces)
  unfolding framed_pieces
  framed_known =
      let start = directed framed.items in
      let q = member_at (labels_by_place (crossings_of framed.items)) f at_f in
      curls_components (IsComponent framed.items diagram) (is_positive (excess framed j)) f j (comes_in (entered_at start) (first_place (labels_by_place (crossings_of framed.items)) f)) (unsigned_abs (excess framed j)) (top_of framed.items + 1) start
      (q.0, (q.1, ap (number_of framed.items) q.2))
      (every_weaker _ (λ s. IsComponent framed.items diagram s.component) (λ s k. k.1.1.1) (strands start) (known framed.items diagram j))

  -- an old label is still entered
  framed_entered : (x : ℕ) → x < top_of framed.items + 1 → 1 ≤ end_sum true (is_label x) (strands (directed framed.items)) → 1 ≤ end_sum true (is_label x) (strands pieces)
  unfolding framed_pieces
  framed_entered x l h =
      let start = directed framed.items in
      let same = curls_stand (is_positive (excess framed j)) f j (comes_in (entered_at start) (first_place (labels_by_place (crossings_of framed.items)) f)) class roots e i nothing (unsigned_abs (excess framed j)) (top_of framed.items + 1) start
      (start_ready framed.items diagram e f at_e at_f apart) x l in
      omega (arith, h, same)

  framed_free : free pieces ≡ free (directed framed.items)
  unfolding framed_pieces
  framed_free =
      let start = directed framed.items in
      free_curls (is_positive (excess framed j)) f j (comes_in (entered_at start) (first_place (labels_by_place (crossings_of framed.items)) f)) (unsigned_abs (excess framed j)) (top_of framed.items + 1) start

  -- ---- the copies
  module _ (in_e in_f : Bool) where
    abbrev pub slide : Slide
    slide = slide_of i j top pieces in_e in_f

    abbrev names : List ℕ
    names = labels_of_component j pieces

    abbrev m : ℕ
    m = top + 1

    abbrev n : ℕ
    n = top + 1 + length names

    f_named : is_member ◌==◌ names f ≡ true
    f_named =
        distinct_has (strand_labels j (strands pieces)) f
        (some_end (is_member ◌==◌ (strand_labels j (strands pieces)) f ≡ true) f (strands pieces)
        (every_weaker (λ s. Listed j (strand_labels j (strands pieces)) s × ((class s.from ≡ s.component) × (class s.to ≡ s.component)))
        (λ s. end_of true s ≡ f → is_member ◌==◌ (strand_labels j (strands pieces)) f ≡ true)
        (λ s k g. from_or_to (is_member ◌==◌ (strand_labels j (strands pieces)) f ≡ true) s f g
        (λ h. subst (λ (y : ℕ). is_member ◌==◌ (strand_labels j (strands pieces)) y ≡ true) h (k.0 (sym k.1.0 ∙ (ap class h ∙ framed_ready.of_f))).0)
        (λ h. subst (λ (y : ℕ). is_member ◌==◌ (strand_labels j (strands pieces)) y ≡ true) h (k.0 (sym k.1.1 ∙ (ap class h ∙ framed_ready.of_f))).1))
        (strands pieces) (every_both _ _ (strands pieces) (all_listed j (strands pieces)) (classed_every class (strands pieces) framed_ready.has.classed)))
        (let o = framed_ready.f_once in omega (arith, o)))

    copied_at : (x : ℕ) → is_member ◌==◌ names x ≡ true → (m ≤ slide.copied x) × (slide.copied x < n) × (slide.copied x ≡ slide.copied f → x ≡ f)
    copied_at x t =
        let r = rank_in (strand_labels j (strands pieces)) x t in
        let s = rank_in (strand_labels j (strands pieces)) f f_named in
        let l = r.0 in
        ((omega arith), (omega (arith, l)), (λ e. let same : rank names x ≡ rank names f = omega (arith, e) in sym r.1 ∙ (ap (slice_index names) same ∙ s.1)))

    copying : IsCopying slide f m n pieces
    copying = record {
      f_copy = let c = copied_at f f_named in (c.0, c.1);
      copies = every_weaker (Listed j (strand_labels j (strands pieces)))
          (λ s. s.component ≡ j → ((m ≤ slide.copied s.from) × (slide.copied s.from < n) × (slide.copied s.from ≡ slide.copied f → s.from ≡ f))
          × ((m ≤ slide.copied s.to) × (slide.copied s.to < n) × (slide.copied s.to ≡ slide.copied f → s.to ≡ f)))
          (λ s k o. let h = k o in (copied_at s.from (distinct_has (strand_labels j (strands pieces)) s.from h.0), copied_at s.to (distinct_has (strand_labels j (strands pieces)) s.to h.1)))
          (strands pieces) (all_listed j (strands pieces));
    }

    abbrev pub result : List Piece
    result = slid_pieces i j e f top pieces in_e in_f

    -- AFTER THE SLIDE
    pub slid_keeps : KeepsRoots class roots nothing m result
    unfolding slid_pieces
    slid_keeps = slide_components slide class roots e f nothing m n in_e pieces framed_ready.has (slide_at slide class roots e f nothing m n pieces framed_ready copying)

    pub slid_known : AllByRecursion (λ s. IsComponent framed.items diagram s.component) (strands result)
    unfolding slid_pieces
    slid_known =
        let p = member_at (labels_by_place (crossings_of framed.items)) e at_e in
        slid_components (IsComponent framed.items diagram) slide in_e e (slide.copied f) n pieces (p.0, (p.1, ap (number_of framed.items) p.2)) framed_known

    pub slid_entered : (x : ℕ) → x < top_of framed.items + 1 → 1 ≤ end_sum true (is_label x) (strands (directed framed.items)) → 1 ≤ end_sum true (is_label x) (strands result)
    unfolding slid_pieces
    slid_entered x l h =
        still_entered slide in_e e (slide.copied f) n x pieces
        (doubled_direction slide n class pieces framed_ready.has.classed framed_ready.has.directed) slid_keeps.has.directed (framed_entered x l h)

    pub slid_free : free result ≡ free (directed framed.items)
    unfolding slid_pieces
    slid_free = free_on_side in_e (exchanged e (slide.copied f)) (doubled slide n pieces) ∙ (free_doubled slide n pieces ∙ framed_free)
