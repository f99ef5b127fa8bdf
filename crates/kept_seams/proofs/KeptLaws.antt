-- The laws of seams whose points keep their places: what each kind of term does to a pairing.
use Rattle.std.proofs.Common.{◌≡◌, ◌≢◌, ℕ, ◌+◌, ◌-◌, ◌<◌, ◌==◌, ◌||◌, true, if◌then◌else◌, ◌⊎◌, inl, inr, ⊎_elim, List, ◌++◌, length, slice_index, slice_set, sym, ap, subst, ◌∙◌, arith, length-append}
use Rattle.std.proofs.Math.ListN.{length-set}
use Rattle.std.proofs.lemmas.Bool.Decides.{nat_tests}
use Rattle.std.proofs.lemmas.Bool.{cases_lt}
use Rattle.std.proofs.lemmas.List.{get_or-append-add}
use Rattle.graph_parts.specs.Patterns.{closed_parts}
use Rattle.graph_parts.proofs.Ends.{is_member-get_or}
use Rattle.std.specs.Set.{is_member}
use Rattle.state_sums.specs.Networks.{IsPairing}
use Rattle.arc_gluing.specs.Pairings.{pair_edges, partners_of}
use Rattle.arc_gluing.proofs.Kept.{Keeps, Keeps-append, Keeps-zip, kept}
use Rattle.arc_gluing.proofs.OneEdge.{same_or_not}
use Rattle.arc_gluing.proofs.Places.{AreOnce, AreOnce-from_times}
use Rattle.kept_seams.specs.Changes.{joined_at, crossed_at}
use Rattle.kept_seams.specs.Kept.{IsKept, Gives, KeepsLaw, JoinsLaw, CrossesLaw}
use Rattle.kept_seams.proofs.Changed.{set_at, others, y_not_s, x_not_y, joined-points, joined-length, IsPairing-joined, crossed-points, crossed-length, IsPairing-crossed}
use Rattle.kept_seams.proofs.Walked.{unique, closed_none, closed_one, label, label_inner, label_term}
use Rattle.list_lemmas.specs.Times.{times_in}
use Rattle.list_lemmas.proofs.Times.{times_in-append, times_of_member}
use Rattle.list_lemmas.proofs.Items.{get_front}

module _ (inner ends outer old term : List ℕ) (s t a b c d : ℕ) (h : IsKept inner ends outer s t a b c d) (po : IsPairing old) (pt : IsPairing term)
    (lo : length old ≡ length inner) (lt4 : length term ≡ 4) where
  lt : length term ≡ length ends
  lt = lt4 ∙ sym h.four

  abbrev L : ℕ → ℕ
  L = label inner ends outer old term po pt lo lt h.few h.single h.left_open

  long : length outer ≡ length inner
  long = ap length h.left ∙ length-set (slice_set inner s (slice_index ends c)) t (slice_index ends d) ∙ length-set inner s (slice_index ends c)

  outer_at : (i : ℕ) → slice_index outer i ≡ (if i == t then slice_index ends d else if i == s then slice_index ends c else slice_index inner i)
  outer_at i =
      let e = ap (λ xs. slice_index xs i) h.left in
      let f = set_at (slice_set inner s (slice_index ends c)) t (slice_index ends d) i (let l = length-set inner s (slice_index ends c) in let k = h.t_in in omega (arith, l, k)) in
      let g = set_at inner s (slice_index ends c) i h.s_in in
      grind (arith, nat_tests, e, f, g)

  outer_s : slice_index outer s ≡ slice_index ends c
  outer_s = let e = outer_at s in let n = h.s_not_t in grind (arith, nat_tests, e, n)

  outer_t : slice_index outer t ≡ slice_index ends d
  outer_t = let e = outer_at t in grind (arith, nat_tests, e)

  outer_other : (i : ℕ) → i ≢ s → i ≢ t → slice_index outer i ≡ slice_index inner i
  outer_other i m n = let e = outer_at i in grind (arith, nat_tests, e, m, n)

  along_old : (i : ℕ) → i < length inner → L (slice_index inner i) ≡ L (slice_index inner (slice_index old i))
  along_old i l = label_inner inner ends outer old term po pt lo lt h.few h.single h.left_open i l

  along_term : (i j : ℕ) → i < 4 → slice_index term i ≡ j → L (slice_index ends i) ≡ L (slice_index ends j)
  along_term i j l e = label_term inner ends outer old term po pt lo lt h.few h.single h.left_open i (let f = h.four in omega (arith, l, f)) ∙ ap (λ k. L (slice_index ends k)) e

  -- the pairing, and no loop
  pairs : (q : List ℕ) → IsPairing q → length q ≡ length inner → ((i : ℕ) → i < length inner → L (slice_index outer i) ≡ L (slice_index outer (slice_index q i))) →
      partners_of (inner ++ ends) (pair_edges inner old ++ pair_edges ends term) outer ≡ q
  pairs q pq lq same =
      let w = long in
      unique inner ends outer old term po pt lo lt h.few h.single h.left_open q (lq ∙ sym w)
      (λ i l. let k = pq.within i (omega (arith, lq, w, l)) in omega (arith, k, lq, w))
      (λ i l. pq.apart i (omega (arith, lq, w, l)))
      (λ i l. same i (omega (arith, w, l)))

  To : ℕ → Type 0
  To name = (i : ℕ) × (i < length outer) × (L name ≡ L (slice_index outer i))

  -- each name of both lists
  each_name : (P : ℕ → Type 0) → ((j : ℕ) → j < length inner → P (slice_index inner j)) → P (slice_index ends a) → P (slice_index ends b) → P (slice_index ends c) → P (slice_index ends d) →
      (j : ℕ) → j < length (inner ++ ends) → P (slice_index (inner ++ ends) j)
  each_name P in_inner pa pb pc pd j l =
      ⊎_elim
      (λ m. subst P (sym (get_front inner ends j m)) (in_inner j m))
      (λ m.
      let k : ℕ = j - length inner in
      let f = h.four in let n = length-append inner ends in
      let e : length inner + (j - length inner) ≡ j = omega (arith, m) in
      let at : slice_index (inner ++ ends) j ≡ slice_index ends (j - length inner) = ap (slice_index (inner ++ ends)) (sym e) ∙ get_or-append-add inner ends (j - length inner) 0 in
      subst P (sym at)
      (⊎_elim (λ x. subst (λ i. P (slice_index ends i)) (sym x) pa)
      (λ r. ⊎_elim (λ x. subst (λ i. P (slice_index ends i)) (sym x) pb)
      (λ r. ⊎_elim (λ x. subst (λ i. P (slice_index ends i)) (sym x) pc) (λ x. subst (λ i. P (slice_index ends i)) (sym x) pd) r) r)
      (h.places.each (j - length inner) (omega (arith, m, l, f, n)))))
      (cases_lt j (length inner))

  none : ((j : ℕ) → j < length (inner ++ ends) → To (slice_index (inner ++ ends) j)) → closed_parts (inner ++ ends) (pair_edges inner old ++ pair_edges ends term) outer ≡ 0
  unfolding To
  none k = closed_none inner ends outer old term po pt lo lt h.few h.single h.left_open k

  s_out : s < length outer
  s_out = let w = long in let k = h.s_in in omega (arith, w, k)

  t_out : t < length outer
  t_out = let w = long in let k = h.t_in in omega (arith, w, k)

  end_c : To (slice_index ends c)
  unfolding To
  end_c = (s, s_out, ap L (sym outer_s))

  end_d : To (slice_index ends d)
  unfolding To
  end_d = (t, t_out, ap L (sym outer_t))

  to : (name i : ℕ) → i < length inner → L name ≡ L (slice_index outer i) → To name
  unfolding To
  to name i l e = (i, (let w = long in omega (arith, w, l)), e)

  -- A TERM THAT JOINS GLUED ENDS WITH NEW ONES, each with that which takes its place
  module _ (ac : slice_index term a ≡ c) (bd : slice_index term b ≡ d) where
    all_same : (i : ℕ) → i < length inner → L (slice_index outer i) ≡ L (slice_index inner i)
    all_same i l =
        same_or_not i s
        (λ e. ap (λ k. L (slice_index outer k)) e ∙ ap L outer_s ∙ sym (along_term a c h.places.a_in ac) ∙ ap L h.a_at ∙ sym (ap (λ k. L (slice_index inner k)) e))
        (λ m. same_or_not i t
        (λ e. ap (λ k. L (slice_index outer k)) e ∙ ap L outer_t ∙ sym (along_term b d h.places.b_in bd) ∙ ap L h.b_at ∙ sym (ap (λ k. L (slice_index inner k)) e))
        (λ n. ap L (outer_other i m n)))

    pub gives_keeps : Gives inner ends outer old term old 0
    gives_keeps = record {
      pairing = pairs old po lo (λ i l. all_same i l ∙ along_old i l ∙ sym (all_same (slice_index old i) (let w = po.within i (omega (arith, lo, l)) in omega (arith, w, lo))));
      closed = none (each_name To (λ j l. to (slice_index inner j) j l (sym (all_same j l)))
          (to (slice_index ends a) s h.s_in (ap L h.a_at ∙ sym (all_same s h.s_in)))
          (to (slice_index ends b) t h.t_in (ap L h.b_at ∙ sym (all_same t h.t_in))) end_c end_d);
    }

  x_in : slice_index old s < length inner
  x_in = let w = po.within s (let k = h.s_in in omega (arith, lo, k)) in omega (arith, w, lo)

  y_in : slice_index old t < length inner
  y_in = let w = po.within t (let k = h.t_in in omega (arith, lo, k)) in omega (arith, w, lo)

  s_old : s < length old
  s_old = let k = h.s_in in omega (arith, lo, k)

  t_old : t < length old
  t_old = let k = h.t_in in omega (arith, lo, k)

  -- paired with each other, s and t are no other point's partner
  other_partner : slice_index old s ≡ t → (i : ℕ) → i < length inner → i ≢ s → i ≢ t → (slice_index old i ≢ s) × (slice_index old i ≢ t)
  other_partner paired i l m n =
      let back = po.back i (omega (arith, lo, l)) in
      ((λ e. n (sym back ∙ ap (slice_index old) e ∙ paired)), (λ e. m (sym back ∙ ap (slice_index old) e ∙ sym (ap (slice_index old) paired) ∙ po.back s s_old)))

  back_paired : slice_index old s ≡ t → slice_index old t ≡ s
  back_paired paired = ap (slice_index old) (sym paired) ∙ po.back s s_old

  apart_lists : slice_index old s ≢ t → (slice_index old s ≢ s) × (slice_index old t ≢ t) × (slice_index old t ≢ s) × (slice_index old s ≢ slice_index old t)
  apart_lists open_ = (po.apart s s_old, po.apart t t_old, y_not_s old po s t s_old t_old h.s_not_t open_, x_not_y old po s t s_old t_old h.s_not_t open_)

  -- A TERM THAT JOINS EACH GLUED END WITH THE NEW ONE IN THE OTHER'S PLACE
  module _ (ad : slice_index term a ≡ d) (bc : slice_index term b ≡ c) where
    L_s : L (slice_index inner s) ≡ L (slice_index outer t)
    L_s = sym (ap L h.a_at) ∙ along_term a d h.places.a_in ad ∙ sym (ap L outer_t)

    L_t : L (slice_index inner t) ≡ L (slice_index outer s)
    L_t = sym (ap L h.b_at) ∙ along_term b c h.places.b_in bc ∙ sym (ap L outer_s)

    all_to : (j : ℕ) → j < length (inner ++ ends) → To (slice_index (inner ++ ends) j)
    all_to =
        each_name To
        (λ j l. same_or_not j s (λ e. to (slice_index inner j) t h.t_in (ap (λ k. L (slice_index inner k)) e ∙ L_s))
        (λ m. same_or_not j t (λ e. to (slice_index inner j) s h.s_in (ap (λ k. L (slice_index inner k)) e ∙ L_t))
        (λ n. to (slice_index inner j) j l (sym (ap L (outer_other j m n))))))
        (to (slice_index ends a) t h.t_in (ap L h.a_at ∙ L_s))
        (to (slice_index ends b) s h.s_in (ap L h.b_at ∙ L_t)) end_c end_d

    same_paired : slice_index old s ≡ t → (i : ℕ) → i < length inner → L (slice_index outer i) ≡ L (slice_index outer (slice_index old i))
    same_paired paired i l =
        same_or_not i s
        (λ e. ap (λ k. L (slice_index outer k)) e ∙ sym L_t ∙ sym (along_old s h.s_in ∙ ap (λ k. L (slice_index inner k)) paired) ∙ L_s ∙ sym (ap (λ k. L (slice_index outer k)) (ap (slice_index old) e ∙ paired)))
        (λ m. same_or_not i t
        (λ e. ap (λ k. L (slice_index outer k)) e ∙ sym L_s ∙ (along_old s h.s_in ∙ ap (λ k. L (slice_index inner k)) paired) ∙ L_t ∙ sym (ap (λ k. L (slice_index outer k)) (ap (slice_index old) e ∙ back_paired paired)))
        (λ n. let o = other_partner paired i l m n in
        ap L (outer_other i m n) ∙ along_old i l ∙ sym (ap L (outer_other (slice_index old i) o.0 o.1))))

    same_open : (open_ : slice_index old s ≢ t) → (i : ℕ) → i < length inner → L (slice_index outer i) ≡ L (slice_index outer (slice_index (crossed_at old s t) i))
    same_open open_ i l =
        let q = crossed-points old po s t s_old t_old h.s_not_t open_ i in
        let ne = apart_lists open_ in let ne0 = ne.0 in let ne1 = ne.1 in let ne2 = ne.2 in let ne3 = ne.3 in
        let st = h.s_not_t in
        let at_x : L (slice_index outer (slice_index old s)) ≡ L (slice_index inner s) = ap L (outer_other (slice_index old s) ne0 open_) ∙ sym (along_old s h.s_in) in
        let at_y : L (slice_index outer (slice_index old t)) ≡ L (slice_index inner t) = ap L (outer_other (slice_index old t) ne2 ne1) ∙ sym (along_old t h.t_in) in
        same_or_not i (slice_index old t)
        (λ e. let r : slice_index (crossed_at old s t) i ≡ s = grind (arith, nat_tests, q, e) in ap (λ k. L (slice_index outer k)) e ∙ at_y ∙ L_t ∙ sym (ap (λ k. L (slice_index outer k)) r))
        (λ n4. same_or_not i (slice_index old s)
        (λ e. let r : slice_index (crossed_at old s t) i ≡ t = grind (arith, nat_tests, q, e, n4) in ap (λ k. L (slice_index outer k)) e ∙ at_x ∙ L_s ∙ sym (ap (λ k. L (slice_index outer k)) r))
        (λ n3. same_or_not i t
        (λ e. let r : slice_index (crossed_at old s t) i ≡ slice_index old s = grind (arith, nat_tests, q, e, n4, n3) in ap (λ k. L (slice_index outer k)) e ∙ sym L_s ∙ sym at_x ∙ sym (ap (λ k. L (slice_index outer k)) r))
        (λ n2. same_or_not i s
        (λ e. let r : slice_index (crossed_at old s t) i ≡ slice_index old t = grind (arith, nat_tests, q, e, n4, n3, n2) in ap (λ k. L (slice_index outer k)) e ∙ sym L_t ∙ sym at_y ∙ sym (ap (λ k. L (slice_index outer k)) r))
        (λ n1. let r : slice_index (crossed_at old s t) i ≡ slice_index old i = grind (arith, nat_tests, q, n4, n3, n2, n1) in
        let o = others old po s t s_old t_old st open_ i (omega (arith, lo, l)) n1 n2 n3 n4 in
        ap L (outer_other i n1 n2) ∙ along_old i l ∙ sym (ap L (outer_other (slice_index old i) o.0 o.1)) ∙ sym (ap (λ k. L (slice_index outer k)) r)))))

    pub gives_crosses : Gives inner ends outer old term (crossed_at old s t) 0
    gives_crosses = record {
      pairing =
          same_or_not (slice_index old s) t
          (λ e. pairs old po lo (same_paired e) ∙ (let g : old ≡ crossed_at old s t = grind (arith, nat_tests, e) in g))
          (λ n. pairs (crossed_at old s t) (IsPairing-crossed old po s t s_old t_old h.s_not_t n) (crossed-length old po s t s_old t_old h.s_not_t n ∙ lo) (same_open n));
      closed = none all_to;
    }

  -- A TERM THAT JOINS THE GLUED ENDS WITH EACH OTHER, AND THE NEW ONES
  module _ (ab : slice_index term a ≡ b) (cd : slice_index term c ≡ d) where
    L_glued : L (slice_index inner s) ≡ L (slice_index inner t)
    L_glued = sym (ap L h.a_at) ∙ along_term a b h.places.a_in ab ∙ ap L h.b_at

    L_new : L (slice_index outer s) ≡ L (slice_index outer t)
    L_new = ap L outer_s ∙ along_term c d h.places.c_in cd ∙ sym (ap L outer_t)

    join_paired : slice_index old s ≡ t → (i : ℕ) → i < length inner → L (slice_index outer i) ≡ L (slice_index outer (slice_index old i))
    join_paired paired i l =
        same_or_not i s
        (λ e. ap (λ k. L (slice_index outer k)) e ∙ L_new ∙ sym (ap (λ k. L (slice_index outer k)) (ap (slice_index old) e ∙ paired)))
        (λ m. same_or_not i t
        (λ e. ap (λ k. L (slice_index outer k)) e ∙ sym L_new ∙ sym (ap (λ k. L (slice_index outer k)) (ap (slice_index old) e ∙ back_paired paired)))
        (λ n. let o = other_partner paired i l m n in
        ap L (outer_other i m n) ∙ along_old i l ∙ sym (ap L (outer_other (slice_index old i) o.0 o.1))))

    module _ (open_ : slice_index old s ≢ t) where
      at_x : L (slice_index outer (slice_index old s)) ≡ L (slice_index inner s)
      at_x = ap L (outer_other (slice_index old s) ((apart_lists open_).0) open_) ∙ sym (along_old s h.s_in)

      at_y : L (slice_index outer (slice_index old t)) ≡ L (slice_index inner t)
      at_y = ap L (outer_other (slice_index old t) ((apart_lists open_).2) ((apart_lists open_).1)) ∙ sym (along_old t h.t_in)

      join_open : (i : ℕ) → i < length inner → L (slice_index outer i) ≡ L (slice_index outer (slice_index (joined_at old s t) i))
      join_open i l =
          let q = joined-points old po s t s_old t_old h.s_not_t open_ i in
          same_or_not i (slice_index old t)
          (λ e. let r : slice_index (joined_at old s t) i ≡ slice_index old s = grind (arith, nat_tests, q, e) in ap (λ k. L (slice_index outer k)) e ∙ at_y ∙ sym L_glued ∙ sym at_x ∙ sym (ap (λ k. L (slice_index outer k)) r))
          (λ n4. same_or_not i (slice_index old s)
          (λ e. let r : slice_index (joined_at old s t) i ≡ slice_index old t = grind (arith, nat_tests, q, e, n4) in ap (λ k. L (slice_index outer k)) e ∙ at_x ∙ L_glued ∙ sym at_y ∙ sym (ap (λ k. L (slice_index outer k)) r))
          (λ n3. same_or_not i t
          (λ e. let r : slice_index (joined_at old s t) i ≡ s = grind (arith, nat_tests, q, e, n4, n3) in ap (λ k. L (slice_index outer k)) e ∙ sym L_new ∙ sym (ap (λ k. L (slice_index outer k)) r))
          (λ n2. same_or_not i s
          (λ e. let r : slice_index (joined_at old s t) i ≡ t = grind (arith, nat_tests, q, e, n4, n3, n2) in ap (λ k. L (slice_index outer k)) e ∙ L_new ∙ sym (ap (λ k. L (slice_index outer k)) r))
          (λ n1. let r : slice_index (joined_at old s t) i ≡ slice_index old i = grind (arith, nat_tests, q, n4, n3, n2, n1) in
          let o = others old po s t s_old t_old h.s_not_t open_ i (omega (arith, lo, l)) n1 n2 n3 n4 in
          ap L (outer_other i n1 n2) ∙ along_old i l ∙ sym (ap L (outer_other (slice_index old i) o.0 o.1)) ∙ sym (ap (λ k. L (slice_index outer k)) r)))))

      join_to : (j : ℕ) → j < length (inner ++ ends) → To (slice_index (inner ++ ends) j)
      join_to =
          each_name To
          (λ j l. same_or_not j s (λ e. to (slice_index inner j) (slice_index old s) x_in (ap (λ k. L (slice_index inner k)) e ∙ sym at_x))
          (λ m. same_or_not j t (λ e. to (slice_index inner j) (slice_index old t) y_in (ap (λ k. L (slice_index inner k)) e ∙ sym at_y))
          (λ n. to (slice_index inner j) j l (sym (ap L (outer_other j m n))))))
          (to (slice_index ends a) (slice_index old s) x_in (ap L h.a_at ∙ sym at_x))
          (to (slice_index ends b) (slice_index old t) y_in (ap L h.b_at ∙ sym at_y)) end_c end_d

    -- where s and t are paired, theirs is the one part with no name that is left
    module _ (paired : slice_index old s ≡ t) where
      mark : ℕ → ℕ
      mark name = if (name == slice_index inner s) || (name == slice_index inner t) then 1 else 0

      once : AreOnce inner
      once = AreOnce-from_times inner h.single

      mark_inner : (i : ℕ) → i < length inner → mark (slice_index inner i) ≡ (if (i == s) || (i == t) then 1 else 0)
      unfolding mark
      mark_inner i l =
          let f = once i s l h.s_in in let g = once i t l h.t_in in
          let j : i ≡ s → slice_index inner i ≡ slice_index inner s = λ e. ap (slice_index inner) e in
          let k : i ≡ t → slice_index inner i ≡ slice_index inner t = λ e. ap (slice_index inner) e in
          grind (arith, nat_tests, f, g, j, k)

      twice : (k i : ℕ) → k < 4 → i < length inner → slice_index ends k ≡ slice_index inner i → times_in (inner ++ ends) (slice_index inner i) ≡ 2
      twice k i l m e =
          let x = slice_index inner i in
          let u = times_of_member x inner (is_member-get_or inner i m) in
          let four = h.four in
          let v = times_of_member x ends (subst (λ n. is_member ◌==◌ ends n ≡ true) e (is_member-get_or ends k (omega (arith, l, four)))) in
          let w = times_in-append inner ends x in let f = h.few x in
          omega (arith, u, v, w, f)

      outer_once : (i : ℕ) → i < length outer → times_in (inner ++ ends) (slice_index outer i) ≡ 1
      outer_once i l =
          let x = slice_index outer i in
          let u = times_of_member x outer (is_member-get_or outer i l) in let c = h.left_open.once x in
          grind (arith, nat_tests, u, c)

      mark_outer : (i : ℕ) → i < length outer → mark (slice_index outer i) ≡ 0
      unfolding mark
      mark_outer i l =
          let one = outer_once i l in
          let f : slice_index outer i ≢ slice_index inner s = λ e. let z = ap (times_in (inner ++ ends)) e in let w = twice a s h.places.a_in h.s_in h.a_at in absurd (omega (arith, one, z, w)) in
          let g : slice_index outer i ≢ slice_index inner t = λ e. let z = ap (times_in (inner ++ ends)) e in let w = twice b t h.places.b_in h.t_in h.b_at in absurd (omega (arith, one, z, w)) in
          grind (arith, nat_tests, f, g)

      mark_s : mark (slice_index inner s) ≡ 1
      mark_s = let k = mark_inner s h.s_in in grind (arith, nat_tests, k)

      mark_t : mark (slice_index inner t) ≡ 1
      mark_t = let k = mark_inner t h.t_in in grind (arith, nat_tests, k)

      mark_along_old : (i : ℕ) → i < length inner → mark (slice_index inner i) ≡ mark (slice_index inner (slice_index old i))
      mark_along_old i l =
          let u = mark_inner i l in
          let v = mark_inner (slice_index old i) (let w = po.within i (omega (arith, lo, l)) in omega (arith, w, lo)) in
          same_or_not i s
          (λ e. let r = ap (slice_index old) e ∙ paired in grind (arith, nat_tests, u, v, e, r))
          (λ m. same_or_not i t
          (λ e. let r = ap (slice_index old) e ∙ back_paired paired in grind (arith, nat_tests, u, v, e, r))
          (λ n. let o = other_partner paired i l m n in let o0 = o.0 in let o1 = o.1 in grind (arith, nat_tests, u, v, m, n, o0, o1)))

      mark_a : mark (slice_index ends a) ≡ 1
      mark_a = ap mark h.a_at ∙ mark_s

      mark_b : mark (slice_index ends b) ≡ 1
      mark_b = ap mark h.b_at ∙ mark_t

      mark_c : mark (slice_index ends c) ≡ 0
      mark_c = ap mark (sym outer_s) ∙ mark_outer s s_out

      mark_d : mark (slice_index ends d) ≡ 0
      mark_d = ap mark (sym outer_t) ∙ mark_outer t t_out

      ba : slice_index term b ≡ a
      ba = ap (slice_index term) (sym ab) ∙ pt.back a (let l = h.places.a_in in omega (arith, lt4, l))

      dc : slice_index term d ≡ c
      dc = ap (slice_index term) (sym cd) ∙ pt.back c (let l = h.places.c_in in omega (arith, lt4, l))

      mark_along_term : (i : ℕ) → i < 4 → mark (slice_index ends i) ≡ mark (slice_index ends (slice_index term i))
      mark_along_term i l =
          let P : ℕ → Type 0 = λ i. mark (slice_index ends i) ≡ mark (slice_index ends (slice_index term i)) in
          ⊎_elim (λ e. subst P (sym e) (mark_a ∙ sym (ap (λ k. mark (slice_index ends k)) ab ∙ mark_b)))
          (λ r. ⊎_elim (λ e. subst P (sym e) (mark_b ∙ sym (ap (λ k. mark (slice_index ends k)) ba ∙ mark_a)))
          (λ r. ⊎_elim (λ e. subst P (sym e) (mark_c ∙ sym (ap (λ k. mark (slice_index ends k)) cd ∙ mark_d)))
          (λ e. subst P (sym e) (mark_d ∙ sym (ap (λ k. mark (slice_index ends k)) dc ∙ mark_c))) r) r)
          (h.places.each i l)

      mark_keeps : Keeps mark (pair_edges inner old ++ pair_edges ends term)
      mark_keeps =
          Keeps-append mark (pair_edges inner old) (pair_edges ends term)
          (Keeps-zip mark (slice_index inner) inner old (λ i p q. mark_along_old i p))
          (Keeps-zip mark (slice_index ends) ends term (λ i p q. mark_along_term i (omega (arith, lt4, q))))

      at_s : slice_index (inner ++ ends) s ≡ slice_index inner s
      at_s = get_front inner ends s h.s_in

      alone : (i : ℕ) → i < length outer → L (slice_index outer i) ≢ L (slice_index (inner ++ ends) s)
      alone i l e =
          let k = kept mark (pair_edges inner old ++ pair_edges ends term) mark_keeps (slice_index outer i) (slice_index inner s) (e ∙ ap L at_s) in
          let z = mark_outer i l in let o = mark_s in absurd (omega (arith, k, z, o))

      Or : ℕ → Type 0
      Or name = (L name ≡ L (slice_index (inner ++ ends) s)) ⊎ To name

      or_to : (name : ℕ) → To name → Or name
      unfolding Or
      or_to name k = inr k

      or_s : (name : ℕ) → L name ≡ L (slice_index inner s) → Or name
      unfolding Or
      or_s name e = inl (e ∙ sym (ap L at_s))

      all_or : (j : ℕ) → j < length (inner ++ ends) → Or (slice_index (inner ++ ends) j)
      all_or =
          each_name Or
          (λ j l. same_or_not j s (λ e. or_s (slice_index inner j) (ap (λ k. L (slice_index inner k)) e))
          (λ m. same_or_not j t (λ e. or_s (slice_index inner j) (ap (λ k. L (slice_index inner k)) e ∙ sym L_glued))
          (λ n. or_to (slice_index inner j) (to (slice_index inner j) j l (sym (ap L (outer_other j m n)))))))
          (or_s (slice_index ends a) (ap L h.a_at))
          (or_s (slice_index ends b) (ap L h.b_at ∙ sym L_glued))
          (or_to (slice_index ends c) end_c) (or_to (slice_index ends d) end_d)

      one_closed : closed_parts (inner ++ ends) (pair_edges inner old ++ pair_edges ends term) outer ≡ 1
      unfolding Or To
      one_closed =
          closed_one inner ends outer old term po pt lo lt h.few h.single h.left_open s (let n = length-append inner ends in let k = h.s_in in omega (arith, n, k)) alone all_or

    pub gives_joins : Gives inner ends outer old term (joined_at old s t) (if slice_index old s == t then 1 else 0)
    gives_joins = record {
      pairing =
          same_or_not (slice_index old s) t
          (λ e. pairs old po lo (join_paired e) ∙ (let g : old ≡ joined_at old s t = grind (arith, nat_tests, e) in g))
          (λ n. pairs (joined_at old s t) (IsPairing-joined old po s t s_old t_old h.s_not_t n) (joined-length old po s t s_old t_old h.s_not_t n ∙ lo) (join_open n));
      closed =
          same_or_not (slice_index old s) t
          (λ e. one_closed e ∙ (let g : 1 ≡ (if slice_index old s == t then 1 else 0) = grind (arith, nat_tests, e) in g))
          (λ n. none (join_to n) ∙ (let g : 0 ≡ (if slice_index old s == t then 1 else 0) = grind (arith, nat_tests, n) in g));
    }

-- THE LAWS
pub keeps : KeepsLaw
keeps inner ends outer old term s t a b c d h po pt lo lt ac bd = gives_keeps inner ends outer old term s t a b c d h po pt lo lt ac bd

pub joins : JoinsLaw
joins inner ends outer old term s t a b c d h po pt lo lt ab cd = gives_joins inner ends outer old term s t a b c d h po pt lo lt ab cd

pub crosses : CrossesLaw
crosses inner ends outer old term s t a b c d h po pt lo lt ad bc = gives_crosses inner ends outer old term s t a b c d h po pt lo lt ad bc
