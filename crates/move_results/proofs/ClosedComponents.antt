-- R2Undo and CurlUndo keep the components' least labels: each class of labels goes by its least one.
use Rattle.std.proofs.Common.{◌≡◌, ℕ, zero, suc, ◌+◌, ◌*◌, ◌%◌, ◌<◌, ◌≤◌, true, false, cond, not, ◌||◌, ◌==◌, List, [], ◌∷◌, ◌++◌, map, slice_index, Some, Contains, refl, sym, ap, ◌∙◌, arith, ⊎_elim, ◌⊎◌, inl, inr, append-nil, subst}
use Rattle.std.specs.List.{AllByRecursion}
use Rattle.std.specs.Set.{is_member}
use Rattle.std.proofs.lemmas.Bool.{cases_eq, cases_Bool, eqb-true, eq-eqb, or_left, or_right, or_cases, and_parts}
use Rattle.std.proofs.lemmas.Bool.Decides.{nat_tests}
use Rattle.std.proofs.lemmas.List.{get_or-map}
use Rattle.std.proofs.lemmas.List.Elements.{Contains-append_left, Contains-append_right, Contains-append_cases}
use Rattle.graph_parts.specs.LeastNames.{least_label}
use Rattle.graph_parts.specs.Renaming.{renamed}
use Rattle.graph_parts.specs.Walks.{Joined, along, back, stay, on}
use Rattle.graph_parts.proofs.LeastLabels.{AreLeast-labels}
use Rattle.graph_parts.proofs.Through.{inside-from_Joined}
use Rattle.pd_reader.specs.declared.item.Item.{Item}
use Rattle.pd_reader.specs.declared.item.Item.TheVariants as item
use Rattle.pd_reader.specs.Items.{item_labels, HasItsSlots}
use Rattle.pd_reader.specs.Diagrams.{labels}
use Rattle.planar_check.specs.Components.{strand_edges, item_strands, least_labels}
use Rattle.state_sums.specs.Networks.{names_of}
use Rattle.graph_parts.proofs.Counting.{is_member-map}
use Rattle.diagram_moves.specs.Laws.{IsPairedDiagram}
use Rattle.diagram_moves.specs.Moves.{closing, removed, is_bigon, bigon_classes, is_curl, curl_classes}
use Rattle.diagram_moves.specs.Rewriting.{slot, crossing_from, crossing_at, crossing_labels, rewritten}
use Rattle.diagram_moves.proofs.KeptStrands.{kept_strands}
use Rattle.move_results.proofs.CutComponents.{strand_edges-append, contains_map, contains_unmap, each_walk}
use Rattle.move_results.proofs.LeastLabelLists.{Contracts, least_labels_by, least_in_big, least_in_small, joined_through}
use Rattle.diagram_moves.proofs.Nodes.{kept, none_some}
use Rattle.diagram_moves.proofs.Paired.{paired, times_labels, loop_labels, twice_in_all}
use Rattle.list_lemmas.proofs.Times.{member_of_times, times_none, times_of_member}
use Rattle.move_results.proofs.PairedAgain.{after_labels, closed_times, label_inside, in_ends, in_names, ends_are, closed}
use Rattle.diagram_moves.proofs.NoNumbers.{nothing, modulo_one}
use Rattle.diagram_moves.proofs.Pulling.{recounted, curl_recounted}
use Rattle.diagram_moves.proofs.Undone.{least_contraction, sizes-closing}
use Rattle.list_lemmas.specs.Times.{times_in}
use Rattle.graph_parts.specs.Ends.{ends_of}
use Rattle.piece_laws.proofs.NameCounts.{member_mapped}

-- ---- strands of the crossings that stay
pub kept_all : (k : ℕ) (items : List Item) → kept_strands [] k items ≡ strand_edges items
kept_all k [] = refl
kept_all k (item.X slots ∷ rest) = ap (λ es. item_strands (item.X slots) ++ es) (kept_all (k + 1) rest)
kept_all k (item.Loop l ∷ rest) = kept_all k rest

kept_strands-later : (c : ℕ) (gone : List ℕ) (k : ℕ) (items : List Item) → c < k → kept_strands (c ∷ gone) k items ≡ kept_strands gone k items
kept_strands-later c gone k [] l = refl
kept_strands-later c gone k (item.X slots ∷ rest) l =
    let ih = kept_strands-later c gone (k + 1) rest (omega (arith, l)) in
    let S = item_strands (item.X slots) in
    let other : is_member ◌==◌ (c ∷ gone) k ≡ is_member ◌==◌ gone k = grind (arith, nat_tests, l) in
    ap (λ z. cond z (kept_strands (c ∷ gone) (k + 1) rest) (S ++ kept_strands (c ∷ gone) (k + 1) rest)) other ∙ ap (λ es. cond (is_member ◌==◌ gone k) es (S ++ es)) ih
kept_strands-later c gone k (item.Loop label ∷ rest) l = kept_strands-later c gone k rest l

later : (c : ℕ) (gone : List ℕ) (k : ℕ) (items : List Item) (e : ℕ × ℕ) → c < k → Contains (kept_strands gone k items) e → Contains (kept_strands (c ∷ gone) k items) e
later c gone k items e l h = let P : List (ℕ × ℕ) → Type 0 = λ es. Contains es e in subst P (sym (kept_strands-later c gone k items l)) h

-- a strand of a diagram is one of a crossing that goes, or one that stays
pub strand_picked : (gone : List ℕ) (k : ℕ) (items : List Item) (c : ℕ) (slots : List ℕ) → crossing_from k items c ≡ Some slots → (e : ℕ × ℕ) →
    Contains (kept_strands gone k items) e → Contains (item_strands (item.X slots)) e ⊎ Contains (kept_strands (c ∷ gone) k items) e
strand_picked gone k [] c slots found e h = absurd (none_some slots found)
strand_picked gone k (item.X here ∷ rest) c slots found e h =
    let S = item_strands (item.X here) in
    let K1 = kept_strands gone (k + 1) rest in
    let K2 = kept_strands (c ∷ gone) (k + 1) rest in
    let P : List (ℕ × ℕ) → Type 0 = λ es. Contains es e in
    ⊎_elim
    (λ t.
    let q : Some here ≡ Some slots = sym (ap (λ z. cond z (Some here) (crossing_from (k + 1) rest c)) t) ∙ found in
    let is : here ≡ slots = cc in
    let gone_now : is_member ◌==◌ (c ∷ gone) k ≡ true = grind (arith, nat_tests, t) in
    let in_one : Contains K1 e → Contains (item_strands (item.X slots)) e ⊎ Contains (cond (is_member ◌==◌ (c ∷ gone) k) K2 (S ++ K2)) e =
    λ m. inr (subst P (sym (ap (λ z. cond z K2 (S ++ K2)) gone_now)) (later c gone (k + 1) rest e (omega (arith, eqb-true k c t)) m)) in
    ⊎_elim
    (λ g. in_one (subst P (ap (λ z. cond z K1 (S ++ K1)) g) h))
    (λ g. ⊎_elim
    (λ m. inl (let R : List ℕ → Type 0 = λ s. Contains (item_strands (item.X s)) e in subst R is m))
    in_one
    (Contains-append_cases S K1 e (subst P (ap (λ z. cond z K1 (S ++ K1)) g) h)))
    (cases_Bool (is_member ◌==◌ gone k)))
    (λ t.
    let next : crossing_from (k + 1) rest c ≡ Some slots = sym (ap (λ z. cond z (Some here) (crossing_from (k + 1) rest c)) t) ∙ found in
    let other : is_member ◌==◌ (c ∷ gone) k ≡ is_member ◌==◌ gone k = grind (arith, nat_tests, t) in
    ⊎_elim
    (λ g. ⊎_elim (λ m. inl m) (λ m. inr (subst P (sym (ap (λ z. cond z K2 (S ++ K2)) (other ∙ g))) m))
    (strand_picked gone (k + 1) rest c slots next e (subst P (ap (λ z. cond z K1 (S ++ K1)) g) h)))
    (λ g. ⊎_elim
    (λ m. inr (subst P (sym (ap (λ z. cond z K2 (S ++ K2)) (other ∙ g))) (Contains-append_left S K2 e m)))
    (λ m. ⊎_elim (λ i. inl i) (λ i. inr (subst P (sym (ap (λ z. cond z K2 (S ++ K2)) (other ∙ g))) (Contains-append_right S K2 e i)))
    (strand_picked gone (k + 1) rest c slots next e m))
    (Contains-append_cases S K1 e (subst P (ap (λ z. cond z K1 (S ++ K1)) g) h)))
    (cases_Bool (is_member ◌==◌ gone k)))
    (cases_Bool (k == c))
strand_picked gone k (item.Loop l ∷ rest) c slots found e h = strand_picked gone k rest c slots found e h

-- a strand that stays is one of the diagram
pub stays_within : (gone : List ℕ) (k : ℕ) (items : List Item) (e : ℕ × ℕ) → Contains (kept_strands gone k items) e → Contains (strand_edges items) e
stays_within gone k [] e h = h
stays_within gone k (item.X slots ∷ rest) e h =
    let S = item_strands (item.X slots) in
    let K = kept_strands gone (k + 1) rest in
    let P : List (ℕ × ℕ) → Type 0 = λ es. Contains es e in
    ⊎_elim
    (λ t. Contains-append_right S (strand_edges rest) e (stays_within gone (k + 1) rest e (subst P (ap (λ z. cond z K (S ++ K)) t) h)))
    (λ t. ⊎_elim (λ m. Contains-append_left S (strand_edges rest) e m) (λ m. Contains-append_right S (strand_edges rest) e (stays_within gone (k + 1) rest e m)) (Contains-append_cases S K e (subst P (ap (λ z. cond z K (S ++ K)) t) h)))
    (cases_Bool (is_member ◌==◌ gone k))
stays_within gone k (item.Loop l ∷ rest) e h = stays_within gone k rest e h

-- the strands of a crossing
pub strands_of : (k : ℕ) (items : List Item) (c : ℕ) (slots : List ℕ) → crossing_from k items c ≡ Some slots → (e : ℕ × ℕ) → Contains (item_strands (item.X slots)) e → Contains (strand_edges items) e
strands_of k [] c slots found e h = absurd (none_some slots found)
strands_of k (item.X here ∷ rest) c slots found e h =
    let S = item_strands (item.X here) in
    ⊎_elim
    (λ t.
    let q : Some here ≡ Some slots = sym (ap (λ z. cond z (Some here) (crossing_from (k + 1) rest c)) t) ∙ found in
    let is : here ≡ slots = cc in
    let R : List ℕ → Type 0 = λ s. Contains (item_strands (item.X s)) e in
    Contains-append_left S (strand_edges rest) e (subst R (sym is) h))
    (λ t. Contains-append_right S (strand_edges rest) e (strands_of (k + 1) rest c slots (sym (ap (λ z. cond z (Some here) (crossing_from (k + 1) rest c)) t) ∙ found) e h))
    (cases_Bool (k == c))
strands_of k (item.Loop l ∷ rest) c slots found e h = strands_of k rest c slots found e h

-- opposite slots are joined, from any slot on
pub opposite_joined : (fs : List (ℕ × ℕ)) (slots : List ℕ) (k : ℕ) → k < 8 → Joined fs (slice_index slots 0) (slice_index slots 2) → Joined fs (slice_index slots 1) (slice_index slots 3) →
    Joined fs (slot slots k) (slot slots (k + 2)) × Joined fs (slot slots (k + 1)) (slot slots (k + 3))
opposite_joined fs slots zero l i j = (i, j)
opposite_joined fs slots (suc zero) l i j = (j, back i)
opposite_joined fs slots (suc (suc zero)) l i j = (back i, back j)
opposite_joined fs slots (suc (suc (suc zero))) l i j = (back j, i)
opposite_joined fs slots (suc (suc (suc (suc zero)))) l i j = (i, j)
opposite_joined fs slots (suc (suc (suc (suc (suc zero))))) l i j = (j, back i)
opposite_joined fs slots (suc (suc (suc (suc (suc (suc zero)))))) l i j = (back i, back j)
opposite_joined fs slots (suc (suc (suc (suc (suc (suc (suc zero))))))) l i j = (back j, i)
opposite_joined fs slots (suc (suc (suc (suc (suc (suc (suc (suc k)))))))) l i j = absurd (omega (arith, l))

-- and the other way: what joins opposite slots from slot k on joins them from slot 0 on
pub joined_opposite : (fs : List (ℕ × ℕ)) (slots : List ℕ) (k : ℕ) → k < 8 → Joined fs (slot slots k) (slot slots (k + 2)) → Joined fs (slot slots (k + 1)) (slot slots (k + 3)) →
    Joined fs (slice_index slots 0) (slice_index slots 2) × Joined fs (slice_index slots 1) (slice_index slots 3)
joined_opposite fs slots zero l i j = (i, j)
joined_opposite fs slots (suc zero) l i j = (back j, i)
joined_opposite fs slots (suc (suc zero)) l i j = (back i, back j)
joined_opposite fs slots (suc (suc (suc zero))) l i j = (j, back i)
joined_opposite fs slots (suc (suc (suc (suc zero)))) l i j = (i, j)
joined_opposite fs slots (suc (suc (suc (suc (suc zero))))) l i j = (back j, i)
joined_opposite fs slots (suc (suc (suc (suc (suc (suc zero)))))) l i j = (back i, back j)
joined_opposite fs slots (suc (suc (suc (suc (suc (suc (suc zero))))))) l i j = (j, back i)
joined_opposite fs slots (suc (suc (suc (suc (suc (suc (suc (suc k)))))))) l i j = absurd (omega (arith, l))

-- a strand of a crossing from opposite slots
pub of_strands : (fs : List (ℕ × ℕ)) (slots : List ℕ) → Joined fs (slice_index slots 0) (slice_index slots 2) → Joined fs (slice_index slots 1) (slice_index slots 3) →
    (x y : ℕ) → Contains (item_strands (item.X slots)) (x, y) → Joined fs x y
of_strands fs slots i j = each_walk (item_strands (item.X slots)) fs (i, (j, tt))

-- the strands of a crossing of the diagram, from slot k on
pub crossing_walks : (items : List Item) (c : ℕ) (slots : List ℕ) → crossing_at items c ≡ Some slots → (k : ℕ) → k < 8 →
    Joined (strand_edges items) (slot slots k) (slot slots (k + 2)) × Joined (strand_edges items) (slot slots (k + 1)) (slot slots (k + 3))
crossing_walks items c slots found k low =
    opposite_joined (strand_edges items) slots k low
    (along (strands_of 1 items c slots found (slice_index slots 0, slice_index slots 2) (0, omega arith, refl)))
    (along (strands_of 1 items c slots found (slice_index slots 1, slice_index slots 3) (1, omega arith, refl)))

-- ---- strands of what stays, with new labels
strands_removed : (gone : List ℕ) (label : ℕ → ℕ) (k : ℕ) (items : List Item) → AllByRecursion HasItsSlots items →
    strand_edges (rewritten (λ k slots. cond (is_member ◌==◌ gone k) [] (item.X (map label slots) ∷ [])) k items) ≡ map (renamed label) (kept_strands gone k items)
strands_removed gone label k [] h = refl
strands_removed gone label k (item.X slots ∷ rest) h =
    let ih = strands_removed gone label (k + 1) rest h.1 in
    let R = rewritten (λ k slots. cond (is_member ◌==◌ gone k) [] (item.X (map label slots) ∷ [])) (k + 1) rest in
    let K = kept_strands gone (k + 1) rest in
    let S = item_strands (item.X slots) in
    let four = h.0 in
    let at : (i : ℕ) → i < 4 → slice_index (map label slots) i ≡ label (slice_index slots i) = λ i l. get_or-map label slots i 0 0 (omega (arith, l, four)) in
    let a = at 0 (omega arith) in let b = at 1 (omega arith) in let c = at 2 (omega arith) in let d = at 3 (omega arith) in
    let same : item_strands (item.X (map label slots)) ≡ map (renamed label) S =
    ap (λ z. (let e : ℕ × ℕ = (z, slice_index (map label slots) 2) in e) ∷ (slice_index (map label slots) 1, slice_index (map label slots) 3) ∷ []) a
    ∙ ap (λ z. (let e : ℕ × ℕ = (label (slice_index slots 0), z) in e) ∷ (slice_index (map label slots) 1, slice_index (map label slots) 3) ∷ []) c
    ∙ ap (λ z. (label (slice_index slots 0), label (slice_index slots 2)) ∷ (let e : ℕ × ℕ = (z, slice_index (map label slots) 3) in e) ∷ []) b
    ∙ ap (λ z. (label (slice_index slots 0), label (slice_index slots 2)) ∷ (let e : ℕ × ℕ = (label (slice_index slots 1), z) in e) ∷ []) d in
    ⊎_elim
    (λ t. ap (λ z. strand_edges (cond z [] (item.X (map label slots) ∷ []) ++ R)) t ∙ ih ∙ sym (ap (λ z. map (renamed label) (cond z K (S ++ K))) t))
    (λ t. ap (λ z. strand_edges (cond z [] (item.X (map label slots) ∷ []) ++ R)) t ∙ ap (λ es. es ++ strand_edges R) same ∙ ap (λ es. map (renamed label) S ++ es) ih ∙ sym (ap (λ z. map (renamed label) (cond z K (S ++ K))) t))
    (cases_Bool (is_member ◌==◌ gone k))
strands_removed gone label k (item.Loop l ∷ rest) h = strands_removed gone label k rest h.1

strands_loops : (ls : List ℕ) → strand_edges (map item.Loop ls) ≡ []
strands_loops [] = refl
strands_loops (l ∷ ls) = strands_loops ls

-- ---- classes that close
module _ (items : List Item) (pd : IsPairedDiagram items) (gone : List ℕ) (pairs : List (ℕ × ℕ)) (x y : ℕ)
    (counted : (z : ℕ) → times_in (crossing_labels items) z ≡ times_in (ends_of pairs) z + times_in (names_of (kept 0 0 gone 1 items)) z)
    (has_x : is_member ◌==◌ (ends_of pairs) x ≡ true) (has_y : is_member ◌==◌ (ends_of pairs) y ≡ true)
    (pair_walks : (u v : ℕ) → Contains pairs (u, v) → Joined (strand_edges items) u v)
    (splits : (u v : ℕ) → Contains (strand_edges items) (u, v) → (least_label pairs u ≡ least_label pairs v) ⊎ Contains (kept_strands gone 1 items) (u, v))
    (ends_class : (l : ℕ) → is_member ◌==◌ (ends_of pairs) l ≡ true → (least_label pairs l ≡ least_label pairs x) ⊎ (least_label pairs l ≡ least_label pairs y)) where
  abbrev label : ℕ → ℕ
  label = least_label pairs

  abbrev names : List ℕ
  names = names_of (kept 0 0 gone 1 items)

  abbrev shut : List ℕ
  shut = closed items pd gone pairs x y counted has_x has_y

  abbrev after : List Item
  after = closing label x y (removed gone label items)

  all_after : (z : ℕ) → times_in (labels item_labels after) z ≡ times_in (map label names) z + 2 * (times_in (loop_labels items) z + times_in shut z)
  all_after = after_labels items pd gone pairs x y counted has_x has_y

  shut_times : (z : ℕ) → times_in shut z ≡ cond (not (is_member ◌==◌ (map label names) z)) (cond (z == label x || z == label y) 1 0) 0
  shut_times = closed_times items pd gone pairs x y counted has_x has_y

  itself : (z : ℕ) → label (label z) ≡ label z
  itself z = let rules = AreLeast-labels pairs in rules.itself z

  outside : (z : ℕ) → is_member ◌==◌ (crossing_labels items) z ≡ false → label z ≡ z
  outside z out =
      let walk = (least_contraction pairs).joined z in
      ⊎_elim (λ e. sym e) (λ q. absurd (let i = in_ends items pd gone pairs x y counted has_x has_y z q.0 in grind (arith, i, out))) (inside-from_Joined (is_member ◌==◌ (ends_of pairs)) pairs (ends_are pairs) walk)

  -- where a label of the result stands
  abbrev Stands : ℕ → Type 0
  Stands z =
      (is_member ◌==◌ (map label names) z ≡ true)
      ⊎ (((z ≡ label x) ⊎ (z ≡ label y)) ⊎ ((is_member ◌==◌ (loop_labels items) z ≡ true) × (is_member ◌==◌ (crossing_labels items) z ≡ false)))

  stands : (z : ℕ) → is_member ◌==◌ (labels item_labels after) z ≡ true → Stands z
  stands z m =
      let one = times_of_member z (labels item_labels after) m in
      let t = all_after z in
      let s = shut_times z in
      ⊎_elim
      (λ h. inl h)
      (λ h. inr
      (⊎_elim
      (λ a. inl (inl a))
      (λ a. ⊎_elim
      (λ b. inl (inr b))
      (λ b.
      let none : times_in shut z ≡ 0 = grind (arith, nat_tests, s, a, b) in
      let no_name = times_none (map label names) z h in
      let loop : 1 ≤ times_in (loop_labels items) z = omega (arith, one, t, none, no_name) in
      inr (
        member_of_times z (loop_labels items) loop,
        ⊎_elim
            (λ c. absurd
            (let c1 = times_of_member z (crossing_labels items) c in let c2 = paired items pd z c1 in let c3 = times_labels items z in let c4 = twice_in_all items pd z (omega (arith, c1, c3)) in omega (arith, c2, c3, c4, loop)))
            (λ c. c)
            (cases_Bool (is_member ◌==◌ (crossing_labels items) z)),
      ))
      (cases_eq z (label y)))
      (cases_eq z (label x))))
      (cases_Bool (is_member ◌==◌ (map label names) z))

  to_crossing : (z : ℕ) → is_member ◌==◌ (crossing_labels items) z ≡ true → is_member ◌==◌ (labels item_labels items) z ≡ true
  to_crossing z m = let a = times_of_member z (crossing_labels items) m in let b = times_labels items z in member_of_times z (labels item_labels items) (omega (arith, a, b))

  inner : (z : ℕ) → is_member ◌==◌ (crossing_labels items) z ≡ true → is_member ◌==◌ (crossing_labels items) (label z) ≡ true
  inner = label_inside items pd gone pairs x y counted has_x has_y

  from_name : (z : ℕ) → is_member ◌==◌ (map label names) z ≡ true → is_member ◌==◌ (labels item_labels after) z ≡ true
  from_name z m = let a = times_of_member z (map label names) m in let b = all_after z in member_of_times z (labels item_labels after) (omega (arith, a, b))

  same_strands : strand_edges after ≡ map (renamed label) (kept_strands gone 1 items)
  same_strands =
      strand_edges-append (removed gone label items) (map item.Loop shut) ∙ ap (λ es. strand_edges (removed gone label items) ++ es) (strands_loops shut) ∙ append-nil (strand_edges (removed gone label items))
      ∙ strands_removed gone label 1 items pd.sizes

  to_label : (z : ℕ) → Joined (strand_edges items) z (label z)
  to_label z = joined_through pairs (strand_edges items) pair_walks ((least_contraction pairs).joined z)

  pub closing_contracts : Contracts items after label
  closing_contracts = record {
    fixes = λ l m.
        ⊎_elim
        (λ h. let q = member_mapped label names l h in ap label q.2 ∙ itself q.0 ∙ sym q.2)
        (λ k. ⊎_elim
        (λ h. ⊎_elim (λ e. ap label e ∙ itself x ∙ sym e) (λ e. ap label e ∙ itself y ∙ sym e) h)
        (λ h. outside l h.1)
        k)
        (stands l m);
    lowers = λ l.
        let rules = AreLeast-labels pairs in rules.below l;
    walks = λ l m. to_label l;
    onto = λ l m.
        ⊎_elim
        (λ c.
        ⊎_elim
        (λ h. from_name (label l) h)
        (λ h.
        let one = times_of_member l (crossing_labels items) c in
        let e = counted l in
        let s = shut_times (label l) in
        let t = all_after (label l) in
        let not_name : is_member ◌==◌ names l ≡ false =
        ⊎_elim (λ i. absurd (let k = is_member-map label names l i in grind (arith, k, h))) (λ i. i) (cases_Bool (is_member ◌==◌ names l)) in
        let none = times_none names l not_name in
        let end = member_of_times l (ends_of pairs) (omega (arith, one, e, none)) in
        let class = ends_class l end in
        let met : times_in shut (label l) ≡ 1 = ⊎_elim (λ k. grind (arith, nat_tests, s, h, k)) (λ k. grind (arith, nat_tests, s, h, k)) class in
        member_of_times (label l) (labels item_labels after) (omega (arith, t, met)))
        (cases_Bool (is_member ◌==◌ (map label names) (label l))))
        (λ c.
        let same = outside l c in
        let one = times_of_member l (labels item_labels items) m in
        let e = times_labels items l in
        let none = times_none (crossing_labels items) l c in
        let t = all_after l in
        let P : ℕ → Type 0 = λ z. is_member ◌==◌ (labels item_labels after) z ≡ true in
        subst P (sym same) (member_of_times l (labels item_labels after) (omega (arith, one, e, none, t))))
        (cases_Bool (is_member ◌==◌ (crossing_labels items) l));
    within = λ l m.
        ⊎_elim
        (λ h. let q = member_mapped label names l h in to_crossing l (ap (is_member ◌==◌ (crossing_labels items)) q.2 ∙ inner q.0 (in_names items pd gone pairs x y counted has_x has_y q.0 q.1)))
        (λ k. ⊎_elim
        (λ h. ⊎_elim
        (λ e. to_crossing l (ap (is_member ◌==◌ (crossing_labels items)) e ∙ inner x (in_ends items pd gone pairs x y counted has_x has_y x has_x)))
        (λ e. to_crossing l (ap (is_member ◌==◌ (crossing_labels items)) e ∙ inner y (in_ends items pd gone pairs x y counted has_x has_y y has_y)))
        h)
        (λ h. let a = times_of_member l (loop_labels items) h.0 in let b = times_labels items l in member_of_times l (labels item_labels items) (omega (arith, a, b)))
        k)
        (stands l m);
    edge = λ u v c.
        let Q : List (ℕ × ℕ) → Type 0 = λ es. Contains es (label u, label v) in
        ⊎_elim
        (λ e. let S : ℕ → Type 0 = λ z. Joined (strand_edges after) (label u) z in subst S e stay)
        (λ d. along (subst Q (sym same_strands) (contains_map (renamed label) (kept_strands gone 1 items) (u, v) d)))
        (splits u v c);
    edge_back = λ u v c.
        let P : List (ℕ × ℕ) → Type 0 = λ es. Contains es (u, v) in
        let r = contains_unmap (renamed label) (kept_strands gone 1 items) (u, v) (subst P same_strands c) in
        let a : label r.0.0 ≡ u = ap (λ f. f.0) r.2 in
        let b : label r.0.1 ≡ v = ap (λ f. f.1) r.2 in
        let here : Joined (strand_edges items) r.0.0 r.0.1 = along (stays_within gone 1 items r.0 r.1) in
        let J : ℕ → Type 0 = λ z. Joined (strand_edges items) z v in
        let K : ℕ → Type 0 = λ z. Joined (strand_edges items) (label r.0.0) z in
        subst J a (subst K b (on (back (to_label r.0.0)) (on here (to_label r.0.1))));
  }

-- ---- the two moves that close
pub ends_by : (f : ℕ → ℕ) (a b : ℕ) (ps : List (ℕ × ℕ)) → AllByRecursion (λ p. ((f p.0 ≡ a) ⊎ (f p.0 ≡ b)) × (f p.0 ≡ f p.1)) ps → (l : ℕ) → is_member ◌==◌ (ends_of ps) l ≡ true → (f l ≡ a) ⊎ (f l ≡ b)
ends_by f a b [] h l m = absurd (grind (arith, m))
ends_by f a b (p ∷ ps) h l m =
    ⊎_elim
    (λ e. let s = ap f (eqb-true l p.0 e) in ⊎_elim (λ q. inl (s ∙ q)) (λ q. inr (s ∙ q)) h.0.0)
    (λ n. ⊎_elim
    (λ e. let s = ap f (eqb-true l p.1 e) ∙ sym h.0.1 in ⊎_elim (λ q. inl (s ∙ q)) (λ q. inr (s ∙ q)) h.0.0)
    (λ k. ends_by f a b ps h.1 l k)
    (or_cases (l == p.1) (is_member ◌==◌ (ends_of ps) l) n))
    (or_cases (l == p.0) (is_member ◌==◌ (p.1 ∷ ends_of ps) l) m)

from_here : (fs : List (ℕ × ℕ)) {x x' y : ℕ} → x ≡ x' → Joined fs x y → Joined fs x' y
from_here fs {x} {x'} {y} e j = let P : ℕ → Type 0 = λ z. Joined fs z y in subst P e j

to_there : (fs : List (ℕ × ℕ)) {x y y' : ℕ} → y ≡ y' → Joined fs x y → Joined fs x y'
to_there fs {x} {y} {y'} e j = let P : ℕ → Type 0 = λ z. Joined fs x z in subst P e j

in_none : (items : List Item) (u v : ℕ) → Contains (strand_edges items) (u, v) → Contains (kept_strands [] 1 items) (u, v)
in_none items u v h = let P : List (ℕ × ℕ) → Type 0 = λ es. Contains es (u, v) in subst P (sym (kept_all 1 items)) h

fifth : (a b c d y : ℕ) (rest : List ℕ) → is_member ◌==◌ (a ∷ b ∷ c ∷ d ∷ y ∷ rest) y ≡ true
fifth a b c d y rest =
    or_right (y == a) _ (or_right (y == b) _ (or_right (y == c) _ (or_right (y == d) _ (or_left (y == y) _ (eq-eqb y y refl)))))

pub pulled_contracts : (items : List Item) → IsPairedDiagram items → (c g : ℕ) (here there : List ℕ) (s t : ℕ) → crossing_at items c ≡ Some here → crossing_at items g ≡ Some there → (g == c) ≡ false → s < 4 → t < 4 →
    is_bigon here there (s, t) ≡ true →
    Contracts items (closing (least_label (bigon_classes here there (s, t))) (slot here s) (slot there (t + 1)) (removed (g ∷ c ∷ []) (least_label (bigon_classes here there (s, t))) items)) (least_label (bigon_classes here there (s, t)))
pulled_contracts items pd c g here there s t at_c at_g apart low_s low_t test =
    let pairs = bigon_classes here there (s, t) in
    let x = slot here s in
    let y = slot there (t + 1) in
    let label : ℕ → ℕ = least_label pairs in
    let rules = least_contraction pairs in
    let p1 = and_parts (slot here s == slot there t) _ test in
    let p2 = and_parts (slot here (s + 3) == slot there (t + 1)) _ p1.1 in
    let same_x : slot there t ≡ x = sym (eqb-true x (slot there t) p1.0) in
    let same_y : slot here (s + 3) ≡ y = eqb-true (slot here (s + 3)) y p2.0 in
    let less_s : s < 8 = omega (arith, low_s) in
    let less_t : t < 8 = omega (arith, low_t) in
    let fs = strand_edges items in
    let at_here = crossing_walks items c here at_c s less_s in
    let at_there = crossing_walks items g there at_g t less_t in
    let walks : AllByRecursion (λ (e : ℕ × ℕ). Joined fs e.0 e.1) pairs = (at_here.0, (from_here fs same_x at_there.0, (from_here fs same_y (back at_here.1), (at_there.1, tt)))) in
    let a0 : Joined pairs x (slot here (s + 2)) = along (0, omega arith, refl) in
    let a1 : Joined pairs x (slot there (t + 2)) = along (1, omega arith, refl) in
    let a2 : Joined pairs y (slot here (s + 1)) = along (2, omega arith, refl) in
    let a3 : Joined pairs y (slot there (t + 3)) = along (3, omega arith, refl) in
    let of_here = joined_opposite pairs here s less_s a0 (to_there pairs (sym same_y) (back a2)) in
    let of_there = joined_opposite pairs there t less_t (from_here pairs (sym same_x) a1) a3 in
    let splits : (u v : ℕ) → Contains fs (u, v) → (label u ≡ label v) ⊎ Contains (kept_strands (g ∷ c ∷ []) 1 items) (u, v) =
    λ u v h.
    ⊎_elim
    (λ m. inl (rules.one u v (of_strands pairs here of_here.0 of_here.1 u v m)))
    (λ m. ⊎_elim
    (λ n. inl (rules.one u v (of_strands pairs there of_there.0 of_there.1 u v n)))
    (λ n. inr n)
    (strand_picked (c ∷ []) 1 items g there at_g (u, v) m))
    (strand_picked [] 1 items c here at_c (u, v) (in_none items u v h)) in
    let class : AllByRecursion (λ (p : ℕ × ℕ). ((label p.0 ≡ label x) ⊎ (label p.0 ≡ label y)) × (label p.0 ≡ label p.1)) pairs =
    ((inl refl, rules.one x _ a0), ((inl refl, rules.one x _ a1), ((inr refl, rules.one y _ a2), ((inr refl, rules.one y _ a3), tt)))) in
    closing_contracts items pd (g ∷ c ∷ []) pairs x y
    (recounted 1 0 0 0 nothing items pd c here at_c g there at_g apart s t low_s low_t test)
    (or_left (x == x) _ (eq-eqb x x refl))
    (fifth x (slot here (s + 2)) x (slot there (t + 2)) y (slot here (s + 1) ∷ y ∷ slot there (t + 3) ∷ []))
    (each_walk pairs fs walks) splits (ends_by label (label x) (label y) pairs class)

pub pulled_components : (items : List Item) → IsPairedDiagram items → (c g : ℕ) (here there : List ℕ) (s t : ℕ) → crossing_at items c ≡ Some here → crossing_at items g ≡ Some there → (g == c) ≡ false → s < 4 → t < 4 →
    is_bigon here there (s, t) ≡ true →
    least_labels (closing (least_label (bigon_classes here there (s, t))) (slot here s) (slot there (t + 1)) (removed (g ∷ c ∷ []) (least_label (bigon_classes here there (s, t))) items)) ≡ least_labels items
pulled_components items pd c g here there s t at_c at_g apart low_s low_t test =
    let label : ℕ → ℕ = least_label (bigon_classes here there (s, t)) in
    let after = closing label (slot here s) (slot there (t + 1)) (removed (g ∷ c ∷ []) label items) in
    let contracts = pulled_contracts items pd c g here there s t at_c at_g apart low_s low_t test in
    least_labels_by items after pd.sizes (sizes-closing (g ∷ c ∷ []) label (slot here s) (slot there (t + 1)) items pd.sizes) (least_in_small items after label contracts) (least_in_big items after label contracts)

pub uncurled_contracts : (items : List Item) → IsPairedDiagram items → (c : ℕ) (here : List ℕ) (s : ℕ) → crossing_at items c ≡ Some here → s < 4 → is_curl here s ≡ true →
    Contracts items (closing (least_label (curl_classes here s)) (slot here s) (slot here s) (removed (c ∷ []) (least_label (curl_classes here s)) items)) (least_label (curl_classes here s))
uncurled_contracts items pd c here s at_c low test =
    let pairs = curl_classes here s in
    let x = slot here s in
    let label : ℕ → ℕ = least_label pairs in
    let rules = least_contraction pairs in
    let same : slot here (s + 1) ≡ x = sym (eqb-true (slot here s) (slot here (s + 1)) test) in
    let less : s < 8 = omega (arith, low) in
    let fs = strand_edges items in
    let at_here = crossing_walks items c here at_c s less in
    let walks : AllByRecursion (λ (e : ℕ × ℕ). Joined fs e.0 e.1) pairs = (at_here.0, (from_here fs same at_here.1, tt)) in
    let a0 : Joined pairs x (slot here (s + 2)) = along (0, omega arith, refl) in
    let a1 : Joined pairs x (slot here (s + 3)) = along (1, omega arith, refl) in
    let of_here = joined_opposite pairs here s less a0 (from_here pairs (sym same) a1) in
    let splits : (u v : ℕ) → Contains fs (u, v) → (label u ≡ label v) ⊎ Contains (kept_strands (c ∷ []) 1 items) (u, v) =
    λ u v h.
    ⊎_elim (λ m. inl (rules.one u v (of_strands pairs here of_here.0 of_here.1 u v m))) (λ m. inr m) (strand_picked [] 1 items c here at_c (u, v) (in_none items u v h)) in
    let class : AllByRecursion (λ (p : ℕ × ℕ). ((label p.0 ≡ label x) ⊎ (label p.0 ≡ label x)) × (label p.0 ≡ label p.1)) pairs = ((inl refl, rules.one x _ a0), ((inl refl, rules.one x _ a1), tt)) in
    let factor = modulo_one (0 + cond (s % 2 == 0) 0 0 * cond (s % 2 == 0) 0 0 * cond (s % 2 == 0) 0 0) in
    let own : is_member ◌==◌ (x ∷ slot here (s + 2) ∷ x ∷ slot here (s + 3) ∷ []) x ≡ true = or_left (x == x) _ (eq-eqb x x refl) in
    closing_contracts items pd (c ∷ []) pairs x x (curl_recounted 1 0 0 0 nothing items pd c here at_c s low test 0 factor) own own
    (each_walk pairs fs walks) splits (ends_by label (label x) (label x) pairs class)

pub uncurled_components : (items : List Item) → IsPairedDiagram items → (c : ℕ) (here : List ℕ) (s : ℕ) → crossing_at items c ≡ Some here → s < 4 → is_curl here s ≡ true →
    least_labels (closing (least_label (curl_classes here s)) (slot here s) (slot here s) (removed (c ∷ []) (least_label (curl_classes here s)) items)) ≡ least_labels items
uncurled_components items pd c here s at_c low test =
    let label : ℕ → ℕ = least_label (curl_classes here s) in
    let after = closing label (slot here s) (slot here s) (removed (c ∷ []) label items) in
    let contracts = uncurled_contracts items pd c here s at_c low test in
    least_labels_by items after pd.sizes (sizes-closing (c ∷ []) label (slot here s) (slot here s) items pd.sizes) (least_in_small items after label contracts) (least_in_big items after label contracts)
