-- The order of a network's nodes does not matter: a run of nodes may be moved to the front, so two nodes may change places,
-- and every order is reached so.
use Rattle.std.proofs.Common.{◌≡◌, ℕ, ◌+◌, ◌*◌, ◌^◌, ◌==◌, List, [], ◌∷◌, ◌++◌, zero, suc, ◌<◌, length, get_or, set, sum_by, Contains, refl, sym, ap, ◌∙◌, arith, mul-add, ◌⊎◌, inl, ⊎_elim, append_assoc}
use Rattle.std.specs.Set.{is_member}
use Rattle.std.proofs.lemmas.List.Concat.{flat_map-append}
use Rattle.std.proofs.lemmas.List.Elements.{Contains-append_left, Contains-append_right, Contains-append_cases}
use Rattle.std.proofs.lemmas.List.Sorted.{IsPermutation-keeps, All-permutation}
use Rattle.std.proofs.lemmas.List.Sums.{sum_by-cons}
use Rattle.std.specs.Prelude.{IsPermutation}
use Rattle.std.specs.List.{swap}
use Rattle.graph_parts.specs.Labels.{label_of, label_count}
use Rattle.graph_parts.proofs.Agreement.{label_count-agree, Agree-same_edges}
use Rattle.graph_parts.proofs.Distinct.{is_member-append}
use Rattle.graph_parts.proofs.Ends.{is_member-itself}
use Rattle.graph_parts.proofs.PartLaws.{label_count-same_names}
use Rattle.state_sums.specs.Networks.{Node, names_of}
use Rattle.state_sums.specs.StateSums.{state_sum, term_edges}
use Rattle.state_sums.proofs.StateEdges.{HasPlaces, HavePlaces}
use Rattle.state_sums.proofs.StateSums.{state_sum-labels}
use Rattle.state_sums.proofs.Sums.{total, total-append, total-times, total_cong}
use Rattle.list_lemmas.proofs.Sums.{sum_by_same}

-- ---- one sum inside the other
total-zero : (nodes : List Node) → total nodes (λ es. 0) ≡ 0
total-zero nodes = total_cong nodes (λ es. 0) (λ es. 0 * 0) (λ es. refl) ∙ total-times 0 nodes (λ es. 0) ∙ omega arith

sum_by-add : {X : Type 0} (f g : X → ℕ) (xs : List X) → sum_by (λ x. f x + g x) xs ≡ sum_by f xs + sum_by g xs
sum_by-add f g [] = refl
sum_by-add f g (x ∷ xs) =
    let e = sum_by-cons (λ y. f y + g y) x xs in let p = sum_by-cons f x xs in let q = sum_by-cons g x xs in let ih = sum_by-add f g xs in omega (arith, e, p, q, ih)

total-add : (nodes : List Node) (f g : List (ℕ × ℕ) → ℕ) → total nodes (λ es. f es + g es) ≡ total nodes f + total nodes g
total-add [] f g = refl
total-add (node ∷ nodes) f g =
    sum_by_same _ _ node.terms (λ term.
    ap (λ n. term.weight * n) (total-add nodes (λ es. f (term_edges node term ++ es)) (λ es. g (term_edges node term ++ es)))
    ∙ mul-add term.weight (total nodes (λ es. f (term_edges node term ++ es))) (total nodes (λ es. g (term_edges node term ++ es))))
    ∙ sum_by-add (λ term. term.weight * total nodes (λ es. f (term_edges node term ++ es))) (λ term. term.weight * total nodes (λ es. g (term_edges node term ++ es))) node.terms

total-sum_by : {X : Type 0} (k : X → ℕ) (h : X → List (ℕ × ℕ) → ℕ) (xs : List X) (nodes : List Node) →
    sum_by (λ x. k x * total nodes (h x)) xs ≡ total nodes (λ es. sum_by (λ x. k x * h x es) xs)
total-sum_by k h [] nodes = sym (total-zero nodes)
total-sum_by k h (x ∷ xs) nodes =
    sum_by-cons (λ y. k y * total nodes (h y)) x xs
    ∙ (let ih = total-sum_by k h xs nodes in let t = total-times (k x) nodes (h x) in let a = total-add nodes (λ es. k x * h x es) (λ es. sum_by (λ y. k y * h y es) xs) in omega (arith, ih, t, a))
    ∙ sym (total_cong nodes _ _ (λ es. sum_by-cons (λ y. k y * h y es) x xs))

pub total-exchange : (front nodes : List Node) (f : List (ℕ × ℕ) → List (ℕ × ℕ) → ℕ) → total front (λ es. total nodes (λ fs. f es fs)) ≡ total nodes (λ fs. total front (λ es. f es fs))
total-exchange [] nodes f = refl
total-exchange (node ∷ front) nodes f =
    sum_by_same _ _ node.terms (λ term. ap (λ n. term.weight * n) (total-exchange front nodes (λ es. f (term_edges node term ++ es))))
    ∙ total-sum_by (λ term. term.weight) (λ term fs. total front (λ es. f (term_edges node term ++ es) fs)) node.terms nodes

-- ---- the same edges and names in another order
pub exchanged_edges : (es fs gs : List (ℕ × ℕ)) (x y : ℕ) → Contains (es ++ (fs ++ gs)) (x, y) → Contains (fs ++ (es ++ gs)) (x, y) ⊎ Contains (fs ++ (es ++ gs)) (y, x)
exchanged_edges es fs gs x y c =
    let e : ℕ × ℕ = (x, y) in
    inl (⊎_elim
    (λ l. Contains-append_right fs (es ++ gs) e (Contains-append_left es gs e l))
    (λ r. ⊎_elim (λ l. Contains-append_left fs (es ++ gs) e l) (λ s. Contains-append_right fs (es ++ gs) e (Contains-append_right es gs e s)) (Contains-append_cases fs gs e r))
    (Contains-append_cases es (fs ++ gs) e c))

pub same_members : (xs ys zs : List ℕ) (x : ℕ) → is_member ◌==◌ (xs ++ (ys ++ zs)) x ≡ is_member ◌==◌ (ys ++ (xs ++ zs)) x
same_members xs ys zs x =
    let a = is_member-append xs (ys ++ zs) x in let b = is_member-append ys zs x in let c = is_member-append ys (xs ++ zs) x in let d = is_member-append xs zs x in
    grind (arith, a, b, c, d)

label_count-exchange : (es fs gs : List (ℕ × ℕ)) (xs ys zs : List ℕ) → label_count (label_of (es ++ (fs ++ gs))) (xs ++ (ys ++ zs)) ≡ label_count (label_of (fs ++ (es ++ gs))) (ys ++ (xs ++ zs))
label_count-exchange es fs gs xs ys zs =
    let names = xs ++ (ys ++ zs) in
    label_count-agree (is_member ◌==◌ names) (label_of (es ++ (fs ++ gs))) (label_of (fs ++ (es ++ gs))) names
    (Agree-same_edges (is_member ◌==◌ names) (es ++ (fs ++ gs)) (fs ++ (es ++ gs)) (exchanged_edges es fs gs) (exchanged_edges fs es gs)) (is_member-itself names)
    ∙ label_count-same_names (label_of (fs ++ (es ++ gs))) names (ys ++ (xs ++ zs)) (same_members xs ys zs)

pub names_of-three : (xs ys zs : List Node) → names_of (xs ++ (ys ++ zs)) ≡ names_of xs ++ (names_of ys ++ names_of zs)
names_of-three xs ys zs = flat_map-append (λ node. node.ends) xs (ys ++ zs) ∙ ap (λ ns. names_of xs ++ ns) (flat_map-append (λ node. node.ends) ys zs)

-- the state sum by labels
abbrev pub label_sum : ℕ → ℕ → List Node → ℕ
label_sum delta free nodes = total nodes (λ es. delta ^ (label_count (label_of es) (names_of nodes) + free))

-- a run of nodes moves to the front
pub label_sum-moved : (delta free : ℕ) (front nodes back : List Node) → label_sum delta free (front ++ (nodes ++ back)) ≡ label_sum delta free (nodes ++ (front ++ back))
label_sum-moved delta free front nodes back =
    let one : List (ℕ × ℕ) → ℕ = λ es. delta ^ (label_count (label_of es) (names_of (front ++ (nodes ++ back))) + free) in
    let other : List (ℕ × ℕ) → ℕ = λ es. delta ^ (label_count (label_of es) (names_of (nodes ++ (front ++ back))) + free) in
    total-append front (nodes ++ back) one
    ∙ total_cong front _ _ (λ es. total-append nodes back (λ fs. one (es ++ fs)))
    ∙ total-exchange front nodes (λ es fs. total back (λ gs. one (es ++ (fs ++ gs))))
    ∙ total_cong nodes _ _ (λ fs. total_cong front _ _ (λ es. total_cong back _ _ (λ gs. ap (λ n. delta ^ (n + free))
    (ap (label_count (label_of (es ++ (fs ++ gs)))) (names_of-three front nodes back)
    ∙ label_count-exchange es fs gs (names_of front) (names_of nodes) (names_of back)
    ∙ ap (label_count (label_of (fs ++ (es ++ gs)))) (sym (names_of-three nodes front back))))))
    ∙ sym (total_cong nodes _ _ (λ fs. total-append front back (λ es. other (fs ++ es))))
    ∙ sym (total-append nodes (front ++ back) other)

-- ---- what a run of nodes that moves to the front keeps, any order keeps
module _ {X : Type 0} (F : List Node → X) (moved : (front nodes back : List Node) → F (front ++ (nodes ++ back)) ≡ F (nodes ++ (front ++ back))) where
  -- ---- two nodes in each other's place
  both_to_front : (a : List Node) (x : Node) (b : List Node) (y : Node) (c : List Node) → F (a ++ x ∷ (b ++ y ∷ c)) ≡ F (y ∷ x ∷ (a ++ (b ++ c)))
  both_to_front a x b y c =
      moved a (x ∷ []) (b ++ y ∷ c)
      ∙ ap (λ ns. F (x ∷ ns)) (sym (append_assoc a b (y ∷ c)))
      ∙ moved (x ∷ (a ++ b)) (y ∷ []) c
      ∙ ap (λ ns. F (y ∷ x ∷ ns)) (append_assoc a b c)

  swapped : (a : List Node) (x : Node) (b : List Node) (y : Node) (c : List Node) → F (a ++ x ∷ (b ++ y ∷ c)) ≡ F (a ++ y ∷ (b ++ x ∷ c))
  swapped a x b y c = both_to_front a x b y c ∙ moved (y ∷ []) (x ∷ []) (a ++ (b ++ c)) ∙ sym (both_to_front a y b x c)

  -- what stands before and after a place
  record Around (nodes : List Node) (j : ℕ) (d : Node) : Type 0 where
    before : List Node
    after : List Node
    is : nodes ≡ before ++ get_or nodes j d ∷ after
    put : (z : Node) → set nodes j z ≡ before ++ z ∷ after

  around : (nodes : List Node) (j : ℕ) (d : Node) → j < length nodes → Around nodes j d
  around [] j d l = absurd (omega (arith, l))
  around (x ∷ nodes) zero d l = record { before = []; after = nodes; is = refl; put = λ z. refl }
  around (x ∷ nodes) (suc j) d l =
      let r = around nodes j d (omega (arith, l)) in
      record { before = x ∷ r.before; after = r.after; is = ap (λ ns. x ∷ ns) r.is; put = λ z. ap (λ ns. x ∷ ns) (r.put z) }

  set_both : (front nodes : List Node) (i j : ℕ) (d : Node) → i < length nodes → j < length nodes → F (front ++ nodes) ≡ F (front ++ set (set nodes i (get_or nodes j d)) j (get_or nodes i d))
  set_both front [] i j d h l = absurd (omega (arith, l))
  set_both front (x ∷ nodes) zero zero d h l = refl
  set_both front (x ∷ nodes) zero (suc j) d h l =
      let r = around nodes j d (omega (arith, l)) in
      let y = get_or nodes j d in
      ap (λ ns. F (front ++ x ∷ ns)) r.is ∙ swapped front x r.before y r.after ∙ ap (λ ns. F (front ++ y ∷ ns)) (sym (r.put x))
  set_both front (x ∷ nodes) (suc i) zero d h l =
      let r = around nodes i d (omega (arith, h)) in
      let y = get_or nodes i d in
      ap (λ ns. F (front ++ x ∷ ns)) r.is ∙ swapped front x r.before y r.after ∙ ap (λ ns. F (front ++ y ∷ ns)) (sym (r.put x))
  set_both front (x ∷ nodes) (suc i) (suc j) d h l =
      let ih = set_both (front ++ x ∷ []) nodes i j d (omega (arith, h)) (omega (arith, l)) in
      ap F (sym (append_assoc front (x ∷ []) nodes)) ∙ ih ∙ ap F (append_assoc front (x ∷ []) (set (set nodes i (get_or nodes j d)) j (get_or nodes i d)))

  swap_kept : (nodes : List Node) (i j : ℕ) → i < length nodes → j < length nodes → F (swap nodes i j) ≡ F nodes
  swap_kept [] i j p q = refl
  swap_kept (d ∷ nodes) i j p q = sym (set_both [] (d ∷ nodes) i j d p q)

  pub kept_in_any_order : (nodes permuted : List Node) → IsPermutation nodes permuted → F permuted ≡ F nodes
  kept_in_any_order nodes permuted h = IsPermutation-keeps nodes (λ ns. F ns ≡ F nodes) refl (λ ns i j a b t. swap_kept ns i j a b ∙ t) permuted h

-- ANY ORDER
pub state_sum-permuted : (delta free : ℕ) (nodes permuted : List Node) → HavePlaces nodes → IsPermutation nodes permuted →
    state_sum delta record { nodes = permuted; free_loops = free } ≡ state_sum delta record { nodes = nodes; free_loops = free }
state_sum-permuted delta free nodes permuted p h =
    state_sum-labels delta permuted free (All-permutation HasPlaces nodes permuted h p)
    ∙ kept_in_any_order (label_sum delta free) (label_sum-moved delta free) nodes permuted h
    ∙ sym (state_sum-labels delta nodes free p)
