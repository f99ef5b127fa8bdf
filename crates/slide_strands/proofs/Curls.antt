-- A curl keeps the components: its edge and the new label of the second end are of the component of f, and are joined with f.
use Rattle.std.proofs.Common.{◌≡◌, ◌≢◌, ℕ, zero, suc, ◌+◌, ◌*◌, ◌<◌, ◌==◌, Bool, true, false, not, cond, List, [], ◌∷◌, ◌++◌, ℤ, pos, negsuc, ◌+ℤ◌, ◌*ℤ◌, refl, sym, ap, ap₂, subst, ◌∙◌, arith, inl, inr}
use Rattle.std.specs.List.{AllByRecursion}
use Rattle.std.proofs.lemmas.Bool.{cases_Bool, eqb-true, ne_eqb}
use Rattle.std.proofs.lemmas.Int.{ints}
use Rattle.graph_parts.specs.Renaming.{replaced}
use Rattle.graph_parts.specs.Walks.{Joined, stay, back, on}
use Rattle.ring_identities.proofs.Identities.{reads, by_ring}
use Rattle.slide_strands.specs.declared.strand.Strand.{Strand}
use Rattle.slide_strands.specs.declared.strand.Piece.{Piece}
use Rattle.slide_strands.specs.declared.strand.Piece.TheVariants.{Crossed, Free}
use Rattle.slide_strands.specs.Strands.{alike, sign_of, delta, ordered_sum, strands, end_of, end_sum, strand_sum, is_label, IsDirected, piece_edges}
use Rattle.slide_strands.specs.Doubling.{on_side, pieces_on_side, curl_under, curl_over, curled, curls}
use Rattle.slide_strands.specs.Components.{Ready}
use Rattle.slide_strands.specs.Laws.{CurlsLaw, CurlSignsLaw}
use Rattle.slide_strands.proofs.Directions.{side_ends}
use Rattle.slide_strands.proofs.Joins.{every_weaker, every_append, every_on_side, every_from_side, all_joined, joined_through}
use Rattle.slide_strands.proofs.SignSums.{side_sum}
use Rattle.slide_strands.proofs.Slides.{classed_every, every_classed}

strand_sum-append : (w : Strand → ℕ) (ps qs : List Piece) → strand_sum w (strands (ps ++ qs)) ≡ strand_sum w (strands ps) + strand_sum w (strands qs)
strand_sum-append w [] qs = let e : strand_sum w (strands qs) ≡ 0 + strand_sum w (strands qs) = omega arith in e
strand_sum-append w (Crossed u o ∷ ps) qs = omega (arith, strand_sum-append w ps qs)
strand_sum-append w (Free label ∷ ps) qs = strand_sum-append w ps qs

-- both ends of the curl's strands: on the side that is kept the new labels, on the other f and the curl's edge
kept_ends : (plus : Bool) (f j n : ℕ) (entered : Bool) (w : ℕ → ℕ) →
    w (end_of entered (curl_under f j n entered)) + w (end_of entered (curl_over plus j n entered)) ≡ w n + w (n + 1)
kept_ends true f j n true w = refl
kept_ends true f j n false w = refl
kept_ends false f j n true w = refl
kept_ends false f j n false w = refl

changed_ends : (plus : Bool) (f j n : ℕ) (entered : Bool) (w : ℕ → ℕ) →
    w (end_of (not entered) (curl_under f j n entered)) + w (end_of (not entered) (curl_over plus j n entered)) ≡ w f + w n
changed_ends true f j n true w = refl
changed_ends true f j n false w = refl
changed_ends false f j n true w = refl
changed_ends false f j n false w = refl

alike_same : (b : Bool) → alike b b ≡ true
alike_same true = refl
alike_same false = refl

alike_not : (b : Bool) → alike (not b) b ≡ false
alike_not true = refl
alike_not false = refl

-- where a label gets another one
replaced_sum : (into : Bool) (f x : ℕ) (w : ℕ → ℕ) (ss : List Strand) →
    end_sum into (λ y. w (replaced f x y)) ss + end_sum into (is_label f) ss * w f ≡ end_sum into w ss + end_sum into (is_label f) ss * w x
replaced_sum into f x w [] = omega arith
replaced_sum into f x w (s ∷ ss) =
    let ih = replaced_sum into f x w ss in
    let y = end_of into s in
    elim (cases_Bool (y == f)) [
      | inl h ↦ (let one : is_label f y ≡ 1 = ap (λ (b : Bool). cond b 1 0) h in let now : w (replaced f x y) ≡ w x = ap (λ (b : Bool). w (cond b x y)) h in
          let here : w y ≡ w f = ap w (eqb-true y f h) in rw (one, now, here) (omega (arith, ih)))
      | inr h ↦ (let none : is_label f y ≡ 0 = ap (λ (b : Bool). cond b 1 0) h in let now : w (replaced f x y) ≡ w y = ap (λ (b : Bool). w (cond b x y)) h in
          rw (none, now) (omega (arith, ih)))
    ]

module _ (plus : Bool) (f j : ℕ) (entered : Bool) (n : ℕ) (pieces : List Piece) where
  abbrev last : List Piece
  last = Crossed (curl_under f j n entered) (curl_over plus j n entered) ∷ []

  abbrev old : List Piece
  old = pieces_on_side entered (replaced f (n + 1)) pieces

  abbrev new : List Piece
  new = curled plus f j entered n pieces

  two : (into : Bool) (w : ℕ → ℕ) → end_sum into w (strands last) ≡ w (end_of into (curl_under f j n entered)) + w (end_of into (curl_over plus j n entered))
  two into w = omega arith

  pub kept_sum : (w : ℕ → ℕ) → end_sum entered w (strands new) ≡ end_sum entered w (strands pieces) + (w n + w (n + 1))
  kept_sum w =
      strand_sum-append (λ s. w (end_of entered s)) old last
      ∙ ap₂ (λ x y. x + y)
      (side_ends entered entered (replaced f (n + 1)) w pieces ∙ ap (λ (b : Bool). end_sum entered (λ x. cond b (w x) (w (replaced f (n + 1) x))) (strands pieces)) (alike_same entered))
      (two entered w ∙ kept_ends plus f j n entered w)

  changed_sum : (w : ℕ → ℕ) → end_sum (not entered) w (strands new) ≡ end_sum (not entered) (λ x. w (replaced f (n + 1) x)) (strands pieces) + (w f + w n)
  changed_sum w =
      strand_sum-append (λ s. w (end_of (not entered) s)) old last
      ∙ ap₂ (λ x y. x + y)
      (side_ends (not entered) entered (replaced f (n + 1)) w pieces ∙ ap (λ (b : Bool). end_sum (not entered) (λ x. cond b (w x) (w (replaced f (n + 1) x))) (strands pieces)) (alike_not entered))
      (two (not entered) w ∙ changed_ends plus f j n entered w)

  pub by_side : (ss : List Strand) → IsDirected ss → (b c : Bool) (w : ℕ → ℕ) → end_sum b w ss ≡ end_sum c w ss
  by_side ss d true true w = refl
  by_side ss d true false w = d w
  by_side ss d false true w = sym (d w)
  by_side ss d false false w = refl

  directed : IsDirected (strands pieces) → end_sum true (is_label f) (strands pieces) ≡ 1 → IsDirected (strands new)
  directed d once w = to_true entered (sides w)
    where
      sides : (v : ℕ → ℕ) → end_sum entered v (strands new) ≡ end_sum (not entered) v (strands new)
      sides v =
          let one : end_sum (not entered) (is_label f) (strands pieces) ≡ 1 = by_side (strands pieces) d (not entered) true (is_label f) ∙ once in
          let left : end_sum (not entered) (is_label f) (strands pieces) * v f ≡ 1 * v f = ap (λ k. k * v f) one in
          let right : end_sum (not entered) (is_label f) (strands pieces) * v (n + 1) ≡ 1 * v (n + 1) = ap (λ k. k * v (n + 1)) one in
          omega (arith, kept_sum v, changed_sum v, replaced_sum (not entered) f (n + 1) v (strands pieces), left, right, by_side (strands pieces) d entered (not entered) v)

      to_true : (b : Bool) → end_sum b w (strands new) ≡ end_sum (not b) w (strands new) → end_sum true w (strands new) ≡ end_sum false w (strands new)
      to_true true e = e
      to_true false e = sym e

  pub keeps_count : IsDirected (strands pieces) → IsDirected (strands new) → (x : ℕ) → x < n → end_sum true (is_label x) (strands new) ≡ end_sum true (is_label x) (strands pieces)
  keeps_count d d' x l =
      let a : is_label x n ≡ 0 = ap (λ (b : Bool). cond b 1 0) (ne_eqb n x (λ e. absurd (omega (arith, e, l)))) in
      let b : is_label x (n + 1) ≡ 0 = ap (λ (b : Bool). cond b 1 0) (ne_eqb (n + 1) x (λ e. absurd (omega (arith, e, l)))) in
      omega (arith, by_side (strands new) d' true entered (is_label x), kept_sum (is_label x), a, b, by_side (strands pieces) d entered true (is_label x))

  -- ---- what is joined
  abbrev es : List (ℕ × ℕ)
  es = piece_edges new

  every_last : (P : Strand → Type 0) (ps : List Piece) (u o : Strand) → AllByRecursion P (strands (ps ++ Crossed u o ∷ [])) → AllByRecursion P (strands ps) × P u × P o
  every_last P [] u o h = (tt, h.0, h.1.0)
  every_last P (Crossed v w ∷ ps) u o h = let r = every_last P ps u o h.1.1 in ((h.0, (h.1.0, r.0)), r.1, r.2)
  every_last P (Free label ∷ ps) u o h = every_last P ps u o h

  ends_joined : AllByRecursion (λ s. Joined es s.from s.to) (strands old) × Joined es (curl_under f j n entered).from (curl_under f j n entered).to × Joined es (curl_over plus j n entered).from (curl_over plus j n entered).to
  ends_joined = every_last (λ s. Joined es s.from s.to) old (curl_under f j n entered) (curl_over plus j n entered) (all_joined new)

  f_with_n : Joined es f n
  f_with_n = ends_joined.1

  n_with_next : Joined es n (n + 1)
  n_with_next = by_sign plus ends_joined.2
    where
      by_sign : (b : Bool) → Joined es (curl_over b j n entered).from (curl_over b j n entered).to → Joined es n (n + 1)
      by_sign true h = h
      by_sign false h = back h

  replaced_joined : (x : ℕ) → Joined es (replaced f (n + 1) x) x
  replaced_joined x = elim (cases_Bool (x == f)) [
    | inl h ↦ subst (λ (y : ℕ). Joined es y x) (sym (ap (λ (b : Bool). cond b (n + 1) x) h))
        (subst (λ (y : ℕ). Joined es (n + 1) y) (sym (eqb-true x f h)) (back (on f_with_n n_with_next)))
    | inr h ↦ subst (λ (y : ℕ). Joined es y x) (sym (ap (λ (b : Bool). cond b (n + 1) x) h)) stay
  ]

  either_joined : (b : Bool) (x : ℕ) → Joined es (cond b x (replaced f (n + 1) x)) x
  either_joined true x = stay
  either_joined false x = replaced_joined x

  other_joined : (b : Bool) (x : ℕ) → Joined es (cond b (replaced f (n + 1) x) x) x
  other_joined true x = replaced_joined x
  other_joined false x = stay

  abbrev moved : Strand → Strand
  moved = on_side entered (replaced f (n + 1))

  lift : (x y : ℕ) → Joined (piece_edges pieces) x y → Joined es x y
  lift =
      joined_through es pieces
      (every_weaker (λ s. Joined es (moved s).from (moved s).to) (λ s. Joined es s.from s.to)
      (λ s k. on (back (either_joined (alike s.ahead entered) s.from)) (on k (other_joined (alike s.ahead entered) s.to)))
      (strands pieces) (every_from_side (λ s. Joined es s.from s.to) entered (replaced f (n + 1)) pieces ends_joined.0))

  -- ---- a strand with another end
  module _ (P : Strand → Type 0) where
    every_new : AllByRecursion (λ s. P (moved s)) (strands pieces) → P (curl_under f j n entered) → P (curl_over plus j n entered) → AllByRecursion P (strands new)
    every_new h u o = every_append P old last (every_on_side P entered (replaced f (n + 1)) pieces h) (u, (o, tt))

  -- A CURL KEEPS WHAT IS KNOWN
  pub curl_ready : (class root : ℕ → ℕ) (e i none : ℕ) → Ready class root e f i j none n pieces → Ready class root e f i j none (n + 2) new
  curl_ready class root e i none r =
      let d = r.has.directed in
      let d' = directed d r.f_once in
      let class_n : class n ≡ j = r.later n (omega arith) in
      let class_next : class (n + 1) ≡ j = r.later (n + 1) (omega arith) in
      record {
        has = record {
          directed = d';
          classed = every_classed class (strands new) (every_new (λ s. (class s.from ≡ s.component) × (class s.to ≡ s.component))
              (every_weaker (λ s. (class s.from ≡ s.component) × (class s.to ≡ s.component)) (λ s. (class (moved s).from ≡ s.component) × (class (moved s).to ≡ s.component))
              (λ s h. (class_either (alike s.ahead entered) s.from ∙ h.0, class_other (alike s.ahead entered) s.to ∙ h.1))
              (strands pieces) (classed_every class (strands pieces) r.has.classed))
              (r.of_f, class_n) (over_class plus class_n class_next));
          rooted = every_new (λ s. Joined es s.from (root s.component))
              (every_weaker (λ s. Joined (piece_edges pieces) s.from (root s.component)) (λ s. Joined es (moved s).from (root s.component))
              (λ s h. on (either_joined (alike s.ahead entered) s.from) (lift s.from (root s.component) h)) (strands pieces) r.has.rooted)
              (lift f (root j) r.f_root) (over_root plus (lift f (root j) r.f_root));
        };
        below = every_new (λ s. (s.from < n + 2) × (s.to < n + 2) × (s.component ≢ none))
            (every_weaker (λ s. (s.from < n) × (s.to < n) × (s.component ≢ none)) (λ s. ((moved s).from < n + 2) × ((moved s).to < n + 2) × (s.component ≢ none))
            (λ s h. (below_either (alike s.ahead entered) s.from h.0, below_other (alike s.ahead entered) s.to h.1, h.2)) (strands pieces) r.below)
            ((let l = r.f_below in omega (arith, l)), (omega arith), r.not_none.1) (over_below plus r.not_none.1);
        e_once = keeps_count d d' e r.e_below ∙ r.e_once;
        f_once = keeps_count d d' f r.f_below ∙ r.f_once;
        e_root = lift e (root i) r.e_root;
        f_root = lift f (root j) r.f_root;
        of_e = r.of_e;
        of_f = r.of_f;
        later = λ x l. r.later x (omega (arith, l));
        e_below = let l = r.e_below in omega (arith, l);
        f_below = let l = r.f_below in omega (arith, l);
        not_none = r.not_none;
        apart = r.apart;
      }
    where
      class_replaced : (x : ℕ) → class (replaced f (n + 1) x) ≡ class x
      class_replaced x = elim (cases_Bool (x == f)) [
        | inl h ↦ ap (λ (b : Bool). class (cond b (n + 1) x)) h ∙ (r.later (n + 1) (omega arith) ∙ (sym r.of_f ∙ ap class (sym (eqb-true x f h))))
        | inr h ↦ ap (λ (b : Bool). class (cond b (n + 1) x)) h
      ]

      class_either : (b : Bool) (x : ℕ) → class (cond b x (replaced f (n + 1) x)) ≡ class x
      class_either true x = refl
      class_either false x = class_replaced x

      class_other : (b : Bool) (x : ℕ) → class (cond b (replaced f (n + 1) x) x) ≡ class x
      class_other true x = class_replaced x
      class_other false x = refl

      over_class : (b : Bool) → class n ≡ j → class (n + 1) ≡ j → (class (curl_over b j n entered).from ≡ (curl_over b j n entered).component) × (class (curl_over b j n entered).to ≡ (curl_over b j n entered).component)
      over_class true h k = (h, k)
      over_class false h k = (k, h)

      over_root : (b : Bool) → Joined es f (root j) → Joined es (curl_over b j n entered).from (root (curl_over b j n entered).component)
      over_root true h = on (back f_with_n) h
      over_root false h = on (back (on f_with_n n_with_next)) h

      below_replaced : (x : ℕ) → x < n → replaced f (n + 1) x < n + 2
      below_replaced x l = elim (cases_Bool (x == f)) [
        | inl h ↦ subst (λ (y : ℕ). y < n + 2) (sym (ap (λ (b : Bool). cond b (n + 1) x) h)) (omega arith)
        | inr h ↦ subst (λ (y : ℕ). y < n + 2) (sym (ap (λ (b : Bool). cond b (n + 1) x) h)) (omega (arith, l))
      ]

      below_either : (b : Bool) (x : ℕ) → x < n → cond b x (replaced f (n + 1) x) < n + 2
      below_either true x l = omega (arith, l)
      below_either false x l = below_replaced x l

      below_other : (b : Bool) (x : ℕ) → x < n → cond b (replaced f (n + 1) x) x < n + 2
      below_other true x l = below_replaced x l
      below_other false x l = omega (arith, l)

      over_below : (b : Bool) → j ≢ none → ((curl_over b j n entered).from < n + 2) × ((curl_over b j n entered).to < n + 2) × ((curl_over b j n entered).component ≢ none)
      over_below true h = ((omega arith), (omega arith), h)
      over_below false h = ((omega arith), (omega arith), h)

  -- ---- signs
  append_sum : (a b : ℕ) (ps qs : List Piece) → ordered_sum a b (ps ++ qs) ≡ ordered_sum a b ps +ℤ ordered_sum a b qs
  append_sum a b [] qs = let e : ordered_sum a b qs ≡ pos 0 +ℤ ordered_sum a b qs = omega (arith, ints) in e
  append_sum a b (Crossed u o ∷ ps) qs =
      ap (λ z. (sign_of u.ahead o.ahead *ℤ (delta u.component a *ℤ delta o.component b)) +ℤ z) (append_sum a b ps qs)
      ∙ plus_assoc_back _ (ordered_sum a b ps) (ordered_sum a b qs)
    where
      plus_assoc_back : (x y z : ℤ) → x +ℤ (y +ℤ z) ≡ (x +ℤ y) +ℤ z
      plus_assoc_back x y z = omega (arith, ints)
  append_sum a b (Free label ∷ ps) qs = append_sum a b ps qs

  curl_sign : (b e : Bool) → sign_of (curl_under f j n e).ahead (curl_over b j n e).ahead ≡ cond b (pos 1) (negsuc 0)
  curl_sign true true = refl
  curl_sign true false = refl
  curl_sign false true = refl
  curl_sign false false = refl

  over_of : (b e : Bool) → (curl_over b j n e).component ≡ j
  over_of true e = refl
  over_of false e = refl

  pub curled_sum : (a b : ℕ) → ordered_sum a b new ≡ ordered_sum a b pieces +ℤ (cond plus (pos 1) (negsuc 0) *ℤ (delta j a *ℤ delta j b))
  curled_sum a b =
      let none : (z : ℤ) → z +ℤ pos 0 ≡ z = λ z. omega (arith, ints) in
      append_sum a b old last
      ∙ ap₂ (λ x y. x +ℤ y) (side_sum a b entered (replaced f (n + 1)) pieces)
      (none _ ∙ ap₂ (λ x c. x *ℤ (delta j a *ℤ delta c b)) (curl_sign plus entered) (over_of plus entered))

-- SO MANY CURLS
pub curls_ready : (plus : Bool) (f j : ℕ) (entered : Bool) (class root : ℕ → ℕ) (e i none k n : ℕ) (pieces : List Piece) →
    Ready class root e f i j none n pieces → Ready class root e f i j none (n + 2 * k) (curls plus f j entered k n pieces)
curls_ready plus f j entered class root e i none zero n pieces r = subst (λ (m : ℕ). Ready class root e f i j none m pieces) (let h : n ≡ n + 2 * zero = omega arith in h) r
curls_ready plus f j entered class root e i none (suc k) n pieces r =
    let next = curls_ready plus f j entered class root e i none k (n + 2) (curled plus f j entered n pieces) (curl_ready plus f j entered n pieces class root e i none r) in
    subst (λ (m : ℕ). Ready class root e f i j none m (curls plus f j entered (suc k) n pieces)) (let h : n + 2 + 2 * k ≡ n + 2 * suc k = omega arith in h) next

pub curls_stand : (plus : Bool) (f j : ℕ) (entered : Bool) (class root : ℕ → ℕ) (e i none k n : ℕ) (pieces : List Piece) → Ready class root e f i j none n pieces →
    (x : ℕ) → x < n → end_sum true (is_label x) (strands (curls plus f j entered k n pieces)) ≡ end_sum true (is_label x) (strands pieces)
curls_stand plus f j entered class root e i none zero n pieces r x l = refl
curls_stand plus f j entered class root e i none (suc k) n pieces r x l =
    let next = curl_ready plus f j entered n pieces class root e i none r in
    curls_stand plus f j entered class root e i none k (n + 2) (curled plus f j entered n pieces) next x (omega (arith, l))
    ∙ keeps_count plus f j entered n pieces r.has.directed next.has.directed x l

-- k times +1 or -1
abbrev pub many : Bool → ℕ → ℤ
many plus zero = pos 0
many plus (suc k) = cond plus (pos 1) (negsuc 0) +ℤ many plus k

pub curls_law : CurlsLaw
curls_law plus f j entered class root e i none k n pieces r = curls_ready plus f j entered class root e i none k n pieces r

step : (s x d m : ℤ) → (x +ℤ s *ℤ d) +ℤ m *ℤ d ≡ x +ℤ (s +ℤ m) *ℤ d
step s x d m = by_ring (s ∷ x ∷ d ∷ m ∷ []) (search reads depth 30) (search reads depth 30) refl

none_added : (x d : ℤ) → x ≡ x +ℤ pos 0 *ℤ d
none_added x d = by_ring (x ∷ d ∷ []) (search reads depth 30) (search reads depth 30) refl

many_is : (plus : Bool) (k : ℕ) → many plus k ≡ cond plus (pos 1) (negsuc 0) *ℤ pos k
many_is plus zero = nothing (cond plus (pos 1) (negsuc 0))
  where
    nothing : (s : ℤ) → pos 0 ≡ s *ℤ pos 0
    nothing s = omega (arith, ints)
many_is true (suc k) = ap (λ z. pos 1 +ℤ z) (many_is true k) ∙ (let e : pos 1 +ℤ (pos 1 *ℤ pos k) ≡ pos 1 *ℤ pos (suc k) = omega (arith, ints) in e)
many_is false (suc k) = ap (λ z. negsuc 0 +ℤ z) (many_is false k) ∙ (let e : negsuc 0 +ℤ (negsuc 0 *ℤ pos k) ≡ negsuc 0 *ℤ pos (suc k) = omega (arith, ints) in e)

curls_many : (plus : Bool) (f j : ℕ) (entered : Bool) (a b k n : ℕ) (pieces : List Piece) →
    ordered_sum a b (curls plus f j entered k n pieces) ≡ ordered_sum a b pieces +ℤ (many plus k *ℤ (delta j a *ℤ delta j b))
curls_many plus f j entered a b zero n pieces = none_added (ordered_sum a b pieces) (delta j a *ℤ delta j b)
curls_many plus f j entered a b (suc k) n pieces =
    curls_many plus f j entered a b k (n + 2) (curled plus f j entered n pieces)
    ∙ (ap (λ z. z +ℤ (many plus k *ℤ (delta j a *ℤ delta j b))) (curled_sum plus f j entered n pieces a b)
    ∙ step (cond plus (pos 1) (negsuc 0)) (ordered_sum a b pieces) (delta j a *ℤ delta j b) (many plus k))

pub curl_signs : CurlSignsLaw
curl_signs plus f j entered k n a b pieces =
    curls_many plus f j entered a b k n pieces ∙ ap (λ z. ordered_sum a b pieces +ℤ (z *ℤ (delta j a *ℤ delta j b))) (many_is plus k)
