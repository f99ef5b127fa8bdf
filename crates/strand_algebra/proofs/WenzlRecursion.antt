-- Wenzl's recursion in any algebra with hooks (Lickorish, ch. 13). All at once by induction: the projector is its own square,
-- the one before it is absorbed on either side, a hook e_n on both sides of f^n leaves a multiple of f^(n-1) e_n, and the
-- hooks before it give zero on either side. The square follows from the killing: f^(n+1) f^(n+1) is f^(n+1) f^n, less a
-- multiple of f^(n+1) e_n f^n, which is zero.
use Rattle.std.proofs.Common.{◌≡◌, ℕ, zero, suc, ◌<◌, ℤ, pos, ◌+ℤ◌, ◌*ℤ◌, neg_ℤ, ◌==◌, [], ◌∷◌, refl, arith, ⊎_elim, ◌⊎◌, inl, inr}
use Rattle.std.proofs.lemmas.Bool.{cases_Bool, eqb-true}
use Rattle.std.proofs.lemmas.Bool.Decides.{nat_tests}
use Rattle.ring_identities.proofs.Congruences.{congruent_refl, congruent_sym}
use Rattle.ring_identities.proofs.Modulo.{modulos, by_congruences}
use Rattle.ring_identities.specs.Residues.{Congruent}
use Rattle.strand_algebra.proofs.Algebras.{Algebra, AreHooks, AreProjectors}

pub one_less : (m : ℕ) (c t : ℤ) → Congruent m (c *ℤ t) (pos 1) → Congruent m (pos 1 +ℤ neg_ℤ c *ℤ t) (pos 0)
one_less m c t h = by_congruences 1 (c ∷ t ∷ []) (search modulos depth 30) (search modulos depth 30) (h, tt) refl

module _ (m : ℕ) (alg : Algebra m) where
  abbrev Same : alg.Element → alg.Element → Type 0
  Same = alg.Same

  -- what holds of each algebra
  abbrev then : {x y z : alg.Element} → alg.Same x y → alg.Same y z → alg.Same x z
  then {x} {y} {z} p q = alg.on x y z p q

  by_inner : (a : ℤ) (x y : alg.Element) → alg.Same x y → alg.Same (alg.by a x) (alg.by a y)
  by_inner a x y p = alg.by_same a a x y (congruent_refl m a) p

  before : (z x y : alg.Element) → alg.Same x y → alg.Same (alg.times z x) (alg.times z y)
  before z x y p = alg.times_same z z x y (alg.same z) p

  behind : (z x y : alg.Element) → alg.Same x y → alg.Same (alg.times x z) (alg.times y z)
  behind z x y p = alg.times_same x y z z p (alg.same z)

  -- z (x + a y) and (x + a y) z
  before_sum : (z x y : alg.Element) (a : ℤ) → alg.Same (alg.times z (alg.plus x (alg.by a y))) (alg.plus (alg.times z x) (alg.by a (alg.times z y)))
  before_sum z x y a =
      alg.on _ _ _ (alg.times_plus z x (alg.by a y)) (alg.plus_same _ _ _ _ (alg.same (alg.times z x)) (alg.times_by a z y))

  behind_sum : (z x y : alg.Element) (a : ℤ) → alg.Same (alg.times (alg.plus x (alg.by a y)) z) (alg.plus (alg.times x z) (alg.by a (alg.times y z)))
  behind_sum z x y a =
      alg.on _ _ _ (alg.plus_times x (alg.by a y) z) (alg.plus_same _ _ _ _ (alg.same (alg.times x z)) (alg.by_times a y z))

  -- x + a y where both change
  sum_same : (x y u v : alg.Element) (a : ℤ) → alg.Same x u → alg.Same y v → alg.Same (alg.plus x (alg.by a y)) (alg.plus u (alg.by a v))
  sum_same x y u v a p q = alg.plus_same _ _ _ _ p (by_inner a y v q)

  -- x + a 0 is x; 0 + a 0 is 0
  sum_null : (x y u : alg.Element) (a : ℤ) → alg.Same x u → alg.Same y alg.null → alg.Same (alg.plus x (alg.by a y)) u
  sum_null x y u a p q =
      alg.on _ _ _ (sum_same x y u alg.null a p q)
      (alg.on _ _ _ (alg.plus_same _ _ _ _ (alg.same u) (alg.by_null a)) (alg.plus_null u))

  -- x + a (t x) is 0 where 1 + a t is 0, and so on
  sum_gone : (x y w : alg.Element) (a t : ℤ) → alg.Same x w → alg.Same y (alg.by t w) → Congruent m (pos 1 +ℤ a *ℤ t) (pos 0) → alg.Same (alg.plus x (alg.by a y)) alg.null
  sum_gone x y w a t p q h =
      alg.on _ _ _
      (alg.plus_same _ _ _ _ (alg.on _ _ _ p (alg.back _ _ (alg.one_of w))) (alg.on _ _ _ (by_inner a y (alg.by t w) q) (alg.by_product a t w)))
      (alg.on _ _ _ (alg.by_sum (pos 1) (a *ℤ t) w) (alg.on _ _ _ (alg.by_same _ _ w w h (alg.same w)) (alg.none_of w)))

  sum_joined : (x y w : alg.Element) (a b : ℤ) → alg.Same x (alg.by b w) → alg.Same y w → alg.Same (alg.plus x (alg.by a y)) (alg.by (b +ℤ a) w)
  sum_joined x y w a b p q = alg.on _ _ _ (alg.plus_same _ _ _ _ p (by_inner a y w q)) (alg.by_sum b a w)

  null_in : (x y : alg.Element) → alg.Same x alg.null → alg.Same (alg.times x y) alg.null
  null_in x y p = alg.on _ _ _ (behind y x alg.null p) (alg.null_times y)

  null_behind : (x y : alg.Element) → alg.Same y alg.null → alg.Same (alg.times x y) alg.null
  null_behind x y p = then (before x y alg.null p) (alg.times_null x)

  -- z (x y), where z goes past x and past y
  past : (z x y : alg.Element) → alg.Same (alg.times z x) (alg.times x z) → alg.Same (alg.times z y) (alg.times y z) → alg.Same (alg.times z (alg.times x y)) (alg.times (alg.times x y) z)
  past z x y p q =
      then (alg.back _ _ (alg.assoc z x y))
      (then (behind y (alg.times z x) (alg.times x z) p)
      (then (alg.assoc x z y)
      (then (before x (alg.times z y) (alg.times y z) q)
      (alg.back _ _ (alg.assoc x y z)))))

pub before_or_at : (i n : ℕ) → i < suc n → (i < n) ⊎ (i ≡ n)
before_or_at i n h = ⊎_elim (λ p. inr (eqb-true i n p)) (λ p. inl (grind (arith, nat_tests, p))) (cases_Bool (i == n))

abbrev pub earlier : {A : Type 0} → A → (ℕ → A) → ℕ → A
earlier unit f zero = unit
earlier unit f (suc n) = f n

-- What holds of the projector f n.
pub record IsLevel (m : ℕ) (alg : Algebra m) (top : ℕ) (e : ℕ → alg.Element) (t : ℕ → ℤ) (f : ℕ → alg.Element) (n : ℕ) : Type 0 where
  pub square : alg.Same (alg.times (f n) (f n)) (f n)
  pub right : alg.Same (alg.times (f n) (earlier alg.unit f n)) (f n)
  pub left : alg.Same (alg.times (earlier alg.unit f n) (f n)) (f n)
  pub partial : n < top → alg.Same (alg.times (alg.times (e n) (f n)) (e n)) (alg.by (t n) (alg.times (earlier alg.unit f n) (e n)))
  pub kills : (i : ℕ) → i < n → alg.Same (alg.times (e i) (f n)) alg.null
  pub killed : (i : ℕ) → i < n → alg.Same (alg.times (f n) (e i)) alg.null

module _ (m : ℕ) (alg : Algebra m) (d : ℤ) (top : ℕ) (e : ℕ → alg.Element) (c t : ℕ → ℤ) (f : ℕ → alg.Element)
    (hooks : AreHooks m alg d top e) (projectors : AreProjectors m alg d top e c t f) where
  abbrev on : {x y z : alg.Element} → alg.Same x y → alg.Same y z → alg.Same x z
  on {x} {y} {z} p q = alg.on x y z p q

  abbrev turn : {x y : alg.Element} → alg.Same x y → alg.Same y x
  turn {x} {y} p = alg.back x y p

  -- what commutes with the hooks before n commutes with f n
  pub commutes : (z : alg.Element) (n : ℕ) → n < suc top → ((i : ℕ) → i < n → alg.Same (alg.times z (e i)) (alg.times (e i) z)) → alg.Same (alg.times z (f n)) (alg.times (f n) z)
  commutes z zero b h =
      on (before m alg z (f zero) alg.unit projectors.first)
      (on (alg.times_unit z) (on (turn (alg.unit_times z)) (behind m alg z alg.unit (f zero) (turn projectors.first))))
  commutes z (suc n) b h =
      let ih = commutes z n (omega arith) (λ i l. h i (omega arith)) in
      let here = h n (omega arith) in
      let next = projectors.next n (omega arith) in
      let u = alg.times (alg.times (f n) (e n)) (f n) in
      let k = neg_ℤ (c n) in
      on (before m alg z (f (suc n)) (alg.plus (f n) (alg.by k u)) next)
      (on (before_sum m alg z (f n) u k)
      (on (sum_same m alg _ _ _ _ k ih (past m alg z (alg.times (f n) (e n)) (f n) (past m alg z (f n) (e n) ih here) ih))
      (on (turn (behind_sum m alg z (f n) u k))
      (behind m alg z (alg.plus (f n) (alg.by k u)) (f (suc n)) (turn next)))))

  earlier_commutes : (n : ℕ) → n < top → alg.Same (alg.times (earlier alg.unit f n) (e n)) (alg.times (e n) (earlier alg.unit f n))
  earlier_commutes zero b = on (alg.unit_times (e zero)) (turn (alg.times_unit (e zero)))
  earlier_commutes (suc n) b = turn (commutes (e (suc n)) n (omega arith) (λ i l. hooks.apart i (suc n) (omega arith) b))

  level_first : IsLevel m alg top e t f zero
  level_first = record {
    square = on (before m alg (f zero) (f zero) alg.unit projectors.first) (alg.times_unit (f zero));
    right = alg.times_unit (f zero);
    left = alg.unit_times (f zero);
    partial = λ b.
        on (behind m alg (e zero) (alg.times (e zero) (f zero)) (e zero) (on (before m alg (e zero) (f zero) alg.unit projectors.first) (alg.times_unit (e zero))))
        (on (hooks.square zero b) (alg.by_same _ _ _ _ (congruent_sym projectors.t_first) (turn (alg.unit_times (e zero)))));
    kills = λ i b. absurd (omega arith);
    killed = λ i b. absurd (omega arith);
  }

  module _ (n : ℕ) (b : n < top) (l : IsLevel m alg top e t f n) where
    abbrev u : alg.Element
    u = alg.times (alg.times (f n) (e n)) (f n)

    abbrev k : ℤ
    k = neg_ℤ (c n)

    abbrev q : alg.Element
    q = earlier alg.unit f n

    next : alg.Same (f (suc n)) (alg.plus (f n) (alg.by k u))
    next = projectors.next n b

    front : (z : alg.Element) → alg.Same (alg.times z (f (suc n))) (alg.plus (alg.times z (f n)) (alg.by k (alg.times z u)))
    front z = on (before m alg z (f (suc n)) (alg.plus (f n) (alg.by k u)) next) (before_sum m alg z (f n) u k)

    rear : (z : alg.Element) → alg.Same (alg.times (f (suc n)) z) (alg.plus (alg.times (f n) z) (alg.by k (alg.times u z)))
    rear z = on (behind m alg z (f (suc n)) (alg.plus (f n) (alg.by k u)) next) (behind_sum m alg z (f n) u k)

    -- z ((f e) f) is ((z f) e) f
    in_front : (z : alg.Element) → alg.Same (alg.times z u) (alg.times (alg.times (alg.times z (f n)) (e n)) (f n))
    in_front z = on (turn (alg.assoc z (alg.times (f n) (e n)) (f n))) (behind m alg (f n) _ _ (turn (alg.assoc z (f n) (e n))))

    right_next : alg.Same (alg.times (f (suc n)) (f n)) (f (suc n))
    right_next =
        on (rear (f n))
        (on (sum_same m alg _ _ (f n) u k l.square (on (alg.assoc (alg.times (f n) (e n)) (f n) (f n)) (before m alg (alg.times (f n) (e n)) _ _ l.square)))
        (turn next))

    left_next : alg.Same (alg.times (f n) (f (suc n))) (f (suc n))
    left_next =
        on (front (f n))
        (on (sum_same m alg _ _ (f n) u k l.square (on (in_front (f n)) (behind m alg (f n) _ _ (behind m alg (e n) _ _ l.square))))
        (turn next))

    gone : Congruent m (pos 1 +ℤ k *ℤ t n) (pos 0)
    gone = one_less m (c n) (t n) (projectors.inverse n b)

    kills_last : alg.Same (alg.times (e n) (f (suc n))) alg.null
    kills_last =
        on (front (e n))
        (sum_gone m alg _ _ (alg.times (e n) (f n)) k (t n) (alg.same _)
        (on (in_front (e n))
        (on (behind m alg (f n) _ _ (l.partial b))
        (on (alg.by_times (t n) (alg.times q (e n)) (f n))
        (by_inner m alg (t n) _ _
        (on (behind m alg (f n) _ _ (earlier_commutes n b)) (on (alg.assoc (e n) q (f n)) (before m alg (e n) _ _ l.left)))))))
        gone)

    killed_last : alg.Same (alg.times (f (suc n)) (e n)) alg.null
    killed_last =
        on (rear (e n))
        (sum_gone m alg _ _ (alg.times (f n) (e n)) k (t n) (alg.same _)
        (on (alg.assoc (alg.times (f n) (e n)) (f n) (e n))
        (on (alg.assoc (f n) (e n) (alg.times (f n) (e n)))
        (on (before m alg (f n) _ _ (on (turn (alg.assoc (e n) (f n) (e n))) (l.partial b)))
        (on (alg.times_by (t n) (f n) (alg.times q (e n)))
        (by_inner m alg (t n) _ _ (on (turn (alg.assoc (f n) q (e n))) (behind m alg (e n) _ _ l.right)))))))
        gone)

    square_next : alg.Same (alg.times (f (suc n)) (f (suc n))) (f (suc n))
    square_next =
        on (front (f (suc n)))
        (sum_null m alg _ _ (f (suc n)) k right_next
        (on (in_front (f (suc n))) (null_in m alg _ (f n) (on (behind m alg (e n) _ _ right_next) killed_last))))

    partial_next : suc n < top → alg.Same (alg.times (alg.times (e (suc n)) (f (suc n))) (e (suc n))) (alg.by (t (suc n)) (alg.times (f n) (e (suc n))))
    partial_next above =
        let z = e (suc n) in
        let past_f : alg.Same (alg.times z (f n)) (alg.times (f n) z) = commutes z n (omega arith) (λ i a. hooks.apart i (suc n) (omega arith) above) in
        let twice : alg.Same (alg.times (alg.times z (f n)) z) (alg.by d (alg.times (f n) z)) =
        on (behind m alg z _ _ past_f) (on (alg.assoc (f n) z z) (on (before m alg (f n) _ _ (hooks.square (suc n) above)) (alg.times_by d (f n) z))) in
        let core : alg.Same (alg.times (alg.times (alg.times z (f n)) (e n)) z) (alg.times (f n) z) =
        on (behind m alg z _ _ (on (behind m alg (e n) _ _ past_f) (alg.assoc (f n) z (e n))))
        (on (alg.assoc (f n) (alg.times z (e n)) z) (before m alg (f n) _ _ (hooks.down n above))) in
        let once : alg.Same (alg.times (alg.times z u) z) (alg.times (f n) z) =
        on (behind m alg z _ _ (in_front z))
        (on (alg.assoc (alg.times (alg.times z (f n)) (e n)) (f n) z)
        (on (before m alg (alg.times (alg.times z (f n)) (e n)) _ _ (turn past_f))
        (on (turn (alg.assoc (alg.times (alg.times z (f n)) (e n)) z (f n)))
        (on (behind m alg (f n) _ _ core)
        (on (alg.assoc (f n) z (f n))
        (on (before m alg (f n) _ _ past_f)
        (on (turn (alg.assoc (f n) (f n) z)) (behind m alg z _ _ l.square)))))))) in
        on (behind m alg z _ _ (front z))
        (on (behind_sum m alg z (alg.times z (f n)) (alg.times z u) k)
        (on (sum_joined m alg _ _ (alg.times (f n) z) k d twice once)
        (alg.by_same _ _ _ _ (congruent_sym (projectors.t_next n b)) (alg.same _))))

    level_next : IsLevel m alg top e t f (suc n)
    level_next = record {
      square = square_next;
      right = right_next;
      left = left_next;
      partial = partial_next;
      kills = λ i below.
          ⊎_elim
          (λ less. on (front (e i)) (sum_null m alg _ _ alg.null k (l.kills i less) (on (in_front (e i)) (null_in m alg _ (f n) (null_in m alg _ (e n) (l.kills i less))))))
          (λ equal. rw equal kills_last)
          (before_or_at i n below);
      killed = λ i below.
          ⊎_elim
          (λ less. on (rear (e i)) (sum_null m alg _ _ alg.null k (l.killed i less) (on (alg.assoc (alg.times (f n) (e n)) (f n) (e i)) (null_behind m alg _ _ (l.killed i less)))))
          (λ equal. rw equal killed_last)
          (before_or_at i n below);
    }

  pub level : (n : ℕ) → n < suc top → IsLevel m alg top e t f n
  level zero b = level_first
  level (suc n) b = level_next n (omega arith) (level n (omega arith))
