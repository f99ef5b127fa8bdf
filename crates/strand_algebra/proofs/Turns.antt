-- A projector is the unit plus multiples of hooks; so what is that too, and is killed by the hooks, is the projector. A turn
-- of the algebra, which exchanges the factors and takes hooks to hooks, makes such an element of it.
use Rattle.std.proofs.Common.{◌≡◌, ℕ, zero, suc, ◌<◌, ℤ, neg_ℤ, arith, subst}
use Rattle.ring_identities.proofs.Congruences.{congruent_refl}
use Rattle.strand_algebra.proofs.Algebras.{Algebra, AreHooks, AreProjectors}
use Rattle.strand_algebra.proofs.Opposites.{opposite}
use Rattle.strand_algebra.proofs.WenzlRecursion.{level}

-- z is a sum of multiples x (e i), for i below n
pub data Behind (m : ℕ) (alg : Algebra m) (e : ℕ → alg.Element) (n : ℕ) : alg.Element → Type 0 where
  nothing : {z : alg.Element} → alg.Same z alg.null → Behind m alg e n z
  sum : {x y z : alg.Element} → Behind m alg e n x → Behind m alg e n y → alg.Same z (alg.plus x y) → Behind m alg e n z
  multiple : {x z : alg.Element} (a : ℤ) → Behind m alg e n x → alg.Same z (alg.by a x) → Behind m alg e n z
  hook : {z : alg.Element} (x : alg.Element) (i : ℕ) → i < n → alg.Same z (alg.times x (e i)) → Behind m alg e n z

-- the unit and multiples of hooks
pub record IsUnitPlus (m : ℕ) (alg : Algebra m) (e : ℕ → alg.Element) (n : ℕ) (z : alg.Element) : Type 0 where
  pub rest : alg.Element
  pub behind : Behind m alg e n rest
  pub is : alg.Same z (alg.plus alg.unit rest)

module _ (m : ℕ) (alg : Algebra m) (e : ℕ → alg.Element) where
  more : (n : ℕ) (z : alg.Element) → Behind m alg e n z → Behind m alg e (suc n) z
  more n z (nothing h) = nothing h
  more n z (sum {x = x} {y = y} p q h) = sum (more n x p) (more n y q) h
  more n z (multiple {x = x} a p h) = multiple a (more n x p) h
  more n z (hook x i b h) = hook x i (omega arith) h

  before : (n : ℕ) (y z : alg.Element) → Behind m alg e n z → Behind m alg e n (alg.times y z)
  before n y z (nothing h) = nothing (alg.on _ _ _ (alg.times_same y y z alg.null (alg.same y) h) (alg.times_null y))
  before n y z (sum {x = x} {y = u} p q h) = sum (before n y x p) (before n y u q) (alg.on _ _ _ (alg.times_same y y z _ (alg.same y) h) (alg.times_plus y x u))
  before n y z (multiple {x = x} a p h) = multiple a (before n y x p) (alg.on _ _ _ (alg.times_same y y z _ (alg.same y) h) (alg.times_by a y x))
  before n y z (hook x i b h) = hook (alg.times y x) i b (alg.on _ _ _ (alg.times_same y y z _ (alg.same y) h) (alg.back _ _ (alg.assoc y x (e i))))

  -- what the hooks kill, their multiples kill
  kills : (n : ℕ) (g z : alg.Element) → ((i : ℕ) → i < n → alg.Same (alg.times (e i) g) alg.null) → Behind m alg e n z → alg.Same (alg.times z g) alg.null
  kills n g z k (nothing h) = alg.on _ _ _ (alg.times_same z alg.null g g h (alg.same g)) (alg.null_times g)
  kills n g z k (sum {x = x} {y = y} p q h) =
      alg.on _ _ _ (alg.times_same z _ g g h (alg.same g))
      (alg.on _ _ _ (alg.plus_times x y g)
      (alg.on _ _ _ (alg.plus_same _ _ _ _ (kills n g x k p) (kills n g y k q)) (alg.plus_null alg.null)))
  kills n g z k (multiple {x = x} a p h) =
      alg.on _ _ _ (alg.times_same z _ g g h (alg.same g))
      (alg.on _ _ _ (alg.by_times a x g) (alg.on _ _ _ (alg.by_same a a _ _ (congruent_refl m a) (kills n g x k p)) (alg.by_null a)))
  kills n g z k (hook x i b h) =
      alg.on _ _ _ (alg.times_same z _ g g h (alg.same g))
      (alg.on _ _ _ (alg.assoc x (e i) g) (alg.on _ _ _ (alg.times_same x x _ _ (alg.same x) (k i b)) (alg.times_null x)))

  -- a unit plus multiples of hooks keeps what the hooks kill
  pub keeps : (n : ℕ) (f g : alg.Element) → IsUnitPlus m alg e n f → ((i : ℕ) → i < n → alg.Same (alg.times (e i) g) alg.null) → alg.Same (alg.times f g) g
  keeps n f g u k =
      alg.on _ _ _ (alg.times_same f _ g g u.is (alg.same g))
      (alg.on _ _ _ (alg.plus_times alg.unit u.rest g)
      (alg.on _ _ _ (alg.plus_same _ _ _ _ (alg.unit_times g) (kills n g u.rest k u.behind)) (alg.plus_null g)))

  module _ (d : ℤ) (top : ℕ) (c t : ℕ → ℤ) (f : ℕ → alg.Element) (projectors : AreProjectors m alg d top e c t f) where
    pub unit_plus : (n : ℕ) → n < suc top → IsUnitPlus m alg e n (f n)
    unit_plus zero b = record { rest = alg.null; behind = nothing (alg.same alg.null); is = alg.on _ _ _ projectors.first (alg.back _ _ (alg.plus_null alg.unit)) }
    unit_plus (suc n) b =
        let u = unit_plus n (omega arith) in
        let w = alg.times (f n) (e n) in
        let k = neg_ℤ (c n) in
        -- w f is w + w rest
        let tail : Behind m alg e (suc n) (alg.times w (f n)) =
        sum (hook {z = w} (f n) n (omega arith) (alg.same w)) (before (suc n) w u.rest (more n u.rest u.behind))
        (alg.on _ _ _ (alg.times_same w w _ _ (alg.same w) u.is) (alg.on _ _ _ (alg.times_plus w alg.unit u.rest) (alg.plus_same _ _ _ _ (alg.times_unit w) (alg.same (alg.times w u.rest))))) in
        record {
          rest = alg.plus u.rest (alg.by k (alg.times w (f n)));
          behind = sum (more n u.rest u.behind) (multiple k tail (alg.same (alg.by k (alg.times w (f n))))) (alg.same _);
          is = alg.on _ _ _ (projectors.next n (omega arith)) (alg.on _ _ _ (alg.plus_same _ _ _ _ u.is (alg.same _)) (alg.plus_assoc alg.unit u.rest (alg.by k (alg.times w (f n)))));
        }

-- A turn of the algebra about: it keeps sums and multiples, exchanges the factors, and takes each hook below n to such a hook.
pub record IsTurn (m : ℕ) (alg : Algebra m) (e : ℕ → alg.Element) (n : ℕ) (turned : ℕ → ℕ) (turn : alg.Element → alg.Element) : Type 0 where
  pub turn_same : (x y : alg.Element) → alg.Same x y → alg.Same (turn x) (turn y)
  pub turn_null : alg.Same (turn alg.null) alg.null
  pub turn_unit : alg.Same (turn alg.unit) alg.unit
  pub turn_plus : (x y : alg.Element) → alg.Same (turn (alg.plus x y)) (alg.plus (turn x) (turn y))
  pub turn_by : (a : ℤ) (x : alg.Element) → alg.Same (turn (alg.by a x)) (alg.by a (turn x))
  pub turn_times : (x y : alg.Element) → alg.Same (turn (alg.times x y)) (alg.times (turn y) (turn x))
  pub turned_below : (i : ℕ) → i < n → turned i < n
  pub turn_hook : (i : ℕ) → i < n → alg.Same (turn (e i)) (e (turned i))
  pub twice : (i : ℕ) → i < n → turned (turned i) ≡ i

module _ (m : ℕ) (alg : Algebra m) (d : ℤ) (top : ℕ) (e : ℕ → alg.Element) (c t : ℕ → ℤ) (f : ℕ → alg.Element)
    (hooks : AreHooks m alg d top e) (projectors : AreProjectors m alg d top e c t f) (n : ℕ) (b : n < suc top)
    (turned : ℕ → ℕ) (turn : alg.Element → alg.Element) (h : IsTurn m alg e n turned turn) where
  turn_behind : (z : alg.Element) → Behind m alg e n z → Behind m (opposite alg) e n (turn z)
  turn_behind z (nothing p) = nothing (alg.on _ _ _ (h.turn_same z alg.null p) h.turn_null)
  turn_behind z (sum {x = x} {y = y} p q r) = sum (turn_behind x p) (turn_behind y q) (alg.on _ _ _ (h.turn_same z _ r) (h.turn_plus x y))
  turn_behind z (multiple {x = x} a p r) = multiple a (turn_behind x p) (alg.on _ _ _ (h.turn_same z _ r) (h.turn_by a x))
  turn_behind z (hook x i l r) =
      hook (turn x) (turned i) (h.turned_below i l)
      (alg.on _ _ _ (h.turn_same z _ r) (alg.on _ _ _ (h.turn_times x (e i)) (alg.times_same _ _ _ _ (h.turn_hook i l) (alg.same (turn x)))))

  hook_from : (i : ℕ) → i < n → alg.Same (e i) (turn (e (turned i)))
  hook_from i a = let s = alg.back _ _ (h.turn_hook (turned i) (h.turned_below i a)) in subst (λ k. alg.Same (e k) (turn (e (turned i)))) (h.twice i a) s

  -- THE PROJECTOR IS UNCHANGED
  pub turned_projector : alg.Same (turn (f n)) (f n)
  turned_projector =
      let u = unit_plus m alg e d top c t f projectors n b in
      let l = level m alg d top e c t f hooks projectors n b in
      let killed : (i : ℕ) → i < n → alg.Same (alg.times (e i) (turn (f n))) alg.null =
      λ i a. alg.on _ _ _ (alg.times_same _ _ _ _ (hook_from i a) (alg.same (turn (f n))))
      (alg.on _ _ _ (alg.back _ _ (h.turn_times (f n) (e (turned i)))) (alg.on _ _ _ (h.turn_same _ _ (l.killed (turned i) (h.turned_below i a))) h.turn_null)) in
      -- f (turn f) is turn f, and is f
      let one : alg.Same (alg.times (f n) (turn (f n))) (turn (f n)) = keeps m alg e n (f n) (turn (f n)) u killed in
      let plus : IsUnitPlus m (opposite alg) e n (turn (f n)) =
      record { rest = turn u.rest; behind = turn_behind u.rest u.behind; is = alg.on _ _ _ (h.turn_same _ _ u.is) (alg.on _ _ _ (h.turn_plus alg.unit u.rest) (alg.plus_same _ _ _ _ h.turn_unit (alg.same (turn u.rest)))) } in
      let two : alg.Same (alg.times (f n) (turn (f n))) (f n) = keeps m (opposite alg) e n (turn (f n)) (f n) plus l.killed in
      alg.on _ _ _ (alg.back _ _ one) two
