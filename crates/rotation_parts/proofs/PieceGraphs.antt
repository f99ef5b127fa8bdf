-- The graph of pieces: each name is joined to the next of its vertex and to the one that it is paired with. Names that an edge got are
-- gathered at one of its ends.
use Rattle.std.proofs.Common.{◌≡◌, ◌≢◌, ℕ, ◌==◌, true, false, cond, List, sym, ap, subst, arith, ⊎_elim, Contains}
use Rattle.std.specs.Set.{is_member}
use Rattle.std.proofs.lemmas.Bool.{eq-eqb, eqb-true, cases_Bool}
use Rattle.std.proofs.lemmas.List.Elements.{Contains-append_left, Contains-append_right, Contains-append_cases}
use Rattle.graph_parts.specs.Ends.{AreAmong}
use Rattle.graph_parts.specs.Walks.{Joined, along, back, on}
use Rattle.graph_parts.proofs.Ends.{EndsAre-append}
use Rattle.rotation_parts.specs.Rotations.{steps, pair_graph}
use Rattle.rotation_parts.proofs.Steps.{step_of, equal_joined, step_along, steps_among, walks}

-- ---- names that an edge got, at its end p
module _ (names : List ℕ) (p : ℕ) where
  abbrev pub gather : ℕ → ℕ
  gather x = cond (is_member ◌==◌ names x) x p

  pub gather_old : (x : ℕ) → is_member ◌==◌ names x ≡ true → gather x ≡ x
  gather_old x m = ap (λ z. cond z x p) m

  pub gather_new : (x : ℕ) → is_member ◌==◌ names x ≡ false → gather x ≡ p
  gather_new x m = ap (λ z. cond z x p) m

-- ---- the graph of pieces
module _ (names : List ℕ) (turn other : ℕ → ℕ) where
  pub pair_among : ((x : ℕ) → is_member ◌==◌ names x ≡ true → is_member ◌==◌ names (other x) ≡ true) → ((x : ℕ) → is_member ◌==◌ names x ≡ true → is_member ◌==◌ names (turn x) ≡ true) → AreAmong names (pair_graph names turn other)
  pair_among h k = EndsAre-append (is_member ◌==◌ names) (steps other names) (steps turn names) (steps_among other names h) (steps_among turn names k)

  pub over : (x : ℕ) → is_member ◌==◌ names x ≡ true → Joined (pair_graph names turn other) x (other x)
  over x m = walks (steps other names) (pair_graph names turn other) (λ y z e. along (Contains-append_left (steps other names) (steps turn names) (y, z) e)) (step_along other names x m)

  pub round : (x : ℕ) → is_member ◌==◌ names x ≡ true → Joined (pair_graph names turn other) x (turn x)
  round x m = walks (steps turn names) (pair_graph names turn other) (λ y z e. along (Contains-append_right (steps other names) (steps turn names) (y, z) e)) (step_along turn names x m)

  -- walks of pieces, step by step
  pub piece_walks : (fs : List (ℕ × ℕ)) (f : ℕ → ℕ) → ((x : ℕ) → is_member ◌==◌ names x ≡ true → Joined fs (f x) (f (other x))) → ((x : ℕ) → is_member ◌==◌ names x ≡ true → Joined fs (f x) (f (turn x))) →
      (x y : ℕ) → Contains {X = ℕ × ℕ} (pair_graph names turn other) (x, y) → Joined fs (f x) (f y)
  piece_walks fs f h k x y c =
      ⊎_elim
      (λ l. let r = step_of other names x y l in on (h x r.0) (equal_joined fs (f (other x)) (f y) (ap f r.1)))
      (λ l. let r = step_of turn names x y l in on (k x r.0) (equal_joined fs (f (turn x)) (f y) (ap f r.1)))
      (Contains-append_cases (steps other names) (steps turn names) (x, y) c)

-- ---- an edge from p to q that was drawn on: its ends aside, names are paired as before
module _ (names : List ℕ) (other drawn : ℕ → ℕ) (p q : ℕ) (kept : (x : ℕ) → is_member ◌==◌ names x ≡ true → x ≢ p → x ≢ q → drawn x ≡ other x) where
  -- p, q, or another one
  pub by_end : (T : ℕ → Type 0) → T p → T q → ((x : ℕ) → is_member ◌==◌ names x ≡ true → drawn x ≡ other x → T x) → (x : ℕ) → is_member ◌==◌ names x ≡ true → T x
  by_end T tp tq rest x m =
      ⊎_elim (λ t. subst T (sym (eqb-true x p t)) tp)
      (λ n. ⊎_elim (λ t. subst T (sym (eqb-true x q t)) tq)
      (λ o. rest x m (kept x m (λ e. (let k = eq-eqb x p e in grind (arith, k, n))) (λ e. (let k = eq-eqb x q e in grind (arith, k, o)))))
      (cases_Bool (x == q)))
      (cases_Bool (x == p))

  -- where the drawn edge joins p and q, names are joined that were paired
  pub still_over : (more : List ℕ) (turn : ℕ → ℕ) → ((x : ℕ) → is_member ◌==◌ names x ≡ true → is_member ◌==◌ more x ≡ true) → Joined (pair_graph more turn drawn) p q → other p ≡ q → other q ≡ p →
      (x : ℕ) → is_member ◌==◌ names x ≡ true → Joined (pair_graph more turn drawn) x (other x)
  still_over more turn sub joined pq qp =
      let drawn_graph = pair_graph more turn drawn in
      by_end (λ x. Joined drawn_graph x (other x))
      (on joined (equal_joined drawn_graph q (other p) (sym pq)))
      (on (back joined) (equal_joined drawn_graph p (other q) (sym qp)))
      (λ x m e. on (over more turn drawn x (sub x m)) (equal_joined drawn_graph (drawn x) (other x) e))
