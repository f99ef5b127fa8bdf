-- Labels that tell the pairs of a pairing, and an edge that joins two of its pairs: then the partners of the edge's ends are
-- partners, and the labels tell that. So no degrees are counted and nothing is walked.
--
--     Matches inside l m       m exchanges the names inside by pairs, and the labels l tell exactly these pairs
use Rattle.std.proofs.Common.{◌≡◌, ℕ, Bool, true, false, not, nat_lt, ◌&&◌, ◌||◌, ◌==◌, if◌then◌else◌, List, sym, ap, ◌∙◌, arith, All, Contains}
use Rattle.std.proofs.lemmas.List.Elements.{All-weaker}
use Rattle.std.proofs.lemmas.Bool.Decides.{nat_tests}
use Rattle.list_lemmas.proofs.Bools.{and_first, and_second}
use Rattle.graph_parts.proofs.Through.{keeps_Joined}
use Rattle.graph_parts.proofs.Agreement.{eqb_from_iff}
use Rattle.graph_parts.proofs.Walks.{Joined-from_labels, labels-from_Joined}
use Rattle.graph_parts.specs.Labels.{relabel, label_of}
use Rattle.graph_parts.specs.Walks.{along}

-- m exchanges the names inside by pairs, and l tells these pairs.
pub record Matches (inside : ℕ → Bool) (l m : ℕ → ℕ) : Type 0 where
  pub stays : (u : ℕ) → inside u ≡ true → inside (m u) ≡ true
  pub turns : (u : ℕ) → inside u ≡ true → m (m u) ≡ u
  pub moves : (u : ℕ) → inside u ≡ true → (m u == u) ≡ false
  pub tells : (u v : ℕ) → inside u ≡ true → inside v ≡ true → (l u == l v) ≡ (u == v || m u == v)

-- an edge between a and b joins the partners of a and b
abbrev pub cut : (ℕ → ℕ) → ℕ → ℕ → ℕ → ℕ
cut m a b x = if m x == a then m b else (if m x == b then m a else m x)

abbrev pub without : (ℕ → Bool) → ℕ → ℕ → ℕ → Bool
without inside a b x = inside x && (not (x == a) && not (x == b))

from_not : (b : Bool) → not b ≡ true → b ≡ false
from_not b h = grind (arith, h)

swapped_plain : (m : ℕ → ℕ) (x y : ℕ) → m (m x) ≡ x → m (m y) ≡ y → (m x == y) ≡ (m y == x)
swapped_plain m x y p q = eqb_from_iff (m x) y (m y) x (λ e. sym (ap m e) ∙ p) (λ e. sym (ap m e) ∙ q)

-- the four laws over numbers alone: mu, mv, ma, mb are the partners
stays_plain : (inside : ℕ → Bool) (u a b mu ma mb : ℕ) → inside mu ≡ true → inside ma ≡ true → inside mb ≡ true →
    (u == a) ≡ false → (u == b) ≡ false → (a == b) ≡ false → (ma == a) ≡ false → (mb == b) ≡ false → (mu == a) ≡ (ma == u) → (mu == b) ≡ (mb == u) → (ma == b) ≡ (mb == a) →
    without inside a b (if mu == a then mb else (if mu == b then ma else mu)) ≡ true
stays_plain inside u a b mu ma mb iu ia ib ua ub ab na nb sa sb sab = grind (arith, nat_tests)

moves_plain : (u a b mu ma mb : ℕ) → (mu == u) ≡ false →
    (u == a) ≡ false → (u == b) ≡ false → (a == b) ≡ false → (mu == a) ≡ (ma == u) → (mu == b) ≡ (mb == u) →
    ((if mu == a then mb else (if mu == b then ma else mu)) == u) ≡ false
moves_plain u a b mu ma mb nu ua ub ab sa sb = grind (arith, nat_tests)

tells_plain : (u v a b mu mv ma mb lu lv la lb : ℕ) → (u == a) ≡ false → (u == b) ≡ false → (v == a) ≡ false → (v == b) ≡ false →
    (lu == lv) ≡ (u == v || mu == v) → (lu == la) ≡ (mu == a) → (lv == la) ≡ (mv == a) → (lu == lb) ≡ (mu == b) → (lv == lb) ≡ (mv == b) →
    (mu == a) ≡ (ma == u) → (mv == a) ≡ (ma == v) → (mu == b) ≡ (mb == u) → (mv == b) ≡ (mb == v) →
    ((if lu == la then lb else lu) == (if lv == la then lb else lv)) ≡ (u == v || (if mu == a then mb else (if mu == b then ma else mu)) == v)
tells_plain u v a b mu mv ma mb lu lv la lb h1 h2 h3 h4 uv ua va ub vb sua sva sub svb = grind (arith, nat_tests)

turns_plain : (m : ℕ → ℕ) (a b u : ℕ) → m (m u) ≡ u → m (m a) ≡ a → m (m b) ≡ b → (u == a) ≡ false → (u == b) ≡ false → (m a == a) ≡ false → (m b == b) ≡ false → cut m a b (cut m a b u) ≡ u
turns_plain m a b u tu ta tb ua ub na nb = grind (arith, nat_tests)

module _ (inside : ℕ → Bool) (l m : ℕ → ℕ) (h : Matches inside l m) where
  exchanged : (x y : ℕ) → inside x ≡ true → inside y ≡ true → (m x == y) ≡ (m y == x)
  exchanged x y p q = swapped_plain m x y (h.turns x p) (h.turns y q)

  apart_tells : (x y : ℕ) → inside x ≡ true → inside y ≡ true → (x == y) ≡ false → (l x == l y) ≡ (m x == y)
  apart_tells x y p q d = h.tells x y p q ∙ ap (λ k. k || m x == y) d

module _ (inside : ℕ → Bool) (l m : ℕ → ℕ) (a b : ℕ) (p : inside a ≡ true) (q : inside b ≡ true) (d : (a == b) ≡ false) (h : Matches inside l m) where
  within : (u : ℕ) → without inside a b u ≡ true → inside u ≡ true
  within u i = and_first (inside u) _ i

  not_a : (u : ℕ) → without inside a b u ≡ true → (u == a) ≡ false
  not_a u i = from_not (u == a) (and_first (not (u == a)) _ (and_second (inside u) _ i))

  not_b : (u : ℕ) → without inside a b u ≡ true → (u == b) ≡ false
  not_b u i = from_not (u == b) (and_second (not (u == a)) _ (and_second (inside u) _ i))

  pub Matches-cut : Matches (without inside a b) (relabel l (a, b)) (cut m a b)
  Matches-cut = record {
    stays = λ u i. stays_plain inside u a b (m u) (m a) (m b) (h.stays u (within u i)) (h.stays a p) (h.stays b q) (not_a u i) (not_b u i) d (h.moves a p) (h.moves b q)
        (exchanged inside l m h u a (within u i) p) (exchanged inside l m h u b (within u i) q) (exchanged inside l m h a b p q);
    turns = λ u i. turns_plain m a b u (h.turns u (within u i)) (h.turns a p) (h.turns b q) (not_a u i) (not_b u i) (h.moves a p) (h.moves b q);
    moves = λ u i. moves_plain u a b (m u) (m a) (m b) (h.moves u (within u i)) (not_a u i) (not_b u i) d (exchanged inside l m h u a (within u i) p) (exchanged inside l m h u b (within u i) q);
    tells = λ u v i j. tells_plain u v a b (m u) (m v) (m a) (m b) (l u) (l v) (l a) (l b) (not_a u i) (not_b u i) (not_a v j) (not_b v j)
        (h.tells u v (within u i) (within v j))
        (apart_tells inside l m h u a (within u i) p (not_a u i)) (apart_tells inside l m h v a (within v j) p (not_a v j))
        (apart_tells inside l m h u b (within u i) q (not_b u i)) (apart_tells inside l m h v b (within v j) q (not_b v j))
        (exchanged inside l m h u a (within u i) p) (exchanged inside l m h v a (within v j) p) (exchanged inside l m h u b (within u i) q) (exchanged inside l m h v b (within v j) q);
  }

pub Matches-same : (i j : ℕ → Bool) (l m : ℕ → ℕ) → ((x : ℕ) → i x ≡ j x) → Matches i l m → Matches j l m
Matches-same i j l m e h = record {
  stays = λ u p. sym (e (m u)) ∙ h.stays u (e u ∙ p);
  turns = λ u p. h.turns u (e u ∙ p);
  moves = λ u p. h.moves u (e u ∙ p);
  tells = λ u v p q. h.tells u v (e u ∙ p) (e v ∙ q);
}

-- ---- the edges of a pairing
lesser_of : (ℕ → ℕ) → ℕ → ℕ
lesser_of m x = if nat_lt x (m x) then x else m x

kept_plain : (m : ℕ → ℕ) (x y : ℕ) → y ≡ m x → m (m x) ≡ x → lesser_of m x ≡ lesser_of m y
unfolding lesser_of
kept_plain m x y e t = let s : m y ≡ x = ap m e ∙ t in grind (arith, nat_tests)

least_plain : (u v mu mv : ℕ) → (if nat_lt u mu then u else mu) ≡ (if nat_lt v mv then v else mv) → (u == v) ≡ false → (mu == v) ≡ false → (mv == u) ≡ false → mu ≡ mv
least_plain u v mu mv h a b c = grind (arith, nat_tests)

both : (lu lv u v mu mv : ℕ) → (lu ≡ lv → (if nat_lt u mu then u else mu) ≡ (if nat_lt v mv then v else mv)) → (mu ≡ v → lu ≡ lv) → (u ≡ v → lu ≡ lv) → (mu == v) ≡ (mv == u) → (mu ≡ mv → u ≡ v) →
    (lu == lv) ≡ (u == v || mu == v)
both lu lv u v mu mv one two three four five = let six = least_plain u v mu mv in grind (arith, nat_tests)

module _ (inside : ℕ → Bool) (m : ℕ → ℕ) (es : List (ℕ × ℕ)) (stays : (u : ℕ) → inside u ≡ true → inside (m u) ≡ true) (turns : (u : ℕ) → inside u ≡ true → m (m u) ≡ u) (moves : (u : ℕ) → inside u ≡ true → (m u == u) ≡ false)
    (only : All (λ e. (inside e.0 ≡ true) × (e.1 ≡ m e.0)) es) (has : (u : ℕ) → inside u ≡ true → Contains es (u, m u)) where
  keeps : All (λ e. lesser_of m e.0 ≡ lesser_of m e.1) es
  unfolding lesser_of
  keeps = All-weaker (λ e. (inside e.0 ≡ true) × (e.1 ≡ m e.0)) (λ e. lesser_of m e.0 ≡ lesser_of m e.1) (λ e f. kept_plain m e.0 e.1 f.1 (turns e.0 f.0)) es only

  pub Matches-pairs : Matches inside (label_of es) m
  unfolding lesser_of
  Matches-pairs = record {
    stays = stays;
    turns = turns;
    moves = moves;
    tells = λ u v p q.
        let tu = turns u p in let tv = turns v q in
        let one : label_of es u ≡ label_of es v → lesser_of m u ≡ lesser_of m v = λ e. keeps_Joined (lesser_of m) es keeps (Joined-from_labels es u v e) in
        let two : m u ≡ v → label_of es u ≡ label_of es v = λ e. labels-from_Joined es (along (rw e at (has u p))) in
        let three : u ≡ v → label_of es u ≡ label_of es v = λ e. ap (label_of es) e in
        both (label_of es u) (label_of es v) u v (m u) (m v) one two three (swapped_plain m u v tu tv) (λ e. sym tu ∙ ap m e ∙ tv);
  }

pub Matches-partner : (i : ℕ → Bool) (l m k : ℕ → ℕ) → ((x : ℕ) → i x ≡ true → m x ≡ k x) → Matches i l m → Matches i l k
Matches-partner i l m k e h = record {
  stays = λ u p. ap i (sym (e u p)) ∙ h.stays u p;
  turns = λ u p. sym (e (k u) (ap i (sym (e u p)) ∙ h.stays u p)) ∙ ap m (sym (e u p)) ∙ h.turns u p;
  moves = λ u p. ap (λ t. t == u) (sym (e u p)) ∙ h.moves u p;
  tells = λ u v p q. h.tells u v p q ∙ ap (λ t. u == v || t == v) (e u p);
}
