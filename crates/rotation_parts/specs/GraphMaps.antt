-- Maps between graphs that take walks to walks: the graphs then have as many parts.
--
--     IsRetract names others es fs f g     f takes the names to the others, where joined names become one, and g back
--     AreMatched names others es fs f g    the same, where g after f, and f after g, stay in the part
use Rattle.std.specs.Prelude.{◌≡◌, ℕ, ◌==◌, true, List}
use Rattle.std.specs.List.{Contains}
use Rattle.std.specs.Set.{is_member}
use Rattle.graph_parts.specs.Walks.{Joined}

-- A graph and what is left of it where names become one: f takes the names to the others, g back, and f and g take walks to walks.
pub record IsRetract (names others : List ℕ) (es fs : List (ℕ × ℕ)) (f g : ℕ → ℕ) : Type 0 where
  pub onto_others : (x : ℕ) → is_member ◌==◌ names x ≡ true → is_member ◌==◌ others (f x) ≡ true
  pub into_names : (u : ℕ) → is_member ◌==◌ others u ≡ true → is_member ◌==◌ names (g u) ≡ true
  pub one_of : (u : ℕ) → is_member ◌==◌ others u ≡ true → f (g u) ≡ u
  pub near : (x : ℕ) → is_member ◌==◌ names x ≡ true → Joined es x (g (f x))
  pub down : (x y : ℕ) → Contains es (x, y) → Joined fs (f x) (f y)
  pub up : (u v : ℕ) → Contains fs (u, v) → Joined es (g u) (g v)

-- The same, where neither graph is part of the other: g after f, and f after g, stay in the part.
pub record AreMatched (names others : List ℕ) (es fs : List (ℕ × ℕ)) (f g : ℕ → ℕ) : Type 0 where
  pub onto_others : (x : ℕ) → is_member ◌==◌ names x ≡ true → is_member ◌==◌ others (f x) ≡ true
  pub into_names : (u : ℕ) → is_member ◌==◌ others u ≡ true → is_member ◌==◌ names (g u) ≡ true
  pub near : (x : ℕ) → is_member ◌==◌ names x ≡ true → Joined es x (g (f x))
  pub near_again : (u : ℕ) → is_member ◌==◌ others u ≡ true → Joined fs u (f (g u))
  pub down : (x y : ℕ) → Contains es (x, y) → Joined fs (f x) (f y)
  pub up : (u v : ℕ) → Contains fs (u, v) → Joined es (g u) (g v)
