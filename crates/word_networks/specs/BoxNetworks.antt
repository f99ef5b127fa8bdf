-- A node with many terms before the steps: a box. Its ends are points with names of their own; the other points stand, so that
-- the two points of a strand have one name.
--
--     IsTermOn node points name mate term      the term's pairs are those of the mating, on the box's points
--     AreTermsOn node points name terms box    each term's pairs are those of a mating with its weight
--     AreBoxed box points name mate            the names of the box's points are theirs alone; the other points stand
use Rattle.std.specs.Prelude.{◌≡◌, ℕ, ◌==◌, ◌||◌, true, false, List, [], ◌∷◌, ◌++◌, map}
use Rattle.std.specs.List.{AllPass, Contains}
use Rattle.std.specs.Set.{is_member}
use Rattle.strand_words.specs.Boxes.{Weighted}
use Rattle.strand_words.specs.Matings.{IsMating}
use Rattle.word_networks.specs.Steps.{Step, step_nodes, AreSteps}
use Rattle.state_sums.specs.Networks.{Node, Term, names_of}
use Rattle.state_sums.specs.StateSums.{term_edges}

-- The term's pairs are those of the mating.
pub record IsTermOn (node : Node) (points : List ℕ) (name mate : ℕ → ℕ) (term : Term) : Type 0 where
  pub from : (x y : ℕ) → Contains (term_edges node term) (x, y) → (u : ℕ) × (is_member ◌==◌ points u ≡ true) × (x ≡ name u) × (y ≡ name (mate u))
  pub has : (u : ℕ) → is_member ◌==◌ points u ≡ true → Contains (term_edges node term) (name u, name (mate u))

-- Each term has its mating, with its weight.
abbrev pub AreTermsOn : Node → List ℕ → (ℕ → ℕ) → List Term → List Weighted → Type 0
AreTermsOn node points name [] [] = Unit {0}
AreTermsOn node points name [] (one ∷ box) = ⊥
AreTermsOn node points name (term ∷ terms) [] = ⊥
AreTermsOn node points name (term ∷ terms) (one ∷ box) = (term.weight ≡ one.weight) × IsTermOn node points name one.mate term × AreTermsOn node points name terms box

-- The names of the box's points are theirs alone, and the other points stand: two of them have one name just where they are mates.
pub record AreBoxed (inner points : List ℕ) (name mate : ℕ → ℕ) : Type 0 where
  pub mating : IsMating mate
  pub within : (u : ℕ) → is_member ◌==◌ inner u ≡ true → is_member ◌==◌ points u ≡ true
  pub inside : (u : ℕ) → is_member ◌==◌ inner u ≡ true → is_member ◌==◌ inner (mate u) ≡ true
  pub closed : (u : ℕ) → is_member ◌==◌ points u ≡ true → is_member ◌==◌ points (mate u) ≡ true
  pub alone : (u v : ℕ) → is_member ◌==◌ points u ≡ true → is_member ◌==◌ inner v ≡ true → name u ≡ name v → u ≡ v
  pub stand : (u v : ℕ) → is_member ◌==◌ points u ≡ true → is_member ◌==◌ points v ≡ true → is_member ◌==◌ inner u ≡ false → is_member ◌==◌ inner v ≡ false →
      (name u == name v) ≡ ((u == v) || (mate u == v))

-- The steps behind the box may be taken, and meet each name, the box's among them.
pub record AreStepsBehind (node : Node) (inner points : List ℕ) (name : ℕ → ℕ) (steps : List Step) : Type 0 where
  pub are_steps : AreSteps points (map name points) steps
  pub ends : (x : ℕ) → is_member ◌==◌ node.ends x ≡ true → is_member ◌==◌ (map name inner) x ≡ true
  pub meets_all : AllPass (is_member ◌==◌ (node.ends ++ names_of (step_nodes name steps))) (map name points)
