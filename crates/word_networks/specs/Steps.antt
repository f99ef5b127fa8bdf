-- Networks of words. Names are carried along: each point has the name of the edge that ends there, and a letter gives its two
-- points new names. A step may also give one point a new name, by an arc, or join two points by an arc.
--
--     Step                              a letter on two points with the names behind it, an arc to a new name, or an arc between points
--     named name p new                  the names, with a new one at p
--     names_after name steps            the names of the points behind the steps
--     points_after points steps         the points that are not joined
--     step_nodes name steps             the steps' nodes: a crossing with the ends in the order south, east, north, west
--     step_sum delta steps worth mate   as word_sum: over all choices of a term of each step
use Rattle.std.specs.Prelude.{◌≡◌, ◌≢◌, ℕ, ◌+◌, ◌*◌, ◌^◌, ◌==◌, ◌&&◌, not, if◌then◌else◌, true, false, ◌||◌, List, [], ◌∷◌, map}
use Rattle.std.specs.List.{filter, AllPass}
use Rattle.std.specs.Set.{is_member}
use Rattle.strand_words.specs.Matings.{IsMating, hooked, loop_worth}
use Rattle.state_sums.specs.LocalSums.{arc, crossing}
use Rattle.state_sums.specs.Networks.{Node, names_of}

-- A letter on the points p (left) and q (right), with its weights and the names behind it; an arc to a new name; an arc between
-- two points.
pub data Step : Type 0 where
  letter : (p q straight hook left right : ℕ) → Step
  pass : (p new : ℕ) → Step
  join : (p q : ℕ) → Step

-- A new name at p.
abbrev pub named : (ℕ → ℕ) → ℕ → ℕ → ℕ → ℕ
named name p new x = if x == p then new else name x

abbrev pub name_after : (ℕ → ℕ) → Step → ℕ → ℕ
name_after name (letter p q straight hook left right) = named (named name q right) p left
name_after name (pass p new) = named name p new
name_after name (join p q) = name

abbrev pub node_of : (ℕ → ℕ) → Step → Node
node_of name (letter p q straight hook left right) = crossing straight hook (name q) right left (name p)
node_of name (pass p new) = arc (name p) new
node_of name (join p q) = arc (name p) (name q)

-- The names behind the steps.
abbrev pub names_after : (ℕ → ℕ) → List Step → ℕ → ℕ
names_after name [] = name
names_after name (step ∷ steps) = names_after (name_after name step) steps

-- The nodes, in order.
abbrev pub step_nodes : (ℕ → ℕ) → List Step → List Node
step_nodes name [] = []
step_nodes name (step ∷ steps) = node_of name step ∷ step_nodes (name_after name step) steps

-- All but p and q.
abbrev pub without : ℕ → ℕ → List ℕ → List ℕ
without p q points = filter (λ x. not (x == p) && not (x == q)) points

abbrev pub points_of : List ℕ → Step → List ℕ
points_of points (letter p q straight hook left right) = points
points_of points (pass p new) = points
points_of points (join p q) = without p q points

-- The points that are left.
abbrev pub points_after : List ℕ → List Step → List ℕ
points_after points [] = points
points_after points (step ∷ steps) = points_after (points_of points step) steps

-- Over all choices of a term of each step.
abbrev pub step_sum : ℕ → List Step → ((ℕ → ℕ) → ℕ) → (ℕ → ℕ) → ℕ
step_sum delta [] worth mate = worth mate
step_sum delta (letter p q straight hook left right ∷ steps) worth mate =
    straight * step_sum delta steps worth mate + hook * (loop_worth delta p q mate * step_sum delta steps worth (hooked p q mate))
step_sum delta (pass p new ∷ steps) worth mate = step_sum delta steps worth mate
step_sum delta (join p q ∷ steps) worth mate = loop_worth delta p q mate * step_sum delta steps worth (hooked p q mate)

-- A step's points are there, and its names are new.
abbrev pub IsStep : List ℕ → List ℕ → Step → Type 0
IsStep points seen (letter p q straight hook left right) =
    (p ≢ q) × (is_member ◌==◌ points p ≡ true) × (is_member ◌==◌ points q ≡ true) × (is_member ◌==◌ seen right ≡ false) × (is_member ◌==◌ (right ∷ seen) left ≡ false)
IsStep points seen (pass p new) = (is_member ◌==◌ points p ≡ true) × (is_member ◌==◌ seen new ≡ false)
IsStep points seen (join p q) = (p ≢ q) × (is_member ◌==◌ points p ≡ true) × (is_member ◌==◌ points q ≡ true)

abbrev pub seen_of : List ℕ → Step → List ℕ
seen_of seen (letter p q straight hook left right) = left ∷ right ∷ seen
seen_of seen (pass p new) = new ∷ seen
seen_of seen (join p q) = seen

-- Each step's points are there, and its names are new.
abbrev pub AreSteps : List ℕ → List ℕ → List Step → Type 0
AreSteps points seen [] = Unit {0}
AreSteps points seen (step ∷ steps) = IsStep points seen step × AreSteps (points_of points step) (seen_of seen step) steps

-- The names so far.
abbrev pub seen_after : List ℕ → List Step → List ℕ
seen_after seen [] = seen
seen_after seen (step ∷ steps) = seen_after (seen_of seen step) steps

-- The name of the first point that is u or its mate.
abbrev pub first_name : (ℕ → ℕ) → (ℕ → ℕ) → List ℕ → ℕ → ℕ
first_name name mate [] u = name u
first_name name mate (v ∷ points) u = if u == v || mate u == v then name v else first_name name mate points u

-- The pattern of the points' names that a mating makes.
abbrev pub mate_pattern : (ℕ → ℕ) → List ℕ → (ℕ → ℕ) → List ℕ
mate_pattern name points mate = map (first_name name mate points) points

-- What a mating is worth where the pattern of the points' names is worth so much.
abbrev pub mate_worth : ℕ → ℕ → (List ℕ → ℕ) → (ℕ → ℕ) → List ℕ → (ℕ → ℕ) → ℕ
mate_worth delta free worth name points mate = delta ^ free * worth (mate_pattern name points mate)

-- Names of points fit a mating: two points have one name just where they are mates.
pub record AreNamed (points : List ℕ) (name mate : ℕ → ℕ) : Type 0 where
  pub mating : IsMating mate
  pub closed : (u : ℕ) → is_member ◌==◌ points u ≡ true → is_member ◌==◌ points (mate u) ≡ true
  pub tells : (u v : ℕ) → is_member ◌==◌ points u ≡ true → is_member ◌==◌ points v ≡ true → (name u == name v) ≡ ((u == v) || (mate u == v))

-- The steps may be taken, and meet each of the names that there are before them.
pub record AreStepsFrom (points : List ℕ) (name : ℕ → ℕ) (steps : List Step) : Type 0 where
  pub are_steps : AreSteps points (map name points) steps
  pub meets_all : AllPass (is_member ◌==◌ (names_of (step_nodes name steps))) (map name points)

-- The names that the steps give.
abbrev pub new_names : List Step → List ℕ
new_names [] = []
new_names (letter p q straight hook left right ∷ steps) = right ∷ left ∷ new_names steps
new_names (pass p new ∷ steps) = new ∷ new_names steps
new_names (join p q ∷ steps) = new_names steps

-- No number stands twice.
abbrev pub AreDistinct : List ℕ → Type 0
AreDistinct [] = Unit {0}
AreDistinct (x ∷ xs) = (is_member ◌==◌ xs x ≡ false) × AreDistinct xs

-- The steps' points are there.
abbrev pub HavePoints : List ℕ → List Step → Type 0
HavePoints points [] = Unit {0}
HavePoints points (letter p q straight hook left right ∷ steps) = (p ≢ q) × (is_member ◌==◌ points p ≡ true) × (is_member ◌==◌ points q ≡ true) × HavePoints points steps
HavePoints points (pass p new ∷ steps) = (is_member ◌==◌ points p ≡ true) × HavePoints points steps
HavePoints points (join p q ∷ steps) = (p ≢ q) × (is_member ◌==◌ points p ≡ true) × (is_member ◌==◌ points q ≡ true) × HavePoints (without p q points) steps
