-- Patterns: how a graph joins some of its names, the open ones. A pattern names for each open name the first open name
-- of its part, so that two graphs join their open names alike exactly where their patterns are one.
--
--     first_open names edges open_names x     the first open name of x's part, or x
--     pattern names edges open_names          the first fellow of each open name; of the open names 1 2 3 with the
--                                             edge (3,1), it is 1,2,1
--     closed_parts names edges open_names     the parts without an open name: all less those that an open name lies in
--     MeetOnlyIn names others open_names      two graphs meet in the open names alone, and the first has each of these
--
-- and, by labels, for the proofs: first_like, label_pattern, label_closed.
use Rattle.std.specs.Prelude.{◌≡◌, ℕ, ◌-◌, ◌==◌, if◌then◌else◌, true, List, [], ◌∷◌, map}
use Rattle.std.specs.List.{AllPass}
use Rattle.std.specs.Set.{is_member, distinct_count}
use Rattle.graph_parts.specs.Labels.{label_of, label_count}
use Rattle.graph_parts.specs.Parts.{part, part_count}

-- The first of the names that stands in the list, or x.
abbrev pub first_among : List ℕ → List ℕ → ℕ → ℕ
first_among names [] x = x
first_among names (y ∷ ys) x = if is_member ◌==◌ names y then y else first_among names ys x

-- The first open name of x's part.
abbrev pub first_open : List ℕ → List (ℕ × ℕ) → List ℕ → ℕ → ℕ
first_open names edges open_names x = first_among (part names edges x) open_names x

-- For each open name the first open name of its part.
abbrev pub pattern : List ℕ → List (ℕ × ℕ) → List ℕ → List ℕ
pattern names edges open_names = map (first_open names edges open_names) open_names

-- How many parts have no open name: all less those that an open name lies in.
abbrev pub closed_parts : List ℕ → List (ℕ × ℕ) → List ℕ → ℕ
closed_parts names edges open_names = part_count names edges - distinct_count ◌==◌ (pattern names edges open_names)

-- The second graph's names meet the first's in open ones alone.
pub record MeetOnlyIn (names others open_names : List ℕ) : Type 0 where
  pub has_open : AllPass (is_member ◌==◌ names) open_names
  pub meets : (x : ℕ) → is_member ◌==◌ others x ≡ true → is_member ◌==◌ names x ≡ true → is_member ◌==◌ open_names x ≡ true

-- The first of the names that has x's label, or x.
abbrev pub first_like : (ℕ → ℕ) → List ℕ → ℕ → ℕ
first_like label [] x = x
first_like label (y ∷ names) x = if label x == label y then y else first_like label names x

-- The pattern, by labels.
abbrev pub label_pattern : List (ℕ × ℕ) → List ℕ → List ℕ
label_pattern edges open_names = map (first_like (label_of edges) open_names) open_names

-- How many labels no open name has.
abbrev pub label_closed : List (ℕ × ℕ) → List ℕ → List ℕ → ℕ
label_closed edges names open_names = label_count (label_of edges) names - label_count (label_of edges) open_names
