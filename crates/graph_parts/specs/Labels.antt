-- Labels: the working tool of the proofs on parts, and no definition that a contract rests on. Each name begins with
-- itself as its label, and an edge gives the label of its second end to all that had the label of its first. What one edge
-- does to labels is one equation, so that laws on parts are inductions on the edges. That labels tell exactly what
-- walks join, and count exactly the parts, is proved in proofs/Walks.antt and proofs/LeastNames.antt.
--
--     relabel label edge           the labels after one more edge
--     label_after label edges      the labels after these edges
--     label_of edges               the labels after these edges, where each name began with itself
--     label_count label names      how many different labels the names have
--     Agree inside l m             two labellings tell the same pairs apart, of the names that pass the test
use Rattle.std.specs.Prelude.{◌≡◌, ℕ, Bool, true, ◌==◌, if◌then◌else◌, List, map}
use Rattle.std.specs.List.{fold}
use Rattle.std.specs.Set.{distinct_count}

-- After an edge between a and b, what had a's label has b's label.
abbrev pub relabel : (ℕ → ℕ) → ℕ × ℕ → ℕ → ℕ
relabel label edge = let a = label edge.0 in let b = label edge.1 in λ x. if label x == a then b else label x

abbrev pub label_after : (ℕ → ℕ) → List (ℕ × ℕ) → ℕ → ℕ
label_after label edges = fold relabel label edges

-- Two names have one label exactly where the edges join them.
abbrev pub label_of : List (ℕ × ℕ) → ℕ → ℕ
label_of edges = label_after (λ x. x) edges

-- How many labels the names have, where equal ones count once.
abbrev pub label_count : (ℕ → ℕ) → List ℕ → ℕ
label_count label names = distinct_count ◌==◌ (map label names)

-- Two labellings tell the same pairs apart, of the names that pass the test.
abbrev pub Agree : (ℕ → Bool) → (ℕ → ℕ) → (ℕ → ℕ) → Type 0
Agree inside l m = (u v : ℕ) → inside u ≡ true → inside v ≡ true → (l u == l v) ≡ (m u == m v)
