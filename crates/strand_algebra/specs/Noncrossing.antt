-- The noncrossing pairings of 2n points on a circle: there are Catalan's number of them (Lickorish, ch. 13).
--
--     noncrossing n      each of them once, in dictionary order: for n = 2 they are 1,0,3,2 and 3,2,1,0
--     nested k a b       point 0 is paired with point 2k+1; the pairing a stands between them, and b behind
use Rattle.std.specs.Prelude.{ℕ, zero, suc, ◌+◌, ◌-◌, List, [], ◌∷◌, ◌++◌, map}
use Rattle.std.specs.List.{flat_map, range_with_len}

-- Point 0 is paired with point 2k+1; between them stands a, and behind them b.
abbrev pub nested : ℕ → List ℕ → List ℕ → List ℕ
nested k a b = (k + k + 1) ∷ (map (λ j. j + 1) a ++ (0 ∷ map (λ j. j + (k + k + 2)) b))

-- The same for at most `depth` pairs: all for n up to the depth.
abbrev pub noncrossing_within : ℕ → ℕ → List (List ℕ)
noncrossing_within depth zero = [] ∷ []
noncrossing_within zero (suc n) = []
noncrossing_within (suc depth) (suc n) =
    flat_map
    (λ k. flat_map (λ a. map (λ b. nested k a b) (noncrossing_within depth (n - k))) (noncrossing_within depth k))
    (range_with_len 0 (n + 1))

-- With 2k points between point 0 and its partner, for k from 0 to n-1, and all noncrossing pairings of the points between
-- and of those behind.
abbrev pub noncrossing : ℕ → List (List ℕ)
noncrossing n = noncrossing_within n n
