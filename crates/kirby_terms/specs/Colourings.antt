-- Colourings by number: the lists of one colour for each component, in dictionary order, the last component changing fastest. Numbers
-- and components count from 1.
--
--     colouring_at colours n index            the list of n of these colours with that number
--     colour_in colours n index component     the colour that it gives to a component
--     colouring_count colours n               how many there are
--
-- Of two components with the colours 0, 1, 2, 3 number 1 is 0, 0 and number 7 is 1, 2 (proofs/Examples.antt).
use Rattle.std.specs.Prelude.{ℕ, ◌-◌, ◌^◌, List, [], length, get_or, slice_index}
use Rattle.coloured_values.specs.Surgery.{colour_lists}

abbrev pub colouring_at : List ℕ → ℕ → ℕ → List ℕ
colouring_at colours n index = get_or (colour_lists colours n) (index - 1) []

abbrev pub colour_in : List ℕ → ℕ → ℕ → ℕ → ℕ
colour_in colours n index component = slice_index (colouring_at colours n index) (component - 1)

abbrev pub colouring_count : List ℕ → ℕ → ℕ
colouring_count colours n = length colours ^ n
