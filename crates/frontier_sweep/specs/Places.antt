-- Which ends of a node are new.
--
--     is_new names ends end     the end stands once among the ends, and not among the names
use Rattle.std.specs.Prelude.{ℕ, ◌==◌, ◌&&◌, Bool, List}
use Rattle.list_lemmas.specs.Times.{times_in}

-- The end stands once among the ends, and not among the names.
abbrev pub is_new : List ℕ → List ℕ → ℕ → Bool
is_new names ends end = (times_in ends end == 1) && (times_in names end == 0)
