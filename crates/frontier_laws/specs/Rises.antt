-- By how much the number of open names rises when a node is taken (this project's own): of its ends those that are no open names and
-- stand once become open, and those that are open names are open no more.
--
--     opening names ends     how many of the ends are none of the names, and stand once
--     closing names ends     how many of the ends are among the names
--     rise names ends        24 + opening - closing, so that it is a number from 0 on
--
-- Of the names 1, 2, 3, with the ends 3, 4, 4, 5: one opens and one closes, so the rise is 24 (proofs/Examples.antt).
use Rattle.std.specs.Prelude.{ℕ, ◌+◌, ◌-◌, ◌==◌, ◌&&◌, not, List}
use Rattle.std.specs.List.{count_by}
use Rattle.std.specs.Set.{is_member}
use Rattle.list_lemmas.specs.Times.{times_in}
use Rattle.arc_pairing.specs.declared.limits.TheConstants.{MOST_POINTS}

abbrev pub opening : List ℕ → List ℕ → ℕ
opening names ends = count_by (λ end. not (is_member ◌==◌ names end) && (times_in ends end == 1)) ends

abbrev pub closing : List ℕ → List ℕ → ℕ
closing names ends = count_by (λ end. is_member ◌==◌ names end) ends

abbrev pub rise : List ℕ → List ℕ → ℕ
rise names ends = MOST_POINTS + opening names ends - closing names ends
