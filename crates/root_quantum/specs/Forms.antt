-- The two forms of parameters, and what each asks of the level r and of the order of A modulo m. In the full form the
-- order is 4r (Lickorish, ch. 13). The even form is this project's own: r is odd, and the order is 4r or 2r.
--
--     HasParity form r         the level has the parity that the form asks for
--     HasOrder form m a r      the order of A modulo m is one that the form wants
--     IsUnwanted form r o      the order o, or none, is none that the form wants
--     takes_level, takes_order      the tests of both: they compute
use Rattle.std.specs.Prelude.{◌≡◌, ◌≢◌, ℕ, ◌*◌, ◌%◌, ◌==◌, ◌||◌, ◌⊎◌, Bool, true, false, Option, Some, None}
use Rattle.ring_identities.specs.Powers.{IsOrder}
use Rattle.root_quantum.specs.declared.form.Form.{Form}
use Rattle.root_quantum.specs.declared.form.Form.TheVariants.{All, Even}

-- in the even form the level is odd
abbrev pub HasParity : Form → ℕ → Type 0
HasParity All r = Unit {0}
HasParity Even r = r % 2 ≡ 1

-- the order of A modulo m is 4r, or in the even form 4r or 2r
abbrev pub HasOrder : Form → ℕ → ℕ → ℕ → Type 0
HasOrder All m a r = IsOrder m a (4 * r)
HasOrder Even m a r = IsOrder m a (4 * r) ⊎ IsOrder m a (2 * r)

-- another order, or none
abbrev pub IsUnwanted : Form → ℕ → Option ℕ → Type 0
IsUnwanted All r found = found ≢ Some (4 * r)
IsUnwanted Even r found = (found ≢ Some (4 * r)) × (found ≢ Some (2 * r))

-- the tests
abbrev pub takes_level : Form → ℕ → Bool
takes_level All r = true
takes_level Even r = r % 2 == 1

abbrev pub takes_order : Form → ℕ → Option ℕ → Bool
takes_order form r None = false
takes_order All r (Some t) = t == 4 * r
takes_order Even r (Some t) = t == 4 * r || t == 2 * r
