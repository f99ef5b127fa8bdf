-- Lists of numbers as the values of options write them: the empty text, or numbers of at most nine digits with single commas
-- between them. (This project's own.)
--
--     member_value text     the number of at most nine digits that the text writes
--     members_by read texts what `read` makes of each text, where it makes something of each
--     pieces_of text        the texts between the commas; none where the text is empty
--     list_value text       the list that the text writes: 3, 1, 2 for "3,1,2", none for "3,,1", "3, 1" and "03"
--
-- A text writes a list exactly where it is the members' decimal spellings with commas between them (specs/Laws.antt).
use Rattle.std.specs.Prelude.{◌==◌, ℕ, List, [], ◌∷◌, length, Option, Some, None, if◌then◌else◌, nat_lt, option_map, option_and_then}
use Rattle.std.specs.List.{slice_split}
use Rattle.wrt_request.specs.Decimals.{decimal_value}

-- The number of at most nine digits that the text writes.
unfoldable pub member_value : List ℕ → Option ℕ
member_value text = if nat_lt 9 (length text) then None else decimal_value text

-- What each text is read as.
abbrev pub members_by : {A : Type 0} → (List ℕ → Option A) → List (List ℕ) → Option (List A)
members_by read [] = Some []
members_by read (text ∷ texts) = option_and_then (λ n. option_map (λ ns. n ∷ ns) (members_by read texts)) (read text)

-- The texts between the commas (44).
abbrev pub pieces_of : List ℕ → List (List ℕ)
pieces_of [] = []
pieces_of (byte ∷ bytes) = slice_split (λ b. b == 44) (byte ∷ bytes)

-- The numbers that the texts write, where each writes one.
abbrev pub members_of : List (List ℕ) → Option (List ℕ)
members_of texts = members_by member_value texts

-- The list that the text writes.
abbrev pub list_value : List ℕ → Option (List ℕ)
list_value text = members_of (pieces_of text)
