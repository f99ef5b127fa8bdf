-- Shapes of text. A shape says which values there are, and which tokens spell each: so it reads like
-- a printer, and its text is any spelling of these tokens. Words and lists in brackets are put
-- together here once, and a new shape is one line of them. (This project's own.)
--
--     IsText fits tokens bytes value         the bytes are a text of the value
--     BeginsText fits tokens bytes           they are the beginning of some text of the shape
--     IsLongestBeginning fits tokens bytes at   at is the length of the longest front of the bytes
--                                               that is the beginning of some text of the shape
--     call tokens head arguments             head[a,..,a]
--     listed item head values                head[v,..,v]
--     items_inside close item values         v,..,v and the mark that closes, and items_behind the same with a
--                                            comma before each
use Rattle.std.specs.Prelude.{ℕ, ◌≤◌, List, [], ◌∷◌, ◌++◌, length, take, codes}
use Rattle.text_shapes.specs.Tokens.{IsSpelled}

module _ {V : Type 0} (fits : V → Type 0) (tokens : V → List (List ℕ)) where
  -- the bytes are a text of the value
  abbrev pub IsText : List ℕ → V → Type 0
  IsText bytes value = fits value × IsSpelled (tokens value) bytes

  -- some text of the shape begins with these bytes
  abbrev pub BeginsText : List ℕ → Type 0
  BeginsText bytes = (more : List ℕ) × (value : V) × IsText (bytes ++ more) value

  -- at is the length of the longest front of the bytes that begins a text of the shape
  pub record IsLongestBeginning (bytes : List ℕ) (at : ℕ) : Type 0 where
    pub within : at ≤ length bytes
    pub begins : BeginsText (take at bytes)
    pub longest : (n : ℕ) → n ≤ length bytes → BeginsText (take n bytes) → n ≤ at

-- head[a,..,a], where tokens spells an argument
module _ {A : Type 0} (tokens : A → List (List ℕ)) where
  -- a mark, then each argument with a comma between two, and the bracket that closes
  abbrev pub arguments : List ℕ → List A → List (List ℕ)
  arguments mark [] = codes "]" ∷ []
  arguments mark (a ∷ rest) = mark ∷ (tokens a ++ arguments (codes ",") rest)

  abbrev pub call : List ℕ → List A → List (List ℕ)
  call head all = head ∷ arguments (codes "[") all

-- each argument is of its kind
abbrev pub AreOf : {K A : Type 0} → (K → A → Type 0) → List K → List A → Type 0
AreOf fits [] [] = Unit {0}
AreOf fits [] (a ∷ rest) = ⊥
AreOf fits (kind ∷ kinds) [] = ⊥
AreOf fits (kind ∷ kinds) (a ∷ rest) = fits kind a × AreOf fits kinds rest

-- v,..,v and the mark that closes, where item spells a value
module _ {V : Type 0} (close : ℕ) (item : V → List (List ℕ)) where
  -- what comes behind a value: a comma and the next one, or the mark that closes
  abbrev pub items_behind : List V → List (List ℕ)
  items_behind [] = (close ∷ []) ∷ []
  items_behind (v ∷ rest) = codes "," ∷ (item v ++ items_behind rest)

  abbrev pub items_inside : List V → List (List ℕ)
  items_inside [] = (close ∷ []) ∷ []
  items_inside (v ∷ rest) = item v ++ items_behind rest

-- head[v,..,v]
abbrev pub listed : {V : Type 0} → (V → List (List ℕ)) → List ℕ → List V → List (List ℕ)
listed item head all = head ∷ codes "[" ∷ items_inside 93 item all
