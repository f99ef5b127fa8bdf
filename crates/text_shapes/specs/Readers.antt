-- What readers answer. A reader begins at a place of the bytes, and either finds a token or a value
-- and says where it ends, or says how far the bytes go on. Both are said whatever tokens come behind,
-- so that readers follow each other and stand inside each other.
--
--     Skips bytes at next              white space goes from at up to next, and no further
--     Stands bytes at token next       white space and the token stand from at on, up to next
--     Falls bytes at token p           they don't: it is at p that the bytes differ from the token
--     LongestNumber bytes at n next    the longest number that begins at at is n, and ends at next
--     Found, Missed                    the tokens of a value stand, or those of none do
--     Accepts, Refuses                 the same of all the bytes
--     IsReadable fits tokens           from each place of all bytes one or the other can be told
--     LeadsTo                          what may stand from one place on is what may from another
use Rattle.std.specs.Prelude.{◌≡◌, ℕ, ◌+◌, ◌-◌, ◌<◌, ◌≤◌, ◌⊎◌, false, cond, ◌==◌, List, ◌∷◌, ◌++◌, length, drop, slice_index, decimal}
use Rattle.std.specs.List.{AllByRecursion}
use Rattle.text_shapes.specs.Tokens.{is_space, IsSpace, IsNumber}
use Rattle.text_shapes.specs.Shapes.{call}
use Rattle.text_shapes.specs.Reach.{place, is_digit, IsWord, IsMarked}

-- next is the first place from at on that holds no white space, or the end
pub record Skips (bytes : List ℕ) (at next : ℕ) : Type 0 where
  pub space : List ℕ
  pub blank : AllByRecursion IsSpace space
  pub split : drop at bytes ≡ space ++ drop next bytes
  pub within : next ≤ length bytes
  pub sum : next ≡ at + length space
  pub stops : next < length bytes → is_space (slice_index bytes next) ≡ false

-- white space and then the token stand from at on, up to next
pub record Stands (bytes : List ℕ) (at : ℕ) (token : List ℕ) (next : ℕ) : Type 0 where
  pub space : List ℕ
  pub blank : AllByRecursion IsSpace space
  pub split : drop at bytes ≡ space ++ (token ++ drop next bytes)
  pub within : next ≤ length bytes
  pub sum : next ≡ at + length space + length token

-- the token doesn't stand there: it is at p that the bytes differ from it
pub record Falls (bytes : List ℕ) (at : ℕ) (token : List ℕ) (p : ℕ) : Type 0 where
  pub within : p ≤ length bytes
  pub same : (tokens : List (List ℕ)) → place bytes at (token ∷ tokens) ≡ p

-- the longest number that begins at at is n, and ends at next
pub record LongestNumber (bytes : List ℕ) (at n next : ℕ) : Type 0 where
  pub fits : IsNumber n
  pub within : next ≤ length bytes
  pub split : drop at bytes ≡ decimal n ++ drop next bytes
  pub sum : next ≡ at + length (decimal n)
  pub longest : (100000 ≤ n) ⊎ (next < length bytes → is_digit (slice_index bytes next) ≡ false)

-- no number begins at at: a digit from 1 to 9 doesn't stand there
abbrev pub BeginsNoNumber : List ℕ → ℕ → Type 0
BeginsNoNumber bytes at = at < length bytes → (is_digit (slice_index bytes at) ≡ false) ⊎ (slice_index bytes at ≡ 48)

-- the mark before the argument i of a call
abbrev pub separator_of : ℕ → ℕ
separator_of i = cond (i == 0) 91 44

-- a call with any other head breaks off before next
abbrev pub OtherHeadsStop : {A : Type 0} → (A → List (List ℕ)) → List ℕ → ℕ → List ℕ → ℕ → Type 0
OtherHeadsStop {A} tokens bytes at head next = (other : List ℕ) (all : List A) (more : List (List ℕ)) → IsWord other → (other ≡ head → ⊥) → place bytes at (call tokens other all ++ more) ≤ next

-- ---- a value of a shape

module _ {V : Type 0} (fits : V → Type 0) (tokens : V → List (List ℕ)) (bytes : List ℕ) (at : ℕ) where
  -- the tokens of the value stand from at on up to next, where the last one ends, and those of each other
  -- value break off before, where a mark comes behind them
  pub record Found (value : V) (next : ℕ) : Type 0 where
    pub fits_shape : fits value
    pub from : at < next
    pub ends : is_space (slice_index bytes (next - 1)) ≡ false
    pub within : next ≤ length bytes
    pub same : (more : List (List ℕ)) → place bytes at (tokens value ++ more) ≡ place bytes next more
    pub others : (other : V) (more : List (List ℕ)) → fits other → IsMarked more → (other ≡ value) ⊎ (place bytes at (tokens other ++ more) ≤ next)

  -- each breaks off, and p is where the one does that goes on furthest
  pub record Missed (p : ℕ) : Type 0 where
    pub within : p ≤ length bytes
    pub furthest : V
    pub fits_shape : fits furthest
    pub reached : (more : List (List ℕ)) → place bytes at (tokens furthest ++ more) ≡ p
    pub most : (value : V) (more : List (List ℕ)) → fits value → place bytes at (tokens value ++ more) ≤ p

-- ---- all the bytes

module _ {V : Type 0} (fits : V → Type 0) (tokens : V → List (List ℕ)) (bytes : List ℕ) where
  -- the bytes are a text of the value, and of no other
  pub record Accepts (value : V) : Type 0 where
    pub fits_shape : fits value
    pub reaches : length bytes < place bytes 0 (tokens value)
    pub others : (other : V) → fits other → (other ≡ value) ⊎ (place bytes 0 (tokens other) ≤ length bytes)

  -- the bytes break off at p at the latest, whichever value they might spell
  pub record Refuses (p : ℕ) : Type 0 where
    pub within : p ≤ length bytes
    pub furthest : V
    pub fits_shape : fits furthest
    pub reached : p ≤ place bytes 0 (tokens furthest)
    pub most : (value : V) → fits value → place bytes 0 (tokens value) ≤ p

-- ---- what can be read for sure

-- the tokens of a value stand from at on, or those of none do
abbrev pub ValueRead : {V : Type 0} → (V → Type 0) → (V → List (List ℕ)) → List ℕ → ℕ → Type 0
ValueRead {V} fits tokens bytes at = ((v : V) × (next : ℕ) × Found fits tokens bytes at v next) ⊎ ((p : ℕ) × Missed fits tokens bytes at p)

-- the bytes are a text of one value and of no other, or of none
abbrev pub TextRead : {V : Type 0} → (V → Type 0) → (V → List (List ℕ)) → List ℕ → Type 0
TextRead {V} fits tokens bytes = ((v : V) × Accepts fits tokens bytes v) ⊎ ((p : ℕ) × Refuses fits tokens bytes p)

-- a value can be read from each place of all bytes: by a reader that doesn't fail for want of memory
abbrev pub IsReadable : {V : Type 0} → (V → Type 0) → (V → List (List ℕ)) → Type 0
IsReadable fits tokens = (bytes : List ℕ) (at : ℕ) → at ≤ length bytes → ValueRead fits tokens bytes at

-- ---- parts of a value

-- each value of one family that may stand from a on is one of another that may from b on, or breaks off before b
pub record LeadsTo {A W : Type 0} (fits_a : A → Type 0) (F : A → List (List ℕ)) (fits_w : W → Type 0) (G : W → List (List ℕ)) (e : W → A) (bytes : List ℕ) (a b : ℕ) : Type 0 where
  pub from : a ≤ b
  pub within : b ≤ length bytes
  pub onto : (w : W) → fits_w w → fits_a (e w)
  pub same : (w : W) (more : List (List ℕ)) → place bytes a (F (e w) ++ more) ≡ place bytes b (G w ++ more)
  pub others : (v : A) (more : List (List ℕ)) → fits_a v → ((w : W) × (v ≡ e w) × fits_w w) ⊎ (place bytes a (F v ++ more) ≤ b)
