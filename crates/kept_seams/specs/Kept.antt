-- Seams whose points keep their places (this project's own). A node with four ends is glued at two points, s and t, of a
-- pairing; the other two of its ends are new, and take the places of s and t. What a term then does to the pairing:
--
--     a, b are the ends that are glued to s and t; c takes the place of s, and d that of t
--
--     AreFour a b c d                         a, b, c and d are the numbers below 4
--     IsKept inner ends outer s t a b c d     such a seam
--     KeepsLaw                                a term that pairs a with c and b with d leaves the pairing as it is
--     JoinsLaw                                one that pairs a with b and c with d: `joined_at`, and a loop where s and t were paired
--     CrossesLaw                              one that pairs a with d and b with c: `crossed_at`
--     FoundLaw                                such a seam, from what a look at the names tells
use Rattle.std.specs.Prelude.{◌≡◌, ◌≢◌, ℕ, ◌+◌, ◌<◌, ◌≤◌, ◌==◌, if◌then◌else◌, List, ◌++◌, ◌⊎◌, length, slice_index, slice_set}
use Rattle.graph_parts.specs.Patterns.{closed_parts}
use Rattle.state_sums.specs.Networks.{IsPairing}
use Rattle.arc_gluing.specs.Pairings.{AreOpen, pair_edges, partners_of}
use Rattle.kept_seams.specs.Changes.{joined_at, crossed_at}
use Rattle.list_lemmas.specs.Times.{times_in}

-- The places of the ends: a, b, c and d are the numbers below 4.
pub record AreFour (a b c d : ℕ) : Type 0 where
  pub a_in : a < 4
  pub b_in : b < 4
  pub c_in : c < 4
  pub d_in : d < 4
  pub each : (i : ℕ) → i < 4 → (i ≡ a) ⊎ (i ≡ b) ⊎ (i ≡ c) ⊎ (i ≡ d)

-- Two ends are glued at s and t, and the two others take these places.
pub record IsKept (inner ends outer : List ℕ) (s t a b c d : ℕ) : Type 0 where
  pub few : (x : ℕ) → times_in (inner ++ ends) x ≤ 2
  pub single : (x : ℕ) → times_in inner x ≤ 1
  pub left_open : AreOpen (inner ++ ends) outer
  pub s_in : s < length inner
  pub t_in : t < length inner
  pub s_not_t : s ≢ t
  pub four : length ends ≡ 4
  pub places : AreFour a b c d
  pub a_at : slice_index ends a ≡ slice_index inner s
  pub b_at : slice_index ends b ≡ slice_index inner t
  pub left : outer ≡ slice_set (slice_set inner s (slice_index ends c)) t (slice_index ends d)

-- What gluing a term gives: this pairing, and so many loops.
pub record Gives (inner ends outer old term partner : List ℕ) (loops : ℕ) : Type 0 where
  pub pairing : partners_of (inner ++ ends) (pair_edges inner old ++ pair_edges ends term) outer ≡ partner
  pub closed : closed_parts (inner ++ ends) (pair_edges inner old ++ pair_edges ends term) outer ≡ loops

abbrev pub KeepsLaw : Type 0
KeepsLaw =
    (inner ends outer old term : List ℕ) (s t a b c d : ℕ) → IsKept inner ends outer s t a b c d → IsPairing old → IsPairing term →
    length old ≡ length inner → length term ≡ 4 → slice_index term a ≡ c → slice_index term b ≡ d →
    Gives inner ends outer old term old 0

abbrev pub JoinsLaw : Type 0
JoinsLaw =
    (inner ends outer old term : List ℕ) (s t a b c d : ℕ) → IsKept inner ends outer s t a b c d → IsPairing old → IsPairing term →
    length old ≡ length inner → length term ≡ 4 → slice_index term a ≡ b → slice_index term c ≡ d →
    Gives inner ends outer old term (joined_at old s t) (if slice_index old s == t then 1 else 0)

abbrev pub CrossesLaw : Type 0
CrossesLaw =
    (inner ends outer old term : List ℕ) (s t a b c d : ℕ) → IsKept inner ends outer s t a b c d → IsPairing old → IsPairing term →
    length old ≡ length inner → length term ≡ 4 → slice_index term a ≡ d → slice_index term b ≡ c →
    Gives inner ends outer old term (crossed_at old s t) 0

-- Where two ends are glued at s and t, and two others, different ones, stand nowhere among the names, putting the latter in the
-- places of s and t makes such a seam. That a sum over the numbers below 4 is one over a, b, c and d says that each is there once.
abbrev pub FoundLaw : Type 0
FoundLaw =
    (inner ends : List ℕ) (s t a b c d : ℕ) → ((x : ℕ) → times_in inner x ≤ 1) → s < length inner → t < length inner → s ≢ t → length ends ≡ 4 →
    AreFour a b c d → ((f : ℕ → ℕ) → f 0 + f 1 + f 2 + f 3 ≡ f a + f b + f c + f d) →
    slice_index ends a ≡ slice_index inner s → slice_index ends b ≡ slice_index inner t →
    times_in inner (slice_index ends c) ≡ 0 → times_in inner (slice_index ends d) ≡ 0 → slice_index ends c ≢ slice_index ends d →
    IsKept inner ends (slice_set (slice_set inner s (slice_index ends c)) t (slice_index ends d)) s t a b c d
