-- Each label of the text has a colour in a colouring that has one for each of its labels.
--
--     found_colour          the colour of a label that is listed
--     member_at             a label of a member of a list is one of the list's labels
--     three, six            a list of three labels, or of six, by its members
use Rattle.std.proofs.Common.{◌≡◌, inl, inr, ℕ, zero, suc, ◌<◌, ◌==◌, Bool, true, false, cond, List, [], ◌∷◌, ◌++◌, length, get_or, Some, refl, ap, ◌∙◌, arith, All}
use Rattle.std.specs.Set.{is_member}
use Rattle.std.proofs.lemmas.Bool.{or_left, or_right, or_cases}
use Rattle.std.proofs.lemmas.Bool.Decides.{nat_tests}
use Rattle.std.proofs.lemmas.List.Elements.{All-head, All-tail}
use Rattle.tetra_sum.specs.Colourings.{colour_of}
use Rattle.tetra_sum.specs.Sums.{all_labels}

-- the label has a colour that is one of these
pub record HasColour (P : ℕ → Type 0) (labels colours : List ℕ) (label : ℕ) : Type 0 where
  pub colour : ℕ
  pub found : colour_of labels colours label ≡ Some colour
  pub among : P colour

found_here : (P : ℕ → Type 0) (l c : ℕ) (ls cs : List ℕ) (label : ℕ) → (l == label) ≡ true → P c → HasColour P (l ∷ ls) (c ∷ cs) label
found_here P l c ls cs label e h = record { colour = c; found = ap (λ b. cond b (Some c) (colour_of ls cs label)) e; among = h }

found_later : (P : ℕ → Type 0) (l c : ℕ) (ls cs : List ℕ) (label : ℕ) → (l == label) ≡ false → HasColour P ls cs label → HasColour P (l ∷ ls) (c ∷ cs) label
found_later P l c ls cs label e h =
    record { colour = h.colour; found = ap (λ b. cond b (Some c) (colour_of ls cs label)) e ∙ h.found; among = h.among }

-- A LISTED LABEL HAS A COLOUR
pub found_colour : (P : ℕ → Type 0) (labels colours : List ℕ) (label : ℕ) → length colours ≡ length labels → All P colours → is_member ◌==◌ labels label ≡ true → HasColour P labels colours label
found_colour P [] colours label count each m = absurd (cc)
found_colour P (l ∷ ls) [] label count each m = absurd (omega (arith, count))
found_colour P (l ∷ ls) (c ∷ cs) label count each m =
    by_test (l == label) refl (λ later. found_colour P ls cs label (omega (arith, count)) (All-tail P c cs each) later)
  where
    by_test : (b : Bool) → (l == label) ≡ b → (is_member ◌==◌ ls label ≡ true → HasColour P ls cs label) → HasColour P (l ∷ ls) (c ∷ cs) label
    by_test true e rest = found_here P l c ls cs label e (All-head P c cs each)
    by_test false e rest = found_later P l c ls cs label e (rest (grind (arith, nat_tests, m, e)))

-- ---- the labels of lists
member_front : (xs ys : List ℕ) (x : ℕ) → is_member ◌==◌ xs x ≡ true → is_member ◌==◌ (xs ++ ys) x ≡ true
member_front [] ys x m = absurd (cc)
member_front (z ∷ zs) ys x m = elim (or_cases (x == z) (is_member ◌==◌ zs x) m) [
  | inl e ↦ or_left (x == z) (is_member ◌==◌ (zs ++ ys) x) e
  | inr e ↦ or_right (x == z) (is_member ◌==◌ (zs ++ ys) x) (member_front zs ys x e)
]

pub member_back : (xs ys : List ℕ) (x : ℕ) → is_member ◌==◌ ys x ≡ true → is_member ◌==◌ (xs ++ ys) x ≡ true
member_back [] ys x m = m
member_back (z ∷ zs) ys x m = or_right (x == z) (is_member ◌==◌ (zs ++ ys) x) (member_back zs ys x m)

pub member_first : (xs ys : List ℕ) (x : ℕ) → is_member ◌==◌ xs x ≡ true → is_member ◌==◌ (xs ++ ys) x ≡ true
member_first = member_front

pub member_at : (lists : List (List ℕ)) (i x : ℕ) → i < length lists → is_member ◌==◌ (get_or lists i []) x ≡ true → is_member ◌==◌ (all_labels lists) x ≡ true
member_at [] i x h m = absurd (omega (arith, h))
member_at (list ∷ lists) zero x h m = member_front list (all_labels lists) x m
member_at (list ∷ lists) (suc i) x h m = member_back list (all_labels lists) x (member_at lists i x (omega (arith, h)) m)

-- ---- lists of three and of six
pub record IsThree (list : List ℕ) : Type 0 where
  pub x : ℕ
  pub y : ℕ
  pub z : ℕ
  pub is : list ≡ x ∷ y ∷ z ∷ []

pub three : (list : List ℕ) → length list ≡ 3 → IsThree list
three [] e = absurd (omega (arith, e))
three (x ∷ []) e = absurd (omega (arith, e))
three (x ∷ y ∷ []) e = absurd (omega (arith, e))
three (x ∷ y ∷ z ∷ []) e = record { x = x; y = y; z = z; is = refl }
three (x ∷ y ∷ z ∷ w ∷ rest) e = absurd (omega (arith, e))

pub record IsSix (list : List ℕ) : Type 0 where
  pub a : ℕ
  pub b : ℕ
  pub c : ℕ
  pub d : ℕ
  pub e : ℕ
  pub f : ℕ
  pub is : list ≡ a ∷ b ∷ c ∷ d ∷ e ∷ f ∷ []

pub six : (list : List ℕ) → length list ≡ 6 → IsSix list
six [] h = absurd (omega (arith, h))
six (a ∷ []) h = absurd (omega (arith, h))
six (a ∷ b ∷ []) h = absurd (omega (arith, h))
six (a ∷ b ∷ c ∷ []) h = absurd (omega (arith, h))
six (a ∷ b ∷ c ∷ d ∷ []) h = absurd (omega (arith, h))
six (a ∷ b ∷ c ∷ d ∷ e ∷ []) h = absurd (omega (arith, h))
six (a ∷ b ∷ c ∷ d ∷ e ∷ f ∷ []) h = record { a = a; b = b; c = c; d = d; e = e; f = f; is = refl }
six (a ∷ b ∷ c ∷ d ∷ e ∷ f ∷ g ∷ rest) h = absurd (omega (arith, h))
