-- The projectors of the colours in a list, as they are found one colour after the other.
--
-- Where a colour has no projector the greatest has none either, by the same index and divisor: the first Delta that shares a factor
-- with the modulus stands below both.
-- So when all colours of the list are behind, each has its projector, and no Delta below the greatest shares a factor.
use Rattle.std.proofs.Common.{◌≡◌, ℕ, ◌+◌, ◌<◌, ◌≤◌, ◌==◌, true, false, List, [], ◌∷◌, ◌++◌, Some, None, Option, IfSome, refl, sym, ap, ◌∙◌, arith, subst, ⊎_elim, All, max}
use Rattle.std.specs.List.{Contains}
use Rattle.std.specs.Set.{is_member}
use Rattle.std.proofs.lemmas.Bool.{cases_order, eq-eqb, or_left, or_right}
use Rattle.std.proofs.lemmas.List.Elements.{All-nil, All-push, Contains-append_left, Contains-push}
use Rattle.root_quantum.specs.Parameters.{Parameters}
use Rattle.planar_check.specs.Components.{greatest}
use Rattle.wenzl_table.specs.Projectors.{Projector}
use Rattle.wenzl_table.specs.Tables.{Table, Notes, IsFor, IsOf, Keeps, Knows, known}
use Rattle.wenzl_table.specs.Inverses.{IsFirstCommon}
use Rattle.wenzl_table.specs.declared.found.Found.{Found}
use Rattle.skein_network.specs.declared.fault.CableFault.{CableFault}
use Rattle.skein_network.specs.declared.fault.CableFault.TheVariants.{ColourCount, ColourTooLarge, Unequal, NotAdmissible, NoInverse, Memory}
use Rattle.skein_network.specs.Colourings.{Holds, projector_in}
use Rattle.skein_network.specs.Refusals.{IsNoInverse}

-- ---- a greater colour
first_common_above : (p : Parameters) (n k index common : ℕ) → n ≤ k → IsFirstCommon p n index common → IsFirstCommon p k index common
first_common_above p n k index common h first =
    let below = first.below in
    record { above = first.above; below = omega (arith, h, below); divisor = first.divisor; shared = first.shared; before = first.before }

pub no_inverse_above : (p : Parameters) (n k : ℕ) (fault : CableFault) → n ≤ k → IsNoInverse p n fault → IsNoInverse p k fault
no_inverse_above p n k (NoInverse index common) h is = first_common_above p n k index common h is
no_inverse_above p n k (ColourCount given wanted) h is = absurd is
no_inverse_above p n k (ColourTooLarge colour limit) h is = absurd is
no_inverse_above p n k (Unequal edge) h is = absurd is
no_inverse_above p n k (NotAdmissible vertex) h is = absurd is
no_inverse_above p n k Memory h is = absurd is

-- ---- what is known stays known
keeps_known : (before after : Notes) (n : ℕ) → Keeps before after → Knows before n → Knows after n
keeps_known before after n keeps (f, is) = (f, (let P : Option Projector → Type 0 = λ o. IfSome o (λ g. known after n ≡ Some g) in subst P is (keeps n)))

keeps_twice : (first second third : Notes) → Keeps first second → Keeps second third → Keeps first third
keeps_twice first second third one two n = both (known first n) (one n)
  where
    both : (o : Option Projector) → IfSome o (λ f. known second n ≡ Some f) → IfSome o (λ f. known third n ≡ Some f)
    both None h = tt
    both (Some f) h = let P : Option Projector → Type 0 = λ o. IfSome o (λ g. known third n ≡ Some g) in subst P h (two n)

keeps_itself : (notes : Notes) → Keeps notes notes
keeps_itself notes n = itself (known notes n) (known notes n) refl
  where
    itself : (o at : Option Projector) → o ≡ at → IfSome o (λ f. at ≡ Some f)
    itself None at e = tt
    itself (Some f) at e = sym e

-- ---- the colours below n
pub record IsFoundBelow (table : Table) (colours : List ℕ) (n : ℕ) (projectors : List Found) (before notes : Notes) : Type 0 where
  pub same : All (λ found. (projector_in found).params ≡ table.params) projectors
  pub held : (k : ℕ) → 2 ≤ k → k < n → is_member ◌==◌ colours k ≡ true → Holds projectors k
  pub known : (k : ℕ) → 2 ≤ k → k < n → is_member ◌==◌ colours k ≡ true → Knows notes k
  pub none : (k : ℕ) → 2 ≤ k → k < n → is_member ◌==◌ colours k ≡ true → (index common : ℕ) → ¬ IsFirstCommon table.params k index common
  pub of : IsOf notes table
  pub kept : Keeps before notes

pub found_start : (table : Table) (colours : List ℕ) (notes : Notes) → IsOf notes table → IsFoundBelow table colours 2 [] notes notes
found_start table colours notes of = record {
  same = All-nil (λ (found : Found). (projector_in found).params ≡ table.params);
  held = λ k low high m. absurd (omega (arith, low, high));
  known = λ k low high m. absurd (omega (arith, low, high));
  none = λ k low high m. absurd (omega (arith, low, high));
  of = of;
  kept = keeps_itself notes;
}

module _ (table : Table) (colours : List ℕ) (n : ℕ) (projectors : List Found) (before notes : Notes) (h : IsFoundBelow table colours n projectors before notes) where
  -- a fact for each colour below n, and for n
  one_more : (P : ℕ → Type 0) → ((k : ℕ) → k < n → P k) → P n → (k : ℕ) → k < n + 1 → P k
  one_more P below here k high =
      ⊎_elim (λ e. subst P (sym e) here) (λ o. ⊎_elim (λ l. below k l) (λ g. absurd (omega (arith, g, high))) o) (cases_order k n)

  -- ONE COLOUR MORE
  pub found_one : (found : Found) (more : List Found) (after : Notes) → IsFor (projector_in found) table.params n → more ≡ projectors ++ found ∷ [] →
      ((index common : ℕ) → ¬ IsFirstCommon table.params n index common) → IsOf after table → Keeps notes after → Knows after n → IsFoundBelow table colours (n + 1) more before after
  found_one found more after is pushed none of keeps knows = record {
    same = subst (All (λ (f : Found). (projector_in f).params ≡ table.params)) (sym pushed) (All-push (λ (f : Found). (projector_in f).params ≡ table.params) projectors found h.same is.0);
    held = λ k low high m.
        one_more (λ j. 2 ≤ j → is_member ◌==◌ colours j ≡ true → Holds more j)
        (λ j below some member. let held = h.held j some below member in (held.0, subst (λ fs. Contains fs held.0) (sym pushed) (Contains-append_left projectors (found ∷ []) held.0 held.1), held.2))
        (λ some member. (found, subst (λ fs. Contains fs found) (sym pushed) (Contains-push projectors found), is.1)) k high low m;
    known = λ k low high m.
        one_more (λ j. 2 ≤ j → is_member ◌==◌ colours j ≡ true → Knows after j) (λ j below some member. keeps_known notes after j keeps (h.known j some below member)) (λ some member. knows) k high low m;
    none = λ k low high m.
        one_more (λ j. 2 ≤ j → is_member ◌==◌ colours j ≡ true → (index common : ℕ) → ¬ IsFirstCommon table.params j index common) (λ j below some member. h.none j some below member) (λ some member. none) k high low m;
    of = of;
    kept = keeps_twice before notes after h.kept keeps;
  }

  -- a colour that isn't in the list
  pub found_skip : is_member ◌==◌ colours n ≡ false → IsFoundBelow table colours (n + 1) projectors before notes
  found_skip absent =
      let never : is_member ◌==◌ colours n ≡ true → ⊥ = λ m. (let both : true ≡ false = sym m ∙ absent in absurd (cc both)) in
      record {
        same = h.same;
        held = λ k low high m. one_more (λ j. 2 ≤ j → is_member ◌==◌ colours j ≡ true → Holds projectors j) (λ j below some member. h.held j some below member) (λ some member. absurd (never member)) k high low m;
        known = λ k low high m. one_more (λ j. 2 ≤ j → is_member ◌==◌ colours j ≡ true → Knows notes j) (λ j below some member. h.known j some below member) (λ some member. absurd (never member)) k high low m;
        none = λ k low high m.
            one_more (λ j. 2 ≤ j → is_member ◌==◌ colours j ≡ true → (index common : ℕ) → ¬ IsFirstCommon table.params j index common) (λ j below some member. h.none j some below member) (λ some member. absurd (never member)) k high low m;
        of = h.of;
        kept = h.kept;
      }

-- ---- the greatest colour
greatest_member : (colours : List ℕ) → 1 ≤ greatest colours → is_member ◌==◌ colours (greatest colours) ≡ true
greatest_member [] h = absurd (omega (arith, h))
greatest_member (c ∷ colours) h =
    let most = max c (greatest colours) in
    let first : most ≡ c → is_member ◌==◌ (c ∷ colours) most ≡ true = λ e. or_left (most == c) (is_member ◌==◌ colours most) (eq-eqb most c e) in
    ⊎_elim
    (λ s. first (omega (arith, s)))
    (λ o.
    ⊎_elim
    (λ s. first (omega (arith, s)))
    (λ s. let e : most ≡ greatest colours = omega (arith, s) in or_right (most == c) (is_member ◌==◌ colours most) (ap (is_member ◌==◌ colours) e ∙ greatest_member colours (omega (arith, s))))
    o)
    (cases_order (greatest colours) c)

-- where each colour of the list has a projector, none of the Deltas below the greatest shares a factor with the modulus
pub no_common_below : (table : Table) (colours : List ℕ) (n : ℕ) (projectors : List Found) (before notes : Notes) → IsFoundBelow table colours n projectors before notes → greatest colours < n →
    (index common : ℕ) → ¬ IsFirstCommon table.params (greatest colours) index common
no_common_below table colours n projectors before notes h past index common first =
    let above = first.above in
    let below = first.below in
    h.none (greatest colours) (omega (arith, above, below)) past (greatest_member colours (omega (arith, above, below))) index common first
