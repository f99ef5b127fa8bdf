-- The laws of words, from the relations of hooks, of letters and of bundles.
use Rattle.std.proofs.Common.{◌≡◌, ℕ, suc, Bool, true, false, ◌+◌, ◌*◌, ◌%◌, List, [], ◌∷◌, ◌++◌, sym, ap, ap₂, ◌∙◌, arith, subst, All}
use Rattle.std.proofs.lemmas.List.Elements.{All-head, All-tail}
use Rattle.state_sums.specs.LocalSums.{AreSkeinNumbers}
use Rattle.state_sums.proofs.Congruent.{cancel_mod}
use Rattle.strand_words.specs.Boxes.{close_worth, box_sum, IsBox}
use Rattle.strand_words.specs.Grids.{crossed, grid}
use Rattle.strand_words.specs.Laws.{RaisedWordsLaw, SameWordLaw, LetterSecondMoveLaw, LetterThirdMoveLaw, FarLettersLaw, InverseWordLaw, BundleSecondMoveLaw, BundleThirdMoveLaw, GridColumnsLaw, ClosedGridLaw, BoxTwistLaw, BoxCurlLaw}
use Rattle.strand_words.specs.Words.{Letter, word_sum, SameWord}
use Rattle.strand_words.proofs.Boxes.{absorbs_twist, absorbs_curl}
use Rattle.strand_words.proofs.Braids.{over_under}
use Rattle.strand_words.proofs.Bundles.{bundle_second, bundle_third, grid_in_columns}
use Rattle.strand_words.proofs.Curls.{grid_closed}
use Rattle.strand_words.proofs.Renamed.{same_raised}
use Rattle.strand_words.proofs.Rewriting
use Rattle.strand_words.proofs.Slides.{numbers_of}
use Rattle.piece_laws.proofs.SkeinEquations.{exchanged_numbers, curl_equation}

-- AN EQUIVALENCE, ON BOTH SIDES OF ANY WORDS
pub same_word : SameWordLaw
same_word m delta = record {
  itself = λ u. Rewriting.itself;
  back = λ u v s. Rewriting.back s;
  on = λ u v w s t. Rewriting.on s t;
  within = λ x u v y s. Rewriting.within x y s;
}

-- THE SECOND MOVE
pub letter_second_move : LetterSecondMoveLaw
letter_second_move m a b delta i true numbers = over_under m a b delta i numbers
letter_second_move m a b delta i false numbers = over_under m b a delta i (exchanged_numbers numbers)

-- THE THIRD MOVE
pub letter_third_move : LetterThirdMoveLaw
letter_third_move m a b delta i s t v numbers e =
    let one : (s : Bool) (k : ℕ) → grid a b s k 1 1 ≡ crossed a b s k ∷ [] = λ s k. ap (λ n. crossed a b s n ∷ []) (let f : k + 0 ≡ k = omega arith in f) in
    subst (λ x. SameWord m delta x (crossed a b v (i + 1) ∷ crossed a b t i ∷ crossed a b s (i + 1) ∷ [])) (ap₂ (λ x yz. x ++ yz) (one s i) (ap₂ (λ y z. y ++ z) (one t (i + 1)) (one v i)))
    (subst (λ x. SameWord m delta (grid a b s i 1 1 ++ (grid a b t (i + 1) 1 1 ++ grid a b v i 1 1)) x) (ap₂ (λ x yz. x ++ yz) (one v (i + 1)) (ap₂ (λ y z. y ++ z) (one t i) (one s (i + 1))))
    (bundle_third m a b delta numbers s t v i 1 1 1 e))

-- FAR APART
pub far_letters : FarLettersLaw
far_letters m delta j k l = Rewriting.far_letters j k l

are_crossings : (m delta : ℕ) (u : List Letter) → All (λ letter. AreSkeinNumbers m letter.straight letter.hook delta) u → Rewriting.AreCrossings m delta u
are_crossings m delta [] a = tt
are_crossings m delta (j ∷ u) a =
    (All-head (λ letter. AreSkeinNumbers m letter.straight letter.hook delta) j u a, are_crossings m delta u (All-tail (λ letter. AreSkeinNumbers m letter.straight letter.hook delta) j u a))

-- THE INVERSE
pub inverse_word : InverseWordLaw
inverse_word m delta u a = Rewriting.undone u (are_crossings m delta u a)

-- THE SECOND MOVE OF BUNDLES
pub bundle_second_move : BundleSecondMoveLaw
bundle_second_move m a b delta i o u s numbers = bundle_second m a b delta numbers s i o u

-- THE THIRD MOVE OF BUNDLES
pub bundle_third_move : BundleThirdMoveLaw
bundle_third_move m a b delta i x y z s t v numbers e = bundle_third m a b delta numbers s t v i x y z e

-- A BUNDLE IN TWO PARTS
pub grid_columns : GridColumnsLaw
grid_columns m a b delta i x z y s numbers = grid_in_columns m a b delta numbers s i x z y

-- -x^3 is what a closed crossing comes to
factor_of : (m x y delta w : ℕ) → AreSkeinNumbers m x y delta → (w + x * x * x) % m ≡ 0 % m → w % m ≡ (x * delta + y) % m
factor_of m x y delta w numbers e =
    let f = curl_equation m x y delta numbers in
    cancel_mod m w (x * delta + y) (x * x * x) (e ∙ sym f)

-- A CROSSING OF BUNDLES, CLOSED
pub closed_grid : ClosedGridLaw
closed_grid m a b delta w i o u s worth mate numbers e h standing =
    ap (λ n. word_sum delta (grid a b s i o n) (close_worth delta i o worth) mate % m) (let t : u + 1 ≡ suc u = omega arith in t)
    ∙ grid_closed m a b delta numbers s w (factor_of m (crossed a b s i).straight (crossed a b s i).hook delta w (numbers_of m a b delta numbers s i) e) u o i worth mate record { is_mating = h; standing = standing }

-- TWISTS BESIDE A BOX
pub box_twist : BoxTwistLaw
box_twist m a b delta i count n turns s box worth is_box =
    absorbs_twist m delta i count n box (subst (λ k. IsBox m delta i count k box) (let t : n + 1 ≡ suc n = omega arith in t) is_box) a b s turns worth

-- A CURL BESIDE A BOX
pub box_curl : BoxCurlLaw
box_curl m a b delta w i n s box worth numbers e is_box =
    ap (λ k. box_sum box (word_sum delta (grid a b s i (n + 1) k) (close_worth delta i (n + 1) worth)) % m) (let t : n + 1 ≡ suc n = omega arith in t)
    ∙ absorbs_curl m delta i (n + 1) n box (subst (λ k. IsBox m delta i (n + 1) k box) (let t : n + 1 ≡ suc n = omega arith in t) is_box) a b s numbers w
    (factor_of m (crossed a b s i).straight (crossed a b s i).hook delta w (numbers_of m a b delta numbers s i) e) worth

-- AT OTHER PLACES
pub raised_words : RaisedWordsLaw
raised_words m delta k u v s = same_raised m delta k u v s
