-- The relations of hooks on matings: Temperley and Lieb's.
use Rattle.std.proofs.Common.{◌≡◌, ◌≢◌, ℕ, ◌*◌, sym, ap, ◌∙◌, arith, ⊎_elim}
use Rattle.std.proofs.lemmas.Bool.{cases_eq}
use Rattle.std.proofs.lemmas.Bool.Decides.{nat_tests}
use Rattle.strand_words.specs.Matings.{IsMating, hooked, loop_worth}

pub fun_ext : (f g : ℕ → ℕ) → ((x : ℕ) → f x ≡ g x) → f ≡ g
fun_ext f g h = λ i x. h x i

-- mates are one to one
pub mate_one : (mate : ℕ → ℕ) → IsMating mate → (p q : ℕ) → mate p ≡ mate q → p ≡ q
mate_one mate h p q t = sym (h.back p) ∙ ap mate t ∙ h.back q

pub hooked-IsMating : (p q : ℕ) (mate : ℕ → ℕ) → IsMating mate → p ≢ q → IsMating (hooked p q mate)
hooked-IsMating p q mate h d = record {
  apart = λ x e.
      let a = h.apart p in let b = h.apart q in let c = h.apart x in
      let bp = h.back p in let bq = h.back q in let bx = h.back x in
      let cp = mate_one mate h p q in
      grind (arith, nat_tests, a, b, c, bp, bq, bx, cp, e, d);
  back = λ x.
      let a = h.apart p in let b = h.apart q in let c = h.apart x in
      let bp = h.back p in let bq = h.back q in let bx = h.back x in
      let cp = mate_one mate h p q in
      grind (arith, nat_tests, a, b, c, bp, bq, bx, cp, d);
}

-- A HOOK WHERE THERE IS ONE
pub hooked_mates : (p q : ℕ) (mate : ℕ → ℕ) → IsMating mate → p ≢ q → mate p ≡ q → hooked p q mate ≡ mate
hooked_mates p q mate h d e =
    fun_ext _ _ (λ x.
    let bp = h.back p in let bq = h.back q in let bx = h.back x in
    grind (arith, nat_tests, bp, bq, bx, e, d))

pub hooked-meets : (p q : ℕ) (mate : ℕ → ℕ) → p ≢ q → hooked p q mate p ≡ q
hooked-meets p q mate d = grind (arith, nat_tests, d)

-- A HOOK BESIDE ONE, AND THE FIRST AGAIN
pub hooked_between : (p q r : ℕ) (mate : ℕ → ℕ) → IsMating mate → p ≢ q → q ≢ r → p ≢ r → mate p ≡ q → hooked p q (hooked q r mate) ≡ mate
hooked_between p q r mate h d e f t =
    fun_ext _ _ (λ x.
    let ar = h.apart r in
    let bp = h.back p in let br = h.back r in let bx = h.back x in
    grind (arith, nat_tests, ar, bp, br, bx, t, d, e, f))

pub hooked_back : (p q r : ℕ) (mate : ℕ → ℕ) → IsMating mate → p ≢ q → q ≢ r → p ≢ r → hooked p q (hooked q r (hooked p q mate)) ≡ hooked p q mate
hooked_back p q r mate h d e f = hooked_between p q r (hooked p q mate) (hooked-IsMating p q mate h d) d e f (hooked-meets p q mate d)

-- which of the two points comes first does not matter
pub hooked_turned : (p q : ℕ) (mate : ℕ → ℕ) → IsMating mate → p ≢ q → hooked p q mate ≡ hooked q p mate
hooked_turned p q mate h d =
    fun_ext _ _ (λ x.
    let bp = h.back p in let bq = h.back q in let cp = mate_one mate h p q in
    grind (arith, nat_tests, bp, bq, cp, d))

-- and the other way round
pub hooked_forth : (p q r : ℕ) (mate : ℕ → ℕ) → IsMating mate → p ≢ q → q ≢ r → p ≢ r → hooked q r (hooked p q (hooked q r mate)) ≡ hooked q r mate
hooked_forth p q r mate h d e f =
    let qr = hooked-IsMating q r mate h e in
    let pq = hooked-IsMating p q (hooked q r mate) qr d in
    let rq : hooked q r mate ≡ hooked r q mate = hooked_turned q r mate h e in
    hooked_turned q r (hooked p q (hooked q r mate)) pq e
    ∙ ap (hooked r q) (hooked_turned p q (hooked q r mate) qr d)
    ∙ ap (λ n. hooked r q (hooked q p n)) rq
    ∙ hooked_back r q p mate h (λ t. e (sym t)) (λ t. d (sym t)) (λ t. f (sym t))
    ∙ sym rq

module _ (p q r s : ℕ) (mate : ℕ → ℕ) (h : IsMating mate) (d : p ≢ q) (e : p ≢ r) (f : p ≢ s) (g : q ≢ r) (i : q ≢ s) (j : r ≢ s) (x : ℕ) where
  abbrev Far : Type 0
  Far = hooked p q (hooked r s mate) x ≡ hooked r s (hooked p q mate) x

  far_p : mate p ≡ r → Far
  far_p t =
      let ap_ = h.apart p in let aq = h.apart q in let ar = h.apart r in let as_ = h.apart s in
      let bp = h.back p in let bq = h.back q in let bs = h.back s in let bx = h.back x in
      ⊎_elim (λ u. grind (arith, nat_tests, t, u)) (λ u. grind (arith, nat_tests, t, u)) (cases_eq (mate q) s)

  far_q : mate p ≡ s → Far
  far_q t =
      let ap_ = h.apart p in let aq = h.apart q in let ar = h.apart r in let as_ = h.apart s in
      let bp = h.back p in let bq = h.back q in let br = h.back r in let bx = h.back x in
      ⊎_elim (λ u. grind (arith, nat_tests, t, u)) (λ u. grind (arith, nat_tests, t, u)) (cases_eq (mate q) r)

  far_r : mate p ≢ r → mate p ≢ s → mate q ≡ r → Far
  far_r t u v =
      let ap_ = h.apart p in let aq = h.apart q in let as_ = h.apart s in
      let bp = h.back p in let bq = h.back q in let bs = h.back s in let bx = h.back x in
      grind (arith, nat_tests, t, u, v)

  far_s : mate p ≢ r → mate p ≢ s → mate q ≡ s → Far
  far_s t u v =
      let ap_ = h.apart p in let aq = h.apart q in let ar = h.apart r in
      let bp = h.back p in let bq = h.back q in let br = h.back r in let bx = h.back x in
      grind (arith, nat_tests, t, u, v)

  far_none : mate p ≢ r → mate p ≢ s → mate q ≢ r → mate q ≢ s → Far
  far_none t u v w =
      let ap_ = h.apart p in let aq = h.apart q in let ar = h.apart r in let as_ = h.apart s in
      let bp = h.back p in let bq = h.back q in let br = h.back r in let bs = h.back s in
      let pr = mate_one mate h p r in let ps = mate_one mate h p s in let qr = mate_one mate h q r in let qs = mate_one mate h q s in
      grind (arith, nat_tests, t, u, v, w, pr, ps, qr, qs)

  far_at : Far
  far_at =
      ⊎_elim far_p
      (λ t. ⊎_elim far_q (λ u. ⊎_elim (far_r t u) (λ v. ⊎_elim (far_s t u) (far_none t u v) (cases_eq (mate q) s)) (cases_eq (mate q) r)) (cases_eq (mate p) s))
      (cases_eq (mate p) r)

-- HOOKS FAR APART
pub hooked_far : (p q r s : ℕ) (mate : ℕ → ℕ) → IsMating mate → p ≢ q → p ≢ r → p ≢ s → q ≢ r → q ≢ s → r ≢ s →
    hooked p q (hooked r s mate) ≡ hooked r s (hooked p q mate)
hooked_far p q r s mate h d e f g i j = fun_ext _ _ (far_at p q r s mate h d e f g i j)

-- ---- what loops are worth
pub loop_again : (delta p q : ℕ) (mate : ℕ → ℕ) → p ≢ q → loop_worth delta p q (hooked p q mate) ≡ delta
loop_again delta p q mate d = grind (arith, nat_tests, d)

pub loop_beside : (delta p q r : ℕ) (mate : ℕ → ℕ) → p ≢ q → q ≢ r → p ≢ r → loop_worth delta q r (hooked p q mate) ≡ 1
loop_beside delta p q r mate d e f = grind (arith, nat_tests, d, e, f)

pub loop_before : (delta p q r : ℕ) (mate : ℕ → ℕ) → IsMating mate → p ≢ q → q ≢ r → p ≢ r → loop_worth delta p q (hooked q r mate) ≡ 1
loop_before delta p q r mate h d e f =
    let ap_ = h.apart p in let aq = h.apart q in
    let bp = h.back p in let bq = h.back q in let br = h.back r in
    grind (arith, nat_tests, ap_, aq, bp, bq, br, d, e, f)

pub loop_back : (delta p q r : ℕ) (mate : ℕ → ℕ) → IsMating mate → p ≢ q → q ≢ r → p ≢ r → mate p ≡ q → loop_worth delta p q (hooked q r mate) ≡ 1
loop_back delta p q r mate h d e f t =
    let bp = h.back p in let br = h.back r in let ar = h.apart r in
    grind (arith, nat_tests, bp, br, ar, t, d, e, f)

pub loop_far : (delta p q r s : ℕ) (mate : ℕ → ℕ) → IsMating mate → p ≢ q → p ≢ r → p ≢ s → q ≢ r → q ≢ s → r ≢ s →
    loop_worth delta r s mate * loop_worth delta p q (hooked r s mate) ≡ loop_worth delta p q mate * loop_worth delta r s (hooked p q mate)
loop_far delta p q r s mate h d e f g i j =
    let bp = h.back p in let bq = h.back q in let br = h.back r in let bs = h.back s in
    grind (arith, nat_tests, bp, bq, br, bs, d, e, f, g, i, j)
