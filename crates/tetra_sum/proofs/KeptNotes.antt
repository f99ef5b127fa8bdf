-- Notes keep what they know: themselves, and over two calls.
use Rattle.std.proofs.Common.{◌≡◌, Option, Some, None, IfSome, refl, subst}
use Rattle.wenzl_table.specs.Tables.{Notes, Keeps, known}
use Rattle.wenzl_table.specs.Projectors.{Projector}

own : (o : Option Projector) → IfSome o (λ f. o ≡ Some f)
own None = tt
own (Some f) = refl

twice : (a b c : Option Projector) → IfSome a (λ f. b ≡ Some f) → IfSome b (λ f. c ≡ Some f) → IfSome a (λ f. c ≡ Some f)
twice None b c h k = tt
twice (Some f) b c h k = let P : Option Projector → Type 0 = λ o. IfSome o (λ g. c ≡ Some g) in subst P h k

pub keeps_itself : (notes : Notes) → Keeps notes notes
keeps_itself notes = λ n. own (known notes n)

pub keeps_twice : (first second third : Notes) → Keeps first second → Keeps second third → Keeps first third
keeps_twice first second third h k = λ n. twice (known first n) (known second n) (known third n) (h n) (k n)
