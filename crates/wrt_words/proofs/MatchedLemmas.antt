-- What the getters read is what the definition takes from the rows that `clap` matched.
use Rattle.std.proofs.Common.{◌≡◌, refl, codes, [], List, Option, Some, None, unwrap_or, map}
use Rattle.std.specs.Option.{option_map}
use Rattle.std.specs.Borrow.{Bor}
use Rattle.clap.specs.Walk.{Row, first_of}
use Rattle.wrt_parts.specs.Texts.{Text, texts_of}
use Rattle.wrt_parts.specs.declared.parts.Parts.{Parts}
use Rattle.wrt_words.specs.Matched.{is_set, numbers_in, texts_in}

pub unwrapped : (o : Option (Bor Text)) (d : Bor Text) → (unwrap_or o d).now ≡ unwrap_or (option_map (λ s. s.now) o) d.now
unwrapped None d = refl
unwrapped (Some s) d = refl

pub texts_same : (p : Parts) (rows : List Row)
    → p.command.now ≡ unwrap_or (first_of (codes "command") rows) []
    → map (λ s. s.now) p.numbers.items ≡ numbers_in rows
    → option_map (λ s. s.now) p.colors ≡ first_of (codes "colors") rows
    → option_map (λ s. s.now) p.framing ≡ first_of (codes "framing") rows
    → option_map (λ s. s.now) p.workers ≡ first_of (codes "workers") rows
    → option_map (λ s. s.now) p.order ≡ first_of (codes "order") rows
    → p.turns ≡ is_set (codes "turns") rows
    → p.even ≡ is_set (codes "even") rows
    → texts_of p ≡ texts_in rows
texts_same p rows command numbers colors framing workers order turns even = cc
