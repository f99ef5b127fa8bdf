-- The law of a curl beside a box, for the cabled crossings of both signs.
use Rattle.planar_check.specs.declared.sign.Sign.TheVariants as signs
use Rattle.coloured_curls.specs.Laws.{CurlBesideBoxLaw}
use Rattle.coloured_curls.proofs.BoxedCurls.{beside_box}

-- A CURL BESIDE A BOX
pub curl_beside_box : CurlBesideBoxLaw
curl_beside_box p free g k c signs.Plus E W M F group few le lw lm lf f is rest okx ok twice = beside_box p free g k c signs.Plus E W M F group few le lw lm lf f is rest okx ok twice
curl_beside_box p free g k c signs.Minus E W M F group few le lw lm lf f is rest okx ok twice = beside_box p free g k c signs.Minus E W M F group few le lw lm lf f is rest okx ok twice
