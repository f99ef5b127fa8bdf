-- What a proof unfolds to compute `request_of` at parts that are written out.
use Rattle.std.specs.Prelude.{⊤}
use Rattle.wrt_request.specs.Decimals.{decimal_value}
use Rattle.wrt_request.specs.Framings.{signed_value}
use Rattle.wrt_request.specs.Lists.{member_value}
use Rattle.wrt_request.specs.Numbers.{numbers_of}
use Rattle.wrt_request.specs.Requests.{request_of, rest_of}

unfoldable pub request_on_literals : ⊤
unfolding decimal_value member_value signed_value numbers_of rest_of request_of
request_on_literals = tt
