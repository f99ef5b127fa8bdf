-- How many workers share a sum, as the value of `--workers` says it. (This project's own.)
--
--     workers_of value      1 where there is no value; else the number from 1 to 64 that it writes
use Rattle.std.specs.Prelude.{◌&&◌, ℕ, Option, Some, None, Result, Ok, Err, if◌then◌else◌, nat_lt}
use Rattle.wrt_parts.specs.Texts.{Text}
use Rattle.wrt_request.specs.Decimals.{decimal_value}
use Rattle.wrt_request.specs.declared.fault.PartsRefusal.{PartsRefusal}
use Rattle.wrt_request.specs.declared.fault.PartsRefusal.TheVariants as refusals

-- A number as workers: it is 1 to 64.
abbrev pub as_workers : Option ℕ → Result ℕ PartsRefusal
as_workers (Some n) = if nat_lt 0 n && nat_lt n 65 then Ok n else Err refusals.Workers
as_workers None = Err refusals.Workers

-- The workers that the value says.
abbrev pub workers_of : Option Text → Result ℕ PartsRefusal
workers_of None = Ok 1
workers_of (Some text) = as_workers (decimal_value text)
