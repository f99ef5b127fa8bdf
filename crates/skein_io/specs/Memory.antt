-- Sources and sinks in memory, as contracts see them. Their calls are numbered from 1, and those
-- whose numbers are listed fail. The number of calls is kept in 64 bits and stops at 2^64 - 1, like a
-- count of faults. This project's own.
--
--     SourceInMemory          the bytes left, and the calls
--     SinkInMemory            the bytes taken and the room for them, and the calls
--     IsListed fails calls    the call after these is one that fails
use Rattle.std.specs.Prelude.{ℕ, List}
use Rattle.std.specs.List.{Contains}
use Rattle.skein_io.specs.Faults.{one_more}

-- a source: at most `piece` bytes go out in a call, `calls` calls were made, and `faults` failed
pub record SourceInMemory : Type 0 where
  pub left : List ℕ
  pub piece : ℕ
  pub fails : List ℕ
  pub calls : ℕ
  pub faults : ℕ

-- a sink: at most `piece` bytes come in in a call, and at most `room` in all
pub record SinkInMemory : Type 0 where
  pub taken : List ℕ
  pub room : ℕ
  pub piece : ℕ
  pub fails : List ℕ
  pub calls : ℕ
  pub faults : ℕ

-- the next call is one of the calls that fail
abbrev pub IsListed : List ℕ → ℕ → Type 0
IsListed fails calls = Contains fails (one_more calls)
