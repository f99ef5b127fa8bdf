-- Laws over the definitions alone.
use Rattle.std.specs.Prelude.{◌≡◌, ℕ, List, Result}
use Rattle.pd_reader.specs.declared.fault.TextFault.{TextFault}
use Rattle.script_reader.specs.ScriptTexts.{ScriptParts, IsScriptReading}

-- all bytes have a reading
abbrev pub ScriptReadingsExist : Type 0
ScriptReadingsExist = (bytes : List ℕ) → (reading : Result ScriptParts TextFault) × IsScriptReading bytes reading

-- and no two
abbrev pub ScriptReadingsAreUnique : Type 0
ScriptReadingsAreUnique = (bytes : List ℕ) (x y : Result ScriptParts TextFault) → IsScriptReading bytes x → IsScriptReading bytes y → x ≡ y
