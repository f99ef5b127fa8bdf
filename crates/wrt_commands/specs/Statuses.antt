-- The exit status of each way in which a run ends. (This project's own.)
--
--     code_of status
use Rattle.std.specs.Prelude.{ℕ}
use Rattle.wrt_commands.specs.declared.status.Status.{Status}
use Rattle.wrt_commands.specs.declared.status.Status.TheVariants.{Done, Input, Words, ReadFault, WriteFault, Limit, NoInverse, Memory}

abbrev pub code_of : Status → ℕ
code_of Done = 0
code_of Input = 1
code_of Words = 2
code_of ReadFault = 3
code_of WriteFault = 4
code_of Limit = 5
code_of NoInverse = 6
code_of Memory = 7
