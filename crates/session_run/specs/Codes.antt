-- The exit codes of the program.
use Rattle.std.specs.Prelude.{ℕ}
use Rattle.session_streams.specs.declared.status.Status.{Status}
use Rattle.session_streams.specs.declared.status.Status.TheVariants.{Done, Usage, ReadFault, WriteFault, NoMemory, Script, Limit}

abbrev pub code_of : Status → ℕ
code_of Done = 0
code_of Usage = 2
code_of ReadFault = 3
code_of WriteFault = 4
code_of NoMemory = 5
code_of Script = 6
code_of Limit = 7
