-- What words come to before the input is read: parameters and a task, or the first refusal. (This project's own.)
--
--     form_of task        the form of the parameters that the task is about
--     is_past_level task r      R is past the task's own limit: for sums over tetrahedra this is 6
--     opening words       the parts of the command line, the request in them, its parameters
--     reads_input opening the input is read: not for a torus link, nor where the words are refused
use Rattle.std.specs.Prelude.{ℕ, Bool, true, false, nat_lt, List, Option, Some, None, Result, Ok, Err, if◌then◌else◌}
use Rattle.root_quantum.specs.Parameters.{Parameters}
use Rattle.root_quantum.specs.declared.form.Form.{Form}
use Rattle.root_quantum.specs.declared.form.Form.TheVariants.{All, Even}
use Rattle.wrt_parts.specs.Texts.{Texts}
use Rattle.wrt_words.specs.Words.{parts_of}
use Rattle.wrt_request.specs.declared.request.Request.{Request}
use Rattle.wrt_request.specs.declared.request.Task.{Task}
use Rattle.wrt_request.specs.declared.request.Task.TheVariants.{Torus, Wrt, Tetrahedra}
use Rattle.wrt_request.specs.declared.fault.PartsRefusal.{PartsRefusal}
use Rattle.wrt_request.specs.Requests.{request_of}
use Rattle.wrt_commands.specs.declared.opening.Opened.{Opened}
use Rattle.wrt_commands.specs.declared.refusal.Refusal.{Refusal}
use Rattle.wrt_commands.specs.declared.refusal.Refusal.TheVariants.{Words, Parameters as ParametersRefused}
use Rattle.wrt_commands.specs.declared.parameters_refusal.ParametersRefusal.TheVariants.{TetraLevel}
use Rattle.wrt_commands.specs.declared.words_refusal.WordsRefusal.TheVariants.{NoCommandLine, Parts}
use Rattle.wrt_commands.specs.Parameters.{parameters_of}
use Rattle.wrt_request.specs.Stages.{after}
use Rattle.wrt_commands.specs.Stops.{refused_as}

-- The words are a command line with these parts, by `clap`'s definition, or are refused.
abbrev pub line_of : Option Texts → Result Texts Refusal
line_of (Some texts) = Ok texts
line_of None = Err (Words NoCommandLine)

-- The refusal of parts.
abbrev pub parts_refused : PartsRefusal → Refusal
parts_refused refusal = Words (Parts refusal)

-- The form of the parameters: the even one for even colours alone.
abbrev pub form_of : Task → Form
form_of (Wrt framings workers true sweep) = Even
form_of task = All

-- R is past the task's own limit.
abbrev pub is_past_level : Task → ℕ → Bool
is_past_level Tetrahedra level = nat_lt 6 level
is_past_level task level = false

-- The task of a request at its parameters.
abbrev pub opened : Task → Parameters → Result Opened Refusal
opened task p = if is_past_level task p.level then Err (ParametersRefused TetraLevel) else Ok (record { params = p; task = task })

-- What a request comes to.
abbrev pub with_request : Request → Result Opened Refusal
with_request request = after (refused_as ParametersRefused (parameters_of (form_of request.task) request.numbers)) (opened request.task)

-- What the parts of a command line come to.
abbrev pub with_texts : Texts → Result Opened Refusal
with_texts texts = after (refused_as parts_refused (request_of texts)) with_request

-- What the words come to.
abbrev pub opening : List (List ℕ) → Result Opened Refusal
opening words = after (line_of (parts_of words)) with_texts

-- The task is about an input.
abbrev pub is_about_input : Task → Bool
is_about_input (Torus crossings sweep) = false
is_about_input task = true

-- The input is read.
abbrev pub reads_input : Result Opened Refusal → Bool
reads_input (Ok asked) = is_about_input asked.task
reads_input (Err refusal) = false
