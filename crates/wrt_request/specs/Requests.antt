-- What the parts of a command line ask for, or the first reason against them. (This project's own.)
--
--     listed list                        the list that is given, or else the empty one
--     diagram_values colours framings    the values that `moves` asks for: it takes one of both lists
--     task_of command numbers arguments  what the command asks for with its own numbers and the values of its options
--     IsInRange task                    the crossings of the task are 1 to 256, and its workers 1 to 64
--     shared_numbers own numbers        M, A and R, behind so many numbers of the command's own
--     sweep_of texts                    the options of a sweep: its order, and whether its turns are reported
--     arguments_of texts                the values of the options: the colours, the framings, the options of a sweep, the workers
--     rest_of command numbers texts     the request of a command with its numbers, by the options
--     request_of texts                  the request of the parts
--
-- "torus 2 41 2 5 --turns" asks for the bracket of the Hopf link at 41, 2, 5, with its turns; "torus 2 41 2" doesn't have
-- the four numbers that `torus` takes, and "torus 0 41 2 5" not 1 to 256 crossings (proofs/Examples.antt).
use Rattle.std.specs.Prelude.{◌&&◌, ◌+◌, ◌≤◌, ℕ, ℤ, List, [], Option, Some, None, Result, Ok, Err, if◌then◌else◌, nat_lt, slice_index}
use Rattle.wrt_parts.specs.Texts.{Texts}
use Rattle.wrt_request.specs.Commands.{command_of, row_of, check_options}
use Rattle.wrt_request.specs.Colours.{colours_of}
use Rattle.wrt_request.specs.Framings.{framings_of}
use Rattle.wrt_request.specs.Numbers.{numbers_of}
use Rattle.wrt_request.specs.Orders.{order_of}
use Rattle.wrt_request.specs.Stages.{after}
use Rattle.wrt_request.specs.Workers.{workers_of}
use Rattle.wrt_request.specs.declared.command.Command.{Command}
use Rattle.wrt_request.specs.declared.command.Command.TheVariants as commands
use Rattle.wrt_request.specs.declared.request.Arguments.{Arguments}
use Rattle.wrt_request.specs.declared.request.DiagramValues.{DiagramValues}
use Rattle.wrt_request.specs.declared.request.DiagramValues.TheVariants.{Brackets, Coloured, Surgery}
use Rattle.wrt_request.specs.declared.request.Numbers.{Numbers}
use Rattle.wrt_request.specs.declared.request.Request.{Request}
use Rattle.wrt_request.specs.declared.request.Sweep.{Sweep}
use Rattle.wrt_request.specs.declared.request.Task.{Task}
use Rattle.wrt_request.specs.declared.request.Task.TheVariants.{Bracket, Colored, Net, Torus, Wrt, Moves, Braid, Tetrahedra}
use Rattle.wrt_request.specs.declared.fault.PartsRefusal.{PartsRefusal}
use Rattle.wrt_request.specs.declared.fault.PartsRefusal.TheVariants.{Crossings, ColorsAndFraming}

-- The list that is given, or else the empty one.
abbrev pub listed : Option (List ℕ) → List ℕ
listed (Some list) = list
listed None = []

-- The values that `moves` asks for: it takes one of both lists.
abbrev pub diagram_values : Option (List ℕ) → Option (List ℤ) → Result DiagramValues PartsRefusal
diagram_values None None = Ok Brackets
diagram_values (Some colours) None = Ok (Coloured colours)
diagram_values None (Some framings) = Ok (Surgery framings)
diagram_values (Some colours) (Some framings) = Err ColorsAndFraming

-- What the command asks for: the crossings of `torus` are 1 to 256.
abbrev pub task_of : Command → List ℕ → Arguments → Result Task PartsRefusal
task_of commands.Bracket numbers arguments = Ok (Bracket arguments.sweep)
task_of commands.Colored numbers arguments = Ok (Colored (listed arguments.colours) arguments.sweep)
task_of commands.Net numbers arguments = Ok (Net (listed arguments.colours) arguments.sweep)
task_of commands.Torus numbers arguments =
    if nat_lt 0 (slice_index numbers 0) && nat_lt (slice_index numbers 0) 257 then Ok (Torus (slice_index numbers 0) arguments.sweep) else Err Crossings
task_of commands.Wrt numbers arguments = Ok (Wrt arguments.framings arguments.workers arguments.even arguments.sweep)
task_of commands.Moves numbers arguments = after (diagram_values arguments.colours arguments.framings) (λ values. Ok (Moves values))
task_of commands.Braid numbers arguments = Ok Braid
task_of commands.Tetrahedra numbers arguments = Ok Tetrahedra

-- The crossings of the task are 1 to 256, and its workers 1 to 64.
abbrev pub IsInRange : Task → Type 0
IsInRange (Torus crossings sweep) = (1 ≤ crossings) × (crossings ≤ 256)
IsInRange (Wrt framings workers even sweep) = (1 ≤ workers) × (workers ≤ 64)
IsInRange task = Unit {0}

-- M, A and R, behind so many numbers of the command's own.
abbrev pub shared_numbers : ℕ → List ℕ → Numbers
shared_numbers own numbers =
    record { modulus = slice_index numbers own; root = slice_index numbers (own + 1); level = slice_index numbers (own + 2) }

-- The options of a sweep.
abbrev pub sweep_of : Texts → Result Sweep PartsRefusal
sweep_of texts = after (order_of texts.order) (λ order. Ok (record { order = order; turns = texts.turns }))

-- The values of the options, in the one order in which they are read.
abbrev pub arguments_of : Texts → Result Arguments PartsRefusal
arguments_of texts =
    after (colours_of texts.colors) (λ colours. after (framings_of texts.framing) (λ framings. after (sweep_of texts) (λ sweep.
    after (workers_of texts.workers) (λ workers.
    Ok (record { colours = colours; framings = framings; sweep = sweep; workers = workers; even = texts.even })))))

-- The request of a command with its numbers: the options belong to it, their values are read in one order for all commands, and
-- the command's own numbers are looked at last.
unfoldable pub rest_of : Command → List ℕ → Texts → Result Request PartsRefusal
rest_of command numbers texts =
    after (check_options command texts) (λ _. after (arguments_of texts) (λ arguments. after (task_of command numbers arguments) (λ task.
    Ok (record { task = task; numbers = shared_numbers (row_of command).own_numbers numbers }))))

-- The request of the parts: the command is one, its numbers are as many as it takes, and the rest holds.
unfoldable pub request_of : Texts → Result Request PartsRefusal
request_of texts =
    after (command_of texts.command) (λ command. after (numbers_of ((row_of command).own_numbers + 3) texts.numbers) (λ numbers.
    rest_of command numbers texts))
