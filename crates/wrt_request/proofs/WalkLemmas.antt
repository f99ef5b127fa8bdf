-- A call that reads the parts one by one reads what the definition says: where a part is refused, or memory is wanting, the
-- call ends so; and else it goes on with what follows from the part.
use Rattle.std.proofs.Common.{◌≡◌, ◌+◌, ℕ, List, Result, Ok, Err, refl, sym, ap, ◌∙◌, subst}
use Rattle.wrt_parts.specs.Texts.{Texts}
use Rattle.wrt_request.specs.Commands.{command_of, row_of, check_options}
use Rattle.wrt_request.specs.Numbers.{numbers_of}
use Rattle.wrt_request.specs.Requests.{request_of, rest_of, shared_numbers, arguments_of, task_of}
use Rattle.wrt_request.specs.Stages.{after, Fails}
use Rattle.wrt_request.specs.declared.command.Command.{Command}
use Rattle.wrt_request.specs.declared.request.Request.{Request}
use Rattle.wrt_request.specs.declared.request.Arguments.{Arguments}
use Rattle.wrt_request.specs.declared.request.Task.{Task}
use Rattle.wrt_request.specs.declared.fault.PartsRefusal.{PartsRefusal}
use Rattle.wrt_request.specs.declared.fault.PartsFault.{PartsFault}
use Rattle.wrt_request.specs.declared.fault.PartsFault.TheVariants.{Refused, Memory}

module _ {A C : Type 0} (part : Result A PartsRefusal) (next : A → Result C PartsRefusal) where
  ended : (fault : PartsFault) → Fails part fault → Fails (after part next) fault
  ended (Refused refusal) h = rw h refl
  ended Memory h = tt

  pub ends : (of fault : PartsFault) → fault ≡ of → Fails part of → Fails (after part next) fault
  ends of fault same h = let P : PartsFault → Type 0 = λ f. Fails (after part next) f in subst P (sym same) (ended of h)

  -- a part that takes no memory
  pub refuses : (refusal : PartsRefusal) (fault : PartsFault) → Err refusal ≡ part → fault ≡ Refused refusal → Fails (after part next) fault
  refuses refusal fault is same = rw (same, ← is) refl

-- ---- the steps of a request
module _ (command : Command) (numbers : List ℕ) (texts : Texts) where
  abbrev pub with_task : Task → Result Request PartsRefusal
  with_task task = Ok (record { task = task; numbers = shared_numbers (row_of command).own_numbers numbers })

  abbrev pub with_arguments : Arguments → Result Request PartsRefusal
  with_arguments arguments = after (task_of command numbers arguments) with_task

  abbrev pub with_options : Unit {0} → Result Request PartsRefusal
  with_options _ = after (arguments_of texts) with_arguments

  pub rest-options : rest_of command numbers texts ≡ after (check_options command texts) with_options
  unfolding rest_of
  rest-options = refl

  pub rest-arguments : Ok tt ≡ check_options command texts → rest_of command numbers texts ≡ after (arguments_of texts) with_arguments
  unfolding rest_of
  rest-arguments options = rw (← options) refl

  pub rest-task : (arguments : Arguments) → Ok tt ≡ check_options command texts → arguments_of texts ≡ Ok arguments → rest_of command numbers texts ≡ after (task_of command numbers arguments) with_task
  rest-task arguments options is = rest-arguments options ∙ ap (λ part. after part with_arguments) is

  pub rest-all : (arguments : Arguments) (task : Task) → Ok tt ≡ check_options command texts → arguments_of texts ≡ Ok arguments → Ok task ≡ task_of command numbers arguments
      → rest_of command numbers texts ≡ with_task task
  rest-all arguments task options is asked = rest-task arguments options is ∙ ap (λ part. after part with_task) (sym asked)

module _ (texts : Texts) where
  abbrev pub with_numbers : Command → List ℕ → Result Request PartsRefusal
  with_numbers command numbers = rest_of command numbers texts

  abbrev pub with_command : Command → Result Request PartsRefusal
  with_command command = after (numbers_of ((row_of command).own_numbers + 3) texts.numbers) (with_numbers command)

  pub request-command : request_of texts ≡ after (command_of texts.command) with_command
  unfolding request_of
  request-command = refl

  pub request-numbers : (command : Command) (own : ℕ) (written : List (List ℕ)) → Ok command ≡ command_of texts.command → own ≡ (row_of command).own_numbers → written ≡ texts.numbers
      → request_of texts ≡ after (numbers_of (own + 3) written) (with_numbers command)
  request-numbers command own written named is same =
      request-command ∙ ap (λ part. after part with_command) (sym named)
      ∙ ap (λ n. after (numbers_of (n + 3) texts.numbers) (with_numbers command)) (sym is)
      ∙ ap (λ w. after (numbers_of (own + 3) w) (with_numbers command)) (sym same)

  pub request-rest : (command : Command) (own : ℕ) (written : List (List ℕ)) (numbers : List ℕ) → Ok command ≡ command_of texts.command → own ≡ (row_of command).own_numbers
      → written ≡ texts.numbers → numbers_of (own + 3) written ≡ Ok numbers → request_of texts ≡ rest_of command numbers texts
  request-rest command own written numbers named is same read =
      request-numbers command own written named is same ∙ ap (λ part. after part (with_numbers command)) read
