-- Refused values: their statuses. Their lines are those of wrt_values. (This project's own.)
use Rattle.wrt_values.specs.declared.fault.ValueRefusal.{ValueRefusal}
use Rattle.wrt_values.specs.declared.fault.ValueRefusal.TheVariants.{TooMany, Inertia, NoInverse, Wide, Table, NoOmegaInverse}
use Rattle.wrt_commands.specs.declared.status.Status.{Status}
use Rattle.wrt_commands.specs.declared.status.Status.TheVariants as statuses

abbrev pub status_of_value : ValueRefusal → Status
status_of_value (TooMany components) = statuses.Limit
status_of_value (Inertia step) = statuses.Limit
status_of_value (NoInverse index common) = statuses.NoInverse
status_of_value (Wide step ends) = statuses.Limit
status_of_value (Table step) = statuses.Limit
status_of_value (NoOmegaInverse sign common) = statuses.NoInverse
