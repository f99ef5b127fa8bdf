-- `torus`: the report of a torus link, a diagram like any other, whatever the bytes. (This project's own.)
use Rattle.std.specs.Prelude.{ℕ, List, Result}
use Rattle.root_quantum.specs.Parameters.{Parameters}
use Rattle.pd_reader.specs.Torus.{torus_items}
use Rattle.wrt_request.specs.declared.request.Sweep.{Sweep}
use Rattle.wrt_commands.specs.declared.refusal.Refusal.{Refusal}
use Rattle.wrt_commands.specs.DiagramReports.{diagram_report}

abbrev pub torus_outcome : Parameters → ℕ → Sweep → Result (List ℕ) Refusal
torus_outcome p crossings sweep = diagram_report p sweep (torus_items crossings)
