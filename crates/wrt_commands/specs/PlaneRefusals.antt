-- Diagrams that are not planar: their status and their line. (This project's own.)
use Rattle.std.specs.Prelude.{ℕ, List, ◌++◌, codes, decimal}
use Rattle.wrt_commands.specs.declared.status.Status.{Status}
use Rattle.wrt_commands.specs.declared.status.Status.TheVariants as statuses
use Rattle.wrt_commands.specs.declared.plane_refusal.PlaneRefusal.{PlaneRefusal}

abbrev pub status_of_plane : PlaneRefusal → Status
status_of_plane refusal = statuses.Input

abbrev pub text_of_plane : PlaneRefusal → List ℕ
text_of_plane refusal = codes "not planar: " ++ decimal refusal.faces ++ codes " faces, " ++ decimal refusal.wanted ++ codes " wanted"
