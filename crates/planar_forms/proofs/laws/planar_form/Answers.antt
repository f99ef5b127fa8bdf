use Rattle.planar_forms.proofs.PlanarForms.{planar_form}
use Rattle.planar_forms.proofs.laws.planar_form.Goals as goal

pub returns : goal.returns
returns c = planar_form
