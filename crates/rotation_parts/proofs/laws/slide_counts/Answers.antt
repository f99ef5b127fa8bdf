use Rattle.rotation_parts.proofs.Slides.{slide_counts}
use Rattle.rotation_parts.proofs.laws.slide_counts.Goals as goal

pub returns : goal.returns
returns c = slide_counts
