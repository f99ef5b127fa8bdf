-- Refusals of slides.
--
--     of_plane fault      the refusal of a result that is not planar
use Rattle.planar_check.specs.declared.fault.PlanarFault.{PlanarFault}
use Rattle.planar_check.specs.declared.fault.PlanarFault.TheVariants as planes
use Rattle.slide_laws.specs.declared.fault.SlideFault.{SlideFault}
use Rattle.slide_laws.specs.declared.fault.SlideFault.TheVariants as faults

abbrev pub of_plane : PlanarFault → SlideFault
of_plane (planes.NotPlanar faces wanted) = faults.NotPlanar faces wanted
of_plane planes.Memory = faults.Memory
