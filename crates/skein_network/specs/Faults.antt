-- Why there is no cable, where a projector is wanting.
use Rattle.wenzl_table.specs.declared.fault.WenzlFault.{WenzlFault}
use Rattle.wenzl_table.specs.declared.fault.WenzlFault.TheVariants as wenzl
use Rattle.skein_network.specs.declared.fault.CableFault.{CableFault}
use Rattle.skein_network.specs.declared.fault.CableFault.TheVariants.{NoInverse, Memory}

abbrev pub of_projector : WenzlFault → CableFault
of_projector (wenzl.NoInverse index common) = NoInverse index common
of_projector wenzl.Memory = Memory
