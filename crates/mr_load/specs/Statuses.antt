-- The numbers of the statuses, with which the program ends.
use Rattle.std.specs.Prelude.{ℕ}
use Rattle.mr_load.specs.declared.status.Status.{Status}
use Rattle.mr_load.specs.declared.status.Status.TheVariants as status

abbrev pub number_of : Status → ℕ
number_of status.Good = 0
number_of status.Usage = 1
number_of (status.Scenario line k text) = 2
number_of (status.Trace file cause) = 3
number_of (status.StoreFault file) = 4
number_of status.SinkFault = 5
number_of status.Memory = 6
number_of status.ControlFull = 8
number_of (status.Conf file line k text) = 11
