-- The routing machine of a daemon, before its first line.
use Rattle.std.specs.Prelude.{ℕ, Option, Some, None, Result, Ok, Err, List, [], ◌∷◌, map, flat_map}
use Rattle.mr_base.specs.Outside.{Files}
use Rattle.mr_scenario.specs.declared.scenario.Scenario.{Scenario}
use Rattle.smc_conf.specs.Spelled.{spelled}
use Rattle.smc_conf.specs.declared.conf.Conf.{Conf}
use Rattle.smc_conf.specs.declared.stop.ConfError.{ConfError}
use Rattle.smc_core.specs.Machine.{Machine}
use Rattle.smc_core.specs.Smc.{first_machine}
use Rattle.smc_words.specs.Words.{Word}

abbrev pub conf_by : Result Conf ConfError → List Conf
conf_by (Ok c) = c ∷ []
conf_by (Err e) = []

-- the configuration in a file; none where it isn't there or spells none
abbrev pub conf_in : Option (List ℕ) → List Conf
conf_in None = []
conf_in (Some bytes) = conf_by (spelled bytes)

-- the configurations of these files, in order
abbrev pub confs_in : Files → List Word → List Conf
confs_in files names = flat_map (λ name. conf_in (files name)) names

-- the machine over the scenario's devices and these configurations
abbrev pub machine_of : Files → Scenario → List Word → Machine
machine_of files scenario names =
    first_machine (map (λ device. device.name) scenario.devices) (confs_in files names)
