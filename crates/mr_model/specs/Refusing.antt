-- A chain of checks, each with the errno that it answers (ipmr.c, ip_mroute_setsockopt: the order of its returns).
use Rattle.std.specs.Prelude.{Bool, Option, Some, if◌then◌else◌}
use Rattle.mr_base.specs.declared.errno.Errno.{Errno}

-- this errno where the test holds, else what the further checks say
abbrev pub refuse : Bool → Errno → Option Errno → Option Errno
refuse test errno further = if test then Some errno else further
