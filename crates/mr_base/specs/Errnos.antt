-- The numbers of the errors of a control call (errno.h of Linux).
use Rattle.std.specs.Prelude.{ℕ}
use Rattle.mr_base.specs.declared.errno.Errno.{Errno}
use Rattle.mr_base.specs.declared.errno.Errno.TheVariants.{NoEntry, Access, Invalid, TooManyVifs, NoOption, InUse, NotAvailable, NoBuffers}

abbrev pub number_of : Errno → ℕ
number_of NoEntry = 2
number_of Access = 13
number_of Invalid = 22
number_of TooManyVifs = 23
number_of NoOption = 92
number_of InUse = 98
number_of NotAvailable = 99
number_of NoBuffers = 105
