-- What contracts see of the machine: its limits and its history.
use Rattle.std.specs.Prelude.{List, [], ◌∷◌, ◌++◌}
use Rattle.mr_model.specs.declared.entry.Entry.{Entry}
use Rattle.mr_model.specs.declared.limits.Limits.{Limits}

pub record KernelValue : Type 0 where
  pub limits : Limits
  pub history : List Entry

-- the machine after one more entry
abbrev pub grown : KernelValue → Entry → KernelValue
grown k e = record k { history = k.history ++ e ∷ [] }
