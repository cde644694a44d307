-- Entries of which only the number is of interest.
use Rattle.std.specs.Prelude.{ℕ, false, List, [], map}
use Rattle.mr_base.specs.declared.route.Route.{Route}

abbrev pub numbered : ℕ → Route
numbered n = record {
  number = n;
  src = record { 0 = 0 };
  dst = record { 0 = 0 };
  parent = 0;
  ttls = [];
  fixed = false;
}

abbrev pub routes : List ℕ → List Route
routes numbers = map numbered numbers
