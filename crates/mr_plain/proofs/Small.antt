-- A request that is not refused names a vif or a parent that there may be.
use Rattle.std.proofs.Common.{◌≡◌, ℕ, ◌<◌, ◌||◌, Bool, true, false, not, nat_le, Option, None, refl, arith}
use Rattle.std.proofs.lemmas.Grind.{common_steps}
use Rattle.mr_base.specs.declared.errno.Errno.{Errno}
use Rattle.mr_base.specs.declared.numbers.DaemonNo.{DaemonNo}
use Rattle.mr_model.specs.declared.limits.Limits.{Limits}
use Rattle.mr_model.specs.declared.request.Request.{Request}
use Rattle.mr_model.specs.declared.request.Request.TheVariants.{AddVif, DelVif, AddMfc, AddProxy}
use Rattle.mr_model.specs.Answer.{error_of, is_admin}
use Rattle.mr_model.specs.Refusing.{refuse}
use Rattle.mr_model.specs.State.{State, is_owner}
use Rattle.mr_plain_lists.specs.SmallRequests.{IsSmall}

-- what is not refused passes the first check, and then the further ones
passes : (test : Bool) (errno : Errno) (further : Option Errno) → refuse test errno further ≡ None → test ≡ false
passes true errno further p = absurd cc
passes false errno further p = refl

goes_on : (test : Bool) (errno : Errno) (further : Option Errno) → refuse test errno further ≡ None → further ≡ None
goes_on true errno further p = absurd cc
goes_on false errno further p = p

below : (n : ℕ) → nat_le 32 n ≡ false → n < 32
below n p = grind (arith, common_steps)

pub small : (limits : Limits) (s : State) (d : DaemonNo) (r : Request) → error_of limits s d r ≡ None → IsSmall r
small limits s d (AddVif c) p = below c.vif (passes _ _ _ (goes_on (not (is_owner s d || is_admin limits d)) _ _ p))
small limits s d (DelVif i) p = below i (passes _ _ _ (goes_on (not (is_owner s d || is_admin limits d)) _ _ p))
small limits s d (AddMfc c) p = below c.parent (passes _ _ _ (goes_on (not (is_owner s d || is_admin limits d)) _ _ p))
small limits s d (AddProxy c) p = below c.parent (passes _ _ _ (goes_on (not (is_owner s d || is_admin limits d)) _ _ p))
small limits s d r p = tt
