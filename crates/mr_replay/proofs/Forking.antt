-- What goes to the thread of a daemon that has its turn.
use denote.RattleType.{RattleType}
use denote.Param.Send.{IsSend, IsSync, sendable, shr_send, shr_slice_send}
use denote.Ref.{ShrRef}
use denote.Slice.{ShrSlice}
use denote.Struct.Field as field
use denote.Struct.Tuple.{TupleAt}
use base.Fml.{Lft}
use mir.Syntax.{Lifetime}
use Prim.Native.Nat.{ℕ}
use mathlib.Core.List.{List, [], ◌∷◌}
use Rattle.mr_book.specs.declared.names.BookName as book_name
use Rattle.mr_router.specs.contracts.daemon.Daemon as Daemon
use Rattle.mr_router.specs.contracts.machine.MachineJournaled.TheImpl as journaled
use Rattle.mr_router.specs.contracts.router.Router as Router
use Rattle.mr_router.specs.contracts.signed.SignedAuthored.TheImpl as authored
use Rattle.mr_router.specs.declared.names.RunName as run_name
use Rattle.mr_router.proofs.daemon.Daemon.TheSendSync as daemon
use Rattle.mr_scenario.specs.contracts.scenario.ScriptLine as ScriptLine
use Rattle.mr_scenario.proofs.scenario.ScriptLine.TheSendSync as line
use Rattle.mr_replay.proofs.Crossing.{router_sync}
use Rattle.smc_core.specs.contracts.smc.Smc as Smc
use Rattle.smc_core.proofs.smc.Smc.TheSendSync as smc
use Rattle.std.specs.contracts.alloc.Global as Heap
use Rattle.std.specs.contracts.option.Option as Option
use Rattle.std.proofs.alloc.Global.TheSendSync as heap
use Rattle.std.proofs.option.Option.TheSendSync as option

seven_send : (ν : List ℕ) (S T U V W X Y : RattleType) → IsSend S → IsSend T → IsSend U → IsSend V → IsSend W → IsSend X → IsSend Y → IsSend (TupleAt ν (S ∷ T ∷ U ∷ V ∷ W ∷ X ∷ Y ∷ []))
seven_send ν S T U V W X Y s t u v w x y = search sendable depth 40

u32_send : IsSend (field.u32-field).row
u32_send = search sendable

daemon_send : (B C : RattleType) (b : book_name.Ghosts B.Denot) (r : run_name.Ghosts C.Denot) → IsSend B → IsSend C → IsSync B → IsSync C → IsSend (Daemon.the_row B C b r)
daemon_send B C b r sb sc yb yc = search (daemon.the_send, sendable) depth 20

pub machine_send : IsSend (Option.the_row Smc.the_row)
machine_send = option.the_send Smc.the_row smc.the_send

-- What waits and makes threads, the heap, the router, the daemon and its machine, its number, the lines.
pub turn_send : (ν : List ℕ) (ℓ₁ ℓ₂ ℓ₃ : Lifetime) (κ₁ κ₂ κ₃ : Lft) (B C R : RattleType) (b : book_name.Ghosts B.Denot) (r : run_name.Ghosts C.Denot) → IsSync R → IsSend B → IsSend C → IsSync B → IsSync C
    → IsSend (TupleAt ν (ShrRef ℓ₁ κ₁ R ∷ Heap.the_row ∷ ShrRef ℓ₂ κ₂ (Router.the_row B C b (journaled.ghosts C r journaled.no_dict) r authored.ghosts) ∷ Daemon.the_row B C b r ∷ Option.the_row Smc.the_row ∷ (field.u32-field).row ∷ ShrSlice ℓ₃ κ₃ ScriptLine.the_row ∷ []))
turn_send ν ℓ₁ ℓ₂ ℓ₃ κ₁ κ₂ κ₃ B C R b r s sb sc yb yc =
    seven_send ν _ _ _ _ _ _ _ (shr_send _ _ R s) heap.the_send (shr_send _ _ _ (router_sync B C b r)) (daemon_send B C b r sb sc yb yc) machine_send u32_send (shr_slice_send _ _ ScriptLine.the_row line.the_sync)
