-- What lanes and daemons share while they run may be shared between threads.
use denote.Builtin.{unit}
use denote.RattleType.{RattleType}
use denote.Param.Send.{IsSend, IsSync, mut_slice_send, part_keyless, sendable, shr_send, shr_slice_send, shr_slice_sync, shr_sync, view_sync}
use denote.Param.SendFields.{declared_sync}
use denote.Ref.{ShrRef}
use denote.Slice.{MutSlice, ShrSlice}
use denote.Struct.Field as field
use denote.Struct.Tuple.{TupleAt}
use base.Fml.{Lft}
use mir.Syntax.{Lifetime}
use Prim.Native.Nat.{ℕ}
use mathlib.Core.List.{List, [], ◌∷◌}
use Rattle.atomic_table.specs.contracts.shared.Seat as Place
use Rattle.atomic_table.proofs.shared.Seat.TheSendSync as place
use Rattle.std.proofs.marker.PhantomData.TheSendSync as phantom
use Rattle.mr_book.specs.contracts.seat.Seat as Seat
use Rattle.mr_book.specs.contracts.seat.Seat.TheInside as seat_inside
use Rattle.mr_book.specs.contracts.view.View as View
use Rattle.mr_book.specs.declared.names.BookName as book_name
use Rattle.mr_book.proofs.book.Book.TheSendSync as book
use Rattle.mr_load.specs.contracts.lane.LanePackets as LanePackets
use Rattle.mr_load.proofs.lane.LanePackets.TheSendSync as packets
use Rattle.mr_router.specs.contracts.lane.Lane as Lane
use Rattle.mr_router.specs.contracts.machine.Machine as Machine
use Rattle.mr_router.specs.contracts.machine.MachineJournaled.TheImpl as journaled
use Rattle.mr_router.specs.contracts.router.Router as Router
use Rattle.mr_router.specs.contracts.router.Router.TheInside as router_inside
use Rattle.mr_router.specs.contracts.signed.Signed as Signed
use Rattle.mr_router.specs.contracts.signed.SignedAuthored.TheImpl as authored
use Rattle.mr_router.specs.declared.names.RunName as run_name
use Rattle.mr_router.proofs.lane.Lane.TheSendSync as lane
use Rattle.mr_router.proofs.machine.Machine.TheSendSync as machine
use Rattle.mr_scenario.specs.contracts.scenario.ScriptLine as ScriptLine
use Rattle.mr_scenario.proofs.scenario.ScriptLine.TheSendSync as line
use Rattle.std.specs.contracts.alloc.Global as Heap
use Rattle.std.proofs.alloc.Global.TheSendSync as heap

unit_send : IsSend unit
unit_send = search sendable depth 20

-- A place at the table has no bytes, and what it knows says the same to every thread.
place_sync : (V : RattleType) → IsSync (Place.the_row unit V)
place_sync V = record { shared = λ d b o ν q. part_keyless (Place.the_row unit V) (place.the_send unit V unit_send) q d b o }

seat_sync : (E B : RattleType) (b : book_name.Ghosts B.Denot) → IsSync (Seat.the_row E B b)
seat_sync E B b = view_sync _ _ _ _ _ (declared_sync (seat_inside.the_type E B b) (place_sync (View.the_row E), (phantom.the_sync B, tt)))

-- The lock with the machine behind it, and the router's own seat.
pub router_sync : (B C : RattleType) (b : book_name.Ghosts B.Denot) (r : run_name.Ghosts C.Denot) → IsSync (Router.the_row B C b (journaled.ghosts C r journaled.no_dict) r authored.ghosts)
router_sync B C b r =
    let books = book.the_sync (Machine.the_row C r) B Signed.the_row (journaled.ghosts C r journaled.no_dict) authored.ghosts b (machine.the_send C r) in
    view_sync _ _ _ _ _ (declared_sync (router_inside.the_type B C b (journaled.ghosts C r journaled.no_dict) r authored.ghosts) (books, (seat_sync Signed.the_row B b, tt)))

-- What holds only what may be shared may be shared, and so what may go to another thread.
four_sync : (ν : List ℕ) (T U V W : RattleType) → IsSync T → IsSync U → IsSync V → IsSync W → IsSync (TupleAt ν (T ∷ U ∷ V ∷ W ∷ []))
four_sync ν T U V W t u v w = search sendable depth 40

five_sync : (ν : List ℕ) (T U V W X : RattleType) → IsSync T → IsSync U → IsSync V → IsSync W → IsSync X → IsSync (TupleAt ν (T ∷ U ∷ V ∷ W ∷ X ∷ []))
five_sync ν T U V W X t u v w x = search sendable depth 40

six_send : (ν : List ℕ) (T U V W X Y : RattleType) → IsSend T → IsSend U → IsSend V → IsSend W → IsSend X → IsSend Y → IsSend (TupleAt ν (T ∷ U ∷ V ∷ W ∷ X ∷ Y ∷ []))
six_send ν T U V W X Y t u v w x y = search sendable depth 40

u32_sync : IsSync (field.u32-field).row
u32_sync = search sendable

lane_send : (B C : RattleType) (b : book_name.Ghosts B.Denot) (r : run_name.Ghosts C.Denot) → IsSend B → IsSend C → IsSync B → IsSync C → IsSend (Lane.the_row B C b r)
lane_send B C b r sb sc yb yc = search (lane.the_send, sendable) depth 20

-- What all lanes share: what waits and makes threads, the router, the gate, their packets, the phase.
pub sending_sync : (ν : List ℕ) (ℓ₁ ℓ₂ ℓ₃ ℓ₄ ℓ₅ : Lifetime) (κ₁ κ₂ κ₃ κ₄ κ₅ : Lft) (B C R G : RattleType) (b : book_name.Ghosts B.Denot) (r : run_name.Ghosts C.Denot) → IsSync R → IsSync G → IsSync (TupleAt ν (ShrRef ℓ₁ κ₁ R ∷ ShrRef ℓ₂ κ₂ (Router.the_row B C b (journaled.ghosts C r journaled.no_dict) r authored.ghosts) ∷ ShrRef ℓ₃ κ₃ G ∷ ShrSlice ℓ₄ κ₄ LanePackets.the_row ∷ ShrRef ℓ₅ κ₅ (field.u32-field).row ∷ []))
sending_sync ν ℓ₁ ℓ₂ ℓ₃ ℓ₄ ℓ₅ κ₁ κ₂ κ₃ κ₄ κ₅ B C R G b r s g =
    five_sync ν _ _ _ _ _ (shr_sync _ _ R s) (shr_sync _ _ _ (router_sync B C b r)) (shr_sync _ _ G g) (shr_slice_sync _ _ LanePackets.the_row packets.the_sync) (shr_sync _ _ (field.u32-field).row u32_sync)

-- What all daemons share: what waits and makes threads, the heap, the router, the lines.
pub asking_sync : (ν : List ℕ) (ℓ₁ ℓ₂ ℓ₃ ℓ₄ : Lifetime) (κ₁ κ₂ κ₃ κ₄ : Lft) (B C R : RattleType) (b : book_name.Ghosts B.Denot) (r : run_name.Ghosts C.Denot) → IsSync R → IsSync (TupleAt ν (ShrRef ℓ₁ κ₁ R ∷ ShrRef ℓ₂ κ₂ Heap.the_row ∷ ShrRef ℓ₃ κ₃ (Router.the_row B C b (journaled.ghosts C r journaled.no_dict) r authored.ghosts) ∷ ShrSlice ℓ₄ κ₄ ScriptLine.the_row ∷ []))
asking_sync ν ℓ₁ ℓ₂ ℓ₃ ℓ₄ κ₁ κ₂ κ₃ κ₄ B C R b r s =
    four_sync ν _ _ _ _ (shr_sync _ _ R s) (shr_sync _ _ Heap.the_row heap.the_sync) (shr_sync _ _ _ (router_sync B C b r)) (shr_slice_sync _ _ ScriptLine.the_row line.the_sync)

-- What goes to the thread of the lanes: the lanes themselves, and what they share.
pub sending_send : (ν : List ℕ) (ℓ₁ ℓ₂ ℓ₃ ℓ₄ ℓ₅ ℓ₆ : Lifetime) (κ₁ κ₂ κ₃ κ₄ κ₅ κ₆ : Lft) (B C R G : RattleType) (b : book_name.Ghosts B.Denot) (r : run_name.Ghosts C.Denot) → IsSync R → IsSync G → IsSend B → IsSend C → IsSync B → IsSync C → IsSend (TupleAt ν (ShrRef ℓ₁ κ₁ R ∷ ShrRef ℓ₂ κ₂ (Router.the_row B C b (journaled.ghosts C r journaled.no_dict) r authored.ghosts) ∷ ShrRef ℓ₃ κ₃ G ∷ MutSlice ℓ₄ κ₄ (Lane.the_row B C b r) ∷ ShrSlice ℓ₅ κ₅ LanePackets.the_row ∷ ShrRef ℓ₆ κ₆ (field.u32-field).row ∷ []))
sending_send ν ℓ₁ ℓ₂ ℓ₃ ℓ₄ ℓ₅ ℓ₆ κ₁ κ₂ κ₃ κ₄ κ₅ κ₆ B C R G b r s g sb sc yb yc =
    six_send ν _ _ _ _ _ _ (shr_send _ _ R s) (shr_send _ _ _ (router_sync B C b r)) (shr_send _ _ G g) (mut_slice_send _ _ _ (lane_send B C b r sb sc yb yc)) (shr_slice_send _ _ LanePackets.the_row packets.the_sync) (shr_send _ _ (field.u32-field).row u32_sync)
