-- The state that plain lists stand for.
use Rattle.std.specs.Prelude.{◌≡◌, ◌≤◌, List, length, map, take}
use Rattle.std.specs.List.{AllByRecursion}
use Rattle.mr_model.specs.Counts.{Met}
use Rattle.mr_model.specs.Messages.{Attempt}
use Rattle.mr_model.specs.State.{State}
use Rattle.mr_model.specs.WaitingList.{Waiter, Awaiting}
use Rattle.mr_plain_lists.specs.declared.known.Group.{Group}
use Rattle.mr_plain_lists.specs.declared.known.Held.{Held}
use Rattle.mr_plain_lists.specs.declared.known.Known.{Known}
use Rattle.mr_plain_lists.specs.declared.known.Meeting.{Meeting}
use Rattle.mr_plain_lists.specs.declared.known.Tried.{Tried}

abbrev pub waiter : Held → Waiter
waiter w = record { lane = w.lane; index = w.index; flow = w.flow }

abbrev pub held : Group → List Waiter
held g = map waiter (take g.count g.packets)

-- at most four packets wait, in four places
pub record IsGroup (g : Group) : Type 0 where
  pub few : g.count ≤ 4
  pub places : length g.packets ≡ 4

abbrev pub AreGroups : List Group → Type 0
AreGroups ws = AllByRecursion IsGroup ws

abbrev pub awaiting : Group → Awaiting
awaiting g = record { src = g.src; dst = g.dst; since = g.since; packets = held g }

abbrev pub attempt : Tried → Attempt
attempt t = record { entry = t.entry; moment = t.moment }

abbrev pub met_of : Meeting → Met
met_of m = record {
  place = m.place;
  entry = m.entry;
  input = m.input;
  outs = m.outs;
  wrong = m.wrong;
  length = m.length;
}

abbrev pub state_of : Known → State
state_of k = record {
  count = k.count;
  owner = k.owner;
  tables = record {
    vifs = k.vifs.items;
    routes = k.routes.items;
    pim = k.pim;
    asserts = k.asserts;
  };
  now = k.moment;
  waiting = map awaiting k.waiting.items;
  unread = k.unread.items;
  attempts = map attempt k.attempts.items;
}
