-- An entry agrees exactly where it follows and its looks agree.
use Rattle.std.specs.Prelude.{ℕ, List, [], ◌∷◌}
use Rattle.mr_model.specs.declared.entry.Entry.{Entry}
use Rattle.mr_model.specs.declared.entry.Entry.TheVariants.{Call, Slow, Settle, Tick, Recv, EndPhase}
use Rattle.mr_model.specs.declared.entry.FastRecord.{FastRecord}
use Rattle.mr_model.specs.declared.limits.Limits.{Limits}
use Rattle.mr_model.specs.Legal.{Agrees, RecordsAgree}
use Rattle.mr_plain.specs.Following.{Follows, LooksAgree, IndexesRise, RecordsLook}

rising : (limits : Limits) (g : List Entry) (index least : ℕ) (rs : List FastRecord) → RecordsAgree limits g index least rs → IndexesRise index rs
rising limits g index least [] a = tt
rising limits g index least (r ∷ rs) a = (a.0, rising limits g r.index r.look rs a.4)

looking : (limits : Limits) (g : List Entry) (index least : ℕ) (rs : List FastRecord) → RecordsAgree limits g index least rs → RecordsLook limits g least rs
looking limits g index least [] a = tt
looking limits g index least (r ∷ rs) a = (a.1, a.2, a.3, looking limits g r.index r.look rs a.4)

agreeing : (limits : Limits) (g : List Entry) (index least : ℕ) (rs : List FastRecord) → IndexesRise index rs → RecordsLook limits g least rs → RecordsAgree limits g index least rs
agreeing limits g index least [] i l = tt
agreeing limits g index least (r ∷ rs) i l = (i.0, l.0, l.1, l.2, agreeing limits g r.index r.look rs i.1 l.3)

pub follows : (limits : Limits) (g : List Entry) (e : Entry) → Agrees limits g e → Follows limits g e
follows limits g (Call d r reply released) a = a
follows limits g (Slow lane index look flow o) a = record { lane_is = a.lane_is; room = a.room; next = a.next; is_outcome = a.is_outcome }
follows limits g (Settle lane records) a = record { lane_is = a.lane_is; some = a.some; most = a.most; room = a.room; rise = rising limits g _ _ records a.all }
follows limits g (Tick d ms) a = a
follows limits g (Recv d message) a = a
follows limits g EndPhase a = a

pub looks : (limits : Limits) (g : List Entry) (e : Entry) → Agrees limits g e → LooksAgree limits g e
looks limits g (Slow lane index look flow o) a = record { within = a.look_within; former = a.look_former; own = a.look_own; end = a.look_end }
looks limits g (Settle lane records) a = looking limits g _ _ records a.all
looks limits g e a = tt

pub agrees : (limits : Limits) (g : List Entry) (e : Entry) → Follows limits g e → LooksAgree limits g e → Agrees limits g e
agrees limits g (Call d r reply released) f l = f
agrees limits g (Slow lane index look flow o) f l = record {
  lane_is = f.lane_is;
  room = f.room;
  next = f.next;
  is_outcome = f.is_outcome;
  look_within = l.within;
  look_former = l.former;
  look_own = l.own;
  look_end = l.end;
}
agrees limits g (Settle lane records) f l = record { lane_is = f.lane_is; some = f.some; most = f.most; room = f.room; all = agreeing limits g _ _ records f.rise l }
agrees limits g (Tick d ms) f l = f
agrees limits g (Recv d message) f l = f
agrees limits g EndPhase f l = f
