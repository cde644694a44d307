-- What is written, by how a run ended.
use Rattle.std.proofs.Common.{◌≡◌, ◌∙◌, ◌⊎◌, inl, inr, ℕ, Option, Some, None, List, [], refl, subst, sym, ap, Bool, true, false}
use Rattle.mr_base.specs.Outside.{AllStay, Files, LastCall, Takes, TakesPrefix}
use Rattle.mr_load.specs.Faults.{failed_read}
use Rattle.mr_load.specs.declared.status.Status.{Status}
use Rattle.mr_load.specs.declared.status.Status.TheVariants as status
use Rattle.mr_replay.specs.Egress.{EgressFile, IsOutput, StopsAt, Stores, StoresFirst, Writes, Wrote, failed_write}
use Rattle.mr_load.specs.declared.status.TraceCause.{TraceCause}
use Rattle.mr_replay.specs.Endings.{IfConf, IfScenario, IfStoreFault, IfTrace, is_silent, keeps_files}
use Rattle.mr_scenario.specs.declared.stop.Kind.{Kind}
use Rattle.smc_conf.specs.declared.stop.Kind.{Kind as ConfKind}
use Rattle.mr_replay.proofs.Egressing.{stores_both, stores_but}

none_stored : (a b : Option Files) → AllStay a b → Stores [] a b
none_stored (Some a) (Some b) s = s
none_stored None None s = tt
none_stored (Some a) None s = absurd s
none_stored None (Some b) s = absurd s

pub stays_on : (a b c : Option Files) → AllStay a b → AllStay b c → AllStay a c
stays_on (Some a) (Some b) (Some c) s t = λ name. t name ∙ s name
stays_on None None None s t = tt
stays_on (Some a) None c s t = absurd s
stays_on None (Some b) c s t = absurd s
stays_on (Some a) (Some b) None s t = absurd t
stays_on None None (Some c) s t = absurd t

-- files that stayed before some were written
writes_from : (fs : List EgressFile) (s : Status) (a b c : Option Files) → AllStay a b → Writes fs s b c → Writes fs s a c
writes_from fs status.Good a b c stay w = stores_both [] fs a b c (none_stored a b stay) w
writes_from fs status.Memory a b c stay w = record { written = w.written; left = w.left; order = w.order; stored = stores_both [] w.written a b c (none_stored a b stay) w.stored }
writes_from fs (status.StoreFault name) a b c stay w = record {
  written = w.written;
  bytes = w.bytes;
  left = w.left;
  order = w.order;
  stored = stores_but name [] w.written a b c (none_stored a b stay) w.stored;
}
writes_from fs status.Usage a b c stay w = absurd w
writes_from fs (status.Scenario line kind text) a b c stay w = absurd w
writes_from fs (status.Trace file cause) a b c stay w = absurd w
writes_from fs status.SinkFault a b c stay w = absurd w
writes_from fs status.ControlFull a b c stay w = absurd w
writes_from fs (status.Conf name line kind text) a b c stay w = absurd w

pub wrote_good : (s : Status) (N : Type 0) (taken now : Option (List ℕ)) (a b c : Option Files) (text : List ℕ) (egress : List EgressFile) → AllStay a b → s ≡ status.Good → Wrote s N taken now b c text egress
    → Takes taken text now × Stores egress a c
wrote_good s N taken now a b c text egress stay e w = by_case (subst (λ (t : Status). Wrote t N taken now b c text egress) e w)
  where
    by_case : Wrote status.Good N taken now b c text egress → Takes taken text now × Stores egress a c
    by_case (inl u) = absurd (cc (u.0))
    by_case (inr v) = (v.0, writes_from egress status.Good a b c stay v.1)

pub wrote_cut : (s : Status) (N : Type 0) (taken now : Option (List ℕ)) (b c : Option Files) (text : List ℕ) (egress : List EgressFile) → s ≡ status.SinkFault → Wrote s N taken now b c text egress
    → TakesPrefix taken text now
wrote_cut s N taken now b c text egress e w = by_case (subst (λ (t : Status). Wrote t N taken now b c text egress) e w)
  where
    by_case : Wrote status.SinkFault N taken now b c text egress → TakesPrefix taken text now
    by_case (inl u) = absurd (cc (u.0))
    by_case (inr v) = v.0

pub wrote_first : (s : Status) (N : Type 0) (taken now : Option (List ℕ)) (a b c : Option Files) (text : List ℕ) (egress : List EgressFile) → AllStay a b → s ≡ status.Memory → Wrote s N taken now b c text egress
    → N ⊎ (Takes taken text now × StoresFirst egress a c)
wrote_first s N taken now a b c text egress stay e w = by_case (subst (λ (t : Status). Wrote t N taken now b c text egress) e w)
  where
    by_case : Wrote status.Memory N taken now b c text egress → N ⊎ (Takes taken text now × StoresFirst egress a c)
    by_case (inl u) = inl u.1
    by_case (inr v) = inr (v.0, writes_from egress status.Memory a b c stay v.1)

pub wrote_until : (s : Status) (name : List ℕ) (N : Type 0) (taken now : Option (List ℕ)) (a b c : Option Files) (text : List ℕ) (egress : List EgressFile) → AllStay a b → s ≡ status.StoreFault name
    → Wrote s N taken now b c text egress → Takes taken text now × StopsAt name egress a c
wrote_until s name N taken now a b c text egress stay e w = by_case (subst (λ (t : Status). Wrote t N taken now b c text egress) e w)
  where
    by_case : Wrote (status.StoreFault name) N taken now b c text egress → Takes taken text now × StopsAt name egress a c
    by_case (inl u) = absurd (cc (u.0))
    by_case (inr v) = (v.0, writes_from egress (status.StoreFault name) a b c stay v.1)

-- The files stay where nothing was to be written, or the sink failed.
pub sink_stays : (s : Status) (N : Type 0) (taken now : Option (List ℕ)) (a b c : Option Files) (text : List ℕ) (egress : List EgressFile) → AllStay a b → s ≡ status.SinkFault → Wrote s N taken now b c text egress → AllStay a c
sink_stays s N taken now a b c text egress stay e w = by_case (subst (λ (t : Status). Wrote t N taken now b c text egress) e w)
  where
    by_case : Wrote status.SinkFault N taken now b c text egress → AllStay a c
    by_case (inl u) = absurd (cc (u.0))
    by_case (inr v) = stays_on a b c stay v.1

-- a fact of the file of a fault
pub if_fault : (s : Status) (P : List ℕ → Type 0) → ((name : List ℕ) → s ≡ status.StoreFault name → P name) → IfStoreFault s P
if_fault status.Good P f = tt
if_fault status.Memory P f = tt
if_fault (status.StoreFault name) P f = f name refl
if_fault status.Usage P f = tt
if_fault (status.Scenario line kind text) P f = tt
if_fault (status.Trace file cause) P f = tt
if_fault status.SinkFault P f = tt
if_fault status.ControlFull P f = tt
if_fault (status.Conf name line kind text) P f = tt

pub at_fault : (s : Status) (P : List ℕ → Type 0) (name : List ℕ) → s ≡ status.StoreFault name → IfStoreFault s P → P name
at_fault s P name e f = subst (λ (t : Status). IfStoreFault t P) e f

-- A last call was a read or a write.
pub no_read : (last : LastCall) (name : List ℕ) (X : Type 0) → last ≡ failed_write name → last ≡ failed_read name → X
no_read last name X w r = absurd (apart false true refl refl (ap (λ (c : LastCall). c.is_read) (sym w ∙ r)))
  where
    apart : (a b : Bool) → a ≡ false → b ≡ true → a ≡ b → ⊥
    apart a b e f g = absurd (cc (e, f, g))

-- one or the other, each made of what it was
pub either : {A B C D : Type 0} → A ⊎ B → (A → C) → (B → D) → C ⊎ D
either (inl a) f h = inl (f a)
either (inr b) f h = inr (h b)

-- A run that wrote ends by no other status.
pub no_silent : (s : Status) (X : Type 0) → IsOutput s → is_silent s ≡ true → X
no_silent status.Good X o e = absurd (cc (e))
no_silent status.Memory X o e = absurd (cc (e))
no_silent (status.StoreFault name) X o e = absurd (cc (e))
no_silent status.SinkFault X o e = absurd (cc (e))
no_silent status.Usage X o e = absurd o
no_silent (status.Scenario line kind text) X o e = absurd o
no_silent (status.Trace file cause) X o e = absurd o
no_silent status.ControlFull X o e = absurd o
no_silent (status.Conf name line kind text) X o e = absurd o

pub keeps_sink : (s : Status) → IsOutput s → keeps_files s ≡ true → s ≡ status.SinkFault
keeps_sink status.Good o e = absurd (cc (e))
keeps_sink status.Memory o e = absurd (cc (e))
keeps_sink (status.StoreFault name) o e = absurd (cc (e))
keeps_sink status.SinkFault o e = refl
keeps_sink status.Usage o e = absurd o
keeps_sink (status.Scenario line kind text) o e = absurd o
keeps_sink (status.Trace file cause) o e = absurd o
keeps_sink status.ControlFull o e = absurd o
keeps_sink (status.Conf name line kind text) o e = absurd o

pub no_usage : (s : Status) (X : Type 0) → IsOutput s → s ≡ status.Usage → X
no_usage status.Good X o e = absurd (cc (e))
no_usage status.Memory X o e = absurd (cc (e))
no_usage (status.StoreFault name) X o e = absurd (cc (e))
no_usage status.SinkFault X o e = absurd (cc (e))
no_usage status.Usage X o e = absurd o
no_usage (status.Scenario line kind text) X o e = absurd o
no_usage (status.Trace file cause) X o e = absurd o
no_usage status.ControlFull X o e = absurd o
no_usage (status.Conf name line kind text) X o e = absurd o

pub no_full : (s : Status) (X : Type 0) → IsOutput s → s ≡ status.ControlFull → X
no_full status.Good X o e = absurd (cc (e))
no_full status.Memory X o e = absurd (cc (e))
no_full (status.StoreFault name) X o e = absurd (cc (e))
no_full status.SinkFault X o e = absurd (cc (e))
no_full status.Usage X o e = absurd o
no_full (status.Scenario line kind text) X o e = absurd o
no_full (status.Trace file cause) X o e = absurd o
no_full status.ControlFull X o e = absurd o
no_full (status.Conf name line kind text) X o e = absurd o

pub no_scenario : (s : Status) (P : ℕ → Kind → List ℕ → Type 0) → IsOutput s → IfScenario s P
no_scenario status.Good P o = tt
no_scenario status.Memory P o = tt
no_scenario (status.StoreFault name) P o = tt
no_scenario status.SinkFault P o = tt
no_scenario status.Usage P o = absurd o
no_scenario (status.Scenario line kind text) P o = absurd o
no_scenario (status.Trace file cause) P o = absurd o
no_scenario status.ControlFull P o = absurd o
no_scenario (status.Conf name line kind text) P o = absurd o

pub no_trace : (s : Status) (P : List ℕ → TraceCause → Type 0) → IsOutput s → IfTrace s P
no_trace status.Good P o = tt
no_trace status.Memory P o = tt
no_trace (status.StoreFault name) P o = tt
no_trace status.SinkFault P o = tt
no_trace status.Usage P o = absurd o
no_trace (status.Scenario line kind text) P o = absurd o
no_trace (status.Trace file cause) P o = absurd o
no_trace status.ControlFull P o = absurd o
no_trace (status.Conf name line kind text) P o = absurd o

pub no_conf : (s : Status) (P : List ℕ → ℕ → ConfKind → List ℕ → Type 0) → IsOutput s → IfConf s P
no_conf status.Good P o = tt
no_conf status.Memory P o = tt
no_conf (status.StoreFault name) P o = tt
no_conf status.SinkFault P o = tt
no_conf status.Usage P o = absurd o
no_conf (status.Scenario line kind text) P o = absurd o
no_conf (status.Trace file cause) P o = absurd o
no_conf status.ControlFull P o = absurd o
no_conf (status.Conf name line kind text) P o = absurd o

pub not_both : {A : Type 0} (o : Option A) (x : A) (X : Type 0) → o ≡ None → o ≡ Some x → X
not_both None x X e f = absurd (cc (f))
not_both (Some y) x X e f = absurd (cc (e))
