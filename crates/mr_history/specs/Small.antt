-- A fast record as it is kept.
use Rattle.mr_model.specs.declared.entry.FastRecord.{FastRecord}
use Rattle.mr_history.specs.declared.small.KeptRecord.{KeptRecord}

abbrev pub fast_of : KeptRecord → FastRecord
fast_of k = record {
  index = k.index;
  look = k.look;
  entry = k.entry;
  input = k.input;
  outs = k.outs;
  flow = record { dev = k.dev; src = k.src; dst = k.dst; ttl = k.ttl; length = k.length };
}
