-- The records that are served if no file names others.
use Rattle.std.specs.Prelude.{◌++◌, List, [], ◌∷◌, pos, true, false, codes, replicate}
use Rattle.ca_dbr.specs.Elements.{doubles, longs, strings}
use Rattle.ca_records.specs.Record.{RecordState, unset}

-- one LONG, 21
abbrev pub temp : RecordState
temp = record {
  name = codes "TEMP";
  count = 1;
  slow = false;
  value = longs (pos 21 ∷ []);
  meta = unset;
}

-- one LONG, 0
abbrev pub setp : RecordState
setp = record {
  name = codes "SETP";
  count = 1;
  slow = false;
  value = longs (pos 0 ∷ []);
  meta = unset;
}

-- one DOUBLE, the bit pattern of 1.0
abbrev pub gain : RecordState
gain = record {
  name = codes "GAIN";
  count = 1;
  slow = false;
  value = doubles (0x3FF0000000000000 ∷ []);
  meta = unset;
}

-- one STRING, OK
abbrev pub note : RecordState
note = record {
  name = codes "NOTE";
  count = 1;
  slow = false;
  value = strings ((codes "OK" ++ replicate 38 0) ∷ []);
  meta = unset;
}

-- 20,000 LONGs at most, and one at first, 7
abbrev pub wave : RecordState
wave = record {
  name = codes "WAVE";
  count = 20000;
  slow = false;
  value = longs (pos 7 ∷ []);
  meta = unset;
}

-- one LONG, 0; a put with notification makes it busy
abbrev pub slow : RecordState
slow = record {
  name = codes "SLOW";
  count = 1;
  slow = true;
  value = longs (pos 0 ∷ []);
  meta = unset;
}

abbrev pub standing : List RecordState
standing = temp ∷ setp ∷ gain ∷ note ∷ wave ∷ slow ∷ []
