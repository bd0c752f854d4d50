-- How the faults of a write follow one another.
use Rattle.std.proofs.Common.{◌≡◌, ◌≢◌, inl, inr, false, Option, Some, None, Ok, Err, IsOk, Result, refl}
use Rattle.ca_text.specs.declared.refusal.Refusal.{Refusal}
use Rattle.ca_text.specs.declared.refusal.Refusal.TheVariants as refusal
use Rattle.ca_dbr.specs.declared.data_type.BaseType.{BaseType}
use Rattle.ca_dbr.specs.Conversion.{Fails}
use Rattle.ca_dbr.specs.DisplayData.{DisplayData}
use Rattle.ca_dbr.specs.Elements.{Elements, base_of}
use Rattle.ca_dbr.specs.Held.{Kind}
use Rattle.ca_display.proofs.Values.{converted-memory, display_converted-memory}
use Rattle.ca_records.specs.declared.judged.Judged.TheVariants.{NoMemory}
use Rattle.ca_records.specs.Faults.{put_fault}
use Rattle.ca_display.specs.Conversion.{converted_by}
use Rattle.ca_records.specs.Judging.{Judges, converted_as}

-- a conversion has no fault as out of memory
converted-never : (o : Option DisplayData) (e : Elements) (b : BaseType) → converted_by o e b ≡ Err refusal.OutOfMemory → ⊥
converted-never None e b h = converted-memory e b h
converted-never (Some d) e b h = display_converted-memory d e b h

pub put_fault-none : (c : Result Elements Refusal) → IsOk c → put_fault c false ≡ None
put_fault-none (Ok v) h = refl
put_fault-none (Err r) h = absurd cc

pub lacks-memory : (e : Elements) (k : Kind) → base_of e ≢ k.base → Fails (converted_as e k) refusal.OutOfMemory → Judges e k false NoMemory
lacks-memory e k other (inl h) = absurd (converted-never k.display e k.base h)
lacks-memory e k other (inr h) = (put_fault-none (converted_as e k) h.1, other)
