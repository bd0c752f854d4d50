-- Working: what a server refuses whatever memory there is.
use Rattle.std.specs.Prelude.{Bool, false, true, List, ℕ}
use Rattle.ca_dbr.specs.Elements.{Elements}
use Rattle.ca_records.specs.Calls.{AddFault, MayAdd, PostFault, PostFits}
use Rattle.ca_records.specs.Puts.{Record}
use Rattle.ca_records.specs.Record.{RecordState}
use Rattle.ca_text.specs.declared.refusal.Refusal.{Refusal}

-- the post fits, or it is refused
abbrev pub JudgesPost : List Record → List ℕ → Elements → Bool → Type 0
JudgesPost records name e true = PostFits records name e
JudgesPost records name e false = (r : Refusal) × PostFault records name e r

-- the record may be added, or it is refused
abbrev pub JudgesAdd : List Record → RecordState → Bool → Type 0
JudgesAdd records s true = MayAdd records s
JudgesAdd records s false = (r : Refusal) × AddFault records s r
