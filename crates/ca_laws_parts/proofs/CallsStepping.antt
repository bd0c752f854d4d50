-- The steps in rows of calls are those of the statement.
use Rattle.std.proofs.Common.{◌≡◌, List, Option, Some, None, refl, sym, subst}
use Rattle.ca_arena.specs.declared.handle.Handle.{Handle}
use Rattle.ca_wire.specs.Fields.{Fields}
use Rattle.ca_model.specs.Answers.{Closed, NeedBytes, Notices, Sending, Stepped}
use Rattle.ca_model.specs.Client.{Client, Connection, connection_at}
use Rattle.ca_model.specs.ClientEnds.{ClientSteps, StepsOn}
use Rattle.ca_laws_parts.specs.ClientRows.{Reads}

pub step-reads : (old : Client) (c : Handle) (answer : Stepped) (sent : List Sending) (new : Client) → ClientSteps old c answer sent new
    → (read : Option Fields) × Reads old c read answer sent new
step-reads old c NeedBytes sent new does = (None, does)
step-reads old c (Closed k) sent new does = (None, does)
step-reads old c (Notices told) sent new does = go (connection_at old c) refl does
  where
    go : (o : Option Connection) → connection_at old c ≡ o → StepsOn old c o (Notices told) sent new → (read : Option Fields) × Reads old c read (Notices told) sent new
    go (Some d) at t = (Some t.m, (d, at, t, refl))
    go None at t = absurd t

pub read-steps : (old : Client) (c : Handle) (read : Option Fields) (answer : Stepped) (sent : List Sending) (new : Client) → Reads old c read answer sent new
    → ClientSteps old c answer sent new
read-steps old c (Some m) (Notices told) sent new (d, at, t, is) = subst (λ (o : Option Connection). StepsOn old c o (Notices told) sent new) (sym at) t
read-steps old c None (Notices told) sent new does = absurd does
read-steps old c (Some m) NeedBytes sent new does = absurd does
read-steps old c (Some m) (Closed k) sent new does = absurd does
read-steps old c None NeedBytes sent new does = does
read-steps old c None (Closed k) sent new does = does
