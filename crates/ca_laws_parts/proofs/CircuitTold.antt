-- What a server says later of a message that it handled speaks of that message alone: a finish, a
-- removal, an update; and its replies.
use Rattle.std.proofs.Common.{◌≡◌, ℕ, inl, inr, List, Ok, Err, Result, refl, sym, subst}
use Rattle.ca_text.specs.declared.command.Command.TheVariants as command
use Rattle.ca_text.specs.declared.refusal.Refusal.{Refusal}
use Rattle.ca_text.specs.Place.{At}
use Rattle.ca_dbr.specs.Elements.{Elements}
use Rattle.ca_display.specs.declared.image_type.ImageType.{ImageType}
use Rattle.ca_records.specs.declared.puts.Put.{Put}
use Rattle.ca_wire.specs.Fields.{Fields}
use Rattle.ca_wire.specs.Header.{HeaderFits}
use Rattle.ca_wire.specs.Message.{header_of}
use Rattle.ca_wire.specs.declared.requests.Wanted.{Wanted}
use Rattle.ca_wire.specs.Messages.{disconnect}
use Rattle.ca_model.specs.Due.{Action, Due, Knows}
use Rattle.ca_model.specs.Images.{shown_in}
use Rattle.ca_model.specs.ServerCalls.{finish_reply}
use Rattle.ca_model.specs.Speech.{Id, Cid, Ioid, SubId, Is, Speaks, Stored}
use Rattle.ca_model.specs.Updates.{ShowsTo, update_count, update_in}
use Rattle.ca_model.specs.History.{Sent}
use Rattle.ca_laws_parts.specs.Flows.{Concerns, IsCidOf}
use Rattle.ca_laws_parts.specs.Replies.{IsCidAt}
use Rattle.ca_laws_parts.proofs.Replies.{channel-speaks, due-speak, event-speaks, request-speaks}

-- the reply of a finish
pub finish-speaks : (up : List Sent) (place : ℕ) (s : Sent) (p : Put) → At up place s → Is command.WriteNotify s.message → s.message.p2 ≡ p.ioid → (id : Id) → Speaks (finish_reply p) id → Concerns up place id
finish-speaks up place s p at is same id h =
    let ioid : id ≡ Ioid p.ioid = request-speaks (finish_reply p) id 19 (inr refl) refl h in
    subst (λ (x : Id). Concerns up place x) (sym ioid) (s, at, inl (inr is, same))

-- a SERVER_DISCONN
pub removal-speaks : (up : List Sent) (place : ℕ) (s : Sent) (cid : ℕ) → At up place s → Is command.CreateChannel s.message → s.message.p1 ≡ cid → (id : Id) → Speaks (disconnect cid) id → Concerns up place id
removal-speaks up place s cid at is same id h =
    let of_it : id ≡ Cid cid = channel-speaks (disconnect cid) id (inr (inr (inr refl))) h in
    subst (λ (x : Id). Concerns up place x) (sym of_it) (s, at, inl (is, same))

-- an update
pub update-speaks : (up : List Sent) (place : ℕ) (s : Sent) (w : Wanted) (v : Stored) (m : Fields) → At up place s → Is command.EventAdd s.message → s.message.p2 ≡ w.id → ShowsTo w v m → (id : Id) → Speaks m id → Concerns up place id
update-speaks up place s w v m at is same shows id h =
    let t : ImageType = shows.0 in
    go (shown_in v.value (update_count w v) t) (subst (λ (x : Fields). Speaks x id) shows.2 h)
  where
    so : id ≡ SubId w.id → Concerns up place id
    so e = subst (λ (x : Id). Concerns up place x) (sym e) (s, at, inl (is, same))

    go : (r : Result Elements Refusal) → Speaks (update_in w v shows.0 r) id → Concerns up place id
    go (Ok e) spoken = so (event-speaks (update_in w v shows.0 (Ok e)) id refl spoken)
    go (Err e) spoken = so (event-speaks (update_in w v shows.0 (Err e)) id refl spoken)

-- a reply that is due, if a WRITE was handled on the channel for which it was meant
pub reply-speaks : (up : List Sent) (place : ℕ) (s : Sent) (k : Knows) (replies : List Fields) (action : Action) → At up place s → HeaderFits (header_of s.message) → Due k s.message replies action
    → (Is command.Write s.message → (cid : ℕ) → IsCidAt k s.message.p1 cid → IsCidOf up place s.intent cid)
    → (i : ℕ) (r : Fields) → At replies i r → (id : Id) → Speaks r id → Concerns up place id
reply-speaks up place s k replies action at fits due writes i r there id h =
    elim (due-speak k s.message fits replies action due i r there id h) [
      | inl gives ↦ (s, at, inl gives)
      | inr (inl clears) ↦ (s, at, inr (inl clears))
      | inr (inr (inl cancels)) ↦ (s, at, inr (inr (inl cancels)))
      | inr (inr (inr write)) ↦ (s, at, inr (inr (inr (write.0, (write.1.0, writes write.0 write.1.0 write.1.1, write.1.2)))))
    ]
