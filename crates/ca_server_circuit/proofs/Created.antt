-- What is due for a CREATE_CHAN.
use Rattle.std.proofs.Common.{◌≡◌, ◌≢◌, ℕ, ◌<◌, ◌≤◌, ◌%◌, ◌^◌, ◌⊎◌, inl, inr, true, false, [], ◌∷◌, length, Option, Some, None, refl, sym, ap, ◌∙◌, subst, arith}
use Rattle.std.specs.Prelude.{map, option_map}
use Rattle.ca_text.specs.Command.{command_number}
use Rattle.ca_text.specs.declared.command.Command.TheVariants as command
use Rattle.ca_text.specs.Limits.{arena_slots}
use Rattle.ca_text.proofs.Places.{At-map, At-mapped, At-within}
use Rattle.ca_arena.specs.declared.handle.Handle.{Handle}
use Rattle.ca_ids.specs.Table.{MayGive, Table, held, under, with_held}
use Rattle.ca_ids.specs.Wire.{wire_of}
use Rattle.ca_ids.proofs.Wires.{wire_of-index}
use Rattle.ca_records.specs.Puts.{Record}
use Rattle.ca_records.specs.Store.{Finds, Store}
use Rattle.ca_wire.specs.Fields.{Fields}
use Rattle.ca_wire.specs.Messages.{failed_reply, text_in}
use Rattle.ca_model.specs.Due.{CidTaken, KnownChannel, Nothing, Opens}
use Rattle.ca_model.specs.Server.{OpenChannel, ServerEnd}
use Rattle.ca_model.specs.ServerSteps.{known_channel, known_record}
use Rattle.ca_model.specs.Speech.{In}
use Rattle.ca_server_circuit.specs.Cids.{UsesCid}
use Rattle.ca_server_circuit.specs.Creating.{CreatesBy, Creation, IsCreation, creation_replies, with_channel}
use Rattle.ca_server_circuit.specs.declared.effect.Effect.TheVariants as told
use Rattle.ca_server_circuit.specs.declared.step.FollowUp.{FollowUp}
use Rattle.ca_server_circuit.specs.declared.step.FollowUp.TheVariants as effect
use Rattle.ca_server_circuit.specs.Handling.{AllStay, known, replied}
use Rattle.ca_server_circuit.proofs.Telling.{nothing-told}
use Rattle.ca_server_circuit.proofs.Tables.{given-none, held-other, listed-under, place, under-at, under-listed}

-- ---- CIDs

pub taken-known : (port : ℕ) (s : Store) (e : ServerEnd) (cid : ℕ) → UsesCid e.channels cid → CidTaken (known port s e) cid
taken-known port s e cid used =
    let l = under-listed e.channels used.0 used.1 used.2 in
    (known_channel (used.0, used.1), (l.0, At-map known_channel (held e.channels) l.0 (used.0, used.1) l.1), used.3)

pub known-taken : (port : ℕ) (s : Store) (e : ServerEnd) (cid : ℕ) → CidTaken (known port s e) cid → UsesCid e.channels cid
known-taken port s e cid taken =
    let m = At-mapped known_channel (held e.channels) taken.1.0 taken.0 taken.1.1 in
    (m.0.0, m.0.1, listed-under e.channels taken.1.0 m.0.0 m.0.1 m.1, sym (ap (λ (x : KnownChannel). x.cid) m.2) ∙ taken.2)

-- ---- SIDs

wire-small : (h : Handle) → h.index < arena_slots → wire_of h < 2 ^ 32
wire-small h slot = omega (arith, slot)

pub sid-free : (t : Table OpenChannel) (h : Handle) (c : KnownChannel) → length t ≤ arena_slots → MayGive t h → In (map known_channel (held t)) c → c.sid % 2 ^ 16 ≢ wire_of h % 2 ^ 16
sid-free t h c few may there same =
    let m = At-mapped known_channel (held t) there.0 c there.1 in
    let is : under t m.0.0 ≡ Some m.0.1 = listed-under t there.0 m.0.0 m.0.1 m.1 in
    let in_it : m.0.0.index < length t = At-within t m.0.0.index (place m.0.0 m.0.1) (under-at t m.0.0 m.0.1 is) in
    let slot : h.index < arena_slots = may.slot in
    let a : wire_of m.0.0 % 65536 ≡ m.0.0.index = wire_of-index m.0.0 (omega (arith, in_it, few)) in
    let b : wire_of h % 65536 ≡ h.index = wire_of-index h (omega (arith, slot)) in
    given-none t m.0.0 h m.0.1 may is (sym a ∙ sym (ap (λ (x : KnownChannel). x.sid % 65536) m.2) ∙ same ∙ b)

-- ---- what is due

pub not-created : (port : ℕ) (s : Store) (e new : ServerEnd) (m : Fields) → ((known port s e).record_of (text_in m.payload) ≡ None) ⊎ (CidTaken (known port s e) m.p1 ⊎ ((known port s e).full ≡ true)) → new ≡ replied (failed_reply m ∷ []) e → Creation port s e m new
not-created port s e new m why is = record {
  replies = failed_reply m ∷ [];
  action = Nothing;
  due = inr (record { why = why; are = refl; does = refl });
  acted = e;
  acts = λ y. refl;
  quiet = λ h. refl;
  fits = λ is. tt;
  leaves = is;
}

pub is-created : (port : ℕ) (s : Store) (e new : ServerEnd) (m : Fields) (spot : ℕ) (did : FollowUp) → length e.channels ≤ arena_slots → (UsesCid e.channels m.p1 → ⊥) → IsCreation s e m spot did new → Creation port s e m new
is-created port s e new m spot tells few unused did = record {
  replies = creation_replies s e m did.r.state (wire_of did.h);
  action = Opens (record { sid = wire_of did.h; cid = m.p1; name = text_in m.payload; retired = false });
  due = inl (record {
    known = known_record did.r;
    named = ap (λ (o : Option Record). option_map known_record o) did.named;
    cid_free = λ taken. unused (known-taken port s e m.p1 taken);
    sid = wire_of did.h;
    fits = (let slot = did.may.slot in wire-small did.h slot);
    sid_free = λ c there. sid-free e.channels did.h c few did.may there;
    are = refl;
    does = refl;
  });
  acted = with_channel did.h m e;
  acts = λ y. (did.h, did.may, refl, refl);
  quiet = λ h. refl;
  fits = λ is. (did.r, did.named, is);
  leaves = did.leaves;
}

-- the same, and nothing is left to do
pub none-created : (port : ℕ) (s : Store) (e new : ServerEnd) (m : Fields) (did : FollowUp) → ((known port s e).record_of (text_in m.payload) ≡ None) ⊎ (CidTaken (known port s e) m.p1 ⊎ ((known port s e).full ≡ true)) → (did ≡ effect.Quiet told.Refused) × (new ≡ replied (failed_reply m ∷ []) e) → CreatesBy port s e m did new
unfolding not-created
none-created port s e new m did why is = (not-created port s e new m why is.1, λ creates. is.0 ∙ nothing-told m (command_number command.CreateChannel) creates)

-- the same, and the circuit has a channel to the record of the name
pub one-created : (port spot : ℕ) (s : Store) (e new : ServerEnd) (m : Fields) (did : FollowUp) → Finds s (text_in m.payload) spot → length e.channels ≤ arena_slots → (UsesCid e.channels m.p1 → ⊥) → IsCreation s e m spot did new → CreatesBy port s e m did new
unfolding is-created
one-created port spot s e new m did found few unused made = (is-created port s e new m spot did few unused made, λ creates. (spot, found.r, made.tells, found.at, found.named))

-- the other channels stay open as one is opened
pub opened-stay : (t u v : Table OpenChannel) (h : Handle) (c : OpenChannel) → t ≡ v → MayGive t h × (u ≡ with_held h c t) → AllStay v u
opened-stay t u v h c same made g o at =
    subst (λ (x : Table OpenChannel). under x g ≡ Some o) (sym made.1) (held-other t g h c o made.0 (subst (λ (x : Table OpenChannel). under x g ≡ Some o) (sym same) at))
