-- What a server knows of the channels of a circuit.
use Rattle.std.proofs.Common.{◌≡◌, ℕ, ◌⊎◌, inl, inr, eqb, Option, Some, None, sym, ap, ◌∙◌}
use Rattle.std.specs.Prelude.{map, option_map}
use Rattle.std.proofs.lemmas.Bool.{eq-eqb}
use Rattle.ca_text.proofs.Places.{At-map, At-mapped}
use Rattle.ca_arena.specs.declared.handle.Handle.{Handle}
use Rattle.ca_ids.specs.Table.{by_wire, held}
use Rattle.ca_ids.specs.Wire.{wire_of}
use Rattle.ca_records.specs.Puts.{Record}
use Rattle.ca_records.specs.Store.{Store}
use Rattle.ca_model.specs.Due.{IsRetired, IsUnknown, KnownChannel, Serves}
use Rattle.ca_model.specs.Server.{OpenChannel, ServerEnd}
use Rattle.ca_model.specs.ServerSteps.{known_channel, known_record}
use Rattle.ca_model.specs.Speech.{In}
use Rattle.ca_server_circuit.specs.declared.seek.Seat.{Seat}
use Rattle.ca_server_circuit.specs.Handling.{known}
use Rattle.ca_server_circuit.specs.Seeking.{IsServed, IsStray}
use Rattle.ca_server_circuit.proofs.Tables.{at-find, find-at, none-some, wire-under}

-- a channel that is held is known
pub known-there : (e : ServerEnd) (sid : ℕ) (c : Handle × OpenChannel) → by_wire e.channels sid ≡ Some c → In (map known_channel (held e.channels)) (known_channel c)
known-there e sid c is =
    let f = find-at (λ (x : Handle × OpenChannel). eqb (wire_of x.0) sid) (held e.channels) c is in
    (f.0, At-map known_channel (held e.channels) f.0 c f.1)

-- no other SID is known
pub unheld : (e : ServerEnd) (sid : ℕ) (c : KnownChannel) → (let none : Option (Handle × OpenChannel) = None in by_wire e.channels sid ≡ none) → In (map known_channel (held e.channels)) c → c.sid ≡ sid → ⊥
unheld e sid c none there same =
    let m = At-mapped known_channel (held e.channels) there.0 c there.1 in
    let w : wire_of m.0.0 ≡ sid = sym (ap (λ (x : KnownChannel). x.sid) m.2) ∙ same in
    let f = at-find (λ (x : Handle × OpenChannel). eqb (wire_of x.0) sid) (held e.channels) there.0 m.0 m.1 (eq-eqb (wire_of m.0.0) sid w) in
    none-some f.0 (sym none ∙ f.1)

abbrev pub serves : (port : ℕ) (s : Store) (e : ServerEnd) (sid : ℕ) (seat : Seat) → IsServed s e sid seat → Serves (known port s e) sid
serves port s e sid seat i = record {
  channel = known_channel (seat.channel, i.channel);
  open_there = known-there e sid (seat.channel, i.channel) i.held;
  under = (wire-under e.channels sid (seat.channel, i.channel) i.held).1;
  there = i.there;
  known = known_record i.r;
  named = ap (λ (o : Option Record). option_map known_record o) i.found;
}

pub stray : (port : ℕ) (s : Store) (e : ServerEnd) (sid cid : ℕ) → IsStray e sid cid → IsUnknown (known port s e) sid cid ⊎ IsRetired (known port s e) sid cid
stray port s e sid cid (inl h) = inl ((λ c there same. unheld e sid c h.0 there same), h.1)
stray port s e sid cid (inr h) =
    inr (known_channel h.0, known-there e sid h.0 h.1, (wire-under e.channels sid h.0 h.1).1, h.2, h.3)
