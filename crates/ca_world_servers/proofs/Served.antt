-- A channel that is served on a circuit, by what the core says of its SID.
use Rattle.std.proofs.Common.{◌≡◌, ℕ, false, List, Option, Some, None, sym, ap, subst, ◌∙◌}
use Rattle.ca_arena.specs.declared.handle.Handle.{Handle}
use Rattle.ca_ids.specs.Table.{held, under}
use Rattle.ca_ids.specs.Wire.{wire_of}
use Rattle.ca_text.proofs.Places.{At-mapped}
use Rattle.ca_wire.specs.Fields.{Fields}
use Rattle.ca_model.specs.Due.{KnownChannel, Serves}
use Rattle.ca_model.specs.Server.{Open, OpenChannel, Server, ServerCircuit, ServerEnd}
use Rattle.ca_model.specs.ServerSteps.{HasEnd, known_channel, knows}
use Rattle.ca_model.specs.Speech.{In}
use Rattle.ca_server_core.specs.Asking.{NamesUnder}

module _ (core : Server) (h : Handle) (m : Fields) where
  -- the channel that is served is one of the end's
  served-seat : (e : ServerEnd) (c : Serves (knows core e) m.p1) → (x : Handle × OpenChannel) × In (held e.channels) x × (wire_of x.0 ≡ m.p1) × (x.1.retired ≡ false) × (c.channel.name ≡ x.1.name)
  served-seat e c =
      let d = At-mapped known_channel (held e.channels) c.open_there.0 c.channel c.open_there.1 in (
        d.0,
        (c.open_there.0, d.1),
        sym (ap (λ (k : KnownChannel). k.sid) d.2) ∙ c.under,
        sym (ap (λ (k : KnownChannel). k.retired) d.2) ∙ c.there,
        ap (λ (k : KnownChannel). k.name) d.2,
      )

  -- no channel is served
  pub unserved : NamesUnder (under core.circuits h) m.p1 None → (e : ServerEnd) → HasEnd core h e → Serves (knows core e) m.p1 → ⊥
  unserved none e has c =
      let here : NamesUnder (Some (Open e)) m.p1 None = subst (λ (o : Option ServerCircuit). NamesUnder o m.p1 None) has none in
      let s = served-seat e c in
      here s.0 s.1 s.2 s.3

  -- it is to the record of this name
  pub served-name : (name : List ℕ) → NamesUnder (under core.circuits h) m.p1 (Some name) → (e : ServerEnd) → HasEnd core h e → (c : Serves (knows core e) m.p1) → c.channel.name ≡ name
  served-name name named e has c =
      let here : NamesUnder (Some (Open e)) m.p1 (Some name) = subst (λ (o : Option ServerCircuit). NamesUnder o m.p1 (Some name)) has named in
      let s = served-seat e c in
      s.4 ∙ here.1 s.0 s.1 s.2 s.3
