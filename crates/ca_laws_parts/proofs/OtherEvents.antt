-- Events that add nothing to a circuit's lists, and those of a server that end ends: what is held
-- of each circuit stays so.
use Rattle.std.proofs.Common.{◌≡◌, ℕ, inl, inr, List, [], ◌∷◌, ◌++◌, length, Option, Some, refl, sym, ap, ◌∙◌, subst}
use Rattle.std.specs.Prelude.{map}
use Rattle.ca_text.specs.Place.{At}
use Rattle.ca_text.proofs.Places.{At-append, At-map}
use Rattle.ca_arena.specs.declared.handle.Handle.{Handle}
use Rattle.ca_dbr.specs.Elements.{Elements}
use Rattle.ca_ids.specs.Table.{MayGive, same_handle, with_held}
use Rattle.ca_records.specs.Record.{RecordState, unset}
use Rattle.ca_model.specs.Answers.{Sending}
use Rattle.ca_model.specs.Client.{Channel, Client, Searching, is_on_in}
use Rattle.ca_model.specs.ClientCalls.{Opening, opened}
use Rattle.ca_model.specs.History.{Circuit, Intent, Line}
use Rattle.ca_model.specs.History as history
use Rattle.ca_model.specs.ClientEvents.{HappensHandingOut, HappensOpen, Outcomes, place_of}
use Rattle.ca_model.specs.ServerEvents.{HappensAdd, HappensPost, HappensServerRestart, ending, ends_by, ends_untold, numbers_posted, posted_entry}
use Rattle.ca_model.specs.World.{ClientSide, Joined, Names, ServerSide, World, with_entries}
use Rattle.ca_laws_parts.specs.Flows.{Awaits}
use Rattle.ca_laws_parts.specs.Held.{HoldAlike, Holds, is_asked, is_subscribed}
use Rattle.ca_laws_parts.proofs.Alike.{held-alike, holds-alike, with-channels}
use Rattle.ca_laws_parts.specs.Circuit.{AreNumbered, HeldAt, HeldOn, sent_to}
use Rattle.ca_laws_parts.specs.Clients.{ClientsStand}
use Rattle.ca_laws_parts.proofs.Handled.{mapped-held, posted-like}
use Rattle.ca_laws_parts.proofs.Named.{place-there}
use Rattle.ca_laws_parts.proofs.RunsSending.{none-sent-to}
use Rattle.ca_laws_parts.proofs.RunsServers.{ending-client, ending-held, server-held}
use Rattle.ca_laws_parts.proofs.Worlds.{after-call, refused-held}

-- ---- open

-- channels keep their numbers as another is opened
still-numbered : (Awaits : ℕ → Type 0) (on : Handle) (n : Names) (x : Client) (c : Circuit) (q : Handle) → AreNumbered n x → Holds Awaits on n x c → Holds Awaits on (record n { channels = n.channels ++ q ∷ [] }) x c
still-numbered Awaits on n x c q numbered h = record {
  channels = record {
    few = h.channels.few;
    busy = h.channels.busy;
    own = λ g ch is pass.
        let m = h.channels.own g ch is pass in
        let same : place_of (same_handle g) (n.channels ++ q ∷ []) ≡ place_of (same_handle g) n.channels = place-there (same_handle g) n.channels (q ∷ []) g (numbered g ch is) in
        (m.0, m.1, m.2, ap (λ (k : ℕ). Some k) same ∙ m.3);
  };
  requests = h.requests;
  subscriptions = h.subscriptions;
}

-- a channel that is opened is on no circuit
opened-alike : (on : Handle) (a : Opening) (h : Handle) (x : Client) → MayGive x.channels h → HoldAlike on x (opened a h x)
opened-alike on a h x may =
    let new : Channel = record { name = a.name; priority = a.priority; standing = Searching } in
    let r = with-channels on x (with_held h new x.channels) (held-alike (is_on_in is_asked on) x.channels h new may refl) (held-alike (is_on_in is_subscribed on) x.channels h new may refl) in
    record { asked = r.asked; requests = r.requests; subscriptions = r.subscriptions }

pub keeps-open : (kept : List ℕ) (w new : World) (i k : ℕ) (x : ClientSide) (name : List ℕ) (priority : ℕ) → At w.clients i x → ClientsStand w → HappensOpen w i x name priority new → HeldAt kept w k → HeldAt kept new k
keeps-open kept w new i k x name priority at s happens held = elim happens [
  | inl refusal ↦ refused-held kept w new i k x refusal.0 refusal.3 held
  | inr did ↦
      let h : Handle = did.0 in
      let a : Opening = record { name = name; priority = priority; now = w.moment } in
      let now : Names = record x.names { channels = x.names.channels ++ h ∷ [] } in
      let o : Outcomes = record { core = did.2; names = now; lines = history.Opened (length x.names.channels) name ∷ []; sent = did.1 } in
      subst (λ (v : World). HeldAt kept v k) (sym did.4)
      (after-call kept w i k x now o at
      (λ j there mine was.
      subst (λ (z : List Sending × Client). HeldOn kept now z.1 (sent_to i now z.0 j)) (λ e. (sym did.3.2.0 e, sym did.3.2.1 e))
      (none-sent-to kept i x.names now x.core (opened a h x.core) j was (λ l g stands. At-append x.names.channels (h ∷ []) l g stands)
      (λ open_it holds.
      holds-alike (Awaits j.lists kept) j.at_client now x.core (opened a h x.core) j.lists (opened-alike j.at_client a h x.core did.3.1)
      (still-numbered (Awaits j.lists kept) j.at_client x.names x.core j.lists h (s.sound i x at).named.numbered holds)))) held)
]

-- ---- what became of a request is handed out

pub keeps-handing-out : (kept : List ℕ) (w new : World) (k : ℕ) (x : ClientSide) (number : ℕ) (meant : Intent) (line : Option ℕ → Line) → HappensHandingOut w x number meant line new → HeldAt kept w k → HeldAt kept new k
keeps-handing-out kept w new k x number meant line happens held = subst (λ (v : World). HeldAt kept v k) (sym happens.2) (held.0, held.1, held.2, held.3, held.4)

-- ---- at a server

pub keeps-post : (kept : List ℕ) (w new : World) (i k : ℕ) (y : ServerSide) (name : List ℕ) (e : Elements) (mask : ℕ) → HappensPost w i y name e mask new → HeldAt kept w k → HeldAt kept new k
keeps-post kept w new i k y name e mask happens held = elim happens.2 [
  | inr refusal ↦ subst (λ (v : World). HeldAt kept v k) (sym refusal.3) held
  | inl did ↦
      let posted : World = record w { circuits = map (numbers_posted i y.core name mask) w.circuits } in
      let r = mapped-held kept w k (numbers_posted i y.core name mask) (posted-like i y.core name mask) held in
      subst (λ (v : World). HeldAt kept v k) (sym did.1) (server-held kept (with_entries y.life (posted_entry y name (record { value = e; meta = unset }) mask) posted) i k y (ends_by i happens.1) happens.1 (r.0, r.1, r.2, r.3, r.4))
]

pub keeps-add : (kept : List ℕ) (w new : World) (i k : ℕ) (y : ServerSide) (r : RecordState) → HappensAdd w i y r new → HeldAt kept w k → HeldAt kept new k
keeps-add kept w new i k y r happens held = elim happens.2 [
  | inr refusal ↦ subst (λ (v : World). HeldAt kept v k) (sym refusal.3) held
  | inl did ↦ subst (λ (v : World). HeldAt kept v k) (sym did.1) (held.0, held.1, held.2, held.3, held.4)
]

pub keeps-server-restart : (kept : List ℕ) (w new : World) (i k : ℕ) (y : ServerSide) → HappensServerRestart w i y new → HeldAt kept w k → HeldAt kept new k
keeps-server-restart kept w new i k y happens held =
    let ends : Joined → Option (List ℕ) = ends_untold i y.core in
    subst (λ (v : World). HeldAt kept v k) (sym happens) (
      ending ends held.0,
      held.1,
      At-map (ending ends) w.circuits k held.0 held.2,
      subst (λ (c : ℕ). At w.clients c held.1) (sym (ending-client held.0 (ends held.0))) held.3,
      ending-held kept held.1.names held.1.core held.0 (ends held.0) held.4,
    )
