-- A caller writes to a live channel without an answer: its WRITE goes out, which gives no id, and
-- concerns the channel's CID.
use Rattle.std.proofs.Common.{◌≡◌, ℕ, ◌<◌, inl, inr, true, List, [], ◌∷◌, ◌++◌, length, Some, sym, ap, ◌∙◌, subst, arith}
use Rattle.ca_text.specs.declared.command.Command.TheVariants as command
use Rattle.ca_text.specs.Place.{At}
use Rattle.ca_text.proofs.Places.{At-last, At-one, At-within}
use Rattle.ca_arena.specs.declared.handle.Handle.{Handle}
use Rattle.ca_ids.specs.Table.{under}
use Rattle.ca_ids.specs.Wire.{wire_of}
use Rattle.ca_requests.specs.Requests.{was_sent_on}
use Rattle.ca_model.specs.Answers.{Sending}
use Rattle.ca_model.specs.Client.{Channel, Client, is_on_in, sending}
use Rattle.ca_model.specs.Speech.{Id, Cid, Ioid, SubId, Gives, Is}
use Rattle.ca_model.specs.History.{Circuit, Intent, Sent}
use Rattle.ca_model.specs.History as history
use Rattle.ca_model.specs.Channels.{Suits, named}
use Rattle.ca_model.specs.ClientEvents.{channel_number}
use Rattle.ca_model.specs.World.{Names}
use Rattle.ca_laws_parts.specs.Flows.{Concerns, MaySend, MeansOwn, with_sent}
use Rattle.ca_laws_parts.specs.Held.{Holds, has_id, is_asked}
use Rattle.ca_laws_parts.proofs.Alike.{holds-alike, sending-alike}
use Rattle.ca_laws_parts.proofs.Creates.{cid-is, no-ioid, no-sub}
use Rattle.ca_laws_parts.proofs.Ended.{on-is}
use Rattle.ca_laws_parts.proofs.Flows.{given-sent}
use Rattle.ca_laws_parts.proofs.Held.{ids-sent}
use Rattle.ca_laws_parts.proofs.CircuitLists.{At-old}

writes-gives : (s : Sent) (id : Id) → Is command.Write s.message → Gives s.message id → ⊥
writes-gives s (SubId n) is g = (let e : ◌≡◌ {A = ℕ} 4 1 = sym is ∙ g.0 in omega (arith, e))
writes-gives s (Cid n) is g = (let e : ◌≡◌ {A = ℕ} 4 18 = sym is ∙ g.0 in omega (arith, e))
writes-gives s (Ioid n) is g = elim g.0 [
  | inl e ↦ (let f : ◌≡◌ {A = ℕ} 4 15 = sym is ∙ e in omega (arith, f))
  | inr e ↦ (let f : ◌≡◌ {A = ℕ} 4 19 = sym is ∙ e in omega (arith, f))
]

module _ (Awaits : ℕ → Type 0) (on : Handle) (n : Names) (x : Client) (c : Circuit) (s : Sent) (h : Handle) (number : ℕ)
    (writes : Is command.Write s.message) (means : s.intent ≡ history.On (channel_number n h) (history.Request history.Write number))
    (ch : Channel) (there : under x.channels h ≡ Some ch) (asked : is_on_in is_asked on ch ≡ true)
    (cids : (k : ℕ) (r : Sent) → At c.up k r → r.intent ≡ history.On (channel_number n h) history.Create → r.message.p1 ≡ wire_of h)
    (holds : Holds Awaits on n x c) where
  writes-concerns : (id : Id) → Concerns (c.up ++ s ∷ []) (length c.up) id → id ≡ Cid (wire_of h)
  writes-concerns id concerns =
      let same : concerns.0 ≡ s = At-one (c.up ++ s ∷ []) (length c.up) concerns.0 s concerns.1 (At-last c.up s) in
      let command : concerns.0.message.command ≡ s.message.command = ap (λ (z : Sent). z.message.command) same in
      elim concerns.2 [
        | inl gives ↦ absurd (writes-gives s id writes (subst (λ (z : Sent). Gives z.message id) same gives))
        | inr (inl clears) ↦ (let e : ◌≡◌ {A = ℕ} 4 12 = sym writes ∙ sym command ∙ clears.0 in absurd (omega (arith, e)))
        | inr (inr (inl cancels)) ↦ (let e : ◌≡◌ {A = ℕ} 4 2 = sym writes ∙ sym command ∙ cancels.0 in absurd (omega (arith, e)))
        | inr (inr (inr writing)) ↦
            let of = writing.1.1 in
            let channel : channel_number n h ≡ of.0 =
            on-is (channel_number n h) of.0 (history.Request history.Write number) of.2 (sym means ∙ ap (λ (z : Sent). z.intent) (sym same) ∙ of.4) in
            let cid = cids of.1 of.3 (At-old c.up of.3 s of.1 of.6 of.5) (of.7 ∙ ap (λ (a : ℕ). history.On a history.Create) (sym channel)) in
            writing.1.2 ∙ ap (λ (a : ℕ). Cid a) (sym of.8.1 ∙ cid)
      ]

  pub write-may : MaySend Awaits c s
  write-may = record {
    suits = subst (λ (i : Intent). Suits i s.message) (sym means) writes;
    fresh = λ p id gives pending. writes-gives s id writes gives;
    means = λ id concerns.
        let is : id ≡ Cid (wire_of h) = writes-concerns id concerns in
        let m = holds.channels.own h ch there asked in
        let k : m.0 < length c.up = At-within c.up m.0 m.2.0 m.2.1 in
        subst (λ (y : Id). MeansOwn (c.up ++ s ∷ []) (length c.up) y) (sym is)
        (m.0, m.1, s, given-sent c.up s (Cid (wire_of h)) m.0 m.1 (writes-gives s (Cid (wire_of h)) writes) m.2, omega (arith, k), At-last c.up s, ap (named (Cid (wire_of h))) means ∙ m.3);
  }

  pub write-keeps : (sends : List Sending) → Holds Awaits on n (sending sends x) (with_sent s c)
  write-keeps sends = holds-alike Awaits on n x (sending sends x) (with_sent s c) (sending-alike on sends x) (record {
    channels =
        ids-sent Cid _ Awaits (is_on_in is_asked on) x.channels c s (λ m g. writes-gives s (Cid m) writes g)
        (λ m concerns. (h, ch, there, sym (cid-is m (wire_of h) (writes-concerns (Cid m) concerns)), asked)) holds.channels;
    requests =
        ids-sent Ioid _ Awaits (was_sent_on on) x.requests c s (λ m g. writes-gives s (Ioid m) writes g)
        (λ m concerns. absurd (no-ioid m (wire_of h) (writes-concerns (Ioid m) concerns))) holds.requests;
    subscriptions =
        ids-sent SubId _ Awaits (has_id x.channels on) x.subscriptions c s (λ m g. writes-gives s (SubId m) writes g)
        (λ m concerns. absurd (no-sub m (wire_of h) (writes-concerns (SubId m) concerns))) holds.subscriptions;
  })
