-- A search reply: a channel that is searched for is put on a circuit, and what is held of each
-- circuit of its client stays so.
use Rattle.std.proofs.Common.{◌≡◌, ℕ, inl, inr, false, List, [], ◌∷◌, Option, Some, None, refl, sym, ◌∙◌, subst}
use Rattle.ca_text.specs.Place.{At}
use Rattle.ca_arena.specs.declared.handle.Handle.{Handle}
use Rattle.ca_ids.specs.Table.{under}
use Rattle.ca_model.specs.Answers.{Sending}
use Rattle.ca_model.specs.Client.{Channel, Client, ClientCircuit, Connecting, Connection, Creating, On, Phase, Searching, circuit_to, found_on, is_on_in, new_circuit, sending, with_standing}
use Rattle.ca_model.specs.Ends.{Address}
use Rattle.ca_model.specs.Hears.{Effect, FindsAt, PutsOn, create_sent, put_on, searched_by, with_circuit}
use Rattle.ca_model.specs.History as history
use Rattle.ca_model.specs.ClientEvents.{channel_number}
use Rattle.ca_model.specs.World.{Joined, Names}
use Rattle.ca_laws_parts.specs.Flows.{Awaits, MaySend, with_sent}
use Rattle.ca_laws_parts.specs.Held.{HoldAlike, Holds, is_asked, is_subscribed}
use Rattle.ca_laws_parts.proofs.Alike.{client-itself, holds-alike, restood, sending-alike}
use Rattle.ca_laws_parts.proofs.Creates.{create-keeps, create-may}
use Rattle.ca_model.proofs.Standings.{fails-anywhere, fails-elsewhere, fails-searched}
use Rattle.ca_laws_parts.specs.Circuit.{AreNumbered, HeldOn, sent_to, stamped}
use Rattle.ca_laws_parts.proofs.RunsSending.{none-sent-to, one-sent}
use Rattle.ca_model.proofs.Standings.{searched-is}

module _ (kept : List ℕ) (i : ℕ) (n : Names) (x : Client) (a : Joined) (held : HeldOn kept n x a) (mine : a.client ≡ i) where
  silent : (z : Client) → HoldAlike a.at_client x z → HeldOn kept n z (sent_to i n [] a)
  silent z alike = none-sent-to kept i n n x z a held (λ k g at. at) (λ o holds. holds-alike (Awaits a.lists kept) a.at_client n x z a.lists alike holds)

  module _ (h : Handle) (here : Channel) (there : under x.channels h ≡ Some here) (searched : here.standing ≡ Searching) (numbered : AreNumbered n x) where
    -- it waits for a circuit, or is created on one that is another
    found-alike : (on c : Handle) (p : Phase) → is_on_in is_asked on (record here { standing = On c p }) ≡ false → is_on_in is_subscribed on (record here { standing = On c p }) ≡ false → HoldAlike on x (found_on c p h x)
    found-alike on c p asked subscribed =
        let r : HoldAlike on x (with_standing (On c p) h x) = restood on x h (On c p) here there (fails-searched is_asked on here searched ∙ sym asked) (fails-searched is_subscribed on here searched ∙ sym subscribed) in
        record { asked = r.asked; requests = r.requests; subscriptions = r.subscriptions }

    waits-alike : (c : Handle) → HoldAlike a.at_client x (found_on c Connecting h x)
    waits-alike c =
        found-alike a.at_client c Connecting (fails-anywhere is_asked a.at_client c (record here { standing = On c Connecting }) Connecting refl refl)
        (fails-anywhere is_subscribed a.at_client c (record here { standing = On c Connecting }) Connecting refl refl)

    put-held : (c : Handle) (o : Option Connection) (e : Effect) → e ≡ put_on c o h here x → HeldOn kept n e.core (sent_to i n e.sent a)
    put-held c None e is = subst (λ (w : Effect). HeldOn kept n w.core (sent_to i n w.sent a)) (sym is) (silent (found_on c Connecting h x) (waits-alike c))
    put-held c (Some conn) e is =
        let s : Sending = create_sent c h here in
        let z : Client = found_on c (Creating 0) h x in
        subst (λ (w : Effect). HeldOn kept n w.core (sent_to i n w.sent a)) (sym is)
        (one-sent kept i n n x (sending (s ∷ []) z) a s held mine (λ k g at. at)
        (λ channel creates. (h, subst (λ (k : ℕ). At n.channels k h) (channel-is (channel_number n h) channel creates) (numbered h here there), refl))
        (λ open_it same holds.
        let away : is_on_in is_asked a.at_client here ≡ false = fails-searched is_asked a.at_client here searched in
        subst (λ (k : Handle). MaySend (Awaits a.lists kept) a.lists (stamped n s) × Holds (Awaits a.lists kept) a.at_client n (sending (s ∷ []) (found_on k (Creating 0) h x)) (with_sent (stamped n s) a.lists)) (sym same) (
          create-may (Awaits a.lists kept) a.at_client n x a.lists (stamped n s) h refl refl refl refl here there away holds,
          create-keeps (Awaits a.lists kept) a.at_client n x a.lists (stamped n s) h refl refl refl refl here there away holds s,
        ))
        (λ open_it other holds.
        holds-alike (Awaits a.lists kept) a.at_client n z (sending (s ∷ []) z) a.lists (sending-alike a.at_client (s ∷ []) z)
        (holds-alike (Awaits a.lists kept) a.at_client n x z a.lists (found-alike a.at_client c (Creating 0)
        (fails-elsewhere is_asked a.at_client c (record here { standing = On c (Creating 0) }) (Creating 0) refl other)
        (fails-elsewhere is_subscribed a.at_client c (record here { standing = On c (Creating 0) }) (Creating 0) refl other)) holds)))
      where
        channel-is : (k l : ℕ) → history.On k history.Create ≡ history.On l history.Create → k ≡ l
        channel-is k l e = cc

    puts-held : (address : Address) (o : Option (Handle × ClientCircuit)) (e : Effect) → PutsOn x address h here o e → HeldOn kept n e.core (sent_to i n e.sent a)
    puts-held address (Some (c, d)) e is = put-held c d.connection e is
    puts-held address None e is = elim is [
      | inr full ↦ subst (λ (w : Effect). HeldOn kept n w.core (sent_to i n w.sent a)) (sym full.1) (silent x (client-itself a.at_client x))
      | inl new ↦
          let c : Handle = new.0 in
          let y : Client = with_circuit c (new_circuit address here.priority false) x in
          let r = waits-alike c in
          subst (λ (w : Effect). HeldOn kept n w.core (sent_to i n w.sent a)) (sym new.2)
          (silent (found_on c Connecting h y) (record { asked = r.asked; requests = r.requests; subscriptions = r.subscriptions }))
    ]

  pub found-held : AreNumbered n x → (address : Address) (cid : ℕ) (o : Option (Handle × Channel)) (e : Effect) → searched_by cid x ≡ o → FindsAt x address o e → HeldOn kept n e.core (sent_to i n e.sent a)
  found-held numbered address cid None e at is = subst (λ (w : Effect). HeldOn kept n w.core (sent_to i n w.sent a)) (sym is) (silent x (client-itself a.at_client x))
  found-held numbered address cid (Some (h, here)) e at is =
      let found = searched-is cid x h here at in
      puts-held h here found.0 found.1 numbered address (circuit_to address here.priority x) e is
