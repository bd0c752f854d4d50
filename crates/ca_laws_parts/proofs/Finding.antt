-- What search replies and datagrams leave of what is known of a client and one
-- circuit, whoever sent them.
use Rattle.std.proofs.Common.{◌≡◌, ℕ, ◌⊎◌, inl, inr, false, List, [], ◌∷◌, Option, Some, None, refl, sym, ap, ◌∙◌, subst, arith}
use Rattle.std.specs.Prelude.{is_none, option_and_then}
use Rattle.std.proofs.lemmas.Bool.{both_ways}
use Rattle.ca_text.specs.Place.{At}
use Rattle.ca_arena.specs.declared.handle.Handle.{Handle}
use Rattle.ca_ids.specs.Table.{Table, under, with_changed}
use Rattle.ca_ids.specs.Wire.{wire_of}
use Rattle.ca_model.specs.Answers.{Sending}
use Rattle.ca_model.specs.Client.{Channel, Client, ClientCircuit, Connecting, Connection, Creating, Live, Native, On, Phase, circuit_to, connection_at, found_on, new_circuit, sending}
use Rattle.ca_model.specs.Ends.{Address}
use Rattle.ca_model.specs.Hears.{Effect, FindsAt, PutsOn, becomes, create_sent, put_on, searched_by, with_circuit}
use Rattle.ca_model.specs.Sends.{Conduct}
use Rattle.ca_model.proofs.Changes.{on-handle, on-phase}
use Rattle.ca_model.proofs.Hearing.{circuit-there, keeps-finds}
use Rattle.ca_model.proofs.Placed.{Keeps}
use Rattle.ca_model.proofs.Tables.{changed-back}
use Rattle.ca_laws_parts.specs.ClientRows.{sent_on}
use Rattle.ca_laws_parts.specs.Conduct.{with_all_sent}
use Rattle.ca_laws_parts.proofs.CallsAsking.{few-thins}
use Rattle.ca_laws_parts.proofs.Backs.{Backs, BacksOn, Was, asks-as-same, back-stood, backs-same, cancels-as-same, subscribes-as-same, subscribes-on}
use Rattle.ca_laws_parts.proofs.Given.{Given, only-one}
use Rattle.ca_laws_parts.proofs.Giving.{given-finds}
use Rattle.ca_laws_parts.proofs.Rests.{Rests, is_over, rests-finds}
use Rattle.ca_laws_parts.proofs.Sound.{Overs, Sound, Turn, adds-held, turned}
use Rattle.ca_laws_parts.proofs.Turns.{ArePlain, keeps-rests, none-plain, overs-back, turn-plain}

module _ (on : Handle) (x : Client) (e : Conduct) (sound : Sound on x e) (address : Address) (cid : ℕ) (f : Effect) (finds : FindsAt x address (searched_by cid x) f) where
  abbrev Then : Type 0
  Then = Sound on f.core (with_all_sent (sent_on on f.sent) e)

  keeps : Keeps x f.core
  keeps = keeps-finds x address cid (searched_by cid x) f refl finds

  rests : Rests on x f.core
  rests = rests-finds on x f address cid (searched_by cid x) refl finds

  given : Given on x f.core f.sent
  given = given-finds on x f sound.base.few address cid (searched_by cid x) refl finds

  quiet : (v : Effect) → f ≡ v → v.sent ≡ [] → Backs on x v.core → Then
  quiet v is empty backs =
      let b : Backs on x f.core = subst (λ (w : Effect). Backs on x w.core) (sym is) backs in
      let none : f.sent ≡ [] = ap (λ (w : Effect). w.sent) is ∙ empty in
      turned on x f.core e f.sent sound.base
      (turn-plain on x f.core e f.sent sound.base sound.channels (few-thins x f.core keeps.thins sound.base.few) (keeps.placed sound.base.placed) b
      (λ connected. inl (sym (keeps.links on) ∙ connected))
      (λ l s id at gives held. inl (keeps-rests on x f.core e f.sent (overs-back on x f.core f.sent b.channels) rests b.requests (subscribes-on x.subscriptions f.core.subscriptions b.subscriptions) l s id held))
      (subst (λ (l : List Sending). ArePlain l) (sym none) none-plain)) given

  back-waiting : (c h : Handle) → BacksOn on x.channels (with_changed (λ (k : Channel). record k { standing = On c Connecting }) h x.channels)
  back-waiting c h = back-stood on x.channels (On c Connecting) h (λ p is. subst (λ (k : Phase). Was on x.channels h k) (on-phase c on Connecting p is) tt)

  -- the client waits for the circuit, which is as it was or new
  waits : (c h : Handle) (v : Client) → v.channels ≡ x.channels → v.requests ≡ x.requests → v.subscriptions ≡ x.subscriptions → Backs on x (found_on c Connecting h v)
  waits c h v channels requests subscriptions = record {
    channels =
        subst (λ (t : Table Channel). BacksOn on x.channels (with_changed (λ (k : Channel). record k { standing = On c Connecting }) h t)) (sym channels) (back-waiting c h);
    requests = asks-as-same x.requests v.requests requests;
    subscriptions = subscribes-as-same x.subscriptions v.subscriptions subscriptions;
    cancelled = cancels-as-same x.subscriptions v.subscriptions subscriptions;
  }

  -- the circuit is connected: its CREATE_CHAN goes out at once
  module _ (c h : Handle) (here : Channel) (k : Connection) (connected : connection_at x c ≡ Some k) (is : f ≡ put_on c (Some k) h here x) where
    abbrev asks : Sending
    asks = create_sent c h here

    abbrev y : Client
    y = sending (asks ∷ []) (found_on c (Creating 0) h x)

    same-keeps : Keeps x y
    same-keeps = subst (λ (v : Effect). Keeps x v.core) is keeps

    row : (g : Handle) (w : Channel) → under y.channels g ≡ Some w
        → ((g ≡ h) × (w.standing ≡ On c (Creating 0))) ⊎ (under x.channels g ≡ Some w)
    row g w at = elim (changed-back (λ (z : Channel). record z { standing = On c (Creating 0) }) x.channels g h w at) [
      | inl own ↦ inl (own.0, ap (λ (z : Channel). z.standing) own.1.2)
      | inr old ↦ inr old.1
    ]

    not-it : (i : ℕ) (s : Sending) (n : ℕ) → At (asks ∷ []) i s → (s.message).command ≡ n → (n ≡ 18 → ⊥) → ⊥
    not-it i s n at which differ = differ (sym which ∙ ap (λ (z : Sending). (z.message).command) (only-one asks s i at).1)

    no-live : (n : Native) (rights : ℕ) → Creating 0 ≡ Live n rights → ⊥
    no-live n rights e = cc

    overs-asks : Overs on (asks ∷ []) x y
    overs-asks g o = elim (row g o.0 o.2) [
      | inr old ↦ inl (o.0, o.1, old, o.3, o.4)
      | inl own ↦ absurd (both_ways false refl (ap is_over (on-phase c on (Creating 0) o.1 (sym own.1 ∙ o.3)) ∙ o.4))
    ]

    turn-asks : Turn on x y e (asks ∷ [])
    turn-asks = record {
      few = few-thins x y same-keeps.thins sound.base.few;
      placed = same-keeps.placed sound.base.placed;
      stands = λ g w p at stands. elim (row g w at) [
        | inr old ↦ inl (sound.channels g w p old stands)
        | inl own ↦
            inr (
              0,
              sym (on-phase c on (Creating 0) p (sym own.1 ∙ stands)),
              0,
              asks,
              refl,
              on-handle c on (Creating 0) p (sym own.1 ∙ stands),
              (refl, ap (λ (z : Handle). wire_of z) (sym own.0)),
            )
      ];
      cleared = λ i s g w p at there clears is stands same. absurd (not-it i s 12 at clears (λ n. omega (arith, n)));
      adds = λ g d w n rights at stands on_it live. elim (row d.channel w on_it) [
        | inr old ↦ inl (adds-held on x e sound.base g d w n rights at stands old live)
        | inl own ↦ absurd (no-live n rights (on-phase c on (Creating 0) (Live n rights) (sym own.1 ∙ live)))
      ];
      cancelled = λ i s g d at there stops row it same. not-it i s 2 at stops (λ n. omega (arith, n));
      stops = λ g d at stops. inl (d, at, stops);
      alone = λ i j s r at_s at_r ends. (only-one asks s i at_s).0 ∙ sym (only-one asks r j at_r).0;
      goes = λ i s at there which. absurd (elim which [
        | inl reads ↦ not-it i s 15 at reads (λ n. omega (arith, n))
        | inr (inl puts) ↦ not-it i s 19 at puts (λ n. omega (arith, n))
        | inr (inr (inl writes)) ↦ not-it i s 4 at writes (λ n. omega (arith, n))
        | inr (inr (inr (inl adds))) ↦ not-it i s 1 at adds (λ n. omega (arith, n))
        | inr (inr (inr (inr (inl stops)))) ↦ not-it i s 2 at stops (λ n. omega (arith, n))
        | inr (inr (inr (inr (inr clears)))) ↦ not-it i s 12 at clears (λ n. omega (arith, n))
      ]);
      overs = overs-asks;
      cancels = λ i s at there stops. absurd (not-it i s 2 at stops (λ n. omega (arith, n)));
      opens = λ now. inl (sym (same-keeps.links on) ∙ now);
      linked = λ i s id at there gives.
          (let c_on : c ≡ on = ap (λ (z : Sending). z.circuit) (sym (only-one asks s i at).1) ∙ there in
          inl (subst (λ (o : Handle). is_none (connection_at x o) ≡ false) c_on (ap (λ (o : Option Connection). is_none o) connected)));
      keeps = λ l s id at gives held.
          inl (keeps-rests on x y e (asks ∷ []) overs-asks (subst (λ (v : Effect). Rests on x v.core) is rests) (asks-as-same x.requests x.requests refl)
          (subscribes-on x.subscriptions x.subscriptions (subscribes-as-same x.subscriptions x.subscriptions refl)) l s id held);
    }

    put-there : Then
    put-there =
        subst (λ (v : Effect). Sound on v.core (with_all_sent (sent_on on v.sent) e)) (sym is)
        (turned on x y e (asks ∷ []) sound.base turn-asks (subst (λ (v : Effect). Given on x v.core v.sent) is given))

  put : (c h : Handle) (here : Channel) (o : Option Connection) → connection_at x c ≡ o → f ≡ put_on c o h here x → Then
  put c h here None at is = quiet (becomes (found_on c Connecting h x)) is refl (waits c h x refl refl refl)
  put c h here (Some k) at is = put-there c h here k at is

  puts : (h : Handle) (here : Channel) (o : Option (Handle × ClientCircuit)) → circuit_to address here.priority x ≡ o → PutsOn x address h here o f → Then
  puts h here (Some (c, d)) at is =
      put c h here d.connection (ap (λ (o : Option ClientCircuit). option_and_then (λ (v : ClientCircuit). v.connection) o) (circuit-there address here.priority x (c, d) at)) is
  puts h here None at is = elim is [
    | inr full ↦ quiet (becomes x) full.1 refl (backs-same on x x refl refl refl)
    | inl new ↦
        let v : Client = with_circuit new.0 (new_circuit address here.priority false) x in
        quiet (becomes (found_on new.0 Connecting h v)) new.2 refl (waits new.0 h v refl refl refl)
  ]

  found-so : (o : Option (Handle × Channel)) → FindsAt x address o f → Then
  found-so None is = quiet (becomes x) is refl (backs-same on x x refl refl refl)
  found-so (Some (h, here)) is = puts h here (circuit_to address here.priority x) refl is

  pub sound-finds : Then
  sound-finds = found-so (searched_by cid x) finds
