-- A finish: its reply is the last message about its put.
use Rattle.std.proofs.Common.{◌≡◌, ℕ, ◌<◌, ◌⊎◌, inl, inr, true, List, [], ◌∷◌, ◌++◌, length, Option, Some, None, refl, sym, ap, subst, ◌∙◌, append-nil, arith}
use Rattle.std.specs.Prelude.{map, option_map, slice_get, unwrap_or}
use Rattle.ca_arena.specs.declared.handle.Handle.{Handle}
use Rattle.ca_laws_parts.specs.Flows.{Awaits, MayTell}
use Rattle.ca_laws_parts.proofs.Flows.{flows-told}
use Rattle.ca_laws_parts.proofs.CircuitSteps.{holds-told, may-finish}
use Rattle.ca_laws_parts.proofs.CircuitTold.{finish-speaks}
use Rattle.ca_laws_parts.specs.CircuitSteps.{replied}
use Rattle.ca_records.specs.declared.puts.Put.{Put}
use Rattle.ca_records.specs.Puts.{WaitingPut}
use Rattle.ca_text.specs.declared.command.Command.TheVariants as command
use Rattle.ca_text.specs.Place.{At}
use Rattle.ca_text.proofs.Places.{some_is, At-map, At-mapped, At-one, At-set-other, At-within}
use Rattle.ca_wire.specs.Fields.{Fields}
use Rattle.ca_model.specs.Client.{Client}
use Rattle.ca_model.specs.History.{Applied, Circuit, Entry, Finished, Sent, Told}
use Rattle.ca_model.specs.Server.{Server}
use Rattle.ca_model.specs.ServerCalls.{finish_reply}
use Rattle.ca_model.specs.Speech.{In, Is}
use Rattle.ca_model.specs.Events as event
use Rattle.ca_model.specs.Runs.{Happens}
use Rattle.ca_model.specs.ServerEvents.{ending, ends_at, ends_by, finish_entry, first_of, next_busy, next_entries, next_numbers, replied_at, reported, server_after, withdrawals, without_puts}
use Rattle.ca_model.specs.ServerEvents as server
use Rattle.ca_model.specs.World.{IsSetting, Joined, Names, PutPlace, RecordSide, ServerSide, Setting, World, with_circuit}
use Rattle.ca_laws_parts.specs.Circuit.{HeldAt, HeldOn}
use Rattle.ca_laws_parts.proofs.Handled.{Like, like-held, posted-like}
use Rattle.ca_laws_parts.proofs.RunsServers.{server-held}
use Rattle.ca_laws_parts.specs.Agrees.{Agrees, IsBusyAs, IsBusyBy, IsBusyWith, WaitsAs}
use Rattle.ca_laws_parts.specs.Lives.{IsPutOf}
use Rattle.ca_laws_parts.specs.Moves.{Lives, finish_told}
use Rattle.ca_laws_parts.specs.Seats.{HasSeat, Sound, TakesSent}
use Rattle.ca_laws_parts.proofs.WritesEvents.{found, next-same}
use Rattle.ca_laws_parts.proofs.Every.{event-sound}
use Rattle.ca_laws_parts.proofs.WritesLives.{others-apart}
use Rattle.ca_laws_parts.proofs.Lasting.{told_late}
use Rattle.ca_laws_parts.proofs.LastingStep.{told-servers}
use Rattle.ca_laws_parts.proofs.WritesLists.{In-append, beside-left, beside-right}
use Rattle.ca_laws_parts.proofs.Midway.{grown-here, set-here}
use Rattle.ca_laws_parts.proofs.WritesMoves.{same-or}
use Rattle.ca_laws_parts.proofs.Seats.{open-still}
use Rattle.ca_laws_parts.specs.Awaited.{KeepsAwaited}
use Rattle.ca_laws_parts.specs.Kept.{kept, records_at}
use Rattle.ca_laws_parts.specs.Messages.{AllMessages}
use Rattle.ca_laws_parts.proofs.Laters.{fewer-at, held-then, with_down}
use Rattle.ca_laws_parts.proofs.Puts.{In-right, PutIn}
use Rattle.ca_laws_parts.proofs.KeptRuns.{messages-event}
use Rattle.ca_laws_parts.proofs.Thins.{KeptBy, PutFacts, kept-from, kept-there, put-facts, records-there}

next-like : (i : ℕ) (core : Server) (name : List ℕ) (ws : List WaitingPut) (c : Joined) → Like c (next_numbers i core name ws c)
next-like i core name [] c = (refl, refl, refl)
next-like i core name (w ∷ ws) c = posted-like i core name 3 c

-- the logs do not see a reply
told-logs : (p : PutPlace) (sent : List (Handle × Fields)) (t : World) → (replied_at p sent t).server_logs ≡ t.server_logs
told-logs p sent t = go (slice_get t.circuits p.circuit)
  where
    go : (o : Option Joined) → (unwrap_or (option_map (λ (j : Joined). with_circuit p.circuit (told_late p.place (map (λ (x : Handle × Fields). x.1) sent) j) t) o) t).server_logs ≡ t.server_logs
    go None = refl
    go (Some j) = refl

told-clients : (p : PutPlace) (sent : List (Handle × Fields)) (t : World) → (replied_at p sent t).clients ≡ t.clients
told-clients p sent t = go (slice_get t.circuits p.circuit)
  where
    go : (o : Option Joined) → (unwrap_or (option_map (λ (j : Joined). with_circuit p.circuit (told_late p.place (map (λ (x : Handle × Fields). x.1) sent) j) t) o) t).clients ≡ t.clients
    go None = refl
    go (Some j) = refl

-- other circuits get no reply
told-other : (p : PutPlace) (sent : List (Handle × Fields)) (t : World) (l : ℕ) (d : Joined) → (l ≡ p.circuit → ⊥) → At t.circuits l d → At (replied_at p sent t).circuits l d
told-other p sent t l d other at = go (slice_get t.circuits p.circuit)
  where
    go : (o : Option Joined) → At (unwrap_or (option_map (λ (j : Joined). with_circuit p.circuit (told_late p.place (map (λ (x : Handle × Fields). x.1) sent) j) t) o) t).circuits l d
    go None = at
    go (Some j) = At-set-other t.circuits p.circuit l d (told_late p.place (map (λ (x : Handle × Fields). x.1) sent) j) at other

told-own : (p : PutPlace) (sent : List (Handle × Fields)) (t : World) (d : Joined) → At t.circuits p.circuit d → At (replied_at p sent t).circuits p.circuit (told_late p.place (map (λ (x : Handle × Fields). x.1) sent) d)
told-own p sent t d at =
    subst (λ (o : Option Joined). At (unwrap_or (option_map (λ (j : Joined). with_circuit p.circuit (told_late p.place (map (λ (x : Handle × Fields). x.1) sent) j) t) o) t).circuits p.circuit (told_late p.place (map (λ (x : Handle × Fields). x.1) sent) d)) (sym at)
    (set-here t.circuits p.circuit d (told_late p.place (map (λ (x : Handle × Fields). x.1) sent) d) at)

-- the last reply about a put: its server keeps nothing for that afterwards
finish-held : (ks fewer : List ℕ) (n : Names) (x : Client) (c : Joined) (place : ℕ) (s : Sent) (b : Put) → At c.lists.up place s → Is command.WriteNotify s.message → s.message.p2 ≡ b.ioid → place < length c.lists.handled → In ks place
    → ((p : ℕ) → In fewer p → In ks p) → (In fewer place → ⊥) → HeldOn ks n x c → HeldOn fewer n x (told_late place (finish_reply b ∷ []) c)
finish-held ks fewer n x c place s b at asks ioid handled keeps less gone h =
    let may : MayTell (Awaits c.lists ks) (Awaits c.lists fewer) c.lists (replied place (finish_reply b)) =
    may-finish ks fewer c.lists (replied place (finish_reply b)) s at asks handled keeps less gone (finish-speaks c.lists.up place s b at asks ioid) h.flows in
    record {
      flows = flows-told (Awaits c.lists ks) (Awaits c.lists fewer) c.lists (replied place (finish_reply b)) may h.flows;
      cids = h.cids;
      holds = λ o. holds-told (Awaits c.lists ks) (Awaits c.lists fewer) c.at_client n x c.lists (replied place (finish_reply b)) may (h.holds o);
    }

module _ (s : Setting) (w new : World) (i l : ℕ) (y : ServerSide) (name : List ℕ) (ok : IsSetting s) (takes : TakesSent w) (h : Sound s w) (messages : AllMessages w) (awaited : KeepsAwaited w) (happens : Happens w (event.Finish i name) new) (at : At w.servers i y) (f : server.Finished w i y name new) where
  abbrev told : World
  told = finish_told w i y name f.cr f.r f.p

  abbrev mid : World
  mid = replied_at f.p f.sent told

  abbrev side : ServerSide
  side = record y { records = server.with_record name next_busy y.records }

  abbrev after : World
  after = server_after i side (ends_by i f.core) f.core mid

  abbrev ms : List Fields
  ms = map (λ (z : Handle × Fields). z.1) f.sent

  abbrev numbers : Joined → Joined
  numbers = next_numbers i y.core name f.cr.waiting

  facts : PutFacts w i f.p
  facts = put-facts s w i y f.p h at (f.r, (f.at.0, f.at.1), inl f.busy)

  -- the put beside its place
  put : IsPutOf w.circuits i f.p f.finishes.0.p
  put =
      let own_life = h.writes.lives i y at in
      let x = found (IsPutOf w.circuits i) own_life.log y.core.records y.records name f.finishes.0.r own_life.life.each f.finishes.0.named in
      let one : x.i ≡ f.at.0 = elim (others-apart y.records x.i f.at.0 x.r f.r own_life.life.others x.in_rs f.at.1) [
        | inl e ↦ e
        | inr apart ↦ absurd (apart.0 (f.at.2 ∙ sym x.named))
      ] in
      let same : x.r ≡ f.r = At-one y.records f.at.0 x.r f.r (subst (λ (m : ℕ). At y.records m x.r) one x.in_rs) f.at.1 in
      both-busy x.r.busy f.finishes.0.r.busy (ap (λ (z : RecordSide). z.busy) same ∙ f.busy) f.finishes.0.busy x.agrees.busy_as
    where
      both-busy : (o : Option PutPlace) (c : Option Put) → o ≡ Some f.p → c ≡ Some f.finishes.0.p → IsBusyAs (IsPutOf w.circuits i) o c → IsPutOf w.circuits i f.p f.finishes.0.p
      both-busy o c is now held = subst (λ (z : Option Put). IsBusyAs (IsPutOf w.circuits i) (Some f.p) z) now (subst (λ (z : Option PutPlace). IsBusyAs (IsPutOf w.circuits i) z c) is held)

  handled-put : put.c.lists.server_open ≡ true → f.p.place < length put.c.lists.handled
  handled-put = subst (λ (z : Joined). z.lists.server_open ≡ true → f.p.place < length z.lists.handled) (At-one w.circuits f.p.circuit facts.c put.c facts.on put.on) facts.handled

  less : l < length w.circuits → (p : ℕ) → In (kept new l) p → In (kept w l) p
  less within p there = elim (kept-from s w new (event.Finish i name) l p ok takes h happens within there) [ inl old ↦ old | inr own ↦ absurd own ]

  -- the log says that the put is finished, and was applied
  own : Lives w i y
  own = h.writes.lives i y at

  abbrev more : List Entry
  more = finish_entry f.p ∷ next_entries y f.r (first_of f.cr.waiting) (first_of f.r.waiting)

  abbrev log_now : List Entry
  log_now = (own.log ++ more) ++ withdrawals (ends_at (ends_by i f.core) mid.circuits) side.records

  logged : At new.server_logs y.life log_now
  logged =
      subst (λ (z : World). At z.server_logs y.life log_now) (sym f.leaves)
      (grown-here mid.server_logs y.life (own.log ++ more) (withdrawals (ends_at (ends_by i f.core) mid.circuits) side.records)
      (subst (λ (ls : List (List Entry)). At ls y.life (own.log ++ more)) (sym (told-logs f.p f.sent told)) (grown-here w.server_logs y.life own.log more own.at)))

  by : IsBusyWith own.log f.r.number f.p
  by =
      let there = beside-right (Agrees (IsPutOf w.circuits i) own.log) y.core.records y.records f.at.0 f.r own.life.each f.at.1 in
      subst (λ (o : Option PutPlace). IsBusyBy own.log f.r.number o) f.busy there.2.busy

  finished-now : In log_now (Finished f.p.circuit f.p.place)
  finished-now = In-append (own.log ++ more) _ (Finished f.p.circuit f.p.place) (In-right own.log more (Finished f.p.circuit f.p.place) (0, refl))

  applied-now : In log_now (Applied f.p.circuit f.p.place f.r.number by.v true)
  applied-now = In-append (own.log ++ more) _ _ (In-append own.log more _ (by.i, by.at))

  -- the server's side now
  abbrev next : ServerSide
  next = record side { core = reported f.core; records = map (without_puts (ends_at (ends_by i f.core) mid.circuits)) side.records }

  there-next : At new.servers i next
  there-next =
      subst (λ (z : World). At z.servers i next) (sym f.leaves)
      (set-here mid.servers i side next (subst (λ (ss : List ServerSide). At ss i side) (sym (told-servers f.p f.sent told)) (set-here w.servers i y side at)))

  -- no put is at its place any more
  no-put : Sound s new → PutIn next.records f.p → ⊥
  no-put sound put =
      let lives = sound.writes.lives i next there-next in
      let log_is : lives.log ≡ log_now = At-one new.server_logs y.life lives.log log_now lives.at logged in
      let there = beside-right (Agrees (IsPutOf new.circuits i) lives.log) next.core.records next.records put.1.0 put.0 lives.life.each put.1.1 in
      elim put.2 [
        | inl busy ↦
            let now : IsBusyWith lives.log put.0.number f.p = subst (λ (o : Option PutPlace). IsBusyBy lives.log put.0.number o) busy there.2.busy in
            now.unfinished (subst (λ (z : List Entry). In z (Finished f.p.circuit f.p.place)) (sym log_is) finished-now)
        | inr waits ↦
            let b = beside-left (WaitsAs (IsPutOf new.circuits i) lives.log put.0.number) put.0.waiting there.0.waiting waits.0 f.p there.2.each waits.1 in
            b.2.0.unapplied (f.r.number, by.v, true, subst (λ (z : List Entry). In z (Applied f.p.circuit f.p.place f.r.number by.v true)) (sym log_is) applied-now)
      ]

  -- the circuit on which the put came
  module _ (is_l : l ≡ f.p.circuit) (c : Joined) (on : At w.circuits l c) where
    same-c : put.c ≡ c
    same-c = At-one w.circuits f.p.circuit put.c c put.on (subst (λ (m : ℕ). At w.circuits m c) is_l on)

    sent : At c.lists.up f.p.place put.s
    sent = subst (λ (z : Joined). At z.lists.up f.p.place put.s) same-c put.sent

    gone : In (kept new l) f.p.place → ⊥
    gone there = go (kept-there new l f.p.place there)
      where
        sound : Sound s new
        sound = event-sound s w new (event.Finish i name) ok takes happens h

        at-told : At told.circuits f.p.circuit (numbers c)
        at-told = At-map numbers w.circuits f.p.circuit c (subst (λ (m : ℕ). At w.circuits m c) is_l on)

        go : ((d : Joined) × At new.circuits l d × (d.lists.server_open ≡ true) × KeptBy l (records_at new d) d f.p.place) → ⊥
        go (d, at_d, opened, k) =
            let u = At-mapped (ending (ends_by i f.core)) mid.circuits f.p.circuit d (subst (λ (m : ℕ). At after.circuits m d) is_l (subst (λ (z : World). At z.circuits l d) f.leaves at_d)) in
            let still = open-still (ends_by i f.core) u.0 d u.2 opened in
            let one : u.0 ≡ told_late f.p.place ms (numbers c) = At-one mid.circuits f.p.circuit u.0 (told_late f.p.place ms (numbers c)) u.1 (told-own f.p f.sent told (numbers c) at-told) in
            let d_is : d ≡ told_late f.p.place ms (numbers c) = still.1 ∙ one in
            let like = next-like i y.core name f.cr.waiting c in
            let up : d.lists.up ≡ c.lists.up = ap (λ (z : Joined). z.lists.up) d_is ∙ ap (λ (z : Circuit). z.up) like.0 in
            let m = messages-event s w new (event.Finish i name) ok takes happens h messages l d at_d opened in
            let here : At d.lists.up f.p.place put.s = subst (λ (z : List Sent). At z f.p.place put.s) (sym up) sent in
            elim k [
              | inl kp ↦
                  let seat : HasSeat new d = sound.seated.each l d at_d opened in
                  let q_is : kp.0 ≡ f.p = (λ j. let z : PutPlace = record { circuit = (kp.2 ∙ is_l) j; place = kp.4 j } in z) in
                  let server : d.server ≡ i = ap (λ (z : Joined). z.server) d_is ∙ same-server ∙ ap (λ (z : Joined). z.server) (sym same-c) ∙ put.of in
                  let seat_is : seat.y ≡ next = At-one new.servers i seat.y next (subst (λ (m : ℕ). At new.servers m seat.y) server seat.at) there-next in
                  no-put sound
                  (subst (λ (q : PutPlace). PutIn next.records q) q_is
                  (subst (λ (z : ServerSide). PutIn z.records kp.0) seat_is (subst (λ (rs : List RecordSide). PutIn rs kp.0) (records-there new d seat.y seat.at) kp.1)))
              | inr (inl st) ↦
                  let x = m.subs st.0 st.1 in
                  let same : x.0 ≡ put.s = At-one d.lists.up f.p.place x.0 put.s (subst (λ (p : ℕ). At d.lists.up p x.0) st.2 x.1) here in
                  two-commands x.0 put.s same x.2 put.asks
              | inr (inr cr) ↦
                  let x = m.channels cr.0 cr.1 in
                  let same : x.0 ≡ put.s = At-one d.lists.up f.p.place x.0 put.s (subst (λ (p : ℕ). At d.lists.up p x.0) cr.2 x.1) here in
                  two-more x.0 put.s same x.2 put.asks
            ]
          where
            same-server : (numbers c).server ≡ c.server
            same-server = (next-same i y.core name f.cr.waiting c).server

            two-commands : (a b : Sent) → a ≡ b → Is command.EventAdd a.message → Is command.WriteNotify b.message → ⊥
            two-commands a b same x z = (let e : ◌≡◌ {A = ℕ} 1 19 = sym x ∙ ap (λ (q : Sent). q.message.command) same ∙ z in omega (arith, e))

            two-more : (a b : Sent) → a ≡ b → Is command.CreateChannel a.message → Is command.WriteNotify b.message → ⊥
            two-more a b same x z = (let e : ◌≡◌ {A = ℕ} 18 19 = sym x ∙ ap (λ (q : Sent). q.message.command) same ∙ z in omega (arith, e))

  pub finished-held : HeldAt (kept w l) w l → HeldAt (kept new l) new l
  finished-held (c, x, on, client, held) =
      subst (λ (z : World). HeldAt (kept new l) z l) (sym f.leaves) (server-held (kept new l) mid i l side (ends_by i f.core) f.core (go (same-or l f.p.circuit)))
    where
      like : Like c (numbers c)
      like = next-like i y.core name f.cr.waiting c

      was : HeldOn (kept w l) x.names x.core (numbers c)
      was = like-held (kept w l) x.names x.core c (numbers c) like held

      client_mid : At mid.clients (numbers c).client x
      client_mid = subst (λ (k : ℕ). At mid.clients k x) (sym like.2) (subst (λ (cs : List _). At cs c.client x) (sym (told-clients f.p f.sent told)) client)

      within : l < length w.circuits
      within = At-within w.circuits l c on

      go : (l ≡ f.p.circuit) ⊎ (l ≡ f.p.circuit → ⊥) → HeldAt (kept new l) mid l
      go (inr other) =
          fewer-at (kept w l) (kept new l) mid l (less within)
          (numbers c, x, told-other f.p f.sent told l (numbers c) other (At-map numbers w.circuits l c on), client_mid, was)
      go (inl is_l) =
          let there : At mid.circuits l (told_late f.p.place ms (numbers c)) =
          subst (λ (m : ℕ). At mid.circuits m (told_late f.p.place ms (numbers c))) (sym is_l) (told-own f.p f.sent told (numbers c) (At-map numbers w.circuits f.p.circuit c (subst (λ (m : ℕ). At w.circuits m c) is_l on))) in
          elim f.finishes.2 [
            | inl said ↦
                let e = said.0 in
                let reply : ms ≡ finish_reply f.finishes.0.p ∷ [] = ap (λ (z : List (Handle × Fields)). map (λ (q : Handle × Fields). q.1) z) said.2 in
                let one_record : f.finishes.0.r ≡ f.cr = some_is f.finishes.0.r f.cr (sym f.finishes.0.named ∙ f.named) in
                let keeps : In (kept w l) f.p.place =
                subst (λ (m : ℕ). In (kept w m) f.p.place) (sym is_l)
                (awaited i y name f.finishes.0.r f.finishes.0.p f.r f.p e at f.finishes.0.named f.finishes.0.busy (f.at.0, f.at.1) f.at.2 f.busy said.1) in
                let k = kept-there w l f.p.place keeps in
                let one : k.0 ≡ c = At-one w.circuits l k.0 c k.1 on in
                let opened : put.c.lists.server_open ≡ true = ap (λ (z : Joined). z.lists.server_open) (same-c is_l c on ∙ sym one) ∙ k.2 in
                let handled : f.p.place < length (numbers c).lists.handled = subst (λ (z : Circuit). f.p.place < length z.handled) (sym like.0) (subst (λ (z : Joined). f.p.place < length z.lists.handled) (same-c is_l c on) (handled-put opened)) in
                let sent_now : At (numbers c).lists.up f.p.place put.s = subst (λ (z : Circuit). At z.up f.p.place put.s) (sym like.0) (sent is_l c on) in (
                  told_late f.p.place ms (numbers c),
                  x,
                  there,
                  client_mid,
                  subst (λ (fs : List Fields). HeldOn (kept new l) x.names x.core (told_late f.p.place fs (numbers c))) (sym reply)
                      (finish-held (kept w l) (kept new l) x.names x.core (numbers c) f.p.place put.s f.finishes.0.p sent_now put.asks (sym put.ioid) handled keeps (less within) (gone is_l c on) was),
                )
            | inr silent ↦
                let none : ms ≡ [] = ap (λ (z : List (Handle × Fields)). map (λ (q : Handle × Fields). q.1) z) silent.1 in
                fewer-at (kept w l) (kept new l) mid l (less within) (
                  told_late f.p.place ms (numbers c),
                  x,
                  there,
                  client_mid,
                  subst (λ (fs : List Fields). HeldOn (kept w l) x.names x.core (told_late f.p.place fs (numbers c))) (sym none)
                      (subst (λ (ts : List Told). HeldOn (kept w l) x.names x.core (with_down ts (numbers c))) (sym (append-nil (numbers c).lists.down)) (record { flows = was.flows; cids = was.cids; holds = was.holds })),
                )
          ]

pub finish-keeps-held : (s : Setting) (w new : World) (i l : ℕ) (name : List ℕ) → IsSetting s → TakesSent w → Sound s w → AllMessages w → KeepsAwaited w → Happens w (event.Finish i name) new → HeldAt (kept w l) w l → HeldAt (kept new l) new l
finish-keeps-held s w new i l name ok takes h messages awaited happens held = elim happens.1 [
  | inl f ↦ finished-held s w new i l happens.0.y name ok takes h messages awaited happens happens.0.at f held
  | inr refused ↦ held-then s w new (event.Finish i name) l ok takes h happens (At-within w.circuits l held.0 held.2) (λ p own. own) (subst (λ (z : World). HeldAt (kept w l) z l) (sym refused.2) held)
]
