-- Bytes move, and ends of circuits end: what is held of each circuit of the client stays so.
use Rattle.std.proofs.Common.{◌≡◌, ℕ, Bool, true, false, cond, List, [], ◌∷◌, Option, Some, None, refl, sym, subst, arith}
use Rattle.std.specs.Prelude.{Ok, is_some, map, option_to_list}
use Rattle.ca_link.specs.Link.{with_handed}
use Rattle.std.proofs.lemmas.Bool.{both_ways}
use Rattle.ca_text.specs.declared.command.Command.{Command}
use Rattle.ca_text.specs.declared.command.Command.TheVariants as command
use Rattle.ca_arena.specs.declared.handle.Handle.{Handle}
use Rattle.ca_ids.specs.Table.{same_handle}
use Rattle.ca_monitor.specs.ReadRun.{after_read, asked_between, sent_by_read}
use Rattle.ca_model.specs.Answers.{Sending}
use Rattle.ca_model.specs.Client.{Client, Connection, connection_at, ended, on_connection, sending}
use Rattle.ca_model.specs.ClientEnds.{ClientGives, GivesOn, given, handed_over, of_circuit}
use Rattle.ca_model.specs.History.{Circuit}
use Rattle.ca_model.specs.History as history
use Rattle.ca_wire.specs.Fields.{Fields}
use Rattle.ca_wire.specs.Messages.{header_only}
use Rattle.ca_model.specs.Channels.{Suits}
use Rattle.ca_model.specs.ClientEvents.{client_closed}
use Rattle.ca_model.specs.World.{Joined, Names}
use Rattle.ca_laws_parts.specs.Flows.{Awaits, Flows}
use Rattle.ca_laws_parts.specs.Held.{HoldAlike, Holds}
use Rattle.ca_laws_parts.proofs.Alike.{client-itself, holds-alike, sending-alike}
use Rattle.ca_laws_parts.proofs.Connects.{serving-keeps, serving-may}
use Rattle.ca_laws_parts.proofs.Ends.{ended-elsewhere}
use Rattle.ca_laws_parts.specs.Circuit.{HeldOn, sent_to, stamped}
use Rattle.ca_laws_parts.proofs.RunsSending.{none-sent-to, one-sent}

-- ---- a message of the circuit as a whole

no-creation : (a : ℕ) → history.OfCircuit ≡ history.On a history.Create → ⊥
no-creation a e = cc

-- it is sent, by a client that holds the same after it
pub served-held : (kept : List ℕ) (i : ℕ) (n : Names) (x z : Client) (j : Joined) (c : Handle) (m : Fields) → HoldAlike j.at_client x z → Suits history.OfCircuit m → HeldOn kept n x j → j.client ≡ i
    → HeldOn kept n (sending (of_circuit c m ∷ []) z) (sent_to i n (of_circuit c m ∷ []) j)
served-held kept i n x z j c m alike serves held mine =
    let s : Sending = of_circuit c m in
    let now : Holds (Awaits j.lists kept) j.at_client n x j.lists → Holds (Awaits j.lists kept) j.at_client n (sending (s ∷ []) z) j.lists = λ holds.
    holds-alike (Awaits j.lists kept) j.at_client n z (sending (s ∷ []) z) j.lists (sending-alike j.at_client (s ∷ []) z)
    (holds-alike (Awaits j.lists kept) j.at_client n x z j.lists alike holds) in
    one-sent kept i n n x (sending (s ∷ []) z) j s held mine (λ a h at. at) (λ a creates. absurd (no-creation a creates))
    (λ open_it same holds. (
      serving-may (Awaits j.lists kept) j.lists (stamped n s) refl serves,
      serving-keeps (Awaits j.lists kept) j.at_client n (sending (s ∷ []) z) j.lists (stamped n s) serves (now holds),
    ))
    (λ open_it other holds. now holds)

-- ---- bytes reach the client

serves-off : Suits history.OfCircuit (header_only command.EventsOff)
serves-off history.Create e = (let f : ◌≡◌ {A = ℕ} 8 18 = e in omega (arith, f))
serves-off history.Clear e = (let f : ◌≡◌ {A = ℕ} 8 12 = e in omega (arith, f))
serves-off (history.Request history.Read n) e = (let f : ◌≡◌ {A = ℕ} 8 15 = e in omega (arith, f))
serves-off (history.Request history.Put n) e = (let f : ◌≡◌ {A = ℕ} 8 19 = e in omega (arith, f))
serves-off (history.Request history.Write n) e = (let f : ◌≡◌ {A = ℕ} 8 4 = e in omega (arith, f))
serves-off (history.Subscribe n) e = (let f : ◌≡◌ {A = ℕ} 8 1 = e in omega (arith, f))
serves-off (history.Cancel n) e = (let f : ◌≡◌ {A = ℕ} 8 2 = e in omega (arith, f))

serves-on : Suits history.OfCircuit (header_only command.EventsOn)
serves-on history.Create e = (let f : ◌≡◌ {A = ℕ} 9 18 = e in omega (arith, f))
serves-on history.Clear e = (let f : ◌≡◌ {A = ℕ} 9 12 = e in omega (arith, f))
serves-on (history.Request history.Read n) e = (let f : ◌≡◌ {A = ℕ} 9 15 = e in omega (arith, f))
serves-on (history.Request history.Put n) e = (let f : ◌≡◌ {A = ℕ} 9 19 = e in omega (arith, f))
serves-on (history.Request history.Write n) e = (let f : ◌≡◌ {A = ℕ} 9 4 = e in omega (arith, f))
serves-on (history.Subscribe n) e = (let f : ◌≡◌ {A = ℕ} 9 1 = e in omega (arith, f))
serves-on (history.Cancel n) e = (let f : ◌≡◌ {A = ℕ} 9 2 = e in omega (arith, f))

-- what is done to an end changes no table
pub on-connection-alike : (on c : Handle) (f : Connection → Connection) (x : Client) → HoldAlike on x (on_connection f c x)
on-connection-alike on c f x = (let r = client-itself on x in record { asked = r.asked; requests = r.requests; subscriptions = r.subscriptions })

pub down-held : (kept : List ℕ) (i : ℕ) (n : Names) (x y : Client) (j : Joined) (c : Handle) (bytes : List ℕ) (more : Bool) (sent : List Sending) → ClientGives x c bytes more (Ok tt) sent y → HeldOn kept n x j → j.client ≡ i → HeldOn kept n y (sent_to i n sent j)
down-held kept i n x y j c bytes more sent gives held mine = go (connection_at x c) gives
  where
    z : Client
    z = given c bytes more x

    alike : HoldAlike j.at_client x (given c bytes more x)
    alike = on-connection-alike j.at_client c _ x

    by : (o : Option Command) → (a b : Bool) → o ≡ asked_between a b → HeldOn kept n (sending (map (λ (k : Command). of_circuit c (header_only k)) (option_to_list o)) (given c bytes more x)) (sent_to i n (map (λ (k : Command). of_circuit c (header_only k)) (option_to_list o)) j)
    by o false true is = subst (λ (o : Option Command). HeldOn kept n (sending (map (λ (k : Command). of_circuit c (header_only k)) (option_to_list o)) (given c bytes more x)) (sent_to i n (map (λ (k : Command). of_circuit c (header_only k)) (option_to_list o)) j)) (sym is)
        (served-held kept i n x (given c bytes more x) j c (header_only command.EventsOff) alike serves-off held mine)
    by o true false is = subst (λ (o : Option Command). HeldOn kept n (sending (map (λ (k : Command). of_circuit c (header_only k)) (option_to_list o)) (given c bytes more x)) (sent_to i n (map (λ (k : Command). of_circuit c (header_only k)) (option_to_list o)) j)) (sym is)
        (served-held kept i n x (given c bytes more x) j c (header_only command.EventsOn) alike serves-on held mine)
    by o false false is = subst (λ (o : Option Command). HeldOn kept n (sending (map (λ (k : Command). of_circuit c (header_only k)) (option_to_list o)) (given c bytes more x)) (sent_to i n (map (λ (k : Command). of_circuit c (header_only k)) (option_to_list o)) j)) (sym is)
        (none-sent-to kept i n n x (given c bytes more x) j held (λ a h at. at) (λ o holds. holds-alike (Awaits j.lists kept) j.at_client n x (given c bytes more x) j.lists alike holds))
    by o true true is = subst (λ (o : Option Command). HeldOn kept n (sending (map (λ (k : Command). of_circuit c (header_only k)) (option_to_list o)) (given c bytes more x)) (sent_to i n (map (λ (k : Command). of_circuit c (header_only k)) (option_to_list o)) j)) (sym is)
        (none-sent-to kept i n n x (given c bytes more x) j held (λ a h at. at) (λ o holds. holds-alike (Awaits j.lists kept) j.at_client n x (given c bytes more x) j.lists alike holds))

    go : (o : Option Connection) → GivesOn x c bytes more o (Ok tt) sent y → HeldOn kept n y (sent_to i n sent j)
    go (Some e) does =
        subst (λ (w : List Sending × Client). HeldOn kept n w.1 (sent_to i n w.0 j)) (λ k. (sym does.0 k, sym does.1 k))
        (by (sent_by_read more e.run) e.run.events_off (after_read more e.run).events_off refl)
    go None does = absurd does

-- ---- bytes leave the client

pub up-held : (kept : List ℕ) (n : Names) (x : Client) (j : Joined) (c : Handle) (bytes : ℕ) → HeldOn kept n x j → HeldOn kept n (handed_over c bytes x) j
up-held kept n x j c bytes held =
    record { flows = held.flows; cids = held.cids; holds = λ o. holds-alike (Awaits j.lists kept) j.at_client n x (handed_over c bytes x) j.lists (go (is_some (connection_at x c))) (held.holds o) }
  where
    go : (b : Bool) → HoldAlike j.at_client x (cond b (on_connection (λ (e : Connection). record e { link = with_handed bytes e.link }) c x) x)
    go true = on-connection-alike j.at_client c _ x
    go false = client-itself j.at_client x

-- ---- ends

pub flows-closed : (kept : List ℕ) (c : Circuit) → Flows (Awaits c kept) c → Flows (Awaits c kept) (record c { client_open = false })
flows-closed kept c f =
    record { within = f.within; early = f.early; about = f.about; asked = f.asked; own = f.own; concerns = f.concerns; next = f.next; last = f.last; over = f.over }

-- the client's end of this circuit has ended: nothing need be held of it
pub closed-held : (kept : List ℕ) (n m : Names) (x y : Client) (j : Joined) (left : List ℕ) → HeldOn kept n x j → HeldOn kept m y (client_closed left j)
closed-held kept n m x y j left held =
    record { flows = flows-closed kept j.lists held.flows; cids = λ o. absurd (both_ways false refl o); holds = λ o. absurd (both_ways false refl o) }

-- and of the others what was held
pub others-held : (kept : List ℕ) (n : Names) (x : Client) (j : Joined) (c : Handle) → (j.lists.client_open ≡ true → same_handle c j.at_client ≡ false) → HeldOn kept n x j → HeldOn kept n (ended c x) j
others-held kept n x j c apart held =
    record { flows = held.flows; cids = held.cids; holds = λ o. holds-alike (Awaits j.lists kept) j.at_client n x (ended c x) j.lists (ended-elsewhere c j.at_client x (apart o)) (held.holds o) }
