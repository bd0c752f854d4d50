-- What a reply that finds a channel of a client is about: a message on that channel.
use Rattle.std.proofs.Common.{◌≡◌, ℕ, ◌≤◌, Bool, true, false, cond, List, length, Option, Some, None, refl, sym, ap, subst, ◌∙◌, arith}
use Rattle.std.specs.Prelude.{option_map, unwrap_or}
use Rattle.ca_arena.specs.declared.handle.Handle.{Handle}
use Rattle.ca_model.proofs.Handles.{same-itself}
use Rattle.ca_model.proofs.Standings.{channel-on}
use Rattle.ca_text.specs.Place.{At}
use Rattle.ca_text.proofs.Places.{At-one}
use Rattle.ca_wire.specs.Fields.{Fields}
use Rattle.ca_model.specs.Client.{Client, Clearing, Connecting, Creating, Doomed, Leaving, Live, Phase, Standing, channel_on, is_on_in, phase_on}
use Rattle.ca_model.specs.ClientEnds.{is_connecting}
use Rattle.ca_model.specs.History.{Ask, Cancel, Circuit, Clear, Create, Intent, Put, Read, Request, Sent, Subscribe, Told, Write}
use Rattle.ca_model.specs.History as history
use Rattle.ca_model.specs.Speech.{Cid, Speaks}
use Rattle.ca_model.specs.Channels.{Asks, Suits, named}
use Rattle.ca_model.specs.ClientEvents.{channel_number}
use Rattle.ca_model.specs.World.{Names}
use Rattle.ca_laws_parts.specs.Flows.{Awaits, Flows, IsGiven}
use Rattle.ca_laws_parts.specs.Held.{HoldsChannels, is_asked}
use Rattle.ca_laws_parts.proofs.Flows.{given-now}
use Rattle.ca_laws_parts.proofs.Settled.{one-giver}

pub asked-if : (p : Phase) → is_connecting p ≡ false → is_asked p ≡ true
asked-if Connecting is = absurd cc
asked-if (Creating sid) is = refl
asked-if Doomed is = refl
asked-if (Live n rights) is = refl
asked-if Leaving is = refl
asked-if Clearing is = refl

-- the message that it is about is on the channel that it finds
pub found-intent : (kept : List ℕ) (n : Names) (x : Client) (on : Handle) (c : Circuit) (t : Told) (s : Sent) (cid : ℕ) (h : Handle) (p : Phase) → HoldsChannels (Awaits c kept) on (channel_number n) x.channels c → Flows (Awaits c kept) c → At c.down (length c.heard) t → At c.up t.place s
    → Speaks t.message (Cid cid) → channel_on x on cid ≡ Some (h, p) → is_asked p ≡ true → (ask : Ask) × (s.intent ≡ history.On (channel_number n h) ask)
found-intent kept n x on c t s cid h p holds flows at sent speaks found asked =
    let ch = channel-on x on cid h p found in
    let here : is_on_in is_asked on ch.0 ≡ true =
    ap (λ (z : Standing). unwrap_or (option_map is_asked (phase_on on z)) false) ch.3
    ∙ ap (λ (b : Bool). unwrap_or (option_map is_asked (cond b (Some p) None)) false) (same-itself on)
    ∙ asked in
    let own = holds.own h ch.0 ch.1 here in
    let means = given-now c (length c.heard) t.place (Cid cid) (let le : length c.heard ≤ length c.heard = omega arith in le) (flows.own (length c.heard) t (Cid cid) at speaks) in
    let one = one-giver c.up (Cid cid) own.0 means.0 own.1 means.1 (subst (λ (w : ℕ). IsGiven c.up (Cid w) own.0 own.1) ch.2 own.2) means.3 in
    let said : means.2 ≡ s = At-one c.up t.place means.2 s means.5 sent in
    on-channel s.intent (channel_number n h) (ap (λ (z : Sent). named (Cid cid) z.intent) (sym said) ∙ means.6 ∙ ap (λ (k : ℕ). Some k) (sym one.1) ∙ sym own.3)
  where
    on-channel : (intent : Intent) (number : ℕ) → named (Cid cid) intent ≡ Some number → (ask : Ask) × (intent ≡ history.On number ask)
    on-channel (history.On channel ask) number is = (ask, ap (λ (k : ℕ). history.On k ask) (let e : channel ≡ number = cc in e))
    on-channel history.OfCircuit number is = absurd (let e : ◌≡◌ {A = Option ℕ} None (Some number) = is in cc)

-- ---- by its command

pub create-is : (ask : Ask) (m : Fields) → Asks ask m → m.command ≡ 18 → ask ≡ Create
create-is Create m asks is = refl
create-is Clear m asks is = absurd (let e : ◌≡◌ {A = ℕ} 12 18 = sym asks ∙ is in omega (arith, e))
create-is (Request Read k) m asks is = absurd (let e : ◌≡◌ {A = ℕ} 15 18 = sym asks ∙ is in omega (arith, e))
create-is (Request Put k) m asks is = absurd (let e : ◌≡◌ {A = ℕ} 19 18 = sym asks ∙ is in omega (arith, e))
create-is (Request Write k) m asks is = absurd (let e : ◌≡◌ {A = ℕ} 4 18 = sym asks ∙ is in omega (arith, e))
create-is (Subscribe k) m asks is = absurd (let e : ◌≡◌ {A = ℕ} 1 18 = sym asks ∙ is in omega (arith, e))
create-is (Cancel k) m asks is = absurd (let e : ◌≡◌ {A = ℕ} 2 18 = sym asks ∙ is in omega (arith, e))

pub clear-is : (ask : Ask) (m : Fields) → Asks ask m → m.command ≡ 12 → ask ≡ Clear
clear-is Clear m asks is = refl
clear-is Create m asks is = absurd (let e : ◌≡◌ {A = ℕ} 18 12 = sym asks ∙ is in omega (arith, e))
clear-is (Request Read k) m asks is = absurd (let e : ◌≡◌ {A = ℕ} 15 12 = sym asks ∙ is in omega (arith, e))
clear-is (Request Put k) m asks is = absurd (let e : ◌≡◌ {A = ℕ} 19 12 = sym asks ∙ is in omega (arith, e))
clear-is (Request Write k) m asks is = absurd (let e : ◌≡◌ {A = ℕ} 4 12 = sym asks ∙ is in omega (arith, e))
clear-is (Subscribe k) m asks is = absurd (let e : ◌≡◌ {A = ℕ} 1 12 = sym asks ∙ is in omega (arith, e))
clear-is (Cancel k) m asks is = absurd (let e : ◌≡◌ {A = ℕ} 2 12 = sym asks ∙ is in omega (arith, e))

pub cancel-is : (intent : Intent) (m : Fields) → Suits intent m → m.command ≡ 2 → (channel number : ℕ) × (intent ≡ history.On channel (Cancel number))
cancel-is (history.On a (Cancel k)) m suits is = (a, k, refl)
cancel-is (history.On a Create) m suits is = absurd (let e : ◌≡◌ {A = ℕ} 18 2 = sym suits ∙ is in omega (arith, e))
cancel-is (history.On a Clear) m suits is = absurd (let e : ◌≡◌ {A = ℕ} 12 2 = sym suits ∙ is in omega (arith, e))
cancel-is (history.On a (Request Read k)) m suits is = absurd (let e : ◌≡◌ {A = ℕ} 15 2 = sym suits ∙ is in omega (arith, e))
cancel-is (history.On a (Request Put k)) m suits is = absurd (let e : ◌≡◌ {A = ℕ} 19 2 = sym suits ∙ is in omega (arith, e))
cancel-is (history.On a (Request Write k)) m suits is = absurd (let e : ◌≡◌ {A = ℕ} 4 2 = sym suits ∙ is in omega (arith, e))
cancel-is (history.On a (Subscribe k)) m suits is = absurd (let e : ◌≡◌ {A = ℕ} 1 2 = sym suits ∙ is in omega (arith, e))
cancel-is history.OfCircuit m suits is = absurd (suits (Cancel 0) is)
