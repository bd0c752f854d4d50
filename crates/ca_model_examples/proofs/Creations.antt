-- Histories that break a part of what is said of a channel that is created.
use Rattle.std.proofs.Common.{◌≡◌, ℕ, ◌<◌, ◌≤◌, ◌⊎◌, inl, inr, List, [], ◌∷◌, refl, sym, ap, subst, ◌∙◌, arith}
use Rattle.ca_text.proofs.Places.{At-within}
use Rattle.std.specs.Prelude.{not, true, take}
use Rattle.ca_text.specs.Place.{At}
use Rattle.ca_dbr.specs.declared.value.Outcome.{Outcome}
use Rattle.ca_dbr.specs.declared.value.Outcome.TheVariants as outcome
use Rattle.ca_wire.specs.Messages.{create_request, rights_reply}
use Rattle.ca_model.specs.Speech.{Cid, Gives, In, Id}
use Rattle.ca_model.specs.History.{Create, Clear, On, Intent, Sent, Told, Circuit, Entry, Line, Added, Removed, Opened, Called, Nothing, Noticed, Reply, Removal}
use Rattle.ca_model.specs.Channels.{IsLive, IsNamed, IsOpen, IsUncleared, IsUnread, IsLost}
use Rattle.ca_model_examples.specs.Worlds.{created_told, disconnected, rights_told, AnyDue, creating, step, temp, temp_name, world}
use Rattle.ca_model_examples.specs.Parts.{Part, Holds, BreaksOnly, IsSafeNow, InCircuit}
use Rattle.ca_model_examples.specs.Parts as part
use Rattle.ca_model_examples.specs.Unsafe.{opened, created, created_closed, live, lost, rights_for, temp_removed, temp_there}
use Rattle.ca_model_examples.proofs.Lists.{each-at, none-at, one-at}
use Rattle.ca_model_examples.proofs.Quiet.{any, none, quiet, holds, whole, is_removed, is_called}
use Rattle.ca_model_examples.proofs.Shown.{ToldAt, answered-by, answered-each, caused-each, taken-each, told-each}
use Rattle.ca_model.specs.Headline.{LosesLive, Reads}
use Rattle.ca_model.specs.Causes.{HasCause, TakesOwn}
use Rattle.ca_model.specs.Updates.{Shows}
use Rattle.ca_requests.specs.Meaning.{Means}
use Rattle.ca_model_examples.proofs.Names.{its-part, was-there}
use Rattle.ca_model_examples.proofs.Opened.{created-here, created-own, disconnect-own, open-here, takes-cid}
use Rattle.ca_model_examples.proofs.Speaks.{heads, of-channel}

abbrev pub channel-of : Intent → ℕ
channel-of (On channel ask) = channel
channel-of i = 0

abbrev pub number-of : Entry → ℕ
number-of (Added r s) = r
number-of e = 0

abbrev pub intent-of : Line → Intent
intent-of (Noticed i o) = i
intent-of l = On 0 Create

abbrev pub outcome-of : Line → Outcome
outcome-of (Noticed i o) = o
outcome-of l = outcome.Done

pub only-added : (y : List Entry) (r : ℕ) → not (any is_removed y) ≡ true → In y (Removed r) → ⊥
only-added y r t h = none is_removed y t h.0 _ h.1 refl

-- ---- a live channel

live-parts : (channel j k sid : ℕ) → IsLive (created [] (step 1 1 1 ∷ [])) channel j k sid → (channel ≡ 0) × (j ≡ 0) × (k ≡ 0) × (sid ≡ 5)
live-parts channel j k sid l =
    let at = one-at created_told j l.0 l.2 in
    let k0 : k ≡ 0 = sym l.3 ∙ ap (λ (t : Told). t.place) at.1 in
    let s = one-at creating k l.1.0 l.1.1 in
    (ap channel-of (sym l.1.2 ∙ ap (λ (s : Sent). s.intent) s.1), at.0, k0, sym l.5.1 ∙ ap (λ (t : Told). t.message.p2) at.1)

live-open : (channel j k sid : ℕ) → IsLive (created [] (step 1 1 1 ∷ [])) channel j k sid → (r : ℕ) × IsOpen (created [] (step 1 1 1 ∷ [])) temp_there j k sid r × IsNamed opened temp_there channel r × (true ≡ true → (In temp_there (Removed r) → ⊥) ⊎ IsUnread (created [] (step 1 1 1 ∷ [])) k)
live-open channel j k sid l =
    let p = live-parts channel j k sid l in
    let made = created-here (created [] (step 1 1 1 ∷ [])) temp_there refl refl refl refl (only-added temp_there 0 refl) in (
      0,
      subst (λ (i : ℕ). IsOpen (created [] (step 1 1 1 ∷ [])) temp_there i k sid 0) (sym p.1) (subst (λ (i : ℕ). IsOpen (created [] (step 1 1 1 ∷ [])) temp_there 0 i sid 0) (sym p.2) (
          subst (λ (i : ℕ). IsOpen (created [] (step 1 1 1 ∷ [])) temp_there 0 0 i 0) (sym p.3) (open-here (created [] (step 1 1 1 ∷ [])) temp_there made refl refl))),
      subst (λ (i : ℕ). IsNamed opened temp_there i 0) (sym p.0) (temp, (0, refl), (0, refl)),
      λ up. inl (only-added temp_there 0 refl),
    )

is-live : IsLive (created [] (step 1 1 1 ∷ [])) 0 0 0 5
is-live = (created_told, (creating, refl, refl), refl, refl, refl, (refl, refl), omega arith, (λ l after m. none-at l m.0 (later l m.0 after m.1)), refl)
  where
    later : (l : ℕ) (s : Sent) → 0 < l → At (creating ∷ []) l s → At [] l s
    later l s after at = (let e = (one-at creating l s at).0 in absurd (omega (arith, e, after)))

live-safe-each : (p : Part) → Holds AnyDue p (world (created [] (step 1 1 1 ∷ []) ∷ []) opened temp_there)
live-safe-each part.Live = holds AnyDue part.Live (created [] (step 1 1 1 ∷ [])) opened temp_there refl refl live-open tt tt
live-safe-each part.Caused = caused-each (created [] (step 1 1 1 ∷ [])) opened temp_there refl refl ((tt, (step 0 1 1, refl, omega arith)), tt)
live-safe-each part.Own = taken-each (created [] (step 1 1 1 ∷ [])) opened temp_there refl refl ((created-own (created [] (step 1 1 1 ∷ [])) 0 (takes-cid (created [] (step 1 1 1 ∷ [])) 0 0 creating refl refl refl (omega arith) refl)), tt)
live-safe-each part.Answered = answered-each (created [] (step 1 1 1 ∷ [])) opened temp_there refl refl ((answered-by (created [] (step 1 1 1 ∷ [])) temp_there 0 (step 0 1 1) creating (created_told.message ∷ []) [] refl (refl, tt) tt refl ((λ p e. omega arith), tt) ((λ l. absurd (omega (arith, l))), tt)), tt)
live-safe-each p = quiet AnyDue p (created [] (step 1 1 1 ∷ [])) opened temp_there refl refl refl refl refl

pub live-safe : IsSafeNow (world (created [] (step 1 1 1 ∷ []) ∷ []) opened temp_there)
live-safe = whole AnyDue _ live-safe-each

not-live : (r : ℕ) × IsOpen (created [] (step 1 1 1 ∷ [])) temp_removed 0 0 5 r × IsNamed opened temp_removed 0 r × (true ≡ true → (In temp_removed (Removed r) → ⊥) ⊎ IsUnread (created [] (step 1 1 1 ∷ [])) 0) → ⊥
not-live h =
    let named = h.2 in
    let zero-is : 0 ≡ h.0 = each-at (λ (i : ℕ) (e : Entry). e ≡ Added h.0 named.0 → 0 ≡ h.0) temp_removed ((λ e. ap number-of e), ((λ e. absurd cc), tt)) named.2.0 _ named.2.1 refl in
    elim (h.3 refl) [
      | inl there ↦ there (1, subst (λ (n : ℕ). At temp_removed 1 (Removed n)) zero-is refl)
      | inr u ↦ (let e = (one-at created_told u.0 u.1 u.2).1 in let f : created_told.cause ≡ u.1.cause = ap (λ (t : Told). t.cause) (sym e) in let g = u.4 in cc)
    ]

live-on-nothing-rest : (p : Part) → (p ≡ part.Live → ⊥) → Holds AnyDue p (world (created [] (step 1 1 1 ∷ []) ∷ []) opened temp_removed)
live-on-nothing-rest part.Live ne = absurd (ne refl)
live-on-nothing-rest part.WasThere ne = holds AnyDue part.WasThere (created [] (step 1 1 1 ∷ [])) opened temp_removed refl refl (was-there [] refl) tt tt
live-on-nothing-rest part.Caused ne = caused-each (created [] (step 1 1 1 ∷ [])) opened temp_removed refl refl ((tt, (step 0 1 1, refl, omega arith)), tt)
live-on-nothing-rest part.Own ne = taken-each (created [] (step 1 1 1 ∷ [])) opened temp_removed refl refl ((created-own (created [] (step 1 1 1 ∷ [])) 0 (takes-cid (created [] (step 1 1 1 ∷ [])) 0 0 creating refl refl refl (omega arith) refl)), tt)
live-on-nothing-rest part.Answered ne = answered-each (created [] (step 1 1 1 ∷ [])) opened temp_removed refl refl ((answered-by (created [] (step 1 1 1 ∷ [])) temp_removed 0 (step 0 1 1) creating (created_told.message ∷ []) [] refl (refl, tt) tt refl ((λ p e. omega arith), tt) ((λ l. absurd (omega (arith, l))), tt)), tt)
live-on-nothing-rest p ne = quiet AnyDue p (created [] (step 1 1 1 ∷ [])) opened temp_removed refl refl refl refl refl

pub live-on-nothing : BreaksOnly part.Live (world (created [] (step 1 1 1 ∷ []) ∷ []) opened temp_removed)
live-on-nothing = (live-on-nothing-rest, λ h. not-live (its-part part.Live (created [] (step 1 1 1 ∷ [])) opened temp_removed refl refl h.0 0 0 0 5 is-live))

-- ---- a SERVER_DISCONN

pub uncleared : (c : Circuit) (e : ℕ) → c.up ≡ creating ∷ [] → IsUncleared c 0 5 e
uncleared c e is h = (let o = (one-at creating h.0 h.1 (subst (λ (up : List Sent). At up h.0 h.1) is h.4)).0 in let a = h.3 in omega (arith, o, a))

gone-cause : (c : Circuit) → At c.down 0 created_told → c.up ≡ creating ∷ [] → At c.up 0 creating → At c.handled 0 (step 0 1 1) → HasCause c temp_removed disconnected Removal
gone-cause c down is up handled = (0, 5, 0, 1, creating, created-here c temp_removed down up handled refl (only-added (Added 0 temp ∷ []) 0 refl), refl, uncleared c 1 is, up, (refl, refl))

gone-safe-each : (p : Part) → Holds AnyDue p (world (created (disconnected ∷ []) [] ∷ []) opened temp_removed)
gone-safe-each part.WasThere = holds AnyDue part.WasThere (created (disconnected ∷ []) []) opened temp_removed refl refl (was-there [] refl) tt tt
gone-safe-each part.Caused = caused-each (created (disconnected ∷ []) []) opened temp_removed refl refl ((tt, (step 0 1 1, refl, omega arith)), ((gone-cause (created (disconnected ∷ []) []) refl refl refl refl, (step 0 1 1, refl, omega arith)), tt))
gone-safe-each part.Own = taken-each (created (disconnected ∷ []) []) opened temp_removed refl refl ((created-own (created (disconnected ∷ []) []) 0 (takes-cid (created (disconnected ∷ []) []) 0 0 creating refl refl refl (omega arith) refl)), ((disconnect-own (created (disconnected ∷ []) []) 1 (takes-cid (created (disconnected ∷ []) []) 1 0 creating refl refl refl (omega arith) refl)), tt))
gone-safe-each part.Answered = answered-each (created (disconnected ∷ []) []) opened temp_removed refl refl ((answered-by (created (disconnected ∷ []) []) temp_removed 0 (step 0 1 1) creating (created_told.message ∷ []) [] refl (refl, tt) tt refl ((λ p e. omega arith), ((λ p e. absurd cc), tt)) ((λ l. absurd (omega (arith, l))), tt)), tt)
gone-safe-each p = quiet AnyDue p (created (disconnected ∷ []) []) opened temp_removed refl refl refl refl refl

pub gone-safe : IsSafeNow (world (created (disconnected ∷ []) [] ∷ []) opened temp_removed)
gone-safe = whole AnyDue _ gone-safe-each

is-live-yet : IsLive (created (disconnected ∷ []) (step 1 1 1 ∷ step 1 1 1 ∷ [])) 0 0 0 5
is-live-yet = (created_told, (creating, refl, refl), refl, refl, refl, (refl, refl), omega arith, (λ l after m. (let e = (one-at creating l m.0 m.1).0 in omega (arith, e, after))), refl)

not-live-yet : (r : ℕ) × IsOpen (created (disconnected ∷ []) (step 1 1 1 ∷ step 1 1 1 ∷ [])) temp_removed 0 0 5 r × IsNamed opened temp_removed 0 r × (true ≡ true → (In temp_removed (Removed r) → ⊥) ⊎ IsUnread (created (disconnected ∷ []) (step 1 1 1 ∷ step 1 1 1 ∷ [])) 0) → ⊥
not-live-yet h =
    let named = h.2 in
    let zero-is : 0 ≡ h.0 = each-at (λ (i : ℕ) (e : Entry). e ≡ Added h.0 named.0 → 0 ≡ h.0) temp_removed ((λ e. ap number-of e), ((λ e. absurd cc), tt)) named.2.0 _ named.2.1 refl in
    elim (h.3 refl) [
      | inl there ↦ there (1, subst (λ (n : ℕ). At temp_removed 1 (Removed n)) zero-is refl)
      | inr u ↦ (let w = At-within (created (disconnected ∷ []) (step 1 1 1 ∷ step 1 1 1 ∷ [])).down u.0 u.1 u.2 in let late = u.5 in omega (arith, w, late))
    ]

live-after-gone-rest : (p : Part) → (p ≡ part.Live → ⊥) → Holds AnyDue p (world (created (disconnected ∷ []) (step 1 1 1 ∷ step 1 1 1 ∷ []) ∷ []) opened temp_removed)
live-after-gone-rest part.Live ne = absurd (ne refl)
live-after-gone-rest part.WasThere ne = holds AnyDue part.WasThere (created (disconnected ∷ []) (step 1 1 1 ∷ step 1 1 1 ∷ [])) opened temp_removed refl refl (was-there [] refl) tt tt
live-after-gone-rest part.Caused ne = caused-each (created (disconnected ∷ []) (step 1 1 1 ∷ step 1 1 1 ∷ [])) opened temp_removed refl refl ((tt, (step 0 1 1, refl, omega arith)), ((gone-cause (created (disconnected ∷ []) (step 1 1 1 ∷ step 1 1 1 ∷ [])) refl refl refl refl, (step 0 1 1, refl, omega arith)), tt))
live-after-gone-rest part.Own ne = taken-each (created (disconnected ∷ []) (step 1 1 1 ∷ step 1 1 1 ∷ [])) opened temp_removed refl refl ((created-own (created (disconnected ∷ []) (step 1 1 1 ∷ step 1 1 1 ∷ [])) 0 (takes-cid (created (disconnected ∷ []) (step 1 1 1 ∷ step 1 1 1 ∷ [])) 0 0 creating refl refl refl (omega arith) refl)), ((disconnect-own (created (disconnected ∷ []) (step 1 1 1 ∷ step 1 1 1 ∷ [])) 1 (takes-cid (created (disconnected ∷ []) (step 1 1 1 ∷ step 1 1 1 ∷ [])) 1 0 creating refl refl refl (omega arith) refl)), tt))
live-after-gone-rest part.Answered ne = answered-each (created (disconnected ∷ []) (step 1 1 1 ∷ step 1 1 1 ∷ [])) opened temp_removed refl refl ((answered-by (created (disconnected ∷ []) (step 1 1 1 ∷ step 1 1 1 ∷ [])) temp_removed 0 (step 0 1 1) creating (created_told.message ∷ []) [] refl (refl, tt) tt refl ((λ p e. omega arith), ((λ p e. absurd cc), tt)) ((λ l. absurd (omega (arith, l))), tt)), tt)
live-after-gone-rest p ne = quiet AnyDue p (created (disconnected ∷ []) (step 1 1 1 ∷ step 1 1 1 ∷ [])) opened temp_removed refl refl refl refl refl

pub live-after-gone : BreaksOnly part.Live (world (created (disconnected ∷ []) (step 1 1 1 ∷ step 1 1 1 ∷ []) ∷ []) opened temp_removed)
live-after-gone = (live-after-gone-rest, λ h. not-live-yet (its-part part.Live (created (disconnected ∷ []) (step 1 1 1 ∷ step 1 1 1 ∷ [])) opened temp_removed refl refl h.0 0 0 0 5 is-live-yet))

gone-for-nothing-rest : (p : Part) → (p ≡ part.Caused → ⊥) → Holds AnyDue p (world (created (disconnected ∷ []) [] ∷ []) opened temp_there)
gone-for-nothing-rest part.Caused ne = absurd (ne refl)
gone-for-nothing-rest part.Own ne = taken-each (created (disconnected ∷ []) []) opened temp_there refl refl ((created-own (created (disconnected ∷ []) []) 0 (takes-cid (created (disconnected ∷ []) []) 0 0 creating refl refl refl (omega arith) refl)), ((disconnect-own (created (disconnected ∷ []) []) 1 (takes-cid (created (disconnected ∷ []) []) 1 0 creating refl refl refl (omega arith) refl)), tt))
gone-for-nothing-rest part.Answered ne = answered-each (created (disconnected ∷ []) []) opened temp_there refl refl ((answered-by (created (disconnected ∷ []) []) temp_there 0 (step 0 1 1) creating (created_told.message ∷ []) [] refl (refl, tt) tt refl ((λ p e. omega arith), ((λ p e. absurd cc), tt)) ((λ l. absurd (omega (arith, l))), tt)), tt)
gone-for-nothing-rest p ne = quiet AnyDue p (created (disconnected ∷ []) []) opened temp_there refl refl refl refl refl

pub gone-for-nothing : BreaksOnly part.Caused (world (created (disconnected ∷ []) [] ∷ []) opened temp_there)
gone-for-nothing = (gone-for-nothing-rest, λ h. (let a = its-part part.Caused (created (disconnected ∷ []) []) opened temp_there refl refl h.0 1 disconnected refl in only-added temp_there a.0.2 refl (a.0.3, a.0.6)))

gone-twice-rest : (p : Part) → (p ≡ part.DisconnectedOnce → ⊥) → Holds AnyDue p (world (created (disconnected ∷ disconnected ∷ []) [] ∷ []) opened temp_removed)
gone-twice-rest part.DisconnectedOnce ne = absurd (ne refl)
gone-twice-rest part.WasThere ne = holds AnyDue part.WasThere (created (disconnected ∷ disconnected ∷ []) []) opened temp_removed refl refl (was-there [] refl) tt tt
gone-twice-rest part.Caused ne = caused-each (created (disconnected ∷ disconnected ∷ []) []) opened temp_removed refl refl ((tt, (step 0 1 1, refl, omega arith)), ((gone-cause (created (disconnected ∷ disconnected ∷ []) []) refl refl refl refl, (step 0 1 1, refl, omega arith)), ((gone-cause (created (disconnected ∷ disconnected ∷ []) []) refl refl refl refl, (step 0 1 1, refl, omega arith)), tt)))
gone-twice-rest part.Own ne = taken-each (created (disconnected ∷ disconnected ∷ []) []) opened temp_removed refl refl ((created-own (created (disconnected ∷ disconnected ∷ []) []) 0 (takes-cid (created (disconnected ∷ disconnected ∷ []) []) 0 0 creating refl refl refl (omega arith) refl)), ((disconnect-own (created (disconnected ∷ disconnected ∷ []) []) 1 (takes-cid (created (disconnected ∷ disconnected ∷ []) []) 1 0 creating refl refl refl (omega arith) refl)), ((disconnect-own (created (disconnected ∷ disconnected ∷ []) []) 2 (takes-cid (created (disconnected ∷ disconnected ∷ []) []) 2 0 creating refl refl refl (omega arith) refl)), tt)))
gone-twice-rest part.Answered ne = answered-each (created (disconnected ∷ disconnected ∷ []) []) opened temp_removed refl refl ((answered-by (created (disconnected ∷ disconnected ∷ []) []) temp_removed 0 (step 0 1 1) creating (created_told.message ∷ []) [] refl (refl, tt) tt refl ((λ p e. omega arith), ((λ p e. absurd cc), ((λ p e. absurd cc), tt))) ((λ l. absurd (omega (arith, l))), tt)), tt)
gone-twice-rest p ne = quiet AnyDue p (created (disconnected ∷ disconnected ∷ []) []) opened temp_removed refl refl refl refl refl

pub gone-twice : BreaksOnly part.DisconnectedOnce (world (created (disconnected ∷ disconnected ∷ []) [] ∷ []) opened temp_removed)
gone-twice = (gone-twice-rest, λ h. (let a = its-part part.DisconnectedOnce (created (disconnected ∷ disconnected ∷ []) []) opened temp_removed refl refl h.0 1 2 disconnected disconnected refl refl refl refl refl in omega (arith, a)))

-- ---- what the client is told

abbrev live-told : (x : List Line) → (In (take 1 x) (Called (On 0 Clear) Nothing) → ⊥) → Reads AnyDue Shows Means (world (created_closed (step 1 1 2 ∷ []) ∷ []) x temp_there) 0 x 1 (On 0 Create) outcome.Done
live-told x held = record {
  n = 0;
  c = created_closed (step 1 1 2 ∷ []);
  on = (refl, refl);
  j = 0;
  t = created_told;
  h = step 1 1 2;
  read = (refl, refl, refl, omega arith);
  own = (creating, refl, refl);
  held = held;
  means = inr (inr (inl (refl, tt)));
}

told-safe-each : (p : Part) → Holds AnyDue p (world (created_closed (step 1 1 2 ∷ []) ∷ []) (Opened 0 temp_name ∷ live ∷ []) temp_there)
told-safe-each part.Caused = caused-each (created_closed (step 1 1 2 ∷ [])) (Opened 0 temp_name ∷ live ∷ []) temp_there refl refl ((tt, (step 0 1 1, refl, omega arith)), tt)
told-safe-each part.Own = taken-each (created_closed (step 1 1 2 ∷ [])) (Opened 0 temp_name ∷ live ∷ []) temp_there refl refl ((created-own (created_closed (step 1 1 2 ∷ [])) 0 (takes-cid (created_closed (step 1 1 2 ∷ [])) 0 0 creating refl refl refl (omega arith) refl)), tt)
told-safe-each part.Answered = answered-each (created_closed (step 1 1 2 ∷ [])) (Opened 0 temp_name ∷ live ∷ []) temp_there refl refl ((answered-by (created_closed (step 1 1 2 ∷ [])) temp_there 0 (step 0 1 1) creating (created_told.message ∷ []) [] refl (refl, tt) tt refl ((λ p e. omega arith), tt) ((λ l. absurd (omega (arith, l))), tt)), tt)
told-safe-each part.Told = told-each (created_closed (step 1 1 2 ∷ [])) (Opened 0 temp_name ∷ live ∷ []) temp_there refl refl (tt, (inl (live-told (Opened 0 temp_name ∷ live ∷ []) (λ g. none is_called opened refl g.0 _ g.1 refl), refl), tt))
told-safe-each p = quiet AnyDue p (created_closed (step 1 1 2 ∷ [])) (Opened 0 temp_name ∷ live ∷ []) temp_there refl refl refl refl refl

pub told-safe : IsSafeNow (world (created_closed (step 1 1 2 ∷ []) ∷ []) (Opened 0 temp_name ∷ live ∷ []) temp_there)
told-safe = whole AnyDue _ told-safe-each

not-read : ((by : Reads AnyDue Shows Means (world (created_closed [] ∷ []) (Opened 0 temp_name ∷ live ∷ []) temp_there) 0 (Opened 0 temp_name ∷ live ∷ []) 1 (On 0 Create) outcome.Done) × (by.t.cause ≡ Reply)) ⊎ ((outcome.Done ≡ outcome.Disconnected) × IsLost (world (created_closed [] ∷ []) (Opened 0 temp_name ∷ live ∷ []) temp_there) 0 (Opened 0 temp_name ∷ live ∷ []) 1 (On 0 Create)) → ⊥
not-read h =
    elim h [
      | inl a ↦ (let c = one-at (created_closed []) a.0.n a.0.c a.0.on.0 in none-at a.0.j a.0.h (subst (λ (d : Circuit). At d.heard a.0.j a.0.h) c.1 a.0.read.1))
      | inr b ↦ (let e = b.0 in cc)
    ]

told-unread-rest : (p : Part) → (p ≡ part.Told → ⊥) → Holds AnyDue p (world (created_closed [] ∷ []) (Opened 0 temp_name ∷ live ∷ []) temp_there)
told-unread-rest part.Told ne = absurd (ne refl)
told-unread-rest part.Caused ne = caused-each (created_closed []) (Opened 0 temp_name ∷ live ∷ []) temp_there refl refl ((tt, (step 0 1 1, refl, omega arith)), tt)
told-unread-rest part.Own ne = taken-each (created_closed []) (Opened 0 temp_name ∷ live ∷ []) temp_there refl refl ((created-own (created_closed []) 0 (takes-cid (created_closed []) 0 0 creating refl refl refl (omega arith) refl)), tt)
told-unread-rest part.Answered ne = answered-each (created_closed []) (Opened 0 temp_name ∷ live ∷ []) temp_there refl refl ((answered-by (created_closed []) temp_there 0 (step 0 1 1) creating (created_told.message ∷ []) [] refl (refl, tt) tt refl ((λ p e. omega arith), tt) ((λ l. absurd (omega (arith, l))), tt)), tt)
told-unread-rest p ne = quiet AnyDue p (created_closed []) (Opened 0 temp_name ∷ live ∷ []) temp_there refl refl refl refl refl

pub told-unread : BreaksOnly part.Told (world (created_closed [] ∷ []) (Opened 0 temp_name ∷ live ∷ []) temp_there)
told-unread = (told-unread-rest, λ h. not-read (h.1 0 (Opened 0 temp_name ∷ live ∷ []) refl 1 (On 0 Create) outcome.Done refl))

lost-told : (x : List Line) (i : ℕ) → ToldAt (world (created_closed (step 1 1 2 ∷ []) ∷ []) x temp_there) x i lost
lost-told x i = inr (refl, (0, 0, 0, Create, created_closed (step 1 1 2 ∷ []), refl, refl, refl, (creating, refl, refl), inl refl))

loses : LosesLive AnyDue Shows Means (world (created_closed (step 1 1 2 ∷ []) ∷ []) (Opened 0 temp_name ∷ live ∷ lost ∷ []) temp_there) 0 (Opened 0 temp_name ∷ live ∷ lost ∷ []) 2 0
loses = record {
  l = 1;
  by = live-told (Opened 0 temp_name ∷ live ∷ lost ∷ []) (λ g. none is_called opened refl g.0 _ g.1 refl);
  live = (refl, omega arith, λ g. none is_called (Opened 0 temp_name ∷ live ∷ []) refl g.0 _ g.1 refl);
  since = λ m after early at. absurd (omega (arith, after, early));
  why = inl refl;
}

loses-each : (i channel : ℕ) → At (Opened 0 temp_name ∷ live ∷ lost ∷ []) i (Noticed (On channel Create) outcome.Disconnected) → LosesLive AnyDue Shows Means (world (created_closed (step 1 1 2 ∷ []) ∷ []) (Opened 0 temp_name ∷ live ∷ lost ∷ []) temp_there) 0 (Opened 0 temp_name ∷ live ∷ lost ∷ []) i channel
loses-each i channel at = each-at (λ (k : ℕ) (l : Line). l ≡ Noticed (On channel Create) outcome.Disconnected → LosesLive AnyDue Shows Means (world (created_closed (step 1 1 2 ∷ []) ∷ []) (Opened 0 temp_name ∷ live ∷ lost ∷ []) temp_there) 0 (Opened 0 temp_name ∷ live ∷ lost ∷ []) k channel) (Opened 0 temp_name ∷ live ∷ lost ∷ []) (
  (λ e. absurd cc),
  ((λ e. absurd (let f : outcome.Done ≡ outcome.Disconnected = ap outcome-of e in cc)), ((λ e. subst (λ (n : ℕ). LosesLive AnyDue Shows Means (world (created_closed (step 1 1 2 ∷ []) ∷ []) (Opened 0 temp_name ∷ live ∷ lost ∷ []) temp_there) 0 (Opened 0 temp_name ∷ live ∷ lost ∷ []) 2 n) (ap (λ (l : Line). channel-of (intent-of l)) e) loses), tt)),
) i _ at refl

lost-safe-each : (p : Part) → Holds AnyDue p (world (created_closed (step 1 1 2 ∷ []) ∷ []) (Opened 0 temp_name ∷ live ∷ lost ∷ []) temp_there)
lost-safe-each part.Caused = caused-each (created_closed (step 1 1 2 ∷ [])) (Opened 0 temp_name ∷ live ∷ lost ∷ []) temp_there refl refl ((tt, (step 0 1 1, refl, omega arith)), tt)
lost-safe-each part.Own = taken-each (created_closed (step 1 1 2 ∷ [])) (Opened 0 temp_name ∷ live ∷ lost ∷ []) temp_there refl refl ((created-own (created_closed (step 1 1 2 ∷ [])) 0 (takes-cid (created_closed (step 1 1 2 ∷ [])) 0 0 creating refl refl refl (omega arith) refl)), tt)
lost-safe-each part.Answered = answered-each (created_closed (step 1 1 2 ∷ [])) (Opened 0 temp_name ∷ live ∷ lost ∷ []) temp_there refl refl ((answered-by (created_closed (step 1 1 2 ∷ [])) temp_there 0 (step 0 1 1) creating (created_told.message ∷ []) [] refl (refl, tt) tt refl ((λ p e. omega arith), tt) ((λ l. absurd (omega (arith, l))), tt)), tt)
lost-safe-each part.Told = told-each (created_closed (step 1 1 2 ∷ [])) (Opened 0 temp_name ∷ live ∷ lost ∷ []) temp_there refl refl (tt, (inl (live-told (Opened 0 temp_name ∷ live ∷ lost ∷ []) (λ g. none is_called opened refl g.0 _ g.1 refl), refl), (lost-told (Opened 0 temp_name ∷ live ∷ lost ∷ []) 2, tt)))
lost-safe-each part.Lost = holds AnyDue part.Lost (created_closed (step 1 1 2 ∷ [])) (Opened 0 temp_name ∷ live ∷ lost ∷ []) temp_there refl refl tt loses-each tt
lost-safe-each p = quiet AnyDue p (created_closed (step 1 1 2 ∷ [])) (Opened 0 temp_name ∷ live ∷ lost ∷ []) temp_there refl refl refl refl refl

pub lost-safe : IsSafeNow (world (created_closed (step 1 1 2 ∷ []) ∷ []) (Opened 0 temp_name ∷ live ∷ lost ∷ []) temp_there)
lost-safe = whole AnyDue _ lost-safe-each

only-lost : (l : ℕ) → At (Opened 0 temp_name ∷ lost ∷ []) l (Noticed (On 0 Create) outcome.Done) → ⊥
only-lost l at = each-at (λ (k : ℕ) (z : Line). z ≡ Noticed (On 0 Create) outcome.Done → ⊥) (Opened 0 temp_name ∷ lost ∷ []) ((λ e. cc), ((λ e. let f : outcome.Disconnected ≡ outcome.Done = ap outcome-of e in cc), tt)) l _ at refl

lost-before-live-rest : (p : Part) → (p ≡ part.Lost → ⊥) → Holds AnyDue p (world (created_closed (step 1 1 2 ∷ []) ∷ []) (Opened 0 temp_name ∷ lost ∷ []) temp_there)
lost-before-live-rest part.Lost ne = absurd (ne refl)
lost-before-live-rest part.Caused ne = caused-each (created_closed (step 1 1 2 ∷ [])) (Opened 0 temp_name ∷ lost ∷ []) temp_there refl refl ((tt, (step 0 1 1, refl, omega arith)), tt)
lost-before-live-rest part.Own ne = taken-each (created_closed (step 1 1 2 ∷ [])) (Opened 0 temp_name ∷ lost ∷ []) temp_there refl refl ((created-own (created_closed (step 1 1 2 ∷ [])) 0 (takes-cid (created_closed (step 1 1 2 ∷ [])) 0 0 creating refl refl refl (omega arith) refl)), tt)
lost-before-live-rest part.Answered ne = answered-each (created_closed (step 1 1 2 ∷ [])) (Opened 0 temp_name ∷ lost ∷ []) temp_there refl refl ((answered-by (created_closed (step 1 1 2 ∷ [])) temp_there 0 (step 0 1 1) creating (created_told.message ∷ []) [] refl (refl, tt) tt refl ((λ p e. omega arith), tt) ((λ l. absurd (omega (arith, l))), tt)), tt)
lost-before-live-rest part.Told ne = told-each (created_closed (step 1 1 2 ∷ [])) (Opened 0 temp_name ∷ lost ∷ []) temp_there refl refl (tt, (lost-told (Opened 0 temp_name ∷ lost ∷ []) 1, tt))
lost-before-live-rest p ne = quiet AnyDue p (created_closed (step 1 1 2 ∷ [])) (Opened 0 temp_name ∷ lost ∷ []) temp_there refl refl refl refl refl

pub lost-before-live : BreaksOnly part.Lost (world (created_closed (step 1 1 2 ∷ []) ∷ []) (Opened 0 temp_name ∷ lost ∷ []) temp_there)
lost-before-live = (lost-before-live-rest, λ h. (let l = h.1 0 (Opened 0 temp_name ∷ lost ∷ []) refl 1 0 refl in only-lost l.l l.live.0))

-- ---- ACCESS_RIGHTS

first-cid : TakesOwn (rights_for 1) 0 0 (Cid 1)
first-cid = (0, 0, creating, creating, (creating, refl, (refl, refl), omega arith, others), omega arith, refl, refl, refl, refl)
  where
    others : (l : ℕ) (r : Sent) → 0 < l → l < 2 → At (rights_for 1).up l r → Gives r.message (Cid 1) → ⊥
    others l r after early at gives = each-at (λ (i : ℕ) (z : Sent). 0 < i → Gives z.message (Cid 1) → ⊥) (rights_for 1).up ((λ a g. omega (arith, a)), ((λ a g. (let e = g.1 in omega (arith, e))), tt)) l r at after gives

rights-safe-each : (p : Part) → Holds AnyDue p (world (rights_for 1 ∷ []) opened temp_there)
rights-safe-each part.Caused = caused-each (rights_for 1) opened temp_there refl refl ((tt, (step 0 1 1, refl, omega arith)), tt)
rights-safe-each part.Answered = answered-each (rights_for 1) opened temp_there refl refl ((answered-by (rights_for 1) temp_there 0 (step 0 1 1) creating ((rights_reply (create_request 1 temp_name) 3) ∷ []) [] refl (refl, tt) tt refl ((λ p e. omega arith), tt) ((λ l. absurd (omega (arith, l))), tt)), tt)
rights-safe-each part.Own = taken-each (rights_for 1) opened temp_there refl refl ((λ id s. subst (λ (e : Id). TakesOwn (rights_for 1) 0 0 e) (sym (of-channel rights_told.message id (inl refl) (heads rights_told.message id (λ e. omega (arith, e)) s))) first-cid), tt)
rights-safe-each p = quiet AnyDue p (rights_for 1) opened temp_there refl refl refl refl refl

pub rights-safe : IsSafeNow (world (rights_for 1 ∷ []) opened temp_there)
rights-safe = whole AnyDue _ rights-safe-each

not-first : (k : ℕ) (r : Sent) → At (rights_for 2).up k r → Gives r.message (Cid 2) → k ≤ 0 → ⊥
not-first k r at gives early = each-at (λ (i : ℕ) (z : Sent). Gives z.message (Cid 2) → i ≤ 0 → ⊥) (rights_for 2).up ((λ g l. (let e = g.1 in omega (arith, e))), ((λ g l. omega (arith, l)), tt)) k r at gives early

rights-of-another-rest : (p : Part) → (p ≡ part.Own → ⊥) → Holds AnyDue p (world (rights_for 2 ∷ []) opened temp_there)
rights-of-another-rest part.Own ne = absurd (ne refl)
rights-of-another-rest part.Caused ne = caused-each (rights_for 2) opened temp_there refl refl ((tt, (step 0 1 1, refl, omega arith)), tt)
rights-of-another-rest part.Answered ne = answered-each (rights_for 2) opened temp_there refl refl ((answered-by (rights_for 2) temp_there 0 (step 0 1 1) creating ((rights_reply (create_request 2 temp_name) 3) ∷ []) [] refl (refl, tt) tt refl ((λ p e. omega arith), tt) ((λ l. absurd (omega (arith, l))), tt)), tt)
rights-of-another-rest p ne = quiet AnyDue p (rights_for 2) opened temp_there refl refl refl refl refl

pub rights-of-another : BreaksOnly part.Own (world (rights_for 2 ∷ []) opened temp_there)
rights-of-another = (rights-of-another-rest, λ h. (let t = its-part part.Own (rights_for 2) opened temp_there refl refl h.0 0 _ (Cid 2) refl (inl (inl (inr (inr (inl refl)), refl))) in not-first t.0 t.4.0 t.4.1 t.4.2 t.5))
