-- What the calls that end a circuit or a channel do to the requests that wait.
use Rattle.std.proofs.Common.{◌≡◌, Bool, true, false, not, cond, List, [], ◌∷◌, ◌++◌, map, fold, length, Option, Some, None, refl, ap, ◌∙◌, subst, ◌==◌}
use Rattle.std.specs.Prelude.{is_none, option_and_then, option_map, unwrap_or}
use Rattle.std.proofs.lemmas.Bool.{both_ways}
use Rattle.ca_arena.specs.declared.handle.Handle.{Handle}
use Rattle.ca_ids.specs.Table.{same_handle, under}
use Rattle.ca_requests.specs.Requests.{asks_on, is_open, was_sent_on}
use Rattle.ca_model.specs.Answers.{Lost, Notice}
use Rattle.ca_model.specs.Client.{Channel, Client, ClientCircuit, Clearing, Connecting, Connection, Creating, Doomed, Leaving, Live, On, Phase, Searching, Standing, channels_ended, channels_on, closing, connection_at, disconnections, ended, farewell, is_cleared, is_live, let_go, phase_on, searched_again, sending, standing_at, with_standing, without_channel, without_circuit, without_ids, disconnected}
use Rattle.ca_model.specs.Client as client
use Rattle.ca_model.specs.ClientCalls.{all_over, cleared, unsubscribed_all, unwanted}
use Rattle.ca_model.specs.ClientEnds.{is_connecting}
use Rattle.ca_model.specs.Placed.{IsPlaced, was_live}
use Rattle.ca_model.proofs.Handles.{same-is}
use Rattle.ca_model.proofs.Placed.{header_only-never}
use Rattle.ca_model.proofs.Standings.{fails-anywhere, fails-searched, found-standing}
use Rattle.ca_model.proofs.Tables.{all-freed-back, one-value}
use Rattle.ca_model.specs.Placed.{HasNothingOut}
use Rattle.ca_client_core.specs.Notices.{completions}
use Rattle.ca_client_core.proofs.Completing.{no-losses}
use Rattle.ca_client.specs.Awaited.{IsListed, Waits}
use Rattle.ca_client.proofs.Waiting.{Same, Told, listed-fewer, listed-same, not-open, open-back, over-waits, same-itself, same-then, told-ended, told-on, waits-same}

-- ---- the end of a circuit has ended

same-let-go : (c : Handle) (d : ClientCircuit) (x : Client) → Same x (let_go c d x)
same-let-go c d x = go d.is_name
  where
    go : (b : Bool) → Same x (cond b (disconnected c x) (without_circuit c x))
    go true = record { requests = refl; issued = refl }
    go false = record { requests = refl; issued = refl }

same-searched : (hs : List Handle) (x : Client) → Same x (fold searched_again x hs)
same-searched [] x = same-itself x
same-searched (h ∷ hs) x = same-then x (searched_again x h) _ (record { requests = refl; issued = refl }) (same-searched hs (searched_again x h))

same-without : (hs : List Handle) (x : Client) → Same x (fold without_channel x hs)
same-without [] x = same-itself x
same-without (h ∷ hs) x = same-then x (without_channel x h) _ (record { requests = refl; issued = refl }) (same-without hs (without_channel x h))

same-channels : (c : Handle) (x : Client) → Same x (channels_ended c x)
same-channels c x =
    let gone : List Handle = channels_on is_cleared c x in
    let back : List Handle = channels_on (λ (p : Phase). not (is_cleared p)) c x in
    let y : Client = fold without_channel x gone in
    same-then x y (fold searched_again y back) (same-without gone x) (same-searched back y)

-- a channel that was live on a circuit is on it
live-on : (on : Handle) (ch : Channel) → client.is_on_in was_live on ch ≡ true → (p : Phase) × (ch.standing ≡ On on p) × (was_live p ≡ true)
live-on on ch e = go ch.standing refl e
  where
    go : (s : Standing) → ch.standing ≡ s → unwrap_or (option_map was_live (phase_on on s)) false ≡ true → (p : Phase) × (ch.standing ≡ On on p) × (was_live p ≡ true)
    go Searching at f = absurd (both_ways false refl f)
    go (On d p) at f = by (same_handle d on) refl f
      where
        by : (b : Bool) → same_handle d on ≡ b → unwrap_or (option_map was_live (cond b (Some p) None)) false ≡ true → (p : Phase) × (ch.standing ≡ On on p) × (was_live p ≡ true)
        by true s f = (p, at ∙ ap (λ (k : Handle). On k p) (same-is d on s), f)
        by false s f = absurd (both_ways false refl f)

waits-not : (p : Phase) → was_live p ≡ true → is_connecting p ≡ false
waits-not Connecting f = absurd (both_ways false refl f)
waits-not (Creating rights) f = absurd (both_ways false refl f)
waits-not (Live n rights) f = refl
waits-not Leaving f = refl
waits-not Clearing f = refl
waits-not Doomed f = absurd (both_ways false refl f)

-- no request was sent on a circuit that is not there
sent-nowhere : (c : Handle) (x : Client) → IsPlaced x → under x.circuits c ≡ None → (q : Handle) → is_open (was_sent_on c) x.requests q ≡ true → ⊥
sent-nowhere c x placed none q e =
    let r = open-back (was_sent_on c) x.requests q e in
    let at : r.0.circuit ≡ c = same-is r.0.circuit c r.2 in
    let live = placed.attached.requests q r.0 r.1 in
    let on = live-on r.0.circuit live.0 live.2 in
    let waiting = placed.waiting r.0.channel live.0 r.0.circuit on.0 live.1 on.1 in
    let nothing : connection_at x r.0.circuit ≡ None = ap (λ (k : Handle). connection_at x k) at ∙ ap (λ (o : Option ClientCircuit). option_and_then (λ (d : ClientCircuit). d.connection) o) none in
    both_ways (is_connecting on.0) (waits-not on.0 on.2) (waiting ∙ ap (λ (o : Option Connection). is_none o) nothing)

pub told-end : (c : Handle) (x : Client) → IsPlaced x → IsListed x → Told x (farewell c x) (ended c x)
told-end c x placed l = go (under x.circuits c) refl
  where
    losses : List Notice
    losses = map Lost (channels_on is_live c x)

    none : completions losses ≡ []
    none = no-losses (channels_on is_live c x)

    rest : Client
    rest = without_ids c x

    freed : Told x (farewell c x) rest
    freed = told-ended x rest (was_sent_on c) losses l (listed-fewer x rest refl l)
        (λ q w.
        let was = all-freed-back (was_sent_on c) x.requests q w.0 w.1 in
        ((w.0, was.0, w.2), not-open (was_sent_on c) x.requests q w.0 was.0 was.1))
        none

    go : (o : Option ClientCircuit) → under x.circuits c ≡ o → Told x (farewell c x) (unwrap_or (option_map (λ (d : ClientCircuit). let_go c d (channels_ended c rest)) o) x)
    go None at = told-ended x x (was_sent_on c) losses l l (λ q w. (w, sent-nowhere c x placed at q)) none
    go (Some d) at =
        told-on x rest (let_go c d (channels_ended c rest)) (farewell c x) freed
        (same-then rest (channels_ended c rest) (let_go c d (channels_ended c rest)) (same-channels c rest) (same-let-go c d (channels_ended c rest)))

-- ---- clear

same-unwanted : (c : Handle) (x : Client) → Same x (unwanted c x)
same-unwanted c x = go (length (channels_on (λ (p : Phase). true) c x) == 0)
  where
    at : (o : Option ClientCircuit) → Same x (unwrap_or (option_map (λ (d : ClientCircuit). let_go c d x) o) x)
    at (Some d) = same-let-go c d x
    at None = same-itself x

    go : (b : Bool) → Same x (cond b (unwrap_or (option_map (λ (d : ClientCircuit). let_go c d x) (under x.circuits c)) x) x)
    go true = at (under x.circuits c)
    go false = same-itself x

append-none : (ns : List Notice) → ns ++ [] ≡ ns
append-none [] = refl
append-none (n ∷ ns) = ap (λ (ms : List Notice). n ∷ ms) (append-none ns)

pub told-clear : (h : Handle) (s : Standing) (x : Client) → IsPlaced x → IsListed x → standing_at x h ≡ Some s → Told x (disconnections (asks_on h) x) (cleared h s x)
told-clear h s x placed l at = subst (λ (ns : List Notice). Told x ns (cleared h s x)) (append-none (disconnections (asks_on h) x)) (by s (found-standing x h s at))
  where
    -- no request is on a channel that was never live
    never : HasNothingOut h x → (q : Handle) → Waits x q → Waits x q × ¬ (is_open (asks_on h) x.requests q ≡ true)
    never header_only q w = (w, (λ e. (let r = open-back (asks_on h) x.requests q e in header_only.requests q r.0 r.1 (same-is r.0.channel h r.2))))

    alike : (y : Client) → Same x y → HasNothingOut h x → Told x (disconnections (asks_on h) x ++ []) y
    alike y same header_only = told-ended x y (asks_on h) [] l (listed-same x y same l) (λ q w. never header_only q (waits-same x y q same w)) refl

    header_only-so : (ch : Channel) → under x.channels h ≡ Some ch → ((on : Handle) → client.is_on_in was_live on ch ≡ false) → HasNothingOut h x
    header_only-so ch there none = header_only-never h x placed (λ w on is. subst (λ (z : Channel). client.is_on_in was_live on z ≡ false) (one-value x.channels h ch w there is) (none on))

    after : (c : Handle) → Told x (disconnections (asks_on h) x ++ []) (with_standing (On c Clearing) h (all_over c h x))
    after c =
        let y : Client = all_over c h x in
        told-on x y (with_standing (On c Clearing) h y) (disconnections (asks_on h) x ++ [])
        (told-ended x y (asks_on h) [] l (listed-fewer x y refl l) (λ q w. over-waits h x y q refl w) refl)
        (record { requests = refl; issued = refl })

    by : (t : Standing) → (ch : Channel) × (under x.channels h ≡ Some ch) × (ch.standing ≡ t) → Told x (disconnections (asks_on h) x ++ []) (cleared h t x)
    by Searching found =
        alike (without_channel (unsubscribed_all h x) h) (record { requests = refl; issued = refl })
        (header_only-so found.0 found.1 (λ on. fails-searched was_live on found.0 found.2))
    by (On c Connecting) found =
        let z : Client = without_channel (unsubscribed_all h x) h in
        alike (unwanted c z) (same-then x z (unwanted c z) (record { requests = refl; issued = refl }) (same-unwanted c z))
        (header_only-so found.0 found.1 (λ on. fails-anywhere was_live on c found.0 Connecting found.2 refl))
    by (On c (Creating rights)) found =
        alike (with_standing (On c Doomed) h (unsubscribed_all h x)) (record { requests = refl; issued = refl })
        (header_only-so found.0 found.1 (λ on. fails-anywhere was_live on c found.0 (Creating rights) found.2 refl))
    by (On c (Live n rights)) found = after c
    by (On c Leaving) found = after c
    by (On c Clearing) found = after c
    by (On c Doomed) found = after c
