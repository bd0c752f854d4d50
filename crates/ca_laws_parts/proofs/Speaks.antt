-- All that a client sends are messages, and its core fits messages after that.
use Rattle.std.proofs.Common.{◌≡◌, ℕ, zero, suc, ◌%◌, ◌^◌, ◌<◌, ◌≤◌, inl, inr, Bool, true, false, ◌==◌, ◌||◌, cond, List, [], ◌∷◌, ◌++◌, length, Option, Some, None, refl, sym, ap, ◌∙◌, subst, arith}
use Rattle.std.specs.Prelude.{Ok, find, is_none, nat_lt, not, option_map}
use Rattle.std.proofs.lemmas.Bool.{both_ways, eqb-true, ltb-false}
use Rattle.ca_arena.specs.declared.handle.Handle.{Handle}
use Rattle.ca_dbr.specs.declared.data_type.DataType.{DataType}
use Rattle.ca_dbr.specs.Elements.{Elements, base_of, bytes_of, count_of}
use Rattle.ca_dbr.specs.Types.{base_number, type_number}
use Rattle.ca_dbr.proofs.OneReading.{base_number-small}
use Rattle.ca_dbr.proofs.Valued.{type_number-small}
use Rattle.ca_ids.specs.Table.{is_full, under}
use Rattle.ca_ids.specs.Wire.{wire_of}
use Rattle.ca_monitor.specs.Subscriptions.{Cancelled, Ended, with_stage}
use Rattle.ca_search.specs.Clock.{fresh}
use Rattle.ca_search.specs.Searches as search
use Rattle.ca_text.specs.Command.{command_number}
use Rattle.ca_text.specs.declared.command.Command.{Command}
use Rattle.ca_text.specs.declared.command.Command.TheVariants as command
use Rattle.ca_text.specs.declared.refusal.Refusal.{Refusal}
use Rattle.ca_text.specs.declared.refusal.Refusal.TheVariants as refusal
use Rattle.ca_text.specs.Limits.{channel_name_limit, payload_limit}
use Rattle.ca_text.specs.Place.{At}
use Rattle.ca_text.proofs.Places.{At-snoc, some_is}
use Rattle.ca_wire.specs.declared.requests.Wanted.{Wanted}
use Rattle.ca_wire.specs.Header.{number16}
use Rattle.ca_wire.specs.Message.{IsMessage}
use Rattle.ca_wire.specs.Messages.{header_only, clear_request, create_request, event_add_request, event_cancel_request, mask_payload, put_request, read_request}
use Rattle.ca_wire.proofs.Padding.{message-of, padded-payload}
use Rattle.ca_model.specs.Answers.{Notice, Sending}
use Rattle.ca_model.specs.Client.{Client, Clearing, Connecting, Creating, Doomed, Leaving, Live, Native, On, Searching, Standing, later, standing_at}
use Rattle.ca_model.specs.ClientCalls.{ClientClears, ClientOpens, ClientPuts, ClientReads, ClientSubscribes, ClientUnsubscribes, ClientWrites, Does, LiveChannel, Opening, Shape, ask_fault, cancel_sent, cleared, clearing_sent, fault_at, first_refusal, is_misfit, is_over, put_fault, unsubscribed}
use Rattle.ca_model.specs.Images.{all_types, type_of}
use Rattle.ca_records.specs.Rules.{may_read, may_write}
use Rattle.ca_laws_parts.specs.Held.{AreFew}
use Rattle.ca_model.proofs.Standings.{found-standing}
use Rattle.ca_model.proofs.Tables.{find-at}
use Rattle.ca_model.proofs.Standings.{stands-as}
use Rattle.ca_laws_parts.specs.Speaks.{SendsMessages, ChannelFits, ClientFits, RequestFits, SearchesFit, SpeaksWell, SubscriptionFits}
use Rattle.ca_laws_parts.proofs.Fits.{cleared-fits, empty-payload, fits-like, fits-sending, holds-changed, holds-freed, holds-held, none-sent, one-more, subscriptions-fit, text-fits, wire-fits, wire-under}

pub does-speak : (z y : Client) (sends sent : List Sending) → ClientFits z → SendsMessages sends → Does sends z sent y → SpeaksWell y sent
does-speak z y sends sent fits good does =
    subst (λ (p : List Sending × Client). SpeaksWell p.1 p.0) (λ i. (sym does.0 i, sym does.1 i)) (fits-sending sends z fits, good)

-- ---- single messages

pub header_only-good : (k : Command) → command_number k < 65536 → IsMessage (header_only k)
header_only-good k lt = message-of (header_only k) lt (omega arith) (omega arith) (omega arith) (omega arith) empty-payload

pub clear-good : (sid cid : ℕ) → sid < 2 ^ 32 → cid < 2 ^ 32 → IsMessage (clear_request sid cid)
clear-good sid cid a b = message-of (clear_request sid cid) (omega arith) (omega arith) (omega arith) a b empty-payload

pub create-good : (cid : ℕ) (name : List ℕ) → cid < 2 ^ 32 → length name ≤ channel_name_limit → IsMessage (create_request cid name)
create-good cid name lt le = message-of (create_request cid name) (omega arith) (omega arith) (omega arith) lt (omega arith) (text-fits name (omega (arith, le)))

read-good : (w : Wanted) → w.data_type < 2 ^ 16 → w.count < 2 ^ 32 → w.sid < 2 ^ 32 → w.id < 2 ^ 32 → IsMessage (read_request w)
read-good w a b c d = message-of (read_request w) (omega arith) a b c d empty-payload

cancel-good : (w : Wanted) → w.data_type < 2 ^ 16 → w.count < 2 ^ 32 → w.sid < 2 ^ 32 → w.id < 2 ^ 32 → IsMessage (event_cancel_request w)
cancel-good w a b c d = message-of (event_cancel_request w) (omega arith) a b c d empty-payload

write-good : (w : Wanted) (bytes : List ℕ) → length bytes ≤ payload_limit → w.data_type < 2 ^ 16 → w.count < 2 ^ 32 → w.sid < 2 ^ 32 → w.id < 2 ^ 32 → IsMessage (put_request command.Write w bytes)
write-good w bytes le a b c d = message-of (put_request command.Write w bytes) (omega arith) a b c d (padded-payload bytes le)

put-good : (w : Wanted) (bytes : List ℕ) → length bytes ≤ payload_limit → w.data_type < 2 ^ 16 → w.count < 2 ^ 32 → w.sid < 2 ^ 32 → w.id < 2 ^ 32 → IsMessage (put_request command.WriteNotify w bytes)
put-good w bytes le a b c d = message-of (put_request command.WriteNotify w bytes) (omega arith) a b c d (padded-payload bytes le)

length-mask : (mask : ℕ) → length (mask_payload mask) ≡ 16
unfolding number16
length-mask mask = refl

pub add-good : (w : Wanted) (mask : ℕ) → w.data_type < 2 ^ 16 → w.count < 2 ^ 32 → w.sid < 2 ^ 32 → w.id < 2 ^ 32 → IsMessage (event_add_request w mask)
add-good w mask a b c d =
    let len : length (mask_payload mask) ≡ 16 = length-mask mask in
    message-of (event_add_request w mask) (omega arith) a b c d (record { aligned = ap (λ (n : ℕ). n % 8) len; within = omega (arith, len) })

-- ---- faults that are none

pub none-each : {A : Type 0} (fs : List (Bool × A)) → option_map (λ (k : Bool × A). k.1) (find (λ (k : Bool × A). k.0) fs) ≡ None → (i : ℕ) (g : Bool × A) → At fs i g → g.0 ≡ false
none-each [] e i g at = absurd cc
none-each {A} (h ∷ fs) e i g at = go h.0 refl e i at (λ r k q. none-each fs r k g q)
  where
    go : (b : Bool) → h.0 ≡ b → option_map (λ (k : Bool × A). k.1) (cond b (Some h) (find (λ (k : Bool × A). k.0) fs)) ≡ None → (i : ℕ) → At (h ∷ fs) i g → (option_map (λ (k : Bool × A). k.1) (find (λ (k : Bool × A). k.0) fs) ≡ None → (k : ℕ) → At fs k g → g.0 ≡ false) → g.0 ≡ false
    go true is e i at rest = absurd cc
    go false is e zero at rest = ap (λ (k : Bool × A). k.0) (sym (some_is h g at)) ∙ is
    go false is e (suc i) at rest = rest e i at

-- the type of this number
typed : (n : ℕ) → is_none (type_of n) ≡ false → n ≤ 20
typed n e = go (type_of n) refl e
  where
    go : (o : Option DataType) → type_of n ≡ o → is_none o ≡ false → n ≤ 20
    go None is e = absurd (both_ways true e refl)
    go (Some t) is e =
        let f = find-at (λ (t : DataType). type_number t == n) all_types t is in
        let same : type_number t ≡ n = eqb-true (type_number t) n f.2 in
        let lt : type_number t < 21 = type_number-small t in
        omega (arith, same, lt)

at-least : (a b : ℕ) → nat_lt a b ≡ false → b ≤ a
at-least a b e = ltb-false a b e

-- a read or a subscription without fault
ask-none : (x : Client) (full : Bool) (h : Handle) (a : Shape) (l : LiveChannel) → standing_at x h ≡ Some (On l.circuit (Live l.native l.rights)) → ask_fault x full h a ≡ None → (a.data_type ≤ 20) × (a.count ≤ l.native.count)
ask-none x full h a l is none =
    let faults : LiveChannel → List (Bool × Refusal) = λ (l : LiveChannel). (is_none (type_of a.data_type), refusal.BadType) ∷ (not (may_read l.rights), refusal.NoAccess) ∷ (nat_lt l.native.count a.count, refusal.BadCount) ∷ (is_over x l.circuit, refusal.OutputFull) ∷ (full, refusal.ArenaFull) ∷ [] in
    let all : first_refusal (faults l) ≡ None = sym (ap (λ (o : Option Standing). fault_at faults o) is) ∙ none in
    (typed a.data_type (none-each (faults l) all 0 (is_none (type_of a.data_type), refusal.BadType) refl), at-least l.native.count a.count (none-each (faults l) all 2 (nat_lt l.native.count a.count, refusal.BadCount) refl))

-- a write without fault
misfit-none : (n : Native) (e : Elements) → is_misfit n e ≡ false → (count_of e ≤ n.count) × (length (bytes_of e) ≤ payload_limit)
misfit-none n e none = go (count_of e == 0) (nat_lt n.count (count_of e)) (nat_lt payload_limit (length (bytes_of e))) refl refl none
  where
    go : (a b c : Bool) → nat_lt n.count (count_of e) ≡ b → nat_lt payload_limit (length (bytes_of e)) ≡ c → (a || (b || c)) ≡ false → (count_of e ≤ n.count) × (length (bytes_of e) ≤ payload_limit)
    go true b c p q f = absurd (both_ways true f refl)
    go false true c p q f = absurd (both_ways true f refl)
    go false false true p q f = absurd (both_ways true f refl)
    go false false false p q f = (at-least n.count (count_of e) p, at-least payload_limit (length (bytes_of e)) q)

put-none : (x : Client) (full : Bool) (h : Handle) (e : Elements) (l : LiveChannel) → standing_at x h ≡ Some (On l.circuit (Live l.native l.rights)) → put_fault x full h e ≡ None → (count_of e ≤ l.native.count) × (length (bytes_of e) ≤ payload_limit)
put-none x full h e l is none =
    let faults : LiveChannel → List (Bool × Refusal) = λ (l : LiveChannel). (not (may_write l.rights), refusal.NoAccess) ∷ (is_misfit l.native e, refusal.BadCount) ∷ (is_over x l.circuit, refusal.OutputFull) ∷ (full, refusal.ArenaFull) ∷ [] in
    let all : first_refusal (faults l) ≡ None = sym (ap (λ (o : Option Standing). fault_at faults o) is) ∙ none in
    misfit-none l.native e (none-each (faults l) all 1 (is_misfit l.native e, refusal.BadCount) refl)

-- what a live channel was created with
native-at : (x : Client) (h : Handle) (c : Handle) (n : Native) (r : ℕ) → ClientFits x → standing_at x h ≡ Some (On c (Live n r)) → (n.sid < 2 ^ 32) × (n.count < 2 ^ 32)
native-at x h c n r f is = (let ch = found-standing x h (On c (Live n r)) is in (f.channels h ch.0 ch.1).native c n r ch.2)

-- ---- calls

pub open-speaks : (x y : Client) (a : Opening) (q : Handle) (sent : List Sending) → ClientFits x → ClientOpens x a (Ok q) sent y → SpeaksWell y sent
open-speaks x y a q sent f does =
    does-speak _ y [] sent (record {
      user = f.user;
      host = f.host;
      channels = holds-held ChannelFits x.channels q _ does.1 f.channels (record { name = does.0.0.within; priority = does.0.1; native = λ c n r e. absurd (nowhere c n r e) });
      requests = f.requests;
      subscriptions = f.subscriptions;
      circuits = f.circuits;
      searches = more;
    }) none-sent does.2
  where
    nowhere : (c : Handle) (n : Native) (r : ℕ) → Searching ≡ On c (Live n r) → ⊥
    nowhere c n r e = cc

    more : SearchesFit (x.searches ++ (wire_of q, record { name = a.name; clock = Some (fresh (later a.now x)) }) ∷ [])
    more i c at = elim (At-snoc x.searches _ i c at) [
      | inl old ↦ f.searches i c old
      | inr last ↦ subst (λ (z : ℕ × search.Channel). (z.0 < 2 ^ 32) × (length z.1.name ≤ channel_name_limit)) (sym last.1) (wire-fits q does.1.slot, does.0.0.within)
    ]

pub read-speaks : (x y : Client) (h : Handle) (a : Shape) (q : Handle) (sent : List Sending) → ClientFits x → ClientReads x h a (Ok q) sent y → SpeaksWell y sent
read-speaks x y h a q sent f does =
    let l : LiveChannel = does.0 in
    let n = native-at x h l.circuit l.native l.rights f does.1 in
    let fault = ask-none x (is_full x.requests) h a l does.1 does.2 in
    let plain : a.data_type ≤ 20 = fault.0 in
    let le : a.count ≤ l.native.count = fault.1 in
    let lt : l.native.count < 2 ^ 32 = n.1 in
    does-speak _ y _ sent (fits-like x _ refl refl refl refl refl (holds-held RequestFits x.requests q _ does.3 f.requests plain) f) (one-more _ [] (read-good _ (omega (arith, plain)) (omega (arith, le, lt)) n.0 (wire-fits q does.3.slot)) none-sent) does.4

pub put-speaks : (x y : Client) (h : Handle) (e : Elements) (q : Handle) (sent : List Sending) → ClientFits x → ClientPuts x h e (Ok q) sent y → SpeaksWell y sent
put-speaks x y h e q sent f does =
    let l : LiveChannel = does.0 in
    let n = native-at x h l.circuit l.native l.rights f does.1 in
    let fault = put-none x (is_full x.requests) h e l does.1 does.2 in
    let le : count_of e ≤ l.native.count = fault.0 in
    let lt : l.native.count < 2 ^ 32 = n.1 in
    let base : base_number (base_of e) < 7 = base_number-small (base_of e) in
    does-speak _ y _ sent (fits-like x _ refl refl refl refl refl (holds-held RequestFits x.requests q _ does.3 f.requests tt) f) (one-more _ [] (put-good _ (bytes_of e) fault.1 (omega (arith, base)) (omega (arith, le, lt)) n.0 (wire-fits q does.3.slot)) none-sent) does.4

pub write-speaks : (x y : Client) (h : Handle) (e : Elements) (u : Unit {0}) (sent : List Sending) → ClientFits x → ClientWrites x h e (Ok u) sent y → SpeaksWell y sent
write-speaks x y h e u sent f does =
    let l : LiveChannel = does.0 in
    let n = native-at x h l.circuit l.native l.rights f does.1 in
    let fault = put-none x false h e l does.1 does.2 in
    let le : count_of e ≤ l.native.count = fault.0 in
    let lt : l.native.count < 2 ^ 32 = n.1 in
    let base : base_number (base_of e) < 7 = base_number-small (base_of e) in
    does-speak x y _ sent f (one-more _ [] (write-good _ (bytes_of e) fault.1 (omega (arith, base)) (omega (arith, le, lt)) n.0 (omega arith)) none-sent) does.3

pub subscribe-speaks : (x y : Client) (h : Handle) (a : Shape) (mask : ℕ) (q : Handle) (sent : List Sending) → ClientFits x → ClientSubscribes x h a mask (Ok q) sent y → SpeaksWell y sent
subscribe-speaks x y h a mask q sent f does =
    let l : LiveChannel = does.0 in
    let n = native-at x h l.circuit l.native l.rights f does.1 in
    let fault = ask-none x (is_full x.subscriptions) h a l does.1 does.2 in
    let small : a.data_type ≤ 20 = fault.0 in
    let number : a.data_type < 2 ^ 16 = omega (arith, small) in
    let le : a.count ≤ l.native.count = fault.1 in
    let lt : l.native.count < 2 ^ 32 = n.1 in
    let count : a.count < 2 ^ 32 = omega (arith, le, lt) in
    does-speak _ y _ sent (subscriptions-fit x _ (holds-held SubscriptionFits x.subscriptions q _ does.3 f.subscriptions (number, count)) f)
    (one-more _ [] (add-good _ mask number count n.0 (wire-fits q does.3.slot)) none-sent) does.4

unsubscribed-fits : (s : Handle) (o : Option Standing) (x : Client) → ClientFits x → ClientFits (unsubscribed s o x)
unsubscribed-fits s (Some (On c (Live n rights))) x f = subscriptions-fit x (with_stage (Cancelled c) s x.subscriptions) (holds-changed SubscriptionFits _ x.subscriptions s f.subscriptions (λ u is p. p)) f
unsubscribed-fits s (Some (On c Leaving)) x f = subscriptions-fit x (with_stage (Ended c) s x.subscriptions) (holds-changed SubscriptionFits _ x.subscriptions s f.subscriptions (λ u is p. p)) f
unsubscribed-fits s None x f = subscriptions-fit x _ (holds-freed SubscriptionFits x.subscriptions s f.subscriptions) f
unsubscribed-fits s (Some Searching) x f = subscriptions-fit x _ (holds-freed SubscriptionFits x.subscriptions s f.subscriptions) f
unsubscribed-fits s (Some (On c Connecting)) x f = subscriptions-fit x _ (holds-freed SubscriptionFits x.subscriptions s f.subscriptions) f
unsubscribed-fits s (Some (On c (Creating rights))) x f = subscriptions-fit x _ (holds-freed SubscriptionFits x.subscriptions s f.subscriptions) f
unsubscribed-fits s (Some (On c Clearing)) x f = subscriptions-fit x _ (holds-freed SubscriptionFits x.subscriptions s f.subscriptions) f
unsubscribed-fits s (Some (On c Doomed)) x f = subscriptions-fit x _ (holds-freed SubscriptionFits x.subscriptions s f.subscriptions) f

pub unsubscribe-speaks : (x y : Client) (s : Handle) (u : Unit {0}) (sent : List Sending) → AreFew x → ClientFits x → ClientUnsubscribes x s (Ok u) sent y → SpeaksWell y sent
unsubscribe-speaks x y s u sent few f does =
    does-speak (unsubscribed s (standing_at x does.0.channel) x) y _ sent (unsubscribed-fits s (standing_at x does.0.channel) x f) (by (standing_at x does.0.channel) refl) does.3
  where
    there : under x.subscriptions s ≡ Some does.0
    there = (stands-as x s does.0 does.1).0

    by : (o : Option Standing) → standing_at x does.0.channel ≡ o → SendsMessages (cancel_sent s does.0 o)
    by None at = none-sent
    by (Some Searching) at = none-sent
    by (Some (On c Connecting)) at = none-sent
    by (Some (On c (Creating rights))) at = none-sent
    by (Some (On c Leaving)) at = none-sent
    by (Some (On c Clearing)) at = none-sent
    by (Some (On c Doomed)) at = none-sent
    by (Some (On c (Live n rights))) at =
        let fit = f.subscriptions s does.0 there in
        one-more _ [] (cancel-good _ fit.0 fit.1 (native-at x does.0.channel c n rights f at).0 (wire-under x.subscriptions s does.0 few.subscriptions there)) none-sent

pub clear-speaks : (x y : Client) (h : Handle) (notices : List Notice) (sent : List Sending) → AreFew x → ClientFits x → ClientClears x h (Ok notices) sent y → SpeaksWell y sent
clear-speaks x y h notices sent few f does = does-speak (cleared h does.0 x) y _ sent (cleared-fits h does.0 x f) (by does.0 does.1) does.3
  where
    by : (s : Standing) → standing_at x h ≡ Some s → SendsMessages (clearing_sent h s)
    by Searching at = none-sent
    by (On c Connecting) at = none-sent
    by (On c (Creating rights)) at = none-sent
    by (On c Leaving) at = none-sent
    by (On c Clearing) at = none-sent
    by (On c Doomed) at = none-sent
    by (On c (Live n rights)) at =
        let ch = found-standing x h (On c (Live n rights)) at in
        one-more _ [] (clear-good n.sid (wire_of h) (native-at x h c n rights f at).0 (wire-under x.channels h ch.0 few.channels ch.1)) none-sent
