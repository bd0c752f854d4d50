-- The channels that are live on each circuit: what keeps them listed, and that there
-- is room to tell them.
use Rattle.std.proofs.Common.{◌≡◌, inl, inr, ℕ, suc, ◌≤◌, Bool, true, false, ◌&&◌, cond, List, [], ◌∷◌, ◌++◌, Option, Some, None, append-nil, filter, is_none, length, map, option_map, refl, sym, ap, ◌∙◌, subst, unwrap_or}
use Rattle.std.specs.Prelude.{option_and_then}
use Rattle.std.proofs.lemmas.Bool.{both_ways}
use Rattle.ca_text.specs.Place.{At}
use Rattle.ca_arena.specs.declared.handle.Handle.{Handle}
use Rattle.ca_arena.specs.Arena.{place_at}
use Rattle.ca_arena.proofs.Places.{value_for-some}
use Rattle.ca_ids.specs.Table.{Table, same_handle, under, with_changed, with_freed, with_held}
use Rattle.ca_requests.specs.Requests.{Request, in_order_of_issue, is_open, is_open_in, was_sent_on}
use Rattle.ca_dbr.specs.declared.value.Outcome.TheVariants as outcome
use Rattle.ca_model.specs.Answers as notice
use Rattle.ca_model.specs.Answers.{Closing}
use Rattle.ca_model.specs.Ends.{Why}
use Rattle.ca_model.specs.Client.{Channel, Client, ClientCircuit, Connecting, Connection, Creating, Clearing, Doomed, Leaving, Live, Native, On, Phase, Searching, Standing, channel_on, channels_ended, channels_on, closing, disconnections, farewell, is_live, is_on_in, out_bytes, phase_on, without_ids}
use Rattle.ca_model.specs.ClientEnds.{is_connecting}
use Rattle.ca_model.specs.Placed.{IsPlaced, was_live}
use Rattle.ca_model.proofs.Handles.{same-is, same-itself}
use Rattle.ca_model.proofs.Letting.{ended-back}
use Rattle.ca_model.proofs.Standings.{channel-on, is-on, on-circuit, on-one}
use Rattle.ca_model.proofs.Tables.{changed-back, freed-back, handle-is, held-back, one-value}
use Rattle.ca_client_tables.specs.Ending.{EndsAll, Sought, named_in, sought}
use Rattle.ca_client_tables.specs.Listed.{AreListed, Has, KeepsAll, is_live_in, list_at, lives_in}
use Rattle.ca_client_core.specs.Notices.{as_notices}
use Rattle.ca_client_core.specs.Turns.{TurnsIn}
use Rattle.ca_client_tables.proofs.Ended.{all-ended, with_sought}
use Rattle.ca_client_tables.proofs.Listing.{few-from}

-- ---- where a channel stands

pub on-standing : (test : Phase → Bool) (c : Handle) (ch : Channel) → is_on_in test c ch ≡ true → (p : Phase) × (ch.standing ≡ On c p) × (test p ≡ true)
on-standing test c ch on = go ch.standing refl on
  where
    go : (s : Standing) → ch.standing ≡ s → unwrap_or (option_map test (phase_on c s)) false ≡ true → (p : Phase) × (ch.standing ≡ On c p) × (test p ≡ true)
    go Searching is f = absurd (both_ways false refl f)
    go (On d p) is f = by (same_handle d c) refl f
      where
        by : (b : Bool) → same_handle d c ≡ b → unwrap_or (option_map test (cond b (Some p) None)) false ≡ true → (p : Phase) × (ch.standing ≡ On c p) × (test p ≡ true)
        by true e k = (p, is ∙ ap (λ (h : Handle). On h p) (same-is d c e), k)
        by false e k = absurd (both_ways false refl k)

pub live-is : (t : Table Channel) (h c : Handle) (ch : Channel) → under t h ≡ Some ch → is_on_in is_live c ch ≡ true → is_live_in t h ≡ true
live-is t h c ch there on =
    let s = on-standing is_live c ch on in
    ap (λ (o : Option Channel). unwrap_or (option_map (λ (here : Channel). lives_in here.standing) o) false) there ∙ ap lives_in s.1 ∙ s.2

waits-no : (p : Phase) → was_live p ≡ true → is_connecting p ≡ false
waits-no Connecting f = absurd (both_ways false refl f)
waits-no (Creating rights) f = refl
waits-no (Live n rights) f = refl
waits-no Leaving f = refl
waits-no Clearing f = refl
waits-no Doomed f = refl

live-was : (p : Phase) → is_live p ≡ true → was_live p ≡ true
live-was Connecting f = absurd (both_ways false refl f)
live-was (Creating rights) f = absurd (both_ways false refl f)
live-was (Live n rights) f = refl
live-was Leaving f = refl
live-was Clearing f = refl
live-was Doomed f = absurd (both_ways false refl f)

-- ---- changes of the table

-- nothing new is live
pub listed-thin : (t u : Table Channel) (lists : List (List Handle)) → ((h : Handle) (ch : Channel) (c : Handle) → under u h ≡ Some ch → is_on_in is_live c ch ≡ true → (v : Channel) × (under t h ≡ Some v) × (is_on_in is_live c v ≡ true)) → AreListed t lists → AreListed u lists
listed-thin t u lists were listed h ch c is on = (let was = were h ch c is on in listed h was.0 c was.1 was.2)

-- a channel is somewhere now: it is not live there, or was
pub listed-stood : (s : Standing) (h : Handle) (t u : Table Channel) (lists : List (List Handle)) → ((c : Handle) (v : Channel) → under t h ≡ Some v → unwrap_or (option_map is_live (phase_on c s)) false ≡ true → is_on_in is_live c v ≡ true) → u ≡ with_changed (λ (here : Channel). record here { standing = s }) h t → AreListed t lists → AreListed u lists
listed-stood s h t u lists may is listed = subst (λ (z : Table Channel). AreListed z lists) (sym is) (listed-thin t (with_changed f h t) lists were listed)
  where
    f : Channel → Channel
    f here = record here { standing = s }

    were : (g : Handle) (ch : Channel) (c : Handle) → under (with_changed f h t) g ≡ Some ch → is_on_in is_live c ch ≡ true → (v : Channel) × (under t g ≡ Some v) × (is_on_in is_live c v ≡ true)
    were g ch c there on = elim (changed-back f t g h ch there) [
      | inr old ↦ (ch, old.1, on)
      | inl own ↦ (
        own.1.0,
        subst (λ (k : Handle). under t k ≡ Some own.1.0) (sym own.0) own.1.1,
        may c own.1.0 own.1.1 (subst (λ (z : Channel). is_on_in is_live c z ≡ true) own.1.2 on),
      )
    ]

-- one came to be live, and was listed
pub listed-live : (t u : Table Channel) (h c : Handle) (n : Native) (rights : ℕ) (old new : List (List Handle)) → KeepsAll t old new → Has (list_at new c.index) h → u ≡ with_changed (λ (here : Channel). record here { standing = On c (Live n rights) }) h t → AreListed t old → AreListed u new
listed-live t u h c n rights old new keeps own is listed = subst (λ (z : Table Channel). AreListed z new) (sym is) (λ g ch d there on. elim (changed-back f t g h ch there) [
  | inr before ↦ keeps d.index g (live-is t g d ch before.1 on) (listed g ch d before.1 on)
  | inl mine ↦
      let there_now : is_on_in (λ (p : Phase). true) c (f mine.1.0) ≡ true =
      ap (λ (b : Bool). unwrap_or (option_map (λ (p : Phase). true) (cond b (Some (Live n rights)) None)) false) (same-itself c) in
      let same : c ≡ d = on-one (λ (p : Phase). true) is_live c d (f mine.1.0) there_now (subst (λ (z : Channel). is_on_in is_live d z ≡ true) mine.1.2 on) in
      subst (λ (k : Handle × Handle). Has (list_at new k.0.index) k.1) (λ i. (same i, sym mine.0 i)) own
])
  where
    f : Channel → Channel
    f here = record here { standing = On c (Live n rights) }

-- all that are live on a circuit are listed there
pub room-for : (x : Client) (c : Handle) (lists : List (List Handle)) → AreListed x.channels lists → length (named_in is_live c x.channels) ≤ length (list_at lists c.index)
room-for x c lists listed = few-from is_live c 0 x.channels (list_at lists c.index) (λ h has.
    let at = has-at (named_in is_live c x.channels) h has in
    let r = on-circuit is_live c x at.0 h at.1 in
    listed h r.0 c r.1 r.2)
  where
    has-at : (xs : List Handle) (h : Handle) → Has xs h → (i : ℕ) × At xs i h
    has-at [] h has = absurd has
    has-at (g ∷ gs) h (inl is) = (0, ap (λ (k : Handle). Some k) is)
    has-at (g ∷ gs) h (inr rest) = (let r = has-at gs h rest in (suc r.0, r.1))

-- ---- the end of a circuit

pub one-handle : {T : Type 0} (t : Table T) (h g : Handle) (v w : T) → under t h ≡ Some v → under t g ≡ Some w → g.index ≡ h.index → g ≡ h
one-handle t h g v w found also same =
    let at_h = (value_for-some h.generation (place_at t h.index) v found).0 in
    let at_g = (value_for-some g.generation (place_at t g.index) w also).0 in
    handle-is g h same (sym at_g ∙ ap (λ (i : ℕ). (place_at t i).generation) same ∙ at_h)

-- a channel that was live there shows that the circuit is connected
pub connected-there : (x : Client) (h : Handle) (ch : Channel) (c : Handle) (p : Phase) → IsPlaced x → under x.channels h ≡ Some ch → ch.standing ≡ On c p → was_live p ≡ true → (d : ClientCircuit) × (under x.circuits c ≡ Some d)
connected-there x h ch c p placed there stands live = go (under x.circuits c) refl (sym (placed.waiting h ch c p there stands) ∙ waits-no p live)
  where
    go : (o : Option ClientCircuit) → under x.circuits c ≡ o → is_none (option_and_then (λ (d : ClientCircuit). d.connection) o) ≡ false → (d : ClientCircuit) × (under x.circuits c ≡ Some d)
    go None is f = absurd (both_ways true f refl)
    go (Some d) is f = (d, is)

pub ended-listed : (x : Client) (c : Handle) (d : ClientCircuit) (old new : List (List Handle)) (n : Sought) → under x.circuits c ≡ Some d → EndsAll c x.moment (sought x.channels x.searches) n → IsPlaced x → ((i : ℕ) → (i ≡ c.index → ⊥) → list_at new i ≡ list_at old i) → AreListed x.channels old → AreListed n.channels new
ended-listed x c d old new n found ends placed others listed h ch e there on =
    let y : Client = without_ids c x in
    let is : with_sought y n ≡ channels_ended c y = all-ended c y ends.between n ends.first ends.next in
    let so = on-standing is_live e ch on in
    let was = ended-back c y h ch e so.0 (subst (λ (z : Client). under z.channels h ≡ Some ch) is there) so.1 in
    let there_too = connected-there x h ch e so.0 placed was.0 so.1 (live-was so.0 so.2) in
    subst (λ (hs : List Handle). Has hs h) (sym (others e.index (λ same. was.1 (one-handle x.circuits c e d there_too.0 found there_too.1 same)))) (listed h ch e was.0 on)

-- ---- a circuit that is not there

nobody : (x : Client) (c h : Handle) (ch : Channel) → IsPlaced x → under x.circuits c ≡ None → under x.channels h ≡ Some ch → is_on_in was_live c ch ≡ true → ⊥
nobody x c h ch placed none there on =
    let so = on-standing was_live c ch on in
    let d = connected-there x h ch c so.0 placed there so.1 so.2 in
    nothing d.0 (sym none ∙ d.1)
  where
    nothing : (d : ClientCircuit) → let a : Option ClientCircuit = None in let b : Option ClientCircuit = Some d in a ≡ b → ⊥
    nothing d e = cc

pub none-told : (x : Client) (c : Handle) → IsPlaced x → under x.circuits c ≡ None → farewell c x ≡ []
none-told x c placed none =
    ap (λ (qs : List Handle). map (λ (q : Handle). notice.Completed q outcome.Disconnected) qs ++ map notice.Lost (channels_on is_live c x)) (requests x.issued)
    ∙ ap (map notice.Lost) (channels (channels_on is_live c x) refl)
  where
    closed : (q : Handle) (o : Option Request) → under x.requests q ≡ o → unwrap_or (option_map (λ (r : Request). was_sent_on c r && is_open_in r.stage) o) false ≡ false
    closed q None at = refl
    closed q (Some r) at = by (was_sent_on c r) refl
      where
        by : (b : Bool) → was_sent_on c r ≡ b → (b && is_open_in r.stage) ≡ false
        by true is =
            let live = placed.attached.requests q r at in
            absurd (nobody x c r.channel live.0 placed none live.1 (subst (λ (k : Handle). is_on_in was_live k live.0 ≡ true) (same-is r.circuit c is) live.2))
        by false is = refl

    requests : (qs : List Handle) → filter (is_open (was_sent_on c) x.requests) qs ≡ []
    requests [] = refl
    requests (q ∷ qs) = ap (λ (b : Bool). cond b (q ∷ filter (is_open (was_sent_on c) x.requests) qs) (filter (is_open (was_sent_on c) x.requests) qs)) (closed q (under x.requests q) refl) ∙ requests qs

    channels : (hs : List Handle) → channels_on is_live c x ≡ hs → hs ≡ []
    channels [] is = refl
    channels (h ∷ hs) is =
        let r = on-circuit is_live c x 0 h (subst (λ (gs : List Handle). At gs 0 h) (sym is) refl) in
        let so = on-standing is_live c r.0 r.2 in
        absurd (nobody x c h r.0 placed none r.1
        (ap (λ (s : Standing). unwrap_or (option_map was_live (phase_on c s)) false) so.1
        ∙ ap (λ (b : Bool). unwrap_or (option_map was_live (cond b (Some so.0) None)) false) (same-itself c) ∙ live-was so.0 so.2))

-- one is opened
pub listed-opened : (t u : Table Channel) (lists : List (List Handle)) (h : Handle) (v : Channel) → v.standing ≡ Searching → u ≡ with_held h v t → AreListed t lists → AreListed u lists
listed-opened t u lists h v stands is listed = subst (λ (z : Table Channel). AreListed z lists) (sym is) (λ g ch c there on. elim (held-back t g h v ch there) [
  | inl own ↦ absurd (both_ways false refl (ap (λ (s : Standing). unwrap_or (option_map is_live (phase_on c s)) false) (sym (ap (λ (z : Channel). z.standing) own.1 ∙ stands)) ∙ on))
  | inr old ↦ listed g ch c old on
])

-- one is gone
pub listed-gone : (t u : Table Channel) (lists : List (List Handle)) (h : Handle) → u ≡ with_freed h t → AreListed t lists → AreListed u lists
listed-gone t u lists h is listed = subst (λ (z : Table Channel). AreListed z lists) (sym is) (λ g ch c there on. listed g ch c (freed-back t g h ch there).1 on)

-- one is not live now
pub listed-not : (s : Standing) (h : Handle) (t u : Table Channel) (lists : List (List Handle)) → lives_in s ≡ false → u ≡ with_changed (λ (here : Channel). record here { standing = s }) h t → AreListed t lists → AreListed u lists
listed-not s h t u lists none is listed = listed-stood s h t u lists (λ c v there on. absurd (both_ways (lives_in s) none (lives c s on))) is listed
  where
    lives : (c : Handle) (z : Standing) → unwrap_or (option_map is_live (phase_on c z)) false ≡ true → lives_in z ≡ true
    lives c Searching f = f
    lives c (On d p) f = go (same_handle d c) f
      where
        go : (b : Bool) → unwrap_or (option_map is_live (cond b (Some p) None)) false ≡ true → is_live p ≡ true
        go true k = k
        go false k = absurd (both_ways false refl k)

-- one comes to another phase, and is live only if it was
pub listed-turned : (h c : Handle) (next : Phase) (t u : Table Channel) (lists : List (List Handle)) → TurnsIn h c next t → (is_live next ≡ true → is_live_in t h ≡ true) → u ≡ with_changed (λ (here : Channel). record here { standing = On c next }) h t → AreListed t lists → AreListed u lists
listed-turned h c next t u lists turn alive is listed = listed-stood (On c next) h t u lists may is listed
  where
    may : (d : Handle) (v : Channel) → under t h ≡ Some v → unwrap_or (option_map is_live (cond (same_handle c d) (Some next) None)) false ≡ true → is_on_in is_live d v ≡ true
    may d v there on = go (same_handle c d) refl on
      where
        go : (b : Bool) → same_handle c d ≡ b → unwrap_or (option_map is_live (cond b (Some next) None)) false ≡ true → is_on_in is_live d v ≡ true
        go false e f = absurd (both_ways false refl f)
        go true e f =
            let stands : v.standing ≡ On c turn.phase = ap (λ (z : Channel). z.standing) (one-value t h v turn.channel there turn.there) ∙ turn.stands in
            let live : is_live turn.phase ≡ true =
            ap lives_in (sym stands)
            ∙ ap (λ (o : Option Channel). unwrap_or (option_map (λ (z : Channel). lives_in z.standing) o) false) (sym there) ∙ alive f in
            subst (λ (k : Handle). is_on_in is_live k v ≡ true) (same-is c d e) (is-on is_live c v turn.phase stands ∙ live)

-- the channel that a message is about is live
pub live-found : (x : Client) (c : Handle) (cid : ℕ) (h : Handle) (p : Phase) → channel_on x c cid ≡ Some (h, p) → is_live p ≡ true → is_live_in x.channels h ≡ true
live-found x c cid h p at live =
    let found = channel-on x c cid h p at in
    live-is x.channels h c found.0 found.1 (is-on is_live c found.0 p found.3 ∙ live)

-- ---- the answer to an end

pub closing-gone : (why : Why) (x : Client) (c : Handle) → IsPlaced x → under x.circuits c ≡ None → (k : Closing) → k.why ≡ why → k.notices ≡ [] → k.left ≡ [] → k ≡ closing why c x
closing-gone why x c placed none k same told left = λ i. record {
  why = same i;
  notices = (told ∙ sym (none-told x c placed none)) i;
  left = (left ∙ sym (ap (λ (o : Option ClientCircuit). unwrap_or (option_map (λ (e : Connection). e.link.output) (option_and_then (λ (d : ClientCircuit). d.connection) o)) []) none)) i;
}

-- more is listed
pub listed-noted : (t : Table Channel) (old new : List (List Handle)) → KeepsAll t old new → AreListed t old → AreListed t new
listed-noted t old new keeps listed h ch c there on = keeps c.index h (live-is t h c ch there on) (listed h ch c there on)

pub closing-told : (why : Why) (x : Client) (c : Handle) (told lost : List Handle) (ns : List notice.Notice) (left : List ℕ) → told ≡ in_order_of_issue (was_sent_on c) x.requests x.issued → lost ≡ channels_on is_live c x → ns ≡ as_notices told lost None → left ≡ out_bytes x c → ◌≡◌ {A = Closing} (record { why = why; notices = ns; left = left }) (closing why c x)
closing-told why x c told lost ns left t l is bytes =
    let all : ns ≡ farewell c x =
    is ∙ (λ i. as_notices (t i) (l i) None) ∙ ap (λ (more : List notice.Notice). disconnections (was_sent_on c) x ++ more) (append-nil (map notice.Lost (channels_on is_live c x))) in
    λ i. record { why = why; notices = all i; left = bytes i }
