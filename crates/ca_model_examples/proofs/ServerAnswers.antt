-- The calls answer so, and not otherwise.
use Rattle.std.proofs.Common.{◌≡◌, ◌≢◌, ℕ, ◌<◌, ◌≤◌, ◌+◌, inl, inr, List, [], ◌∷◌, length, refl, sym, ap, subst, ◌∙◌, arith, rules}
use Rattle.std.specs.Prelude.{◌%◌, Bool, if◌then◌else◌, map, is_some, zero, suc, true, false, Some, None, replicate}
use Rattle.std.specs.List.{flat_map}
use Rattle.ca_arena.specs.declared.handle.Handle.{Handle}
use Rattle.ca_text.specs.Place.{At}
use Rattle.ca_text.specs.declared.refusal.Refusal.TheVariants as refusal
use Rattle.ca_text.proofs.Places.{some_is}
use Rattle.ca_dbr.specs.Elements.{signed_bytes_4}
use Rattle.ca_queue.specs.Queue.{Queue, no_queue}
use Rattle.ca_queue.specs.Waiting.{taken}
use Rattle.ca_records.specs.declared.puts.Put.{Put}
use Rattle.ca_records.specs.Puts.{Record, WaitingPut}
use Rattle.ca_wire.specs.declared.header.Header.{Header}
use Rattle.ca_wire.specs.Fields.{Fields}
use Rattle.ca_wire.specs.Header.{header_spelling, short_header, extended_header, number16, number32}
use Rattle.ca_wire.specs.Message.{spelled, spelling}
use Rattle.ca_wire.specs.Stream.{BadAt, NoneBegins, NotBad}
use Rattle.ca_wire.specs.Messages.{version_reply}
use Rattle.ca_wire.proofs.Fronts.{no-header, none-below}
use Rattle.ca_ids.specs.Table.{Table, under, with_changed, with_each}
use Rattle.ca_link.specs.Link.{with_sent}
use Rattle.ca_model.specs.Ends.{Why}
use Rattle.ca_model.specs.Ends as why
use Rattle.ca_model.specs.ServerSteps as stepped
use Rattle.ca_model.specs.Server.{Ended, Open, Server, ServerCircuit, ServerEnd, key_of}
use Rattle.ca_model.specs.ServerCalls.{after_next, finish_reply, lacking, with_finish, with_message}
use Rattle.ca_model.specs.ServerSteps.{HasEnd, Leaves, Update, is_concerned}
use Rattle.ca_model.specs.Speech.{Stored}
use Rattle.ca_model_examples.specs.ServerHappens.{update_told}
use Rattle.ca_model_examples.specs.ServerRows.{slow_name}
use Rattle.ca_model_examples.specs.ServerAnswers.{AcceptsFirst, AcceptsNotSo, AddsNotSo, AddsToFirst, AnnouncesItself, AnswersSearches, ClearsItsOwn, ClosesOnBadHeader, EndsNoOther, FinishKeepsOpen, FinishesNotSo, FinishesUnawaited, GivesBytes, IsFullAt, LeavesNotSo, NeedsBytes, PacksReplies, PumpsOn, ReportsOnce, SendsBytes, cleared_end, full_queue, misaligned, one_reply, quiet, two_queues, with_slow}
use Rattle.ca_model_examples.specs.ServerWorld.{first, on_temp, put_by, second, slow_now, written}
use Rattle.ca_model_examples.specs.Worlds.{long, temp_name}
use Rattle.ca_model_examples.proofs.Lists.{each-at, none-at}

known : {A : Type 0} → true ≡ false → A
known e = absurd cc

there-not : {A : Type 0} {B : Type 0} {x : A} → Some x ≡ None → B
there-not e = absurd cc

-- ---- circuits come, and get bytes

pub accepts-first : AcceptsFirst
accepts-first = (
  (record { index = omega arith; slot = omega arith; free = refl; next = refl; last = omega arith }, refl),
  (record { index = omega arith; slot = omega arith; free = refl; next = refl; last = omega arith }, refl),
)

pub accepts-not-so : AcceptsNotSo
accepts-not-so = (
  (λ y h. (let i : 1 ≤ 0 = h.0.index in omega (arith, i))),
  (λ y h. there-not h.0.free),
  (λ y h. (let n : 1 ≡ 2 = h.0.next in omega (arith, n))),
  λ y h. known (sym h.0),
)

pub gives-bytes : GivesBytes
gives-bytes = (
  (_, refl, refl),
  ((λ e h. (let x = some_is _ _ h in no-end x)), refl),
  ((λ e h. there-not (sym h)), refl),
  λ y h. h.0 _ refl,
)
  where
    no-end : {e : ServerEnd} {w : _} {l : List ℕ} → Ended w l ≡ Open e → ⊥
    no-end e = cc

abbrev output_size : ServerCircuit → ℕ
output_size (Open e) = length e.link.output
output_size (Ended w l) = 0

pub sends-bytes : SendsBytes
sends-bytes = (
  inl (_, refl, omega arith, refl),
  λ y h. elim h [
    | inl a ↦ (let is = some_is _ _ a.1 in let l : 3 ≡ length a.0.link.output = ap output_size is in let b = a.2 in omega (arith, l, b))
    | inr b ↦ (let n : 4 ≡ 0 = b.1 in omega (arith, n))
  ],
)

-- ---- steps

pub is-full-at : IsFullAt
is-full-at = (
  (λ y e full. ((full, refl), λ new h. (let r = h.0.room in omega (arith, r, full)))),
  λ y e less new h. (let f = h.0 in omega (arith, less, f)),
)

-- fifteen bytes that are zero
no-whole : NoneBegins (replicate 15 0) × NotBad (replicate 15 0)
no-whole = no-header (replicate 15 0) (none-below (replicate 15 0) (omega arith))

pub needs-bytes : NeedsBytes
needs-bytes = (
  (omega arith, no-whole.0, no-whole.1, refl),
  λ new h. no-whole.0 h.0.m h.0.takes.0 h.0.rest h.0.takes.1 h.0.takes.2,
)

abbrev bad : Header
bad = record { command = 4; data_type = 5; size = 12; count = 1; p1 = 65536; p2 = 0 }

is-bad : BadAt misaligned refusal.Misaligned
unfolding short_header number16 number32
is-bad = record {
  header = bad;
  head = misaligned;
  back = [];
  spells = record {
    fits = record { command = omega arith; data_type = omega arith; size = omega arith; count = omega arith; p1 = omega arith; p2 = omega arith };
    form = inl (record { size = omega arith; count = omega arith; are = refl });
  };
  are = refl;
  faults = inl (refl, twelve);
}
  where
    twelve : 12 % 8 ≡ 0 → ⊥
    twelve e = (let f : 4 ≡ 0 = e in omega (arith, f))

pub closes-on-bad-header : ClosesOnBadHeader
closes-on-bad-header = (omega arith, (refusal.Misaligned, is-bad, refl), refl, refl)

pub reports-once : ReportsOnce
reports-once = ((refl, refl), (refl, refl), λ y h. other h.0)
  where
    other : {l : List ℕ} → stepped.Closed why.Cut l ≡ stepped.Closed why.OutOfMemory [] → ⊥
    other e = cc

-- ---- what a message does

pub clears-its-own : ClearsItsOwn
clears-its-own = (refl, refl, refl)

pub adds-to-first : AddsToFirst
adds-to-first = (
  _,
  refl,
  record {
    place = 1;
    q = _;
    at = refl;
    room = omega arith;
    first = λ i r less at. subst (λ (q : Queue Stored). 36 ≤ length q.subscriptions) (before-second i r less at) (omega arith);
    leaves = refl;
  },
)
  where
    before-second : (i : ℕ) (r : Queue Stored) → i < 1 → At (full_queue ∷ no_queue ∷ no_queue ∷ []) i r → full_queue ≡ r
    before-second zero r less at = some_is _ r at
    before-second (suc i) r less at = absurd (omega (arith, less))

-- on no circuit has SLOW a subscription for alarms, and on the first TEMP has none
pub ends-no-other : EndsNoOther
ends-no-other = (
  (λ gone may e. (let h = may second e in known (sym (subst (λ (c : ServerCircuit). is_concerned slow_name 3 c ≡ true) (sym (some_is _ _ h.1)) h.2)))),
  λ gone may e. (let h = may first e in known (sym (subst (λ (c : ServerCircuit). is_concerned temp_name 4 c ≡ true) (sym (some_is _ _ h.1)) h.2))),
)

-- ---- updates

pub leaves-not-so : LeavesNotSo
leaves-not-so = (
  (λ e new u full l. (let r = l.room in omega (arith, r, full))),
  (λ new u is l. there-not (l.first 0 _ (let q = is in omega (arith, q)) refl)),
  λ new u is l. (let q = some_is _ l.q (subst (λ (n : ℕ). At (two_queues false).queues n l.q) is l.at) in there-not (sym (subst (λ (x : Queue Stored). taken x.events_on x.waiting ≡ Some (key_of u.of, u.carries)) (sym q) l.taken_is))),
)

abbrev first_update : Update
first_update = record { queue = 0; of = on_temp 1 1; carries = long 21; message = (update_told 1 2 1 21).message }

-- the first update may leave
may-leave : (new : ServerEnd) × Leaves (two_queues true) first_update new
unfolding signed_bytes_4
may-leave = (_, record { room = omega arith; q = _; at = refl; first = λ i r less at. absurd (omega (arith, less)); stands = (0, refl); taken_is = refl; shows = (_, refl, refl); leaves = refl })

end-is : (a b : ServerEnd) → Open a ≡ Open b → a ≡ b
end-is a b e = cc

open-ended : {A : Type 0} {e : ServerEnd} {w : Why} {l : List ℕ} → Some (Open e) ≡ Some (Ended w l) → A
open-ended e = absurd cc

pub pumps-on : PumpsOn
pumps-on (inl h) =
    let is : two_queues true ≡ h.2.0 = end-is _ h.0 (some_is _ _ h.1) ∙ h.2.1 in
    elim h.2.2 [
      | inl a ↦ a.0 first_update may-leave.0 (subst (λ (e : ServerEnd). Leaves e first_update may-leave.0) is may-leave.1)
      | inr b ↦ open-ended (ap (λ (y : Server). under y.circuits first) b.1)
    ]
pumps-on (inr h) = h.0 _ refl

-- ---- beacons and datagrams

pub announces-itself : AnnouncesItself
unfolding spelling header_spelling short_header extended_header number16 number32
announces-itself = (
  (omega arith, refl, refl),
  (omega arith, refl),
  (omega arith, refl),
  (λ new h. (let l : 25 < 25 = h.0 in omega (arith, l))),
  λ new bytes h. (let l : 25 ≤ 24 = h.0 in omega (arith, l)),
)

pub answers-searches : AnswersSearches
answers-searches = (refl, refl, refl)

no-groups : (gs : List (List Fields)) → flat_map (λ (g : List Fields). g) gs ≡ [] → ((i : ℕ) (g : List Fields) → At gs i g → g ≢ []) → gs ≡ []
no-groups [] e h = refl
no-groups ([] ∷ gs) e h = absurd (h 0 [] refl refl)
no-groups ((m ∷ ms) ∷ gs) e h = absurd cc

some-reply : {m : Fields} {ms : List Fields} → m ∷ ms ≡ [] → ⊥
some-reply e = cc

-- the sizes of groups, of which this is one
abbrev Fits : ℕ → ℕ → List Fields → Type 0
Fits n i g = (g ≢ []) × (length g ≤ 42) × (i + 1 < n → length g ≡ 42)

pub packs-replies : PacksReplies
packs-replies = (
  record { groups = []; all = refl; sizes = λ i g at. absurd (none-at i g at); are = refl },
  record {
    groups = (one_reply ∷ []) ∷ [];
    all = refl;
    sizes = λ i g at. each-at (Fits 1) ((one_reply ∷ []) ∷ []) (((some-reply, omega arith, (λ l. absurd (omega (arith, l)))), tt)) i g at;
    are = refl;
  },
  record {
    groups = replicate 42 one_reply ∷ (one_reply ∷ []) ∷ [];
    all = refl;
    sizes = λ i g at. each-at (Fits 2) (replicate 42 one_reply ∷ (one_reply ∷ []) ∷ []) ((some-reply, omega arith, (λ l. refl)), ((some-reply, omega arith, (λ l. absurd (omega (arith, l)))), tt)) i g at;
    are = refl;
  },
  λ ds p. p.are ∙ ap (λ (gs : List (List Fields)). map (λ (g : List Fields). spelled (version_reply ∷ g)) gs) (no-groups p.groups p.all (λ i g at. (p.sizes i g at).0)),
)

no-sent : {s : Handle × Fields} → s ∷ [] ≡ [] → ⊥
no-sent e = cc

-- ---- finishes

-- the channel of SLOW is not open at this end
no-slow : (e : ServerEnd) → Open (cleared_end []) ≡ Open e → is_some (under e.channels second) ≡ true → ⊥
no-slow e is some = known (sym (subst (λ (c : ServerEnd). is_some (under c.channels second) ≡ true) (sym (end-is _ e is)) some))

pub finishes-unawaited : FinishesUnawaited
finishes-unawaited = (
  record { r = _; named = refl; p = _; busy = refl; gone = λ h. false; may = λ h e. known (sym e) },
  _,
  inr (inl (λ e h. no-slow e (some_is _ _ h.0) h.1), refl, refl),
  refl,
)

pub finishes-not-so : FinishesNotSo
finishes-not-so sent new h =
    let r : slow_now (written 30) (Some (put_by second 40)) [] ≡ h.0.r = some_is _ h.0.r h.0.named in
    let p : put_by second 40 ≡ h.0.p = some_is _ h.0.p (subst (λ (x : Record). x.busy ≡ Some h.0.p) (sym r) h.0.busy) in
    elim h.2 [
      | inl a ↦
          let y : Server = with_slow (slow_now (written 30) (Some (put_by second 40)) [] ∷ []) 0 (cleared_end []) in
          let has : HasEnd y second a.0 = subst (λ (q : Put). HasEnd y q.circuit a.0) (sym p) a.1.0 in
          let open' : is_some (under a.0.channels second) ≡ true = subst (λ (q : Put). is_some (under a.0.channels q.channel) ≡ true) (sym p) a.1.1 in
          no-slow a.0 (some_is _ _ has) open'
      | inr b ↦ no-sent b.1
    ]

open-not : (e : ServerEnd) (w : Why) (left : List ℕ) → Some (Open e) ≡ Some (Ended w left) → ⊥
open-not e w left is = cc

pub finish-keeps-open : FinishKeepsOpen
finish-keeps-open sent new left h ended =
    elim h.2 [
      | inl a ↦ by a.0 a.3 (h.0.gone second) refl
      | inr b ↦ no-sent b.1
    ]
  where
    y : Server
    y = with_slow (slow_now (written 30) (Some (put_by second 40)) [] ∷ []) 0 quiet

    r : slow_now (written 30) (Some (put_by second 40)) [] ≡ h.0.r
    r = some_is _ h.0.r h.0.named

    p : put_by second 40 ≡ h.0.p
    p = some_is _ h.0.p (subst (λ (x : Record). x.busy ≡ Some h.0.p) (sym r) h.0.busy)

    none-waits : h.0.r.waiting ≡ []
    none-waits = ap (λ (x : Record). x.waiting) (sym r)

    by : (e : ServerEnd) → h.1 ≡ with_message h.0.p.circuit e (finish_reply h.0.p) (with_finish slow_name h.0.r y) → (b : Bool) → h.0.gone second ≡ b → ⊥
    by e mid true gone =
        elim (h.0.may second gone) [
          | inl own ↦ no-sent own.2
          | inr next ↦ next.2 none-waits
        ]
    by e mid false stays =
        let done : new ≡ after_next slow_name [] h.0.gone h.1 = subst (λ (ws : List WaitingPut). new ≡ after_next slow_name ws h.0.gone h.1) none-waits h.3 in
        let circuits : h.1.circuits ≡ with_changed (λ (c : ServerCircuit). Open (with_reply e)) second y.circuits =
        ap (λ (x : Server). x.circuits) mid ∙ ap (λ (q : Put). with_changed (λ (c : ServerCircuit). Open (record e { link = with_sent (finish_reply h.0.p ∷ []) e.link })) q.circuit y.circuits) (sym p) in
        open-not (with_reply e) why.OutOfMemory left
        (sym (ap (λ (b : Bool). let c : ServerCircuit = if b then Ended why.OutOfMemory (with_reply e).link.output else Open (with_reply e) in Some c) stays)
        ∙ sym (ap (λ (t : Table ServerCircuit). under (with_each (lacking h.0.gone) t) second) circuits)
        ∙ sym (ap (λ (x : Server). under x.circuits second) done)
        ∙ ended)
      where
        with_reply : ServerEnd → ServerEnd
        with_reply x = record x { link = with_sent (finish_reply h.0.p ∷ []) x.link }

-- ---- adding a record

pub adds-not-so : AddsNotSo
adds-not-so = (
  (λ new behind h. (let w : 61 ≤ 60 = h.0.0.within in omega (arith, w))),
  (λ new behind h. h.0.0.whole (search rules)),
  (λ new behind h. there-not h.0.1),
  (λ new behind h. there-not h.0.1),
  λ new behind h. (let w : 262145 ≤ 262144 = h.0.2.limit in omega (arith, w)),
)
