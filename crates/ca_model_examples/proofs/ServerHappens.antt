-- The events leave these worlds.
use Rattle.std.proofs.Common.{◌≡◌, ◌≢◌, ℕ, ◌<◌, ◌≤◌, ◌+◌, inl, inr, Bool, List, [], ◌∷◌, length, Option, refl, sym, ap, subst, ◌∙◌, arith, rules}
use Rattle.std.specs.Prelude.{true, false, Some, None}
use Rattle.std.specs.List.{list_any}
use Rattle.std.proofs.lemmas.List.{append-nil}
use Rattle.ca_arena.specs.declared.handle.Handle.{Handle}
use Rattle.ca_ids.specs.Table.{Table, same_handle, under, with_changed}
use Rattle.ca_text.specs.Place.{At}
use Rattle.ca_text.specs.declared.refusal.Refusal.TheVariants as refusal
use Rattle.ca_text.proofs.Places.{At-within, some_is}
use Rattle.ca_dbr.specs.Elements.{Elements, signed_bytes_4}
use Rattle.ca_link.specs.Link.{LinkState, TakesFirst, with_rest, with_sent}
use Rattle.ca_queue.specs.Queue.{Queue}
use Rattle.ca_queue.specs.Waiting.{taken}
use Rattle.ca_wire.specs.Fields.{Fields}
use Rattle.ca_wire.specs.Header.{header_spelling, short_header, extended_header, number16, number32}
use Rattle.ca_wire.specs.Message.{IsMessage, header_of, spelled, spelling}
use Rattle.ca_wire.specs.Messages.{search_reply, search_request, version_request}
use Rattle.ca_wire.specs.Stream.{Begins}
use Rattle.ca_wire.proofs.Headers.{header-spells}
use Rattle.ca_wire.proofs.Fronts.{no-header, none-below}
use Rattle.ca_wire.proofs.Streams.{spelled-begins}
use Rattle.ca_dgram.specs.Datagram.{IsDatagram}
use Rattle.ca_model.specs.Ends as why
use Rattle.ca_model.specs.Due.{Action, Adds, Applies, Clears, Drops, Due, Greets, Names, Nothing, Opens, Switches, Waits}
use Rattle.ca_model.specs.Server.{Open, Server, ServerCircuit, ServerEnd, concerns}
use Rattle.ca_model.specs.ServerSteps.{Handles, HasEnd, LacksMemory, Leaves, LeftOf, MayEnd, Next, Pumps, Reaches, Records, Rests, Update, is_concerned, is_write, knows, write_mask}
use Rattle.ca_model.proofs.Handles.{same-is}
use Rattle.ca_model.specs.ServerSteps as stepped
use Rattle.ca_model.specs.Speech.{Stored}
use Rattle.ca_model.specs.Events as event
use Rattle.ca_model.specs.Runs.{CanBe, HasServerEnd, IsServer}
use Rattle.ca_model.specs.ClientEvents.{waiting_up}
use Rattle.ca_text.specs.Name.{IsName}
use Rattle.ca_model.specs.World.{ClientSide, Joined, World}
use Rattle.ca_records.specs.Record.{HoldsValue}
use Rattle.ca_model_examples.specs.ServerRows.{wave}
use Rattle.ca_model_examples.specs.DueReplies.{v22}
use Rattle.ca_model_examples.specs.ServerHappens.{AddHappens, AddsRefused, CannotBe, CutHappens, FinishHappens, FinishesRefused, LackHappens, LacksNotSo, DatagramHappens, PostHappens, PostsRefused, PumpHappens, RemoveHappens, RestartHappens, UpHappens, WriteHappens, cut, of_two, update_told, writing}
use Rattle.ca_model_examples.specs.ServerWorld.{before, client, core_before, joined_0, number_2, end_0, entry_2, first, link, on_slow, on_temp, written}
use Rattle.ca_model_examples.specs.Worlds.{long, temp, temp_name}
use Rattle.ca_model_examples.proofs.DueReplies.{due-of, reads-22}
use Rattle.ca_model_examples.proofs.Lists.{Each, each-at}

-- ---- messages and their bytes

-- a message begins its spelling, alone
pub first-of : (m : Fields) → IsMessage m → (l : LinkState) → l.input.bytes ≡ spelling m → TakesFirst l m []
unfolding spelling
first-of m good l e = (spelling m, record { good = good; head = header_spelling (header_of m); header = header-spells (header_of m) good.header; are = refl }, e ∙ sym (append-nil (spelling m)))

writing-is : IsMessage writing
writing-is = record {
  header = record { command = omega arith; data_type = omega arith; size = omega arith; count = omega arith; p1 = omega arith; p2 = omega arith };
  payload = record { aligned = refl; within = omega arith };
}

-- ---- what is there

nowhere : {A : Type 0} → false ≡ true → A
nowhere e = absurd cc

-- ---- a plain write

write-due : Due (knows (core_before (spelling writing) []) (end_0 (link [] []) (entry_2 ∷ []))) writing [] (Applies temp_name v22 false)
write-due =
    due-of (knows (core_before (spelling writing) []) (end_0 (link [] []) (entry_2 ∷ []))) writing [] (Applies temp_name v22 false) (inl (record { channel = record { sid = 65536; cid = 7; name = temp_name; retired = false }; open_there = (0, refl); under = refl; there = refl; known = record { state = temp; busy = false; waits = 0 }; named = refl }, inr (v22, record { elements = v22; early = refl; reads = reads-22 _ refl refl refl; late = refl; is = refl }, refl, refl))) (λ e. absurd cc)

-- the message of that step
abbrev writing-next : Next (core_before (spelling writing) []) first (end_0 (link (spelling writing) []) (entry_2 ∷ []))
writing-next = record {
  room = omega arith;
  m = writing;
  rest = [];
  takes = first-of writing writing-is (link (spelling writing) []) refl;
  replies = [];
  action = Applies temp_name v22 false;
  after = _;
  handles = record { due = write-due; acted = _; acts = refl; recorded = _; records = refl; leaves = refl };
}

pub write-happens : WriteHappens
write-happens = (
  record { j = _; x = _; y = _; joins = record { at = refl; client = refl; server = refl }; is_open = refl },
  (stepped.Handled, record { e = _; has = refl; core = _; steps = (writing-next, (λ h. false), refl, ((λ h e. nowhere e), refl)); leaves = refl }),
)

-- no write was applied
none-written : (gone : Handle → Bool) → (let none : Option (Handle → Bool) = None in none ≡ Some gone) → ⊥
none-written gone e = cc

-- the circuit of that step
abbrev own : Handle → Bool
own h = same_handle h first

own-concerned : MayEnd writing-next.after temp_name write_mask own
own-concerned h e =
    subst (λ (g : Handle). (c : ServerCircuit) × (under writing-next.after.circuits g ≡ Some c) × (is_concerned temp_name write_mask c ≡ true)) (sym (same-is h first e)) (_, refl, refl)

pub lack-happens : LackHappens
lack-happens = (
  (
    record { j = _; x = _; y = _; joins = record { at = refl; client = refl; server = refl }; is_open = refl },
    (
      stepped.Closed why.OutOfMemory [],
      record { e = _; has = refl; left_is = refl; core = _; lacks = record { next = writing-next; needs = tt; written = None; itself = λ gone e. absurd (none-written gone e); mid = _; left_is = refl; leaves = refl }; leaves = refl },
    ),
  ),
  (
    record { j = _; x = _; y = _; joins = record { at = refl; client = refl; server = refl }; is_open = refl },
    (
      stepped.Closed why.OutOfMemory [],
      record {
        e = _;
        has = refl;
        left_is = refl;
        core = _;
        lacks = record {
          next = writing-next;
          needs = tt;
          written = Some own;
          itself = λ gone e. subst (λ (g : Handle → Bool). g first ≡ true) (some_is own gone e) refl;
          mid = _;
          left_is = (refl, (own-concerned, refl));
          leaves = refl;
        };
        leaves = refl;
      },
    ),
  ),
)

-- a write leaves the circuits as they are, but for its updates
write-circuits : (y : Server) (h : Handle) (e : ServerEnd) (m : Fields) (name : List ℕ) (value : Elements) (busies : Bool) (new : Server) → Records y h e m (Applies name value busies) new → new.circuits ≡ y.circuits
write-circuits y h e m name value false new r = ap (λ (z : Server). z.circuits) r
write-circuits y h e m name value true new r = ap (λ (z : Server). z.circuits) r.2

-- an end with no subscription lacks no memory for an update
module _ (e : ServerEnd) (none : e.subscriptions ≡ []) (next : Next (of_two e) first e) (gone : Handle → Bool) (mid : Server) (own_gone : gone first ≡ true) where
  not-itself : is_write next.action ≡ true → Reaches next.action gone next.after mid → ⊥
  not-itself wrote reaches = go next.action next.handles wrote reaches
    where
      taken : ServerEnd
      taken = record e { link = with_rest next.rest e.link }

      go : (action : Action) → Handles (of_two e) first taken next.m next.replies action next.after → is_write action ≡ true → Reaches action gone next.after mid → ⊥
      go (Applies name value busies) h wrote reaches =
          let sent : ServerEnd = record h.acted { link = with_sent next.replies h.acted.link } in
          let there : under next.after.circuits first ≡ Some (Open sent) =
          ap (λ (z : Server). under z.circuits first) h.leaves
          ∙ ap (λ (t : Table ServerCircuit). under (with_changed (λ (c : ServerCircuit). Open sent) first t) first) (write-circuits (of_two e) first taken next.m name value busies h.recorded h.records) in
          let may = reaches.0 first own_gone in
          let concerned : is_concerned name write_mask (Open sent) ≡ true = subst (λ (c : ServerCircuit). is_concerned name write_mask c ≡ true) (sym (some_is (Open sent) may.0 (sym there ∙ may.1))) may.2 in
          let empty : h.acted.subscriptions ≡ [] = ap (λ (z : ServerEnd). z.subscriptions) h.acts ∙ none in
          nowhere (sym (ap (list_any (concerns name write_mask)) empty) ∙ concerned)
      go (Waits name value) h wrote reaches = nowhere wrote
      go Nothing h wrote reaches = nowhere wrote
      go Greets h wrote reaches = nowhere wrote
      go (Names p) h wrote reaches = nowhere wrote
      go (Opens c) h wrote reaches = nowhere wrote
      go (Clears sid) h wrote reaches = nowhere wrote
      go (Adds s) h wrote reaches = nowhere wrote
      go (Drops key) h wrote reaches = nowhere wrote
      go (Switches on) h wrote reaches = nowhere wrote

-- so that none of its writes is applied
none-applied : (e : ServerEnd) (core : Server) → e.subscriptions ≡ [] → LacksMemory (of_two e) first e core → core.applied ≡ 0
none-applied e core none l = ap (λ (z : Server). z.applied) l.leaves ∙ go l.written l.itself l.left_is
  where
    go : (written : Option (Handle → Bool)) → ((gone : Handle → Bool) → written ≡ Some gone → gone first ≡ true) → LeftOf l.next written l.mid → (l.mid).applied ≡ 0
    go None itself left = ap (λ (z : Server). z.applied) left
    go (Some gone) itself left = absurd (not-itself e none l.next gone l.mid (itself gone refl) left.0 left.1)

pub lacks-not-so : LacksNotSo
lacks-not-so = ((λ core l e. nowhere (l.itself (λ h. false) e)), none-applied)

-- ---- updates leave

-- eight queues of which none has an entry that may be taken
none-taken : (qs : List (Queue Stored)) → Each (λ (i : ℕ) (q : Queue Stored). taken q.events_on q.waiting ≡ None) qs → (e : ServerEnd) → e.queues ≡ qs → Rests e
none-taken qs none e is u new l =
    there-not (sym l.taken_is ∙ each-at (λ (i : ℕ) (q : Queue Stored). taken q.events_on q.waiting ≡ None) qs none u.queue l.q (subst (λ (x : List (Queue Stored)). At x u.queue l.q) is l.at))
  where
    there-not : {A : Type 0} {x : A} → Some x ≡ None → ⊥
    there-not e = cc

pub pump-happens : PumpHappens
unfolding signed_bytes_4 spelling header_spelling short_header extended_header number16 number32
pump-happens = (
  record { j = _; x = _; y = _; joins = record { at = refl; client = refl; server = refl }; is_open = refl },
  record {
    updates =
        record { queue = 0; of = on_slow 2 1; carries = long 0; message = (update_told 2 3 0 0).message }
        ∷ record { queue = 0; of = on_temp 1 1; carries = written 22; message = (update_told 1 2 1 22).message } ∷ [];
    core = _;
    pumps = inl (
      _,
      refl,
      (
        _,
        (
          _,
          record { room = omega arith; q = _; at = refl; first = λ i r less at. absurd (omega (arith, less)); stands = (1, refl); taken_is = refl; shows = (_, refl, refl); leaves = refl },
          (_, record { room = omega arith; q = _; at = refl; first = λ i r less at. absurd (omega (arith, less)); stands = (0, refl); taken_is = refl; shows = (_, refl, refl); leaves = refl }, refl),
        ),
        inl (none-taken _ (refl, (refl, (refl, (refl, (refl, (refl, (refl, (refl, tt)))))))) _ refl, refl),
      ),
    );
    leaves = refl;
  },
)

-- ---- ends

pub cut-happens : CutHappens
cut-happens = (
  record { j = _; x = _; y = _; joins = record { at = refl; client = refl; server = refl }; is_open = refl },
  record { core = _; cuts = inl (_, refl, refl); leaves = refl },
)

pub restart-happens : RestartHappens
restart-happens = (record { y = _; at = refl }, refl)

-- ---- posts

pub post-happens : PostHappens
post-happens = (record { y = _; at = refl }, ((λ h. false), _, inl (((_, refl, refl, omega arith, omega arith), (λ h e. nowhere e), refl), refl)))

pub posts-refused : PostsRefused
posts-refused = (
  (record { y = _; at = refl }, ((λ h. false), _, inr (refusal.UnknownRecord, (λ e. absurd cc), (refl, refl), refl))),
  (record { y = _; at = refl }, ((λ h. false), _, inr (refusal.BadCount, (λ e. absurd cc), ((_, refl, refl, inl refl), refl), refl))),
  (record { y = _; at = refl }, ((λ h. false), _, inr (refusal.BadCount, (λ e. absurd cc), ((_, refl, refl, inr (omega arith)), refl), refl))),
)

-- ---- finishes

pub finish-happens : FinishHappens
unfolding spelling header_spelling short_header number16 number32
finish-happens = (
  record { y = _; at = refl },
  inl (record {
    sent = _;
    core = _;
    finishes = (
      record { r = _; named = refl; p = _; busy = refl; gone = λ h. false; may = λ h e. nowhere e },
      _,
      inl (_, (refl, refl), refl, refl),
      refl,
    );
    cr = _;
    named = refl;
    r = _;
    at = (1, refl, refl);
    p = _;
    busy = refl;
    leaves = refl;
  }),
)

pub finishes-refused : FinishesRefused
finishes-refused = (
  (record { y = _; at = refl }, inr (refusal.UnknownRecord, (refl, refl, refl), refl)),
  (record { y = _; at = refl }, inr (refusal.NotBusy, ((_, refl, refl), refl, refl), refl)),
)

-- ---- records come and go

pub remove-happens : RemoveHappens
unfolding spelling header_spelling short_header number16 number32
remove-happens = (
  (record { y = _; at = refl }, ((λ h. false), (λ h. 0), _, inl ((refl, (λ h e. nowhere e), refl), refl))),
  (record { y = _; at = refl }, ((λ h. false), (λ h. 0), _, inr ((refl, refl), refl))),
)

wave-name : IsName 60 (87 ∷ 65 ∷ 86 ∷ 69 ∷ [])
wave-name = record { some = omega arith; within = omega arith; whole = λ h. search rules }

wave-holds : HoldsValue wave.count wave.value
wave-holds = record { one = omega arith; within = omega arith; limit = omega arith }

pub add-happens : AddHappens
add-happens = (
  (record { y = _; at = refl }, (_, 2, inl (((wave-name, refl, wave-holds, refl), refl), refl))),
  (record { y = _; at = refl }, (_, 1, inl (((wave-name, refl, wave-holds, refl), refl), refl))),
)

temp-is : IsName 60 temp_name
temp-is = record { some = omega arith; within = omega arith; whole = λ h. search rules }

pub adds-refused : AddsRefused
adds-refused = (
  (record { y = _; at = refl }, (_, 0, inr (refusal.RecordExists, (λ e. absurd cc), ((temp-is, refl), refl), refl))),
  (record { y = _; at = refl }, (_, 0, inr (refusal.NameLength, (λ e. absurd cc), ((λ h. (let s = h.some in omega (arith, s))), refl), refl))),
  (record { y = _; at = refl }, (_, 0, inr (refusal.BadCount, (λ e. absurd cc), ((wave-name, refl, (λ h. (let s = h.one in omega (arith, s)))), refl), refl))),
)

-- ---- bytes come

pub up-happens : UpHappens
up-happens = (
  (record { j = _; x = _; y = _; joins = record { at = refl; client = refl; server = refl }; is_open = refl }, omega arith),
  (_, (_, refl, refl), refl),
)

-- ---- a datagram comes

version-is : IsMessage (version_request 0)
version-is = record {
  header = record { command = omega arith; data_type = omega arith; size = omega arith; count = omega arith; p1 = omega arith; p2 = omega arith };
  payload = record { aligned = refl; within = omega arith };
}

search-is : IsMessage (search_request 3 temp_name)
search-is = record {
  header = record { command = omega arith; data_type = omega arith; size = omega arith; count = omega arith; p1 = omega arith; p2 = omega arith };
  payload = record { aligned = refl; within = omega arith };
}

searched : List Fields
searched = version_request 0 ∷ search_request 3 temp_name ∷ []

searched-is : IsDatagram (spelled searched) searched
unfolding searched
searched-is = record {
  rest = [];
  stream = record {
    reads = subst (λ (b : List ℕ). Begins b searched []) (append-nil (spelled searched)) (spelled-begins searched [] (version-is, (search-is, tt)));
    partial = (no-header [] (none-below [] (omega arith))).0;
  };
}

pub datagram-happens : DatagramHappens
unfolding searched
datagram-happens = (
  record { y = _; at = refl },
  (
    _,
    (
      searched,
      searched-is,
      record {
        groups = (search_reply 5064 (search_request 3 temp_name) ∷ []) ∷ [];
        all = refl;
        sizes = λ i g at. each-at (λ (n : ℕ) (x : List Fields). (x ≢ []) × (length x ≤ 42) × (n + 1 < 1 → length x ≡ 42)) ((search_reply 5064 (search_request 3 temp_name) ∷ []) ∷ []) ((((λ e. cc), omega arith, (λ l. absurd (omega (arith, l)))), tt)) i g at;
        are = refl;
      },
    ),
    refl,
  ),
)

-- ---- what cannot be done

no-server : {w : World} → length w.servers ≡ 1 → IsServer w 1 → ⊥
no-server one s = (let h = At-within _ 1 _ s.at in omega (arith, one, h))

shut-end : (w : World) (j : Joined) → At w.circuits 0 j → j.lists.server_open ≡ false → HasServerEnd w 0 → ⊥
shut-end w j at shut h =
    let is : j ≡ h.j = some_is j h.j (sym at ∙ h.joins.at) in
    nowhere (sym shut ∙ ap (λ (k : Joined). k.lists.server_open) is ∙ h.is_open)

no-third : HasServerEnd (before [] []) 2 → ⊥
no-third h = (let l : 2 < 2 = At-within (before [] []).circuits 2 h.j h.joins.at in omega (arith, l))

nothing-up : CanBe (before [] []) (event.Up 0 1) → ⊥
nothing-up h =
    let j : joined_0 [] [] 1 1 (number_2 ∷ []) ≡ h.0.j = some_is _ h.0.j h.0.joins.at in
    let x : client ≡ h.0.x = some_is client h.0.x (subst (λ (k : Joined). At (before [] []).clients k.client h.0.x) (sym j) h.0.joins.client) in
    let n : 1 ≤ length (waiting_up client (joined_0 [] [] 1 1 (number_2 ∷ []))) = subst (λ (k : Joined). 1 ≤ length (waiting_up client k)) (sym j) (subst (λ (c : ClientSide). 1 ≤ length (waiting_up c h.0.j)) (sym x) h.1) in
    let m : 1 ≤ 0 = n in
    omega (arith, m)

pub cannot-be : CannotBe
cannot-be = (no-server refl, no-server refl, no-third, shut-end cut _ refl refl, shut-end cut _ refl refl, shut-end cut _ refl refl, (λ h. shut-end cut _ refl refl h.0), nothing-up)
