-- What a message did is told of its server, from what was known before its step.
use Rattle.std.proofs.Common.{◌≡◌, ℕ, zero, suc, ◌+◌, ◌≤◌, inl, inr, Bool, true, false, cond, not, List, [], ◌∷◌, ◌++◌, Option, Some, None, length, map, refl, sym, ap, subst, ◌∙◌, arith}
use Rattle.std.specs.Prelude.{Vec, if◌then◌else◌}
use Rattle.std.specs.declared.alloc.Global.{Global}
use Rattle.std.specs.Str.{bytes_eq}
use Rattle.std.proofs.lemmas.List.{append-nil, length-append, length-map}
use Rattle.std.proofs.lemmas.Slice.Eq.{bytes_eq-Decides}
use Rattle.ca_arena.specs.declared.handle.Handle.{Handle}
use Rattle.ca_dbr.specs.Elements.{Elements}
use Rattle.ca_records.specs.declared.puts.Put.{Put}
use Rattle.ca_records.specs.Puts.{WaitingPut, record_named, written_meta}
use Rattle.ca_text.specs.Command.{command_number}
use Rattle.ca_text.specs.declared.command.Command.TheVariants as command
use Rattle.ca_text.specs.Place.{At}
use Rattle.ca_wire.specs.Fields.{Fields}
use Rattle.ca_model.specs.Due.{Action, Adds, Applies, Clears, Drops, Due, Greets, Knows, Names, Nothing, Opens, PutTaken, Serves, Switches, Waits, key_in, must_wait, subscription_in}
use Rattle.ca_model.specs.History.{Entry}
use Rattle.ca_model.specs.History as history
use Rattle.ca_model.specs.Server.{Server, ServerEnd}
use Rattle.ca_model.specs.ServerSteps.{HasEnd, is_write, knows, stored_now, write_mask}
use Rattle.ca_model.specs.ServerEvents.{is_of_channel, logged_by, number_of, numbers_posted, places_where, records_after, with_record, write_numbers}
use Rattle.ca_model.specs.World.{Joined, PutPlace, RecordSide, grown}
use Rattle.ca_server_circuit.specs.Effects.{effect_due}
use Rattle.ca_server_circuit.specs.declared.effect.Effect.{Effect}
use Rattle.ca_world_data.specs.declared.history.LogEntry.{LogEntry as Written}
use Rattle.ca_world_data.specs.declared.server.RecordSide.{RecordSide as Kept}
use Rattle.ca_world_data.specs.declared.server.ServerSide.{ServerSide}
use Rattle.ca_world_data.specs.Reporting.{waits}
use Rattle.ca_world_data.specs.Seen.{entry_of, place_of, record_of, server_of}
use Rattle.ca_world_data.specs.ServerCuts.{HasRoomFor}
use Rattle.ca_world_servers.specs.declared.ahead.Ahead.{Ahead}
use Rattle.ca_world_servers.specs.declared.coming.Coming.{Coming}
use Rattle.ca_world_servers.specs.declared.parting.Parting.{Parting}
use Rattle.ca_world_servers.specs.Coming.{IsComing}
use Rattle.ca_world_servers.specs.Effects.{AreApart, IsAhead, IsParting, IsPartingOf, IsWrite, TellsAction, TellsClear, TellsMessage, TellsWait, TellsWrite, busy_after, written}
use Rattle.ca_world_servers.specs.Handling.{made_busy, with_waiting}
use Rattle.ca_world_servers.specs.Parting.{AreBeside, all_gone, all_kept, gone_of, kept_of, places_in, puts_of, with_kept, withdrawn_at}
use Rattle.ca_world_servers.proofs.Dealt.{busies_of, due-cases, idle}
use Rattle.ca_world_servers.proofs.Parted.{parts-gone, parts-kept}

-- ---- what a message is that does something

-- the message is a write, which writes this value to the record of this name
pub record Takes (k : Knows) (m : Fields) (name : List ℕ) (value : Elements) : Type 0 where
  pub writes : IsWrite m
  pub c : Serves k m.p1
  pub named_it : c.channel.name ≡ name
  pub taken : PutTaken k m c value

-- what a message is that does this
abbrev pub Came : Knows → Fields → Action → Type 0
Came k m (Applies name value busies) = Takes k m name value
Came k m (Waits name value) = Takes k m name value
Came k m (Clears sid) = (m.command ≡ command_number command.ClearChannel) × (sid ≡ m.p1)
Came k m action = Unit {0}

-- What is done says what came.
pub came : (k : Knows) (m : Fields) (replies : List Fields) (did : Action) → Due k m replies did → Came k m did
came k m replies did due = due-cases k m replies did (Came k m did) due (record {
  nothing = λ is. by Nothing is tt;
  greets = λ is. by Greets is tt;
  names = λ p is. by (Names p) is tt;
  opens = λ n c is. by (Opens c) is tt;
  clears = λ n is. by (Clears m.p1) is (n, refl);
  adds = λ n c none is. by (Adds (subscription_in m c.channel.name)) is tt;
  drops = λ n is. by (Drops (key_in m)) is tt;
  off = λ n is. by (Switches false) is tt;
  on = λ n is. by (Switches true) is tt;
  writes = λ n c v taken is. by (Applies c.channel.name v false) is (record { writes = inl n; c = c; named_it = refl; taken = taken });
  puts = λ n c v taken is. put (must_wait k m c) n c v taken is;
})
  where
    by : (a : Action) → did ≡ a → Came k m a → Came k m did
    by a is came = subst (λ (x : Action). Came k m x) (sym is) came

    put : (b : Bool) → m.command ≡ command_number command.WriteNotify → (c : Serves k m.p1) (v : Elements) → PutTaken k m c v → did ≡ cond b (Waits c.channel.name v) (Applies c.channel.name v c.known.state.slow) → Came k m did
    put true n c v taken is = by (Waits c.channel.name v) is (record { writes = inr n; c = c; named_it = refl; taken = taken })
    put false n c v taken is = by (Applies c.channel.name v c.known.state.slow) is (record { writes = inr n; c = c; named_it = refl; taken = taken })

-- ---- a write that was foreseen

-- the write was foreseen by this name and with this value
pub record ComesAs (name : List ℕ) (value : Elements) (write : Option Coming) : Type 0 where
  pub w : Coming
  pub is : write ≡ Some w
  pub named_it : name ≡ w.name.items
  pub valued : value ≡ w.held

comes-as : (k : Knows) (m : Fields) (c : Serves k m.p1) (name : List ℕ) (value : Elements) (write : Option Coming) → c.channel.name ≡ name → IsComing k m c value write → ComesAs name value write
comes-as k m c name value (Some w) named_so comes = record { w = w; is = refl; named_it = sym named_so ∙ comes.0; valued = comes.1 }
comes-as k m c name value None named_so comes = absurd comes

-- What is known of a message that a server handled whose core was this, on the circuit of this
-- handle: what was due for it and done, and what was seen before. The records are beside the
-- core's, and no stamp was handed to it.
pub record WasDone (before : Server) (h : Handle) (records : List RecordSide) (a : Ahead) (m : Fields) (action : Action) : Type 0 where
  pub e : ServerEnd
  pub has : HasEnd before h e
  pub replies : List Fields
  pub due : Due (knows before e) m replies action
  pub ahead : IsAhead before h records m a
  pub beside : AreBeside before.records records
  pub unstamped : before.stamp ≡ record { seconds = 0; nanos = 0 }

module _ (before : Server) (h : Handle) (rs : List RecordSide) (a : Ahead) (m : Fields) where
  foreseen-by : (action : Action) (d : WasDone before h rs a m action) (name : List ℕ) (value : Elements) → Takes (knows before d.e) m name value → ComesAs name value a.write
  foreseen-by action d name value t =
      comes-as (knows before d.e) m t.c name value a.write t.named_it (d.ahead.writes t.writes d.e d.has t.c value t.taken)

  applies-as : (name : List ℕ) (value : Elements) (busies : Bool) → WasDone before h rs a m (Applies name value busies) → ComesAs name value a.write
  applies-as name value busies d = foreseen-by (Applies name value busies) d name value (came (knows before d.e) m d.replies (Applies name value busies) d.due)

  waits-as : (name : List ℕ) (value : Elements) → WasDone before h rs a m (Waits name value) → ComesAs name value a.write
  waits-as name value d = foreseen-by (Waits name value) d name value (came (knows before d.e) m d.replies (Waits name value) d.due)

  -- what is known of the channel that is cleared
  clears-as : (sid : ℕ) → WasDone before h rs a m (Clears sid) → (p : Parting) × (a.parting ≡ Some p) × IsParting before h sid rs p
  clears-as sid d =
      let is = came (knows before d.e) m d.replies (Clears sid) d.due in
      let parts = d.ahead.clears is.0 in
      (parts.0, parts.1, subst (λ (n : ℕ). IsParting before h n rs parts.0) (sym is.1) parts.2)

-- the value is stored with its alarm, and no stamp
stored-as : (before : Server) (value : Elements) (w : Coming) → before.stamp ≡ record { seconds = 0; nanos = 0 } → value ≡ w.held → written w ≡ stored_now before value
stored-as before value w header_only is = λ t. record { value = sym is t; meta = written_meta (sym is t) (sym header_only t) }

-- ---- what is told

pub map-same : {A : Type 0} (f : A → A) (xs : List A) → ((x : A) → f x ≡ x) → xs ≡ map f xs
map-same f [] same = refl
map-same f (x ∷ xs) same = λ t. sym (same x) t ∷ map-same f xs same t

busy-as : (before : Server) (h : Handle) (p : PutPlace) (name : List ℕ) (value : Elements) (busies : Bool) (rs : List RecordSide) → busy_after busies name p rs ≡ records_after before h p (Applies name value busies) rs
busy-as before h p name value true rs = refl
busy-as before h p name value false rs = refl

-- no more entries
grown-by-none : {A : Type 0} (logs : List (List A)) (life : ℕ) → logs ≡ grown life [] logs
grown-by-none [] life = refl
grown-by-none (l ∷ ls) zero = ap (λ (z : List _). z ∷ ls) (sym (append-nil l))
grown-by-none (l ∷ ls) (suc n) = ap (λ (z : List (List _)). l ∷ z) (grown-by-none ls n)

module _ (i : ℕ) (p : PutPlace) (before : Server) (h : Handle) (y : ServerSide) (ks : List Joined) (logs : List (List Entry)) where
  abbrev records : List RecordSide
  records = map record_of y.records.items

  -- of a write that is applied
  write-told : (name : List ℕ) (value : Elements) (busies : Bool) (w : Coming) (y' : ServerSide) (ks' : List Joined) (logs' : List (List Entry)) → name ≡ w.name.items → value ≡ w.held → before.stamp ≡ record { seconds = 0; nanos = 0 }
      → TellsWrite i p (Some busies) (Some w) y ks logs y' ks' logs' → TellsAction i p before h (Applies name value busies) y ks logs y' ks' logs'
  write-told name value busies w y' ks' logs' names is header_only (told, numbers) =
      let stored : written w ≡ stored_now before value = stored-as before value w header_only is in
      let left : busy_after busies w.name.items p records ≡ records_after before h p (Applies name value busies) records = ap (λ (n : List ℕ). busy_after busies n p records) (sym names) ∙ busy-as before h p name value busies records in
      record {
        side = told.side ∙ (λ t. record (server_of y) { records = left t });
        numbers = told.numbers;
        circuits = numbers ∙ ap (λ (n : List ℕ). map (numbers_posted i y.core n write_mask) ks) (sym names);
        logged = told.logged ∙ (λ t. grown y.life (history.Applied p.circuit p.place (number_of (sym names t) records) (stored t) busies ∷ []) logs);
      }

  -- of a put that waits
  wait-told : (name : List ℕ) (value : Elements) (w : Coming) (y' : ServerSide) (logs' : List (List Entry)) → name ≡ w.name.items → value ≡ w.held → before.stamp ≡ record { seconds = 0; nanos = 0 }
      → TellsWait p (Some w) y logs y' logs' → TellsAction i p before h (Waits name value) y ks logs y' ks logs'
  wait-told name value w y' logs' names is header_only told =
      let stored : written w ≡ stored_now before value = stored-as before value w header_only is in
      record {
        side = told.side ∙ (λ t. record (server_of y) { records = with_record (sym names t) (with_waiting p) records });
        numbers = told.numbers;
        circuits = map-same (write_numbers i y.core (Waits name value)) ks (λ j. refl);
        logged = told.logged ∙ (λ t. grown y.life (history.Waits p.circuit p.place (number_of (sym names t) records) (stored t) ∷ []) logs);
      }

  -- of a channel that is cleared
  clear-told : (sid : ℕ) (q : Parting) (y' : ServerSide) (logs' : List (List Entry)) → IsParting before h sid records q → AreBeside before.records records
      → TellsClear (Some q) y logs y' logs' → TellsAction i p before h (Clears sid) y ks logs y' ks logs'
  clear-told sid q y' logs' parts beside told = record {
    side = told.side ∙ (λ t. record (server_of y) { records = (ap (λ (kept : List (List PutPlace)). with_kept kept records) parts.kept ∙ parts-kept before h sid records beside) t });
    numbers = told.numbers;
    circuits = map-same (write_numbers i y.core (Clears sid)) ks (λ j. refl);
    logged = told.logged ∙ ap (λ (es : List Entry). grown y.life es logs) (parts.told ∙ parts-gone before h sid records beside);
  }

  -- of all else there is nothing to tell
  none-told : (action : Action) → records_after before h p action records ≡ records → logged_by before h p action records ≡ [] → ((j : Joined) → write_numbers i y.core action j ≡ j) → TellsAction i p before h action y ks logs y ks logs
  none-told action same none still = record {
    side = λ t. record (server_of y) { records = sym same t };
    numbers = refl;
    circuits = map-same (write_numbers i y.core action) ks still;
    logged = grown-by-none logs y.life ∙ ap (λ (es : List Entry). grown y.life es logs) (sym none);
  }

  -- ---- by what was seen of it

  module _ (a : Ahead) (m : Fields) where
    tells-write : (name : List ℕ) (value : Elements) (busies : Bool) (y' : ServerSide) (ks' : List Joined) (logs' : List (List Entry)) → WasDone before h records a m (Applies name value busies)
        → TellsWrite i p (Some busies) a.write y ks logs y' ks' logs' → TellsAction i p before h (Applies name value busies) y ks logs y' ks' logs'
    tells-write name value busies y' ks' logs' d told =
        let it = applies-as before h records a m name value busies d in
        write-told name value busies it.w y' ks' logs' it.named_it it.valued d.unstamped (subst (λ (z : Option Coming). TellsWrite i p (Some busies) z y ks logs y' ks' logs') it.is told)

    tells-wait : (name : List ℕ) (value : Elements) (y' : ServerSide) (logs' : List (List Entry)) → WasDone before h records a m (Waits name value) → TellsWait p a.write y logs y' logs' → TellsAction i p before h (Waits name value) y ks logs y' ks logs'
    tells-wait name value y' logs' d told =
        let it = waits-as before h records a m name value d in
        wait-told name value it.w y' logs' it.named_it it.valued d.unstamped (subst (λ (z : Option Coming). TellsWait p z y logs y' logs') it.is told)

    tells-clear : (sid : ℕ) (y' : ServerSide) (logs' : List (List Entry)) → WasDone before h records a m (Clears sid) → TellsClear a.parting y logs y' logs' → TellsAction i p before h (Clears sid) y ks logs y' ks logs'
    tells-clear sid y' logs' d told =
        let it = clears-as before h records a m sid d in
        clear-told sid it.0 y' logs' it.2 d.beside (subst (λ (z : Option Parting). TellsClear z y logs y' logs') it.1 told)

    tells-none : (action : Action) (y' : ServerSide) (ks' : List Joined) (logs' : List (List Entry)) → records_after before h p action records ≡ records → logged_by before h p action records ≡ [] → ((j : Joined) → write_numbers i y.core action j ≡ j)
        → (y' ≡ y) × (ks' ≡ ks) × (logs' ≡ logs) → TellsAction i p before h action y ks logs y' ks' logs'
    tells-none action y' ks' logs' same none still (side, circuits, logged) =
        subst (λ (z : ServerSide × (List Joined × List (List Entry))). TellsAction i p before h action y ks logs z.0 z.1.0 z.1.1) (λ t. (sym side t, (sym circuits t, sym logged t))) (none-told action same none still)

    -- What is told of a write is what it did.
    pub tells-busies : (action : Action) (y' : ServerSide) (ks' : List Joined) (logs' : List (List Entry)) → is_write action ≡ true → WasDone before h records a m action → TellsWrite i p (busies_of action) a.write y ks logs y' ks' logs' → TellsAction i p before h action y ks logs y' ks' logs'
    tells-busies (Applies name value busies) y' ks' logs' is d told = tells-write name value busies y' ks' logs' d told
    tells-busies (Waits name value) y' ks' logs' is d told = absurd cc
    tells-busies (Clears sid) y' ks' logs' is d told = absurd cc
    tells-busies Nothing y' ks' logs' is d told = absurd cc
    tells-busies Greets y' ks' logs' is d told = absurd cc
    tells-busies (Names peer) y' ks' logs' is d told = absurd cc
    tells-busies (Opens c) y' ks' logs' is d told = absurd cc
    tells-busies (Adds s) y' ks' logs' is d told = absurd cc
    tells-busies (Drops key) y' ks' logs' is d told = absurd cc
    tells-busies (Switches on) y' ks' logs' is d told = absurd cc

    -- What is told of a message by its effect is what it did.
    pub tells-action : (action : Action) (y' : ServerSide) (ks' : List Joined) (logs' : List (List Entry)) → WasDone before h records a m action → TellsMessage i p (effect_due m action) a.write a.parting y ks logs y' ks' logs' → TellsAction i p before h action y ks logs y' ks' logs'
    tells-action (Applies name value true) y' ks' logs' d told = tells-write name value true y' ks' logs' d told
    tells-action (Applies name value false) y' ks' logs' d told = tells-write name value false y' ks' logs' d told
    tells-action (Waits name value) y' ks' logs' d told =
        subst (λ (zs : List Joined). TellsAction i p before h (Waits name value) y ks logs y' zs logs') (sym told.1) (tells-wait name value y' logs' d told.0)
    tells-action (Clears sid) y' ks' logs' d told =
        subst (λ (zs : List Joined). TellsAction i p before h (Clears sid) y ks logs y' zs logs') (sym told.1) (tells-clear sid y' logs' d told.0)
    tells-action (Opens c) y' ks' logs' d told = tells-none (Opens c) y' ks' logs' refl refl (λ j. refl) told
    tells-action (Adds s) y' ks' logs' d told = tells-none (Adds s) y' ks' logs' refl refl (λ j. refl) told
    tells-action (Drops key) y' ks' logs' d told = tells-none (Drops key) y' ks' logs' refl refl (λ j. refl) told
    tells-action (Switches on) y' ks' logs' d told = tells-none (Switches on) y' ks' logs' refl refl (λ j. refl) told
    tells-action (Names peer) y' ks' logs' d told = tells-none (Names peer) y' ks' logs' refl refl (λ j. refl) told
    tells-action Greets y' ks' logs' d told = tells-none Greets y' ks' logs' refl refl (λ j. refl) told
    tells-action Nothing y' ks' logs' d told =
        tells-none Nothing y' ks' logs' refl refl (λ j. refl)
        (idle (λ (e : Effect). TellsMessage i p e a.write a.parting y ks logs y' ks' logs' → (y' ≡ y) × (ks' ≡ ks) × (logs' ≡ logs)) m (λ t. t) (λ t. t) (λ t. t) told)

-- ---- room

pub room-less : (life n many : ℕ) (logs : List (Vec Written Global)) → n ≤ many → HasRoomFor many life logs → HasRoomFor n life logs
room-less life n many logs le room = λ log at. (let had = room log at in omega (arith, had, le))

-- how many puts wait for these records
abbrev pub waits_by : List RecordSide → ℕ
waits_by [] = 0
waits_by (r ∷ rs) = length r.waiting + waits_by rs

pub counts-as : (rs : List Kept) → waits rs ≡ waits_by (map record_of rs)
counts-as [] = refl
counts-as (r ∷ rs) = λ t. sym (length-map r.waiting.items place_of) t + counts-as rs t

counts-busy-all : (name : List ℕ) (p : PutPlace) (rs : List RecordSide) → waits_by (with_record name (made_busy p) rs) ≡ waits_by rs
counts-busy-all name p [] = refl
counts-busy-all name p (r ∷ rs) = λ t. one (bytes_eq r.name name) t + counts-busy-all name p rs t
  where
    one : (b : Bool) → length (if b then made_busy p r else r).waiting ≡ length r.waiting
    one true = refl
    one false = refl

counts-busy : (busies : Bool) (name : List ℕ) (p : PutPlace) (rs : List RecordSide) → waits_by (busy_after busies name p rs) ≡ waits_by rs
counts-busy true name p rs = counts-busy-all name p rs
counts-busy false name p rs = refl

-- of records none of which has the name, none has a put more
counts-none : (name : List ℕ) (p : PutPlace) (rs : List RecordSide) → ((j : ℕ) (r : RecordSide) → At rs j r → r.name ≡ name → ⊥) → waits_by (with_record name (with_waiting p) rs) ≡ waits_by rs
counts-none name p [] none = refl
counts-none name p (r ∷ rs) none = λ t. one (bytes_eq r.name name) refl t + counts-none name p rs (λ j s at. none (suc j) s at) t
  where
    one : (b : Bool) → bytes_eq r.name name ≡ b → length (if b then with_waiting p r else r).waiting ≡ length r.waiting
    one true is = absurd (none 0 r refl ((bytes_eq-Decides r.name name).0 is))
    one false is = refl

-- one has it
counts-wait : (name : List ℕ) (p : PutPlace) (rs : List RecordSide) → AreApart rs → waits_by (with_record name (with_waiting p) rs) ≤ waits_by rs + 1
counts-wait name p [] apart = omega arith
counts-wait name p (r ∷ rs) apart = go (bytes_eq r.name name) refl (counts-wait name p rs (λ i j a b at there same. (let e = apart (suc i) (suc j) a b at there same in omega (arith, e))))
  where
    rest : List RecordSide
    rest = with_record name (with_waiting p) rs

    go : (b : Bool) → bytes_eq r.name name ≡ b → waits_by rest ≤ waits_by rs + 1 → waits_by ((if b then with_waiting p r else r) ∷ rest) ≤ waits_by (r ∷ rs) + 1
    go true is later =
        let mine : r.name ≡ name = (bytes_eq-Decides r.name name).0 is in
        let others : waits_by rest ≡ waits_by rs = counts-none name p rs (λ j s at its. (let e = apart 0 (suc j) r s refl at (mine ∙ sym its) in omega (arith, e))) in
        let here : length (r.waiting ++ p ∷ []) ≡ length r.waiting + length (p ∷ []) = length-append r.waiting (p ∷ []) in
        omega (arith, others, here)
    go false is later = omega (arith, later)

-- of the puts of one record, those that are kept and those that are gone
counts-where : (test : Put → Bool) (puts : List WaitingPut) (ps : List PutPlace) → length (places_where (λ (q : Put). not (test q)) puts ps) + length (places_where test puts ps) ≤ length ps
counts-where test [] ps = omega arith
counts-where test (w ∷ puts) [] = omega arith
counts-where test (w ∷ puts) (p ∷ ps) = go (test w.put) (counts-where test puts ps)
  where
    kept : List PutPlace
    kept = places_where (λ (q : Put). not (test q)) puts ps

    gone : List PutPlace
    gone = places_where test puts ps

    go : (b : Bool) → length kept + length gone ≤ length ps → length (if not b then p ∷ kept else kept) + length (if b then p ∷ gone else gone) ≤ length (p ∷ ps)
    go true le = omega (arith, le)
    go false le = omega (arith, le)

counts-parted : (core : Server) (h : Handle) (sid : ℕ) (rs : List RecordSide) → waits_by (with_kept (all_kept core h sid rs) rs) + length (all_gone core h sid rs) ≤ waits_by rs
counts-parted core h sid [] = omega arith
counts-parted core h sid (r ∷ rs) =
    let later = counts-parted core h sid rs in
    let here : length (kept_of core h sid r) + length (gone_of core h sid r) ≤ length r.waiting = counts-where (is_of_channel h sid) (puts_of (record_named core.records r.name)) r.waiting in
    let all : length (map withdrawn_at (gone_of core h sid r) ++ all_gone core h sid rs) ≡ length (map withdrawn_at (gone_of core h sid r)) + length (all_gone core h sid rs) = length-append (map withdrawn_at (gone_of core h sid r)) (all_gone core h sid rs) in
    let mapped : length (map withdrawn_at (gone_of core h sid r)) ≡ length (gone_of core h sid r) = length-map (gone_of core h sid r) withdrawn_at in
    omega (arith, later, here, all, mapped)

-- these records are left of those of a server, once one entry was told
room-one : (y : ServerSide) (rs : List Kept) (left : List RecordSide) (logs logs' : List (Vec Written Global)) → map record_of rs ≡ left → waits_by left ≤ waits_by (map record_of y.records.items) + 1
    → HasRoomFor (waits y.records.items + 2) y.life logs → ((n : ℕ) → HasRoomFor (n + 1) y.life logs → HasRoomFor n y.life logs') → HasRoomFor (waits rs) y.life logs'
room-one y rs left logs logs' is few room after =
    let was : waits y.records.items ≡ waits_by (map record_of y.records.items) = counts-as y.records.items in
    let now : waits rs ≡ waits_by left = counts-as rs ∙ ap waits_by is in
    after (waits rs) (room-less y.life (waits rs + 1) (waits y.records.items + 2) logs (omega (arith, few, was, now)) room)

pub room-write : (busies : Bool) (name : List ℕ) (p : PutPlace) (y : ServerSide) (rs : List Kept) (logs logs' : List (Vec Written Global)) → map record_of rs ≡ busy_after busies name p (map record_of y.records.items)
    → HasRoomFor (waits y.records.items + 2) y.life logs → ((n : ℕ) → HasRoomFor (n + 1) y.life logs → HasRoomFor n y.life logs') → HasRoomFor (waits rs) y.life logs'
room-write busies name p y rs logs logs' is =
    let same : waits_by (busy_after busies name p (map record_of y.records.items)) ≡ waits_by (map record_of y.records.items) = counts-busy busies name p (map record_of y.records.items) in
    room-one y rs (busy_after busies name p (map record_of y.records.items)) logs logs' is (omega (arith, same))

pub room-wait : (name : List ℕ) (p : PutPlace) (y : ServerSide) (rs : List Kept) (logs logs' : List (Vec Written Global)) → AreApart (map record_of y.records.items) → map record_of rs ≡ with_record name (with_waiting p) (map record_of y.records.items)
    → HasRoomFor (waits y.records.items + 2) y.life logs → ((n : ℕ) → HasRoomFor (n + 1) y.life logs → HasRoomFor n y.life logs') → HasRoomFor (waits rs) y.life logs'
room-wait name p y rs logs logs' apart is =
    room-one y rs (with_record name (with_waiting p) (map record_of y.records.items)) logs logs' is (counts-wait name p (map record_of y.records.items) apart)

-- of the puts of a channel that is cleared
parted-few : (rs : List RecordSide) (p : Parting) → IsPartingOf (Some p) rs → waits_by (with_kept (map places_in p.kept.items) rs) + length p.told.items ≤ waits_by rs
parted-few rs p (core, h, sid, parts) =
    let few = counts-parted core h sid rs in
    let kept : waits_by (with_kept (map places_in p.kept.items) rs) ≡ waits_by (with_kept (all_kept core h sid rs) rs) = ap (λ (ps : List (List PutPlace)). waits_by (with_kept ps rs)) parts.kept in
    let told : length p.told.items ≡ length (all_gone core h sid rs) = sym (length-map p.told.items entry_of) ∙ ap length parts.told in
    omega (arith, few, kept, told)

pub fits-told : (p : Parting) (y : ServerSide) (logs : List (Vec Written Global)) → IsPartingOf (Some p) (map record_of y.records.items) → HasRoomFor (waits y.records.items) y.life logs → HasRoomFor (length p.told.items) y.life logs
fits-told p y logs parts room =
    let few = parted-few (map record_of y.records.items) p parts in
    let was : waits y.records.items ≡ waits_by (map record_of y.records.items) = counts-as y.records.items in
    room-less y.life (length p.told.items) (waits y.records.items) logs (omega (arith, few, was)) room

pub room-clear : (p : Parting) (y : ServerSide) (rs : List Kept) (logs logs' : List (Vec Written Global)) → IsPartingOf (Some p) (map record_of y.records.items) → map record_of rs ≡ with_kept (map places_in p.kept.items) (map record_of y.records.items)
    → HasRoomFor (waits y.records.items) y.life logs → ((n : ℕ) → HasRoomFor (n + length p.told.items) y.life logs → HasRoomFor n y.life logs') → HasRoomFor (waits rs) y.life logs'
room-clear p y rs logs logs' parts kept room after =
    let few = parted-few (map record_of y.records.items) p parts in
    let was : waits y.records.items ≡ waits_by (map record_of y.records.items) = counts-as y.records.items in
    let left : waits rs ≡ waits_by (with_kept (map places_in p.kept.items) (map record_of y.records.items)) = counts-as rs ∙ ap waits_by kept in
    after (waits rs) (room-less y.life (waits rs + length p.told.items) (waits y.records.items) logs (omega (arith, few, was, left)) room)
