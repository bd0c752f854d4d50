-- What a change of one of a client's tables keeps of where its channels are.
use Rattle.std.proofs.Common.{◌≡◌, inl, inr, Bool, true, false, List, [], ◌∷◌, Option, Some, None, Result, Ok, Err, refl, sym, ap, ◌∙◌, subst}
use Rattle.std.specs.Prelude.{ℕ, OnErr, OnOk, is_none, option_and_then, option_map}
use Rattle.std.specs.declared.alloc.AllocError.{AllocError}
use Rattle.ca_text.specs.declared.refusal.Refusal.{Refusal}
use Rattle.ca_text.specs.declared.refusal.Refusal.TheVariants as refusal
use Rattle.ca_arena.specs.declared.handle.Handle.{Handle}
use Rattle.ca_dbr.specs.declared.value.Outcome.{Outcome}
use Rattle.ca_wire.specs.Fields.{Fields}
use Rattle.ca_ids.specs.Holding.{Gives}
use Rattle.ca_ids.specs.Table.{MayGive, Table, same_handle, under, with_changed, with_freed, with_held}
use Rattle.ca_requests.specs.Calls.{AnswersOne, Issued, new_request, without_if}
use Rattle.ca_requests.specs.Calls as requests
use Rattle.ca_requests.specs.Requests.{Asked, Draining, Open, Request, Stage}
use Rattle.ca_requests.specs.Requests as request
use Rattle.ca_monitor.specs.Calls.{freed_if}
use Rattle.ca_monitor.specs.Subscriptions.{Subscription, drains_in, with_stage}
use Rattle.ca_monitor.specs.Subscriptions as monitor
use Rattle.ca_search.specs.Searches as search
use Rattle.ca_model.specs.Answers as notice
use Rattle.ca_model.specs.Client.{Channel, Client, ClientCircuit, Connection, On, Phase, Clearing, Searching, channel_on, on_connection, standing_at, with_standing}
use Rattle.ca_model.specs.ClientCalls.{all_over}
use Rattle.ca_model.specs.ClientEnds.{is_connecting}
use Rattle.ca_model.specs.Hears.{Effect, doing, without_drained}
use Rattle.ca_model.specs.Hears as hears
use Rattle.ca_model.specs.Placed.{ArePlaced, HasNothingOut, HasNothingOutIn, IsPlaced, WasLive, WasLiveIn, was_live}
use Rattle.ca_model.proofs.Changes.{freed-keeps, keeps-phase, keeps-staged, over-keeps, placed-opened, placed-subscribed}
use Rattle.ca_model.proofs.Handles.{handle-or}
use Rattle.ca_model.proofs.Hearing.{header_only-so, drained-header_only, keeps-request}
use Rattle.ca_model.proofs.Placed.{keeps-again, keeps-gone, keeps-then, placed-linked, under-other}
use Rattle.ca_model.proofs.Standings.{channel-on, found-standing, is-on}
use Rattle.ca_model.proofs.Tables.{changed-own, held-back}
use Rattle.ca_client_tables.specs.Ends.{GivesAt, GivesOn}
use Rattle.ca_client_tables.specs.Forms.{phase_of}
use Rattle.ca_client_core.specs.Hearing.{HearsReplyTo, completed, found_as}
use Rattle.ca_client_tables.specs.declared.channel.Phase as code
use Rattle.ca_client_tables.specs.Sound.{IsSound}
use Rattle.ca_client_core.specs.Turns.{MayTurn, TurnsIn, WasLiveAs}
use Rattle.ca_client_tables.proofs.Finds.{plain}

abbrev connection-of : Option ClientCircuit → Option Connection
connection-of o = option_and_then (λ (d : ClientCircuit). d.connection) o

pub mapped-none : (f : Connection → Connection) (o : Option Connection) → is_none (option_map f o) ≡ is_none o
mapped-none f (Some e) = refl
mapped-none f None = refl

module _ (t : Table Channel) (es : List (ℕ × search.Channel)) (q : Table Request) (s : Table Subscription) (cs : Table ClientCircuit) (ls : List (List Handle)) (sound : IsSound t es q s cs ls) where
  -- ---- circuits

  -- another end is in the place of this one, which is connected if that was
  pub sound-this : (c : Handle) (v w : ClientCircuit) → under cs c ≡ Some v → is_none w.connection ≡ is_none v.connection → IsSound t es q s (with_changed (λ (e : ClientCircuit). w) c cs) ls
  sound-this c v w there same =
      let f : ClientCircuit → ClientCircuit = λ (e : ClientCircuit). w in
      record {
        client = sound.client;
        listed = sound.listed;
        placed =
            placed-linked (plain t q s cs) (plain t q s (with_changed f c cs)) refl refl refl
            (λ k. elim (handle-or k c) [
              | inr other ↦ ap (λ (o : Option ClientCircuit). is_none (connection-of o)) (under-other f cs c k other)
              | inl here ↦
                  subst (λ (j : Handle). is_none (connection-of (under (with_changed f c cs) j)) ≡ is_none (connection-of (under cs j))) (sym here)
                  (ap (λ (o : Option ClientCircuit). is_none (connection-of o)) (changed-own f cs c v there) ∙ same
                  ∙ ap (λ (o : Option ClientCircuit). is_none (connection-of o)) (sym there))
            ])
            sound.placed;
      }

  -- something was done to its end
  pub sound-mapped : (f : Connection → Connection) (c : Handle) (v w : ClientCircuit) → under cs c ≡ Some v → w ≡ record v { connection = option_map f v.connection } → IsSound t es q s (with_changed (λ (e : ClientCircuit). w) c cs) ls
  sound-mapped f c v w there is = sound-this c v w there (ap (λ (d : ClientCircuit). is_none d.connection) is ∙ mapped-none f v.connection)

  -- a read
  pub sound-given : (moment : ℕ) (bytes : List ℕ) (more : Bool) (r : Result (Unit {0}) Refusal) (c : Handle) (v w : ClientCircuit) → under cs c ≡ Some v → GivesAt moment bytes more v r w → IsSound t es q s (with_changed (λ (e : ClientCircuit). w) c cs) ls
  sound-given moment bytes more r c v w there gives = sound-this c v w there (ap (λ (d : ClientCircuit). is_none d.connection) gives.2 ∙ by v.connection r gives.0 gives.1)
    where
      by : (o : Option Connection) (a : Result (Unit {0}) Refusal) (n : Option Connection) → GivesOn moment bytes more o a n → is_none n ≡ is_none o
      by None (Err refusal.CircuitClosed) n h = ap is_none h
      by None (Ok u) n h = absurd h
      by None (Err _) n h = absurd h
      by (Some e) (Ok u) n h = ap is_none h
      by (Some e) (Err refusal.OutOfMemory) n h = ap is_none h.1
      by (Some e) (Err _) n h = absurd h

  -- ---- subscriptions

  -- one begins
  pub sound-added : (g h : Handle) (data_type count mask : ℕ) (u : Table Subscription) → u ≡ with_held g (monitor.new_subscription h data_type count mask) s → IsSound t es q u cs ls
  sound-added g h data_type count mask u is = record {
    client = sound.client;
    listed = sound.listed;
    placed = subst (λ (w : Table Subscription). ArePlaced t q w cs) (sym is) (placed-subscribed (plain t q s cs) h (record { data_type = data_type; count = count }) mask g sound.placed);
  }

  -- nothing has the id of one
  pub sound-forgot : (g : Handle) (u : Table Subscription) → u ≡ with_freed g s → IsSound t es q u cs ls
  sound-forgot g u is = record {
    client = sound.client;
    listed = sound.listed;
    placed = subst (λ (w : Table Subscription). ArePlaced t q w cs) (sym is) ((freed-keeps g (plain t q s cs)).placed sound.placed);
  }

  pub sound-forgot-if : (o : Option Handle) (u : Table Subscription) → u ≡ freed_if o s → IsSound t es q u cs ls
  sound-forgot-if None u is = subst (λ (w : Table Subscription). IsSound t es q w cs ls) (sym is) sound
  sound-forgot-if (Some g) u is = sound-forgot g u is

  -- the id of one drains where its channel was live
  pub sound-staged : (stage : monitor.Stage) (c g : Handle) (d : Subscription) (u : Table Subscription) → ((on : Handle) → drains_in on stage ≡ same_handle c on) → under s g ≡ Some d → WasLiveIn t d.channel c → u ≡ with_stage stage g s → IsSound t es q u cs ls
  sound-staged stage c g d u only there live is = record {
    client = sound.client;
    listed = sound.listed;
    placed = subst (λ (w : Table Subscription). ArePlaced t q w cs) (sym is) ((keeps-staged stage c g (plain t q s cs) d only there live).placed sound.placed);
  }

  -- ---- requests

  -- one was issued
  pub sound-issued : (g h c : Handle) (asked : Asked) (u : Table Request) → WasLiveIn t h c → u ≡ with_held g (new_request h c asked) q → IsSound t es u s cs ls
  sound-issued g h c asked u live is = record {
    client = sound.client;
    listed = sound.listed;
    placed = subst (λ (w : Table Request). ArePlaced t w s cs) (sym is) (record {
      attached = record {
        requests = λ k r found. elim (held-back q k g (new_request h c asked) r found) [
          | inl own ↦ subst (λ (z : Request). WasLiveIn t z.channel z.circuit) (sym own.1) live
          | inr old ↦ sound.placed.attached.requests k r old
        ];
        subscriptions = sound.placed.attached.subscriptions;
      };
      waiting = sound.placed.waiting;
    });
  }

  -- nothing has the id of one
  pub sound-freed : (g : Handle) (u : Table Request) → u ≡ with_freed g q → IsSound t es u s cs ls
  sound-freed g u is = record {
    client = sound.client;
    listed = sound.listed;
    placed = subst (λ (w : Table Request). ArePlaced t w s cs) (sym is) ((keeps-request g (plain t q s cs)).placed sound.placed);
  }

  pub sound-without : (o : Option Handle) (old n : Issued) → old.table ≡ q → n ≡ without_if o old → IsSound t es n.table s cs ls
  sound-without None old n of is = subst (λ (w : Table Request). IsSound t es w s cs ls) (sym (ap (λ (z : Issued). z.table) is ∙ of)) sound
  sound-without (Some g) old n of is = sound-freed g n.table (ap (λ (z : Issued). z.table) is ∙ ap (with_freed g) of)

  -- a reply was read
  pub sound-answered : (old n : Issued) (m : Fields) (o : Option (Handle × Request)) (r : Result (Option (Handle × Outcome)) AllocError) → old.table ≡ q → AnswersOne old m o r n → IsSound t es n.table s cs ls
  sound-answered old n m None (Ok None) of h = sound-without None old n of h
  sound-answered old n m None (Ok (Some e)) of h = absurd h
  sound-answered old n m None (Err e) of h = absurd h
  sound-answered old n m (Some (g, v)) r of h = by v.stage r h
    where
      by : (stage : Stage) (a : Result (Option (Handle × Outcome)) AllocError) → requests.Completes old m g v.asked stage a n → IsSound t es n.table s cs ls
      by Open (Ok (Some (p, e))) k = sound-without (Some g) old n of k.2
      by Open (Ok None) k = absurd k
      by Open (Err e) k = sound-without None old n of k.1
      by Draining (Ok None) k = sound-without (Some g) old n of k
      by Draining (Ok (Some e)) k = absurd k
      by Draining (Err e) k = absurd k

-- ---- channels

module _ (t : Table Channel) (q : Table Request) (s : Table Subscription) (cs : Table ClientCircuit) (placed : ArePlaced t q s cs) where
  -- one is opened
  pub placed-held : (h : Handle) (v : Channel) (u : Table Channel) → v.standing ≡ Searching → MayGive t h → u ≡ with_held h v t → ArePlaced u q s cs
  placed-held h v u stands may is =
      let w : Channel = record v { standing = Searching } in
      let same : w ≡ v = ap (λ (z : _). let d : Channel = record v { standing = z } in d) (sym stands) in
      subst (λ (z : Table Channel). ArePlaced z q s cs) (sym is)
      (subst (λ (z : Channel). ArePlaced (with_held h z t) q s cs) same
      (placed-opened (record { name = v.name; priority = v.priority; now = 0 }) h (plain t q s cs) may placed))

  -- one comes to another phase
  pub placed-turned : (h c : Handle) (next : Phase) (u : Table Channel) → TurnsIn h c next t → u ≡ with_changed (λ (here : Channel). record here { standing = On c next }) h t → ArePlaced u q s cs
  placed-turned h c next u turn is =
      subst (λ (z : Table Channel). ArePlaced z q s cs) (sym is)
      ((keeps-phase c h (plain t q s cs) turn.channel turn.phase next turn.there turn.stands turn.waits turn.live).placed placed)

  -- one is searched for again
  pub placed-again : (h : Handle) (u : Table Channel) → HasNothingOutIn h q s → u ≡ with_changed (λ (here : Channel). record here { standing = Searching }) h t → ArePlaced u q s cs
  placed-again h u header_only is = subst (λ (z : Table Channel). ArePlaced z q s cs) (sym is) ((keeps-again h (plain t q s cs) (λ p. header_only)).placed placed)

  -- one is gone
  pub placed-gone : (h : Handle) (u : Table Channel) → HasNothingOutIn h q s → u ≡ with_freed h t → ArePlaced u q s cs
  placed-gone h u header_only is = subst (λ (z : Table Channel). ArePlaced z q s cs) (sym is) ((keeps-gone h (plain t q s cs) (λ p. header_only)).placed placed)

  -- one that was live is cleared, or left
  pub placed-over : (h c : Handle) (u : Table Channel) (v : Table Request) (w : Table Subscription) → WasLiveAs h c t → u ≡ with_changed (λ (here : Channel). record here { standing = On c Clearing }) h t → v ≡ request.channel_over h q → w ≡ monitor.channel_over c h s → ArePlaced u v w cs
  placed-over h c u v w was us vs ws =
      let x : Client = plain t q s cs in
      let y : Client = all_over c h x in
      let z : Client = with_standing (On c Clearing) h y in
      let live : WasLiveIn t h c = (was.channel, was.there, is-on was_live c was.channel was.phase was.stands ∙ was.live) in
      subst (λ (e : Table Channel × Table Request × Table Subscription). ArePlaced e.0 e.1 e.2 cs) (λ i. (sym us i, sym vs i, sym ws i))
      ((keeps-then x y z (over-keeps c h x live) (keeps-phase c h y was.channel was.phase Clearing was.there was.stands was.waits (λ e. refl))).placed placed)

-- one that was refused is not there
pub refused-same : (t u : Table Channel) (v : Channel) (back : Channel) (e : Refusal) → Gives t v (Err (back, e)) u → u ≡ t
refused-same t u v back refusal.ArenaFull h = h.2
refused-same t u v back refusal.OutOfMemory h = h.3
refused-same t u v back _ h = absurd h

-- ---- replies

-- the client with these requests
abbrev pub with_issued : Client → Issued → Client
with_issued x n = record x { requests = n.table; issued = n.order }

pub hears-reply : (x : Client) (n : Issued) (m : Fields) (o : Option (Handle × Request)) (r : Result (Option (Handle × Outcome)) AllocError) → AnswersOne (record { table = x.requests; order = x.issued }) m o r n → HearsReplyTo x m o r (with_issued x n)
hears-reply x n m None (Ok None) h = ap (λ (z : Issued). doing [] [] (with_issued x z)) h
hears-reply x n m None (Ok (Some e)) h = absurd h
hears-reply x n m None (Err e) h = absurd h
hears-reply x n m (Some (g, v)) r h = by v.stage refl r h
  where
    old : Issued
    old = record { table = x.requests; order = x.issued }

    told : (stage : Stage) → v.stage ≡ stage → (e : Effect) → hears.Completes x m g v.asked stage e → hears.Completes x m g v.asked v.stage e
    told stage is e done = subst (λ (z : Stage). hears.Completes x m g v.asked z e) (sym is) done

    by : (stage : Stage) → v.stage ≡ stage → (a : Result (Option (Handle × Outcome)) AllocError) → requests.Completes old m g v.asked stage a n → HearsReplyTo x m (Some (g, v)) a (with_issued x n)
    by Open is (Ok (Some (p, o))) k =
        told Open is (doing [] (completed (Some (p, o))) (with_issued x n))
        (o, k.1, λ i. doing [] (notice.Completed (k.0 i) o ∷ []) (with_issued x (k.2 i)))
    by Open is (Ok None) k = absurd k
    by Open is (Err e) k = (is, k.0, ap (with_issued x) k.1)
    by Draining is (Ok None) k = told Draining is (doing [] [] (with_issued x n)) (ap (λ (z : Issued). doing [] [] (with_issued x z)) k)
    by Draining is (Ok (Some e)) k = absurd k
    by Draining is (Err e) k = absurd k

-- ---- what calls need

-- a message that was queued, or not, changes no table of ids
pub queued-tables : (r : Result (Unit {0}) AllocError) (f : Connection → Connection) (c : Handle) (x y : Client) → OnOk r (y ≡ on_connection f c x) → OnErr r (y ≡ x) → (y.channels ≡ x.channels) × (y.subscriptions ≡ x.subscriptions)
queued-tables (Ok u) f c x y ok err = (ap (λ (z : Client). z.channels) ok, ap (λ (z : Client). z.subscriptions) ok)
queued-tables (Err e) f c x y ok err = (ap (λ (z : Client). z.channels) err, ap (λ (z : Client). z.subscriptions) err)

-- a channel that stands so was live there
pub live-at : (x : Client) (h c : Handle) (p : Phase) → standing_at x h ≡ Some (On c p) → was_live p ≡ true → WasLive x h c
live-at x h c p at live = (let found = found-standing x h (On c p) at in (found.0, found.1, is-on was_live c found.0 p found.2 ∙ live))

-- the channel that a message is about
pub found-on-circuit : (x : Client) (c : Handle) (cid : ℕ) (r : Option (Handle × code.Phase)) (h : Handle) (p : code.Phase) → option_map found_as r ≡ channel_on x c cid → r ≡ Some (h, p) → channel_on x c cid ≡ Some (h, phase_of p)
found-on-circuit x c cid r h p ensured is = sym ensured ∙ ap (option_map found_as) is

-- it may come to a phase that is as that in which it is
pub turns-found : (x : Client) (c : Handle) (cid : ℕ) (h : Handle) (p next : Phase) → channel_on x c cid ≡ Some (h, p) → is_connecting p ≡ is_connecting next → (was_live p ≡ true → was_live next ≡ true) → MayTurn h c next x
turns-found x c cid h p next at waits live =
    let found = channel-on x c cid h p at in
    record { channel = found.0; there = found.1; phase = p; stands = found.3; waits = waits; live = live }

-- nothing is attached to one that was not live
pub header_only-found : (x : Client) (c : Handle) (cid : ℕ) (h : Handle) (p : Phase) → channel_on x c cid ≡ Some (h, p) → was_live p ≡ false → IsPlaced x → HasNothingOut h x
header_only-found x c cid h p at never placed = (let found = channel-on x c cid h p at in header_only-so c x h found.0 p found.1 found.3 never placed)

-- nor to one whose ids no longer drain
pub drained-found : (x : Client) (c : Handle) (cid : ℕ) (h : Handle) (p : Phase) → channel_on x c cid ≡ Some (h, p) → IsPlaced x → HasNothingOut h (without_drained c h x)
drained-found x c cid h p at placed = (let found = channel-on x c cid h p at in drained-header_only c x h found.0 p found.1 found.3 placed)
