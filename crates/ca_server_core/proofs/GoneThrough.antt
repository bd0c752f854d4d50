-- What a write leaves to do, where nobody watches its record but its own circuit.
use Rattle.std.proofs.Common.{◌≡◌, ℕ, inl, Bool, true, false, length, Option, Some, is_some, refl, sym, ap, ◌∙◌}
use Rattle.ca_arena.specs.declared.handle.Handle.{Handle}
use Rattle.ca_ids.specs.Table.{Table, under, with_changed}
use Rattle.ca_records.specs.Puts.{Record, record_named}
use Rattle.ca_records.specs.Store.{HasAt, Store, records_of}
use Rattle.ca_text.specs.Place.{At}
use Rattle.ca_server_watchers.specs.Watching.{AreApart, Watched, watching}
use Rattle.ca_model.specs.Server.{Ended, Open, ServerCircuit}
use Rattle.ca_model.specs.ServerSteps.{write_mask}
use Rattle.ca_server_circuit.specs.declared.step.FollowUp.TheVariants.{Wrote}
use Rattle.ca_server_circuit.specs.Circuits.{is_open}
use Rattle.ca_server_circuit.specs.Posting.{PostsAt, WatchesAt}
use Rattle.ca_server_circuit.specs.Pumping.{PumpsAt}
use Rattle.ca_server_circuit.proofs.Tables.{changed-own}
use Rattle.ca_server_core.specs.Covering.{Covers, watches_under}
use Rattle.ca_server_core.specs.Pumping.{IsIdleIn}
use Rattle.ca_server_core.specs.Sound.{IsSound}
use Rattle.ca_server_core.specs.Through.{GoesThrough, ShowsIn}
use Rattle.ca_server_core.proofs.Idle.{reaches-on}
use Rattle.ca_server_core.proofs.Noted.{free-at, open-settles}
use Rattle.ca_server_core.proofs.Reached.{Walk, walk-begins, walk-ends, walk-next}
use Rattle.ca_server_core.proofs.Served.{changed-twice, idle-pumps}

abbrev Circuits : Type 0
Circuits = Table ServerCircuit

-- an end that is open after a pump was open before
opened-before : (h : Handle) (mid new : ServerCircuit) (s : Store) → PumpsAt h mid s new s → is_open (Some new) ≡ true → is_open (Some mid) ≡ true
opened-before h (Open e) new s pumps opened = refl
opened-before h (Ended w left) new s pumps opened = ap (λ (x : ServerCircuit). is_open (Some x)) (sym pumps.0) ∙ opened

-- the circuit had its post, and was pumped
pub shows-in : (place : ℕ) (h : Handle) (t : Circuits) (s : Store) (c new : ServerCircuit) → under t h ≡ Some c → WatchesAt place c s true → (mid : ServerCircuit) × PostsAt h place write_mask c s mid s × PumpsAt h mid s new s → is_open (Some new) ≡ true
    → ShowsIn place h t s (with_changed (λ (x : ServerCircuit). new) h t)
shows-in place h t s c new there watches (mid, posts, pumps) opened =
    let own = changed-own (λ (x : ServerCircuit). mid) t h c there in
    record {
      mid = with_changed (λ (x : ServerCircuit). mid) h t;
      watches = (watches.0, watches.1, watches.2 ∙ ap (λ (o : Option ServerCircuit). watches_under watches.0.state.name o) (sym there));
      posts = inl (c, mid, there, posts, refl);
      opens = ap is_open own ∙ opened-before h mid new s pumps opened;
      pumps = inl (mid, new, own, pumps, sym (changed-twice t h c mid new there));
    }

-- nobody watches the record, and the circuit is idle
pub goes-idle : (place : ℕ) (h : Handle) (w : Watched) (t : Circuits) (s : Store) (r : Record) → HasAt s place r → record_named (records_of s) r.state.name ≡ Some r → is_some r.busy ≡ false → AreApart (watching w r.state.name) → length (watching w r.state.name) ≡ 0
    → IsSound (records_of s) t → Covers w t → IsIdleIn t h → (busies : Bool) (sid : ℕ) → GoesThrough (Wrote place busies sid) h w t s t
goes-idle place h w t s r at found free apart none sound covered idle busies sid =
    let k = length (watching w r.state.name) in
    record {
      writes = refl;
      mid = t;
      follows = walk-ends place write_mask w t s k w t s none covered (walk-begins place write_mask k w t s r at apart refl sound covered);
      sound = sound;
      covered = covered;
      settles = λ waited is. is;
      tries = λ n. free-at place n t s r at found free;
      pumps = idle-pumps s t h sound idle;
    }

-- this circuit alone watches it
pub goes-shown : (place : ℕ) (h : Handle) (w : Watched) (t after : Circuits) (s : Store) (r : Record) → HasAt s place r → record_named (records_of s) r.state.name ≡ Some r → is_some r.busy ≡ false → AreApart (watching w r.state.name) → length (watching w r.state.name) ≡ 1
    → At (watching w r.state.name) 0 h → IsSound (records_of s) t → Covers w t → ShowsIn place h t s after → (busies : Bool) (sid : ℕ) → GoesThrough (Wrote place busies sid) h w t s after
goes-shown place h w t after s r at found free apart one last sound covered shows busies sid =
    let k = length (watching w r.state.name) in
    let reaches = reaches-on w t shows.mid h place write_mask 0 s s true refl (r, at, last) shows.watches shows.posts in
    let walk : Walk place write_mask w t s 0 w shows.mid s = walk-next place write_mask w t s k w t s (walk-begins place write_mask k w t s r at apart refl sound covered) 0 (sym one) w shows.mid s reaches in
    record {
      writes = refl;
      mid = shows.mid;
      follows = walk-ends place write_mask w t s 0 w shows.mid s refl covered walk;
      sound = walk.sound;
      covered = walk.covered;
      settles = λ waited is. open-settles shows.mid h waited shows.opens;
      tries = λ n. free-at place n shows.mid s r at found free;
      pumps = shows.pumps;
    }
