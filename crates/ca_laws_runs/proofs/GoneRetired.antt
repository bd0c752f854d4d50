-- A channel is retired only once the log removed its record, and its SERVER_DISCONN was sent: over
-- every event and run.
use Rattle.std.proofs.Common.{◌≡◌, ℕ, ◌+◌, ◌≤◌, ◌⊎◌, inl, inr, Bool, true, false, not, ◌&&◌, ◌||◌, eqb, eqb-true, List, [], ◌∷◌, ◌++◌, length, Option, Some, None, refl, sym, ap, subst, ◌∙◌, arith}
use Rattle.std.specs.Prelude.{filter, find, map, option_map, take, unwrap_or}
use Rattle.std.specs.List.{FoldsTo, fold}
use Rattle.std.specs.Str.{bytes_eq}
use Rattle.std.proofs.lemmas.Slice.Eq.{bytes_eq-Decides}
use Rattle.ca_arena.specs.declared.handle.Handle.{Handle}
use Rattle.ca_ids.specs.Table.{Table, by_wire, held, under, with_freed}
use Rattle.ca_ids.specs.Wire.{wire_of}
use Rattle.ca_model.proofs.Tables.{find-at, freed-back, held-back, place, under-at, under-held, under-wire}
use Rattle.ca_queue.specs.declared.entry.SubKey.{SubKey}
use Rattle.ca_text.specs.Limits.{arena_slots}
use Rattle.ca_text.specs.Place.{At}
use Rattle.ca_text.proofs.Places.{some_is, At-after, At-append, At-map}
use Rattle.ca_wire.specs.Fields.{Fields}
use Rattle.ca_model.specs.Due.{Action, Adds, Applies, Clears, Drops, Opens, Switches}
use Rattle.ca_model.specs.Due as action
use Rattle.ca_model.specs.History.{Added, Circuit, Entry, Removed, Reply, Sent, Step, Told}
use Rattle.ca_model.specs.Server.{OpenChannel, Server, ServerEnd, concerns, key_of, new_end, with_post}
use Rattle.ca_model.specs.ServerCalls.{channels_of, end_without, retired}
use Rattle.ca_model.specs.ServerSteps.{Acts, Leaves, Update, without_channel}
use Rattle.ca_model.specs.Speech.{In}
use Rattle.ca_model.specs.Channels.{Has}
use Rattle.ca_model.specs.Events.{Event}
use Rattle.ca_model.specs.Events as event
use Rattle.ca_model.specs.Runs.{Happens, Runs, StopsAt, clients_below}
use Rattle.ca_model.specs.ServerEvents.{about, handled_at, numbers_after, removal_entries, removal_told, stamped, with_number}
use Rattle.ca_model.specs.World.{Creation, IsSetting, Joined, RecordSide, Setting, World, opening}
use Rattle.ca_laws_parts.specs.Channels.{ChannelsOn, has_sid}
use Rattle.ca_laws_parts.proofs.Channels.{each-back}
use Rattle.ca_laws_parts.proofs.Since.{stamped-parts}
use Rattle.ca_laws_runs.specs.Created.{AllCreated}
use Rattle.ca_laws_runs.specs.Creations.{AllCreations, CreationsOn}
use Rattle.ca_laws_runs.proofs.Created.{reached-created}
use Rattle.ca_laws_runs.proofs.Creations.{HasCreations, creations-begun, creations-handled, creations-lasting, reached-creations}
use Rattle.ca_laws_runs.proofs.StepWhole.{run-serves, takes-next}
use Rattle.ca_laws_parts.specs.Seats.{Sound, TakesSent}
use Rattle.ca_laws_parts.proofs.Every.{ticks-frame}
use Rattle.ca_laws_parts.proofs.Frames.{goes-self}
use Rattle.ca_laws_parts.proofs.Lasting.{numbered_for, told_gone, told_late}
use Rattle.ca_laws_parts.proofs.WritesLists.{In-append, kept-in, none_at}
use Rattle.ca_laws_runs.specs.Gone.{AllGone, GoneOn, IsGone}
use Rattle.ca_laws_runs.specs.Known.{IsOrigin, KnownOn}
use Rattle.ca_laws_runs.specs.Listed.{AllListed}
use Rattle.ca_laws_runs.proofs.Acted.{follows-handled}
use Rattle.ca_laws_runs.proofs.Acting.{Extends, IsLonger, longer-self, longer-taken}
use Rattle.ca_laws_runs.proofs.Handling.{known-handled}
use Rattle.ca_laws_runs.proofs.Keeping.{KnownAt, known-begun, known-lasting, stamped-down}
use Rattle.ca_laws_runs.proofs.Known.{extends-self, longer-le, removed-in}
use Rattle.ca_laws_runs.proofs.Logged.{AllEnds, Begins, Lasting, frame-lasts}
use Rattle.ca_laws_runs.proofs.LoggedAll.{HandledIn, event-lasts-if}
use Rattle.ca_laws_runs.proofs.LoggedStep.{life-tells}
use Rattle.ca_laws_runs.proofs.PostFollowing.{titled}
use Rattle.ca_laws_runs.proofs.FollowsWhole.{folds-snoc, run-stand}

-- ---- one channel goes on

gone-one : (log lg : List Entry) (c d : Joined) (sid : ℕ) (ch : OpenChannel) → Extends c.lists d.lists → IsLonger log lg → ((q : Creation) → In c.creations q → q.sid ≡ sid → In d.creations q) → IsGone log c sid ch → IsGone lg d sid ch
gone-one log lg c d sid ch ext longer noted o = record {
  x = o.x;
  noted = noted o.x o.noted o.under_sid;
  under_sid = o.under_sid;
  s = o.s;
  sent = ext.up o.x.place o.s o.sent;
  h = o.h;
  handled = ext.handled o.x.place o.h o.handled;
  name = o.name;
  within = (let le : o.h.logged ≤ length log = o.within in let more : length log ≤ length lg = longer-le log lg longer in omega (arith, le, more));
  gone = λ r has. (let was = o.gone r (subst (λ (l : List Entry). Has l r ch.name) (longer-taken o.h.logged log lg longer o.within) has) in
      (was.0, subst (λ (l : List Entry). At l was.0 (Removed r)) (sym longer.1) (At-append log longer.0 was.0 (Removed r) was.1)));
  t = o.t;
  told = ((o.told.0.0, ext.down o.told.0.0 o.t o.told.0.1), o.told.1, o.told.2);
}

-- the same channels and creations
gone-same : (log lg : List Entry) (e f : ServerEnd) (c d : Joined) → Extends c.lists d.lists → IsLonger log lg → f.channels ≡ e.channels → d.creations ≡ c.creations → GoneOn log e c → GoneOn lg f d
gone-same log lg e f c d ext longer channels creations p g ch there is_retired =
    gone-one log lg c d (wire_of g) ch ext longer (λ q in_it sid. subst (λ (l : List Creation). In l q) (sym creations) in_it)
    (p g ch (subst (λ (t : Table OpenChannel). under t g ≡ Some ch) channels there) is_retired)

numbered-same : (c : Joined) (keys : List SubKey) → ((fold with_number c keys).creations ≡ c.creations) × ((fold with_number c keys).lists ≡ c.lists)
numbered-same c [] = (refl, refl)
numbered-same c (k ∷ keys) = numbered-same (with_number c k) keys

leaves-channels : (us : List Update) (e after : ServerEnd) → FoldsTo Leaves e us after → after.channels ≡ e.channels
leaves-channels [] e after same = ap (λ (x : ServerEnd). x.channels) (sym same)
leaves-channels (u ∷ us) e after (mid, one, rest) = leaves-channels us mid after rest ∙ ap (λ (x : ServerEnd). x.channels) one.leaves

-- ---- a removal

gone-removed : (log : List Entry) (rs : List RecordSide) (name : List ℕ) (e : ServerEnd) (c : Joined) → KnownOn log rs e c → ChannelsOn e c → CreationsOn c → GoneOn log e c
    → GoneOn (log ++ removal_entries name rs) (end_without name e) (told_gone (channels_of name e) c)
gone-removed log rs name e c p channels creations gone g ch there is_retired =
    go u.0.retired refl
  where
    lg : List Entry
    lg = log ++ removal_entries name rs

    d : Joined
    d = told_gone (channels_of name e) c

    ext : Extends c.lists d.lists
    ext = record { up = λ i x at. at; down = λ i x at. At-append c.lists.down (map (removal_told c.creations) (channels_of name e)) i x at; handled = λ i x at. at }

    u : (v : OpenChannel) × (under e.channels g ≡ Some v) × (ch ≡ retired name g v)
    u = each-back (retired name) e.channels g ch there

    same-name : ch.name ≡ u.0.name
    same-name = ap (λ (x : OpenChannel). x.name) u.2

    renamed : IsGone lg d (wire_of g) u.0 → IsGone lg d (wire_of g) ch
    renamed o = record {
      x = o.x;
      noted = o.noted;
      under_sid = o.under_sid;
      s = o.s;
      sent = o.sent;
      h = o.h;
      handled = o.handled;
      name = same-name ∙ o.name;
      within = o.within;
      gone = λ r has. o.gone r (subst (λ (n : List ℕ). Has (take o.h.logged lg) r n) same-name has);
      t = o.t;
      told = o.told;
    }

    fresh : u.0.retired ≡ false → bytes_eq u.0.name name ≡ true → IsGone lg d (wire_of g) u.0
    fresh stays named = record {
      x = o.x;
      noted = o.noted;
      under_sid = o.under_sid;
      s = o.s;
      sent = o.sent;
      h = o.h;
      handled = o.handled;
      name = o.name;
      within = (let le : o.h.logged ≤ length log = o.within in let more : length log ≤ length lg = longer-le log lg (removal_entries name rs, refl) in omega (arith, le, more));
      gone = λ r has.
          let z = titled rs (u.0.name, r) (o.still stays r (subst (λ (l : List Entry). Has l r u.0.name) (longer-taken o.h.logged log lg (removal_entries name rs, refl) o.within) has)) in
          let removed = removed-in name rs z.0 z.1 (ap (λ (t : List ℕ × ℕ). t.0) (sym z.2) ∙ (bytes_eq-Decides u.0.name name).0 named) in
          let number : z.0.number ≡ r = ap (λ (t : List ℕ × ℕ). t.1) (sym z.2) in
          subst (λ (n : ℕ). In lg (Removed n)) number (length log + removed.0, At-after log (removal_entries name rs) removed.0 (Removed z.0.number) removed.1);
      t = removal_told c.creations (g, u.0);
      told = (
        (length c.lists.down + listed.0, At-after c.lists.down (map (removal_told c.creations) (channels_of name e)) listed.0 (removal_told c.creations (g, u.0)) (At-map (removal_told c.creations) (channels_of name e) listed.0 (g, u.0) listed.1)),
        place-is,
        refl,
      );
    }
      where
        o : IsOrigin log rs c (wire_of g) u.0
        o = p.origins g u.0 u.1

        listed : In (channels_of name e) (g, u.0)
        listed =
            kept-in (λ (x : Handle × OpenChannel). bytes_eq x.1.name name && not x.1.retired) (held e.channels) (g, u.0) (under-held e.channels g u.0 u.1)
            (ap (λ (b : Bool). b && not u.0.retired) named ∙ ap (λ (b : Bool). not b) stays)

        found : (x : Creation) × (find (has_sid (wire_of g)) c.creations ≡ Some x) × ((s : Sent) × At c.lists.up x.place s × (s.message.p1 ≡ u.0.cid))
        found = channels.opens g u.0 u.1

        found-in : (i : ℕ) × At c.creations i found.0 × (has_sid (wire_of g) found.0 ≡ true)
        found-in = find-at (has_sid (wire_of g)) c.creations found.0 found.1

        same : found.0 ≡ o.x
        same = creations.one found.0 o.x (found-in.0, found-in.1) o.noted (eqb-true found.0.sid (wire_of g) found-in.2 ∙ sym o.under_sid)

        place-is : (removal_told c.creations (g, u.0)).place ≡ o.x.place
        place-is = ap (λ (v : Option Creation). unwrap_or (option_map (λ (z : Creation). z.place) v) 0) found.1 ∙ ap (λ (z : Creation). z.place) same

    either : (b : Bool) → u.0.retired ≡ b → b || bytes_eq u.0.name name ≡ true → (u.0.retired ≡ true) ⊎ ((u.0.retired ≡ false) × (bytes_eq u.0.name name ≡ true))
    either true is any = inl is
    either false is any = inr (is, any)

    go : (b : Bool) → u.0.retired ≡ b → IsGone lg d (wire_of g) ch
    go b is = elim (either b is (ap (λ (x : Bool). x || bytes_eq u.0.name name) (sym is) ∙ ap (λ (x : OpenChannel). x.retired) (sym u.2) ∙ is_retired)) [
      | inl old ↦ renamed (gone-one log lg c d (wire_of g) u.0 ext (removal_entries name rs, refl) (λ q in_it sid. in_it) (gone g u.0 u.1 old))
      | inr new ↦ renamed (fresh new.0 new.1)
    ]

-- ---- a message is handled

cleared-back : (e : ServerEnd) (sid : ℕ) → length e.channels ≤ arena_slots → (g : Handle) (ch : OpenChannel) → under (without_channel sid e).channels g ≡ Some ch → (under e.channels g ≡ Some ch) × (wire_of g ≡ sid → ⊥)
cleared-back e sid few g ch = go (by_wire e.channels sid) refl
  where
    none-some : (x : Handle × OpenChannel) → let a : Option (Handle × OpenChannel) = None in let b : Option (Handle × OpenChannel) = Some x in a ≡ b → ⊥
    none-some x e1 = cc

    go : (o : Option (Handle × OpenChannel)) → by_wire e.channels sid ≡ o → under (unwrap_or (option_map (λ (c : Handle × OpenChannel). with_freed c.0 e.channels) o) e.channels) g ≡ Some ch → (under e.channels g ≡ Some ch) × (wire_of g ≡ sid → ⊥)
    go None is there = (there, λ same_it. none-some (g, ch) (sym is ∙ ap (λ (n : ℕ). by_wire e.channels n) (sym same_it) ∙ under-wire e.channels g ch few there))
    go (Some found) is there =
        let back = freed-back e.channels g found.0 ch there in
        (back.1, λ same_it. back.0 (ap (λ (x : Handle × OpenChannel). x.0) (some_is (g, ch) found (sym (under-wire e.channels g ch few back.1) ∙ ap (λ (n : ℕ). by_wire e.channels n) same_it ∙ is))))

gone-handled : (log : List Entry) (y : Server) (e new : ServerEnd) (replies : List Fields) (did : Action) (step : Step) (c : Joined) → Acts y e did new → ChannelsOn e c → GoneOn log e c
    → GoneOn log new (handled_at (length c.lists.handled) step replies (numbers_after (length c.lists.handled) did c))
gone-handled log y e new replies did step c acts channels p = go did acts
  where
    n : ℕ
    n = length c.lists.handled

    after : Action → Joined
    after did = handled_at n step replies (numbers_after n did c)

    ext : Extends c.lists (record c.lists { down = c.lists.down ++ about n Reply replies; handled = c.lists.handled ++ step ∷ [] })
    ext = record {
      up = λ i x there. there;
      down = λ i x there. At-append c.lists.down (about n Reply replies) i x there;
      handled = λ i x there. At-append c.lists.handled (step ∷ []) i x there;
    }

    go : (did : Action) → Acts y e did new → GoneOn log new (after did)
    go (Opens ch) acts = λ k x there is_retired. elim (held-back e.channels k acts.0 _ x (subst (λ (z : ServerEnd). under z.channels k ≡ Some x) acts.3 there)) [
      | inl own ↦ absurd (let f : false ≡ true = ap (λ (v : OpenChannel). v.retired) (sym own.1) ∙ is_retired in cc)
      | inr old ↦ gone-one log log c (after (Opens ch)) (wire_of k) x ext (longer-self log) (λ q in_it sid. In-append c.creations _ q in_it) (p k x old is_retired)
    ]
    go (Clears sid) acts = λ k x there is_retired.
        let back = cleared-back e sid channels.few k x (subst (λ (z : ServerEnd). under z.channels k ≡ Some x) acts there) in
        gone-one log log c (after (Clears sid)) (wire_of k) x ext (longer-self log)
        (λ q in_it wire. kept-in (λ (v : Creation). not (eqb v.sid sid)) c.creations q in_it (other q sid (λ is. back.1 (sym wire ∙ is)))) (p k x back.0 is_retired)
      where
        other : (q : Creation) (sid : ℕ) → (q.sid ≡ sid → ⊥) → not (eqb q.sid sid) ≡ true
        other q sid apart = on (eqb q.sid sid) refl
          where
            on : (b : Bool) → eqb q.sid sid ≡ b → not b ≡ true
            on false e1 = refl
            on true e1 = absurd (apart (eqb-true q.sid sid e1))
    go (Adds sub) acts = gone-same log log e new c (after (Adds sub)) ext (longer-self log) (ap (λ (x : ServerEnd). x.channels) acts.2.leaves) refl p
    go (Drops key) acts = gone-same log log e new c (after (Drops key)) ext (longer-self log) (ap (λ (x : ServerEnd). x.channels) acts) refl p
    go (Switches on) acts = gone-same log log e new c (after (Switches on)) ext (longer-self log) (ap (λ (x : ServerEnd). x.channels) acts) refl p
    go action.Greets acts = gone-same log log e new c (after action.Greets) ext (longer-self log) (ap (λ (x : ServerEnd). x.channels) acts) refl p
    go (action.Names x) acts = gone-same log log e new c (after (action.Names x)) ext (longer-self log) (ap (λ (x : ServerEnd). x.channels) acts) refl p
    go action.Nothing acts = gone-same log log e new c (after action.Nothing) ext (longer-self log) (ap (λ (x : ServerEnd). x.channels) acts) refl p
    go (Applies name value busies) acts = gone-same log log e new c (after (Applies name value busies)) ext (longer-self log) (ap (λ (x : ServerEnd). x.channels) acts) refl p
    go (action.Waits name value) acts = gone-same log log e new c (after (action.Waits name value)) ext (longer-self log) (ap (λ (x : ServerEnd). x.channels) acts) refl p

-- ---- over events

-- beside what is known of the EVENT_ADDs, and the creations of open channels
abbrev pub GoneAt : ℕ → List Entry → List RecordSide → ServerEnd → Joined → Type 0
GoneAt n log rs e c = KnownAt n log rs e c × HasCreations n e c × GoneOn log e c

gone-lasting : Lasting GoneAt
gone-lasting = record {
  stays = λ n log rs e f c d held goes h. (
    known-lasting.stays n log rs e f c d held goes h.0,
    creations-lasting.stays n e f c d held goes h.1,
    gone-same log log e f c d (record { up = goes.later.up; down = λ i x at. subst (λ (l : List Told). At l i x) (sym goes.down) at; handled = goes.later.handled }) (longer-self log) held.channels goes.creations h.2,
  );
  told = λ n log more rs rt e c quiet same h. (known-lasting.told n log more rs rt e c quiet same h.0, h.1, gone-same log (log ++ more) e e c c (extends-self c.lists) (more, refl) refl refl h.2);
  posted = λ n log rs r mask v entry e c others in_rs is_post h.
      let same = numbered-same c (map key_of (filter (concerns r.name mask) e.subscriptions)) in (
        known-lasting.posted n log rs r mask v entry e c others in_rs is_post h.0,
        creations-lasting.posted n r.name mask v e c h.1,
        gone-same log (log ++ entry ∷ []) e (with_post r.name mask v e) c (numbered_for r.name mask e c) (subst (λ (l : Circuit). Extends c.lists l) (sym same.1) (extends-self c.lists)) (entry ∷ [], refl) refl same.0 h.2,
      );
  removed = λ n log rs name e c h. (known-lasting.removed n log rs name e c h.0, creations-lasting.removed n name e c h.1, gone-removed log rs name e c h.0.1 h.1.0 h.1.1 h.2);
  added = λ n log rs number behind s e c others fresh h. (known-lasting.added n log rs number behind s e c others fresh h.0, h.1, gone-same log (log ++ Added number s ∷ []) e e c c (extends-self c.lists) (Added number s ∷ [], refl) refl refl h.2);
  pumped = λ n log rs us e after c folds h.
      let parts = stamped-parts us c in (
        known-lasting.pumped n log rs us e after c folds h.0,
        creations-lasting.pumped n us e after c folds h.1,
        gone-same log log e after c (stamped us c)
            (record { up = λ i x at. subst (λ (l : List Sent). At l i x) (sym parts.0) at; down = stamped-down us c; handled = λ i x at. subst (λ (l : List Step). At l i x) (sym parts.1) at })
            (longer-self log) (leaves-channels us e after folds) parts.3 h.2,
      );
  replied = λ n log rs e c at ms h. (
    known-lasting.replied n log rs e c at ms h.0,
    creations-lasting.replied n e c at ms h.1,
    gone-same log log e e c (told_late at ms c) (record { up = λ i x there. there; down = λ i x there. At-append c.lists.down (about at Reply ms) i x there; handled = λ i x there. there }) (longer-self log) refl refl h.2,
  );
}

-- a world with no circuit
abbrev nowhere : World
nowhere = record { clients = []; servers = []; circuits = []; client_logs = []; server_logs = []; moment = 0 }

gone-begun : Begins GoneAt
gone-begun n moment log rs c new = (
  known-begun n moment log rs c new,
  creations-begun nowhere n moment c (let le : 0 ≤ n = omega arith in le) new,
  λ g ch there is_retired. absurd (none_at g.index (place g ch) (under-at (new_end moment).channels g ch there)),
)

-- in a world whose records are listed, and whose channels are those that were created
handled-in : (w : World) → AllListed w → AllCreations w → AllCreated w → HandledIn GoneAt gone-lasting gone-begun w
handled-in w listed creations created m j y server wr at opened e taken new s replies did step has held sent due acts logged_is sent_is p =
    let own = wr.lives j.server y server in
    let q = gone-lasting.stays m own.log y.records e taken j j held (goes-self j) p in (
      (
        follows-handled own.log y.records y.core taken new s replies did step j sent due acts logged_is (life-tells w j.server y wr server) q.0.0,
        known-handled own.log y.records y.core taken new s replies did step j sent due acts logged_is sent_is (listed j.server y own.log server own.at) (creations m j y e at server opened has) (created m j at) q.0.1,
      ),
      creations-handled m y.core taken new s replies did step j sent due acts q.1,
      gone-handled own.log y.core taken new replies did step j acts q.1.0 q.2,
    )

event-gone : (s : Setting) (w new : World) (e : Event) → TakesSent w → AllListed w → AllCreations w → AllCreated w → Happens w e new → Sound s w → AllEnds GoneAt w → AllEnds GoneAt new
event-gone s w new e t listed creations created happens h all = event-lasts-if GoneAt gone-lasting gone-begun s w new e (handled-in w listed creations created) t happens h all

-- ---- every run

events-gone : (s : Setting) (ok : IsSetting s) (done es : List Event) (w new : World) → FoldsTo Happens (opening s) done w → FoldsTo Happens w es new → AllEnds GoneAt w → AllEnds GoneAt new
events-gone s ok done [] w new before same all = subst (λ (z : World). AllEnds GoneAt z) same all
events-gone s ok done (e ∷ es) w new before (mid, one, rest) all =
    let runs : Runs s done None w = (w, before, refl) in
    let h = run-serves s done None w ok runs in
    events-gone s ok (done ++ e ∷ []) es mid new (folds-snoc done (opening s) w mid e before one) rest
    (event-gone s w mid e (takes-next s w h) (run-stand s done None w ok runs).listed (reached-creations w (s, done, None, ok, runs)) (reached-created w (s, done, None, ok, runs)) one h.stands.sound all)

stops-gone : (mid : World) (stopped : Option Event) (w : World) → StopsAt mid stopped w → AllEnds GoneAt mid → AllEnds GoneAt w
stops-gone mid (Some (event.Tick moment)) w stops all = elim stops [
  | inl same ↦ subst (λ (z : World). AllEnds GoneAt z) (sym same) all
  | inr ticked ↦ frame-lasts GoneAt gone-lasting mid w (ticks-frame moment mid (clients_below ticked.0) w ticked.3) all
]
stops-gone mid stopped w stops all = subst (λ (z : World). AllEnds GoneAt z) (sym stops) all

pub run-gone-at : (s : Setting) (es : List Event) (stopped : Option Event) (w : World) → IsSetting s → Runs s es stopped w → AllEnds GoneAt w
run-gone-at s es stopped w ok (mid, folds, stops) = stops-gone mid stopped w stops (events-gone s ok [] es (opening s) mid refl folds (λ n c y e log at. absurd (none_at n c at)))

pub run-gone : (s : Setting) (es : List Event) (stopped : Option Event) (w : World) → IsSetting s → Runs s es stopped w → AllGone w
run-gone s es stopped w ok runs n c y e log at there opened has logged = (run-gone-at s es stopped w ok runs n c y e log at there opened has logged).2
