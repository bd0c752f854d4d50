-- The subscriptions that are on a circuit are on open channels, over every run.
use Rattle.std.proofs.Common.{◌≡◌, ℕ, ◌<◌, ◌+◌, inl, inr, Bool, true, false, cond, not, eqb, eqb-true, List, [], ◌∷◌, length, refl, sym, ap, subst, ◌∙◌}
use Rattle.std.specs.Prelude.{filter, map}
use Rattle.std.specs.List.{fold}
use Rattle.ca_arena.specs.declared.handle.Handle.{Handle}
use Rattle.ca_ids.specs.Table.{held}
use Rattle.ca_ids.specs.Wire.{wire_of}
use Rattle.ca_queue.specs.declared.entry.SubKey.{SubKey}
use Rattle.ca_queue.specs.Keys.{same}
use Rattle.ca_text.specs.Place.{At}
use Rattle.ca_text.proofs.Places.{At-mapped}
use Rattle.ca_wire.specs.Fields.{Fields}
use Rattle.ca_model.specs.Due.{Action, Adds, Due, KnownChannel, key_in}
use Rattle.ca_model.specs.Due as action
use Rattle.ca_model.specs.History.{Sent, Step}
use Rattle.ca_model.specs.Server.{OpenChannel, Server, ServerEnd, concerns, key_of}
use Rattle.ca_model.specs.ServerCalls.{is_on}
use Rattle.ca_model.specs.ServerSteps.{known_channel, knows}
use Rattle.ca_model.specs.Speech.{In}
use Rattle.ca_model.proofs.Tables.{find-at, held-under}
use Rattle.ca_model.specs.ServerEvents.{handled_at, numbers_after, stamped, with_number}
use Rattle.ca_model.specs.World.{Creation, Joined, Standing, World}
use Rattle.ca_laws_parts.specs.Runs.{IsReached}
use Rattle.ca_laws_parts.proofs.BytesRuns.{runs-take}
use Rattle.ca_laws_parts.specs.Channels.{ChannelsOn, has_sid}
use Rattle.ca_laws_parts.specs.Messages.{Messages}
use Rattle.ca_laws_parts.proofs.Channels.{channels-begun, channels-handled, channels-lasting}
use Rattle.ca_laws_parts.proofs.Messages.{messages-begun, messages-kept, messages-lasting}
use Rattle.ca_laws_parts.proofs.Since.{stamped-parts}
use Rattle.ca_laws_parts.proofs.Fresh.{added-is, due-adds}
use Rattle.ca_laws_parts.proofs.Lasting.{AllEnds, Begins, Handled, Lasting, told_gone, told_late}
use Rattle.ca_laws_parts.proofs.LastingAll.{run-lasts}
use Rattle.ca_laws_parts.proofs.WritesLists.{In-append, In-kept, In-snoc, kept-in, none_at}

-- Each subscription that stands has the SID of a channel that is open, and was created before it.
abbrev pub StandingOn : Joined → Type 0
StandingOn c = (st : Standing) → In c.standing st → (x : Creation) × In c.creations x × (x.sid ≡ st.key.sid) × (x.place < st.place)

standing-less : (c d : Joined) → ((s : Standing) → In d.standing s → (t : Standing) × In c.standing t × (t.place ≡ s.place) × (t.key ≡ s.key))
    → ((s : Standing) (x : Creation) → In d.standing s → x.sid ≡ s.key.sid → In c.creations x → In d.creations x) → StandingOn c → StandingOn d
standing-less c d standing creations h st at =
    let t = standing st at in
    let x = h t.0 t.1 in
    let sid : x.0.sid ≡ st.key.sid = x.2 ∙ ap (λ (k : SubKey). k.sid) t.3 in
    (x.0, creations st x.0 at sid x.1, sid, subst (λ (p : ℕ). x.0.place < p) t.2 x.3)

standing-same : (c d : Joined) → d.standing ≡ c.standing → d.creations ≡ c.creations → StandingOn c → StandingOn d
standing-same c d standing creations h =
    standing-less c d (λ s at. (s, subst (λ (l : List Standing). In l s) standing at, refl, refl)) (λ s x at is there. subst (λ (l : List Creation). In l x) (sym creations) there) h

standing-numbered : (c : Joined) (keys : List SubKey) → StandingOn c → StandingOn (fold with_number c keys)
standing-numbered c [] h = h
standing-numbered c (key ∷ keys) h =
    standing-numbered (with_number c key) keys
    (standing-less c (with_number c key)
    (λ s at.
    let x = At-mapped (λ (t : Standing). cond (same key t.key) (record t { posts = t.posts + 1 }) t) c.standing at.0 s at.1 in
    let one = both x.0 (same key x.0.key) in
    (x.0, (at.0, x.1), sym (ap (λ (t : Standing). t.place) x.2 ∙ one.0), sym (ap (λ (t : Standing). t.key) x.2 ∙ one.1)))
    (λ s x at is there. there) h)
  where
    both : (t : Standing) (b : Bool) → ((cond b (record t { posts = t.posts + 1 }) t).place ≡ t.place) × ((cond b (record t { posts = t.posts + 1 }) t).key ≡ t.key)
    both t true = (refl, refl)
    both t false = (refl, refl)

standing-gone : (told : List (Handle × OpenChannel)) (c : Joined) → StandingOn c → StandingOn (told_gone told c)
standing-gone told c h = standing-less c (told_gone told c) (λ s at. (s, (In-kept (λ (t : Standing). not (is_on told t.key)) c.standing s at).0, refl, refl)) (λ s x at is there. there) h

standing-handled : (y : Server) (e : ServerEnd) (s : Sent) (replies : List Fields) (did : Action) (step : Step) (c : Joined) → Due (knows y e) s.message replies did → ChannelsOn e c → Messages c → StandingOn c
    → StandingOn (handled_at (length c.lists.handled) step replies (numbers_after (length c.lists.handled) did c))
standing-handled y e s replies did step c due channels messages h = go did due
  where
    place : ℕ
    place = length c.lists.handled

    as-was : (a : Action) → (numbers_after place a c).standing ≡ c.standing → (numbers_after place a c).creations ≡ c.creations → StandingOn (handled_at place step replies (numbers_after place a c))
    as-was a standing creations = standing-same c (handled_at place step replies (numbers_after place a c)) standing creations h

    go : (a : Action) → Due (knows y e) s.message replies a → StandingOn (handled_at place step replies (numbers_after place a c))
    go (Adds sub) due st there = elim (In-snoc c.standing (record { key = key_of sub; place = place; posts = 1 }) st there) [
      | inl old ↦ h st old
      | inr new ↦
          let d = due-adds (knows y e) s.message replies sub due in
          let is = added-is (knows y e) s.message replies sub due in
          let serves = d.1.0 in
          let at = serves.open_there in
          let k = At-mapped known_channel (held e.channels) at.0 serves.channel at.1 in
          let o = channels.opens k.0.0 k.0.1 (held-under e.channels at.0 k.0 k.1) in
          let f = find-at (has_sid (wire_of k.0.0)) c.creations o.0 o.1 in
          let m = messages.channels o.0 (f.0, f.1) in
          let key : st.key ≡ key_in s.message = ap (λ (z : Standing). z.key) new ∙ ap key_of is.1 in
          let sid : o.0.sid ≡ st.key.sid = eqb-true o.0.sid (wire_of k.0.0) f.2 ∙ ap (λ (z : KnownChannel). z.sid) (sym k.2) ∙ serves.under ∙ ap (λ (z : SubKey). z.sid) (sym key) in
          let at_place : st.place ≡ place = ap (λ (z : Standing). z.place) new in
          (o.0, (f.0, f.1), sid, subst (λ (p : ℕ). o.0.place < p) (sym at_place) m.3)
    ]
    go (action.Opens ch) due st there = (let x = h st there in (x.0, In-append c.creations _ x.0 x.1, x.2, x.3))
    go (action.Drops key) due st there =
        standing-less c (handled_at place step replies (numbers_after place (action.Drops key) c)) (λ st at. (st, (In-kept (λ (t : Standing). not (same key t.key)) c.standing st at).0, refl, refl)) (λ st x at is there. there) h st there
    go (action.Clears sid) due st there =
        standing-less c (handled_at place step replies (numbers_after place (action.Clears sid) c)) (λ st at. (st, (In-kept (λ (t : Standing). not (eqb t.key.sid sid)) c.standing st at).0, refl, refl))
        (λ st x at is there.
        let keeps = (In-kept (λ (t : Standing). not (eqb t.key.sid sid)) c.standing st at).1 in
        kept-in (λ (z : Creation). not (eqb z.sid sid)) c.creations x there (ap (λ (n : ℕ). not (eqb n sid)) is ∙ keeps)) h st there
    go (action.Switches on) due st there = as-was (action.Switches on) refl refl st there
    go (action.Applies name value busies) due st there = as-was (action.Applies name value busies) refl refl st there
    go (action.Waits name value) due st there = as-was (action.Waits name value) refl refl st there
    go (action.Names p) due st there = as-was (action.Names p) refl refl st there
    go action.Greets due st there = as-was action.Greets refl refl st there
    go action.Nothing due st there = as-was action.Nothing refl refl st there

-- ---- over events

abbrev HasStanding : ℕ → ServerEnd → Joined → Type 0
HasStanding n e c = ChannelsOn e c × Messages c × StandingOn c

standing-lasting : Lasting HasStanding
standing-lasting = record {
  stays = λ n e f c d held goes p. (channels-lasting.stays n e f c d held goes p.0, messages-lasting.stays n e f c d held goes p.1, standing-same c d goes.standing goes.creations p.2);
  posted = λ n name mask v e c p.
      (channels-lasting.posted n name mask v e c p.0, messages-lasting.posted n name mask v e c p.1, standing-numbered c (map key_of (filter (concerns name mask) e.subscriptions)) p.2);
  removed = λ n name e c p. (channels-lasting.removed n name e c p.0, messages-lasting.removed n name e c p.1, standing-gone _ c p.2);
  pumped = λ n us e after c folds p. (let q = stamped-parts us c in (channels-lasting.pumped n us e after c folds p.0, messages-lasting.pumped n us e after c folds p.1, standing-same c (stamped us c) q.2 q.3 p.2));
  replied = λ n e c place ms p. (channels-lasting.replied n e c place ms p.0, messages-lasting.replied n e c place ms p.1, standing-same c (told_late place ms c) refl refl p.2);
}

standing-begun : (w : World) → Begins HasStanding w
standing-begun w n moment c more new = (
  channels-begun w n moment c more new,
  messages-begun w n moment c more new,
  λ st at. absurd (none_at at.0 st (subst (λ (l : List Standing). At l at.0 st) new.standing at.1)),
)

standing-kept : Handled HasStanding
standing-kept n y e new s replies did step c at due acts p =
    (channels-handled n y e new s replies did step c at due acts p.0, messages-kept n y e new s replies did step c at due acts p.1, standing-handled y e s replies did step c due p.0 p.1 p.2)

pub reached-standing : (w : World) → IsReached w → AllEnds (λ (n : ℕ) (e : ServerEnd). StandingOn) w
reached-standing w (s, es, stopped, ok, runs) n c y e at there opened has = (run-lasts HasStanding standing-lasting standing-begun standing-kept s es stopped w ok runs (runs-take s es ok) n c y e at there opened has).2
