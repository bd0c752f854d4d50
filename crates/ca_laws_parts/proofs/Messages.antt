-- The subscriptions that are on a circuit, and its open channels, came by EVENT_ADDs and
-- CREATE_CHANs that were handled.
use Rattle.std.proofs.Common.{◌≡◌, ℕ, ◌+◌, ◌<◌, inl, inr, Bool, true, false, cond, not, eqb, List, [], ◌∷◌, ◌++◌, length, refl, sym, ap, subst, ◌∙◌, arith}
use Rattle.std.specs.Prelude.{filter, map}
use Rattle.std.specs.List.{fold}
use Rattle.ca_arena.specs.declared.handle.Handle.{Handle}
use Rattle.ca_queue.specs.declared.entry.SubKey.{SubKey}
use Rattle.ca_queue.specs.Keys.{same}
use Rattle.ca_text.specs.declared.command.Command.TheVariants as command
use Rattle.ca_text.specs.Place.{At}
use Rattle.ca_text.proofs.Places.{At-mapped}
use Rattle.ca_wire.specs.Fields.{Fields}
use Rattle.ca_model.specs.Due.{Action, Adds, Applies, Clears, Drops, Due, Opens, Switches, key_in}
use Rattle.ca_model.specs.Due as action
use Rattle.ca_model.specs.History.{Sent, Step}
use Rattle.ca_model.specs.Server.{OpenChannel, Server, ServerEnd, concerns, key_of}
use Rattle.ca_model.specs.ServerCalls.{is_on}
use Rattle.ca_model.specs.ServerSteps.{Acts, knows}
use Rattle.ca_model.specs.Speech.{In, Is}
use Rattle.ca_model.specs.ServerEvents.{handled_at, numbers_after, with_number}
use Rattle.ca_model.specs.World.{Creation, Joined, Standing, World}
use Rattle.ca_laws_parts.proofs.Fresh.{added-is, due-adds, due-opens}
use Rattle.ca_laws_parts.proofs.Lasting.{Begins, Handled, Lasting, told_gone, told_late}
use Rattle.ca_laws_parts.proofs.WritesLists.{In-kept, In-snoc, length-more, none_at}
use Rattle.ca_laws_parts.specs.Messages.{Messages}
use Rattle.ca_laws_parts.proofs.Since.{stamped-parts}

-- ---- what it is about stays

-- a circuit whose messages were handled before, with less standing and open
messages-less : (c d : Joined) → ((p : ℕ) (s : Sent) → At c.lists.up p s → At d.lists.up p s) → length c.lists.handled ≡ length d.lists.handled
    → ((s : Standing) → In d.standing s → (t : Standing) × In c.standing t × (t.place ≡ s.place) × (t.key ≡ s.key)) → ((x : Creation) → In d.creations x → In c.creations x) → Messages c → Messages d
messages-less c d up handled standing creations m = record {
  subs = λ st at.
      let t = standing st at in
      let s = m.subs t.0 t.1 in (
        s.0,
        up st.place s.0 (subst (λ (p : ℕ). At c.lists.up p s.0) t.2 s.1),
        s.2,
        s.3 ∙ t.3,
        (let lt : t.0.place < length c.lists.handled = s.4 in let is : t.0.place ≡ st.place = t.2 in omega (arith, lt, is, handled)),
      );
  channels = λ x at. (let s = m.channels x (creations x at) in (s.0, up x.place s.0 s.1, s.2, (let lt : x.place < length c.lists.handled = s.3 in omega (arith, lt, handled))));
}

messages-same : (c d : Joined) → ((p : ℕ) (s : Sent) → At c.lists.up p s → At d.lists.up p s) → length c.lists.handled ≡ length d.lists.handled → d.standing ≡ c.standing → d.creations ≡ c.creations → Messages c → Messages d
messages-same c d up handled standing creations m =
    messages-less c d up handled (λ s at. (s, subst (λ (l : List Standing). In l s) standing at, refl, refl)) (λ x at. subst (λ (l : List Creation). In l x) creations at) m

messages-numbered : (c : Joined) (keys : List SubKey) → Messages c → Messages (fold with_number c keys)
messages-numbered c [] m = m
messages-numbered c (key ∷ keys) m =
    messages-numbered (with_number c key) keys
    (messages-less c (with_number c key) (λ p s at. at) refl
    (λ s at.
    let x = At-mapped (λ (t : Standing). cond (same key t.key) (record t { posts = t.posts + 1 }) t) c.standing at.0 s at.1 in
    let one = both x.0 (same key x.0.key) in
    (x.0, (at.0, x.1), sym (ap (λ (t : Standing). t.place) x.2 ∙ one.0), sym (ap (λ (t : Standing). t.key) x.2 ∙ one.1)))
    (λ x at. at) m)
  where
    both : (t : Standing) (b : Bool) → ((cond b (record t { posts = t.posts + 1 }) t).place ≡ t.place) × ((cond b (record t { posts = t.posts + 1 }) t).key ≡ t.key)
    both t true = (refl, refl)
    both t false = (refl, refl)

messages-gone : (told : List (Handle × OpenChannel)) (c : Joined) → Messages c → Messages (told_gone told c)
messages-gone told c m =
    messages-less c (told_gone told c) (λ p s at. at) refl (λ s at. (s, (In-kept (λ (t : Standing). not (is_on told t.key)) c.standing s at).0, refl, refl)) (λ x at. at) m

-- ---- a message

messages-handled : (y : Server) (e new : ServerEnd) (s : Sent) (replies : List Fields) (did : Action) (step : Step) (c : Joined) → At c.lists.up (length c.lists.handled) s → Due (knows y e) s.message replies did → Acts y e did new → Messages c
    → Messages (handled_at (length c.lists.handled) step replies (numbers_after (length c.lists.handled) did c))
messages-handled y e new s replies did step c at due acts m = go did due
  where
    place : ℕ
    place = length c.lists.handled

    more : length (c.lists.handled ++ step ∷ []) ≡ length c.lists.handled + 1
    more = length-more c.lists.handled step

    later : (p : ℕ) → p < length c.lists.handled → p < length (c.lists.handled ++ step ∷ [])
    later p lt = omega (arith, lt, more)

    now : length c.lists.handled < length (c.lists.handled ++ step ∷ [])
    now = omega (arith, more)

    -- what was there, of a circuit that handled one more
    subs-were : (st : Standing) → In c.standing st → (x : Sent) × At c.lists.up st.place x × Is command.EventAdd x.message × (key_in x.message ≡ st.key) × (st.place < length (c.lists.handled ++ step ∷ []))
    subs-were st there = (let x = m.subs st there in (x.0, x.1, x.2, x.3, later st.place x.4))

    channels-were : (x : Creation) → In c.creations x → (z : Sent) × At c.lists.up x.place z × Is command.CreateChannel z.message × (x.place < length (c.lists.handled ++ step ∷ []))
    channels-were x there = (let z = m.channels x there in (z.0, z.1, z.2, later x.place z.3))

    go : (did : Action) → Due (knows y e) s.message replies did → Messages (handled_at place step replies (numbers_after place did c))
    go (Adds sub) due =
        let d = due-adds (knows y e) s.message replies sub due in
        let is = added-is (knows y e) s.message replies sub due in
        let key : key_in s.message ≡ key_of sub = sym (ap key_of is.1) in
        record {
          subs = λ st there. elim (In-snoc c.standing (record { key = key_of sub; place = place; posts = 1 }) st there) [
            | inl old ↦ subs-were st old
            | inr new ↦ (
              s,
              subst (λ (p : ℕ). At c.lists.up p s) (sym (ap (λ (x : Standing). x.place) new)) at,
              d.0,
              key ∙ sym (ap (λ (x : Standing). x.key) new),
              (let is_place : st.place ≡ length c.lists.handled = ap (λ (x : Standing). x.place) new in omega (arith, is_place, more)),
            )
          ];
          channels = channels-were;
        }
    go (Opens ch) due =
        let d = due-opens (knows y e) s.message replies ch due in
        record {
          subs = subs-were;
          channels = λ x there. elim (In-snoc c.creations (record { sid = ch.sid; place = place }) x there) [
            | inl old ↦ channels-were x old
            | inr new ↦ (
              s,
              subst (λ (p : ℕ). At c.lists.up p s) (sym (ap (λ (z : Creation). z.place) new)) at,
              d.0,
              (let is_place : x.place ≡ length c.lists.handled = ap (λ (z : Creation). z.place) new in omega (arith, is_place, more)),
            )
          ];
        }
    go (Drops key) due = record { subs = λ st there. subs-were st (In-kept (λ (t : Standing). not (same key t.key)) c.standing st there).0; channels = channels-were }
    go (Clears sid) due = record {
      subs = λ st there. subs-were st (In-kept (λ (t : Standing). not (eqb t.key.sid sid)) c.standing st there).0;
      channels = λ x there. channels-were x (In-kept (λ (z : Creation). not (eqb z.sid sid)) c.creations x there).0;
    }
    go (Switches on) due = record { subs = subs-were; channels = channels-were }
    go action.Greets due = record { subs = subs-were; channels = channels-were }
    go (action.Names p) due = record { subs = subs-were; channels = channels-were }
    go action.Nothing due = record { subs = subs-were; channels = channels-were }
    go (Applies name value busies) due = record { subs = subs-were; channels = channels-were }
    go (action.Waits name value) due = record { subs = subs-were; channels = channels-were }

-- ---- over events

abbrev pub HasMessages : ℕ → ServerEnd → Joined → Type 0
HasMessages n e c = Messages c

pub messages-lasting : Lasting HasMessages
messages-lasting = record {
  stays = λ n e f c d held goes m. messages-same c d goes.later.up (ap (λ (l : List Step). length l) (sym goes.handled)) goes.standing goes.creations m;
  posted = λ n name mask v e c m. messages-numbered c (map key_of (filter (concerns name mask) e.subscriptions)) m;
  removed = λ n name e c m. messages-gone _ c m;
  pumped = λ n us e after c folds m. (let p = stamped-parts us c in messages-same c _ (λ q s at. subst (λ (l : List Sent). At l q s) (sym p.0) at) (ap (λ (l : List Step). length l) (sym p.1)) p.2 p.3 m);
  replied = λ n e c place ms m. messages-same c (told_late place ms c) (λ q s at. at) refl refl refl m;
}

pub messages-begun : (w : World) → Begins HasMessages w
messages-begun w n moment c more new = record {
  subs = λ st at. absurd (none_at at.0 st (subst (λ (l : List Standing). At l at.0 st) new.standing at.1));
  channels = λ x at. absurd (none_at at.0 x (subst (λ (l : List Creation). At l at.0 x) new.creations at.1));
}

pub messages-kept : Handled HasMessages
messages-kept n y e new s replies did step c at due acts m = messages-handled y e new s replies did step c at due acts m
