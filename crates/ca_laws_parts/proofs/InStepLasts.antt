-- Ends and circuits stay in step: the same subscriptions are in both, and the same updates wait.
use Rattle.std.proofs.Common.{◌≡◌, ℕ, false, List, [], ◌∷◌, ◌++◌, refl, sym, ap, subst, ◌∙◌}
use Rattle.std.specs.Prelude.{filter, length, map, option_map, slice_get, slice_set, unwrap_or}
use Rattle.std.specs.List.{FoldsTo, fold}
use Rattle.ca_arena.specs.declared.handle.Handle.{Handle}
use Rattle.ca_ids.specs.Table.{with_each}
use Rattle.ca_link.specs.Link.{with_sent}
use Rattle.ca_queue.specs.declared.entry.SubKey.{SubKey}
use Rattle.ca_queue.specs.Keys.{AreApart, is_among}
use Rattle.ca_queue.specs.Queue.{Queue, with_front_taken}
use Rattle.ca_text.specs.Limits.{circuit_queues}
use Rattle.ca_text.specs.Place.{At}
use Rattle.ca_wire.specs.Fields.{Fields}
use Rattle.ca_model.specs.Due.{Action, Due}
use Rattle.ca_model.specs.History.{Cause, Reply, Sent, Step}
use Rattle.ca_model.specs.Server.{OpenChannel, Server, ServerEnd, Subscription, concerns, key_of, new_end, with_post}
use Rattle.ca_model.specs.ServerCalls.{channels_of, disconnects, end_without, is_on, retired}
use Rattle.ca_model.specs.ServerSteps.{Acts, Leaves, Update, knows}
use Rattle.ca_model.specs.Speech.{Stored}
use Rattle.ca_model.specs.ServerEvents.{front_number, handled_at, numbers_after, removal_told, stamped, with_number}
use Rattle.ca_model.specs.World.{Joined, Standing, World}
use Rattle.ca_laws_parts.specs.InStep.{EndInStep, InStep, keys_standing}
use Rattle.ca_laws_parts.proofs.Acts.{end-acts, end-without}
use Rattle.ca_laws_parts.proofs.InStep.{pumps-numbered, step-begins, step-pumped}
use Rattle.ca_laws_parts.proofs.Posted.{keys-stay, step-post}
use Rattle.ca_laws_parts.specs.Says.{AreNumbered}
use Rattle.ca_laws_parts.specs.WritesSteps.{AllInStep}
use Rattle.ca_laws_parts.proofs.Fresh.{adds-fresh}
use Rattle.ca_laws_parts.proofs.Lasting.{Begins, Handled, IsNew, Lasting, numbered_for, told_gone, told_late}

-- ---- what keeps it

in-step-alike : (e f : ServerEnd) (c d : Joined) → f.queues ≡ e.queues → f.subscriptions ≡ e.subscriptions → d.standing ≡ c.standing → d.queues ≡ c.queues → EndInStep e c → EndInStep f d
in-step-alike e f c d queues subs standing numbers s =
    let keys : keys_standing d ≡ keys_standing c = ap (λ (l : List Standing). map (λ (x : Standing). x.key) l) standing in
    record {
      queues = subst (λ (l : List (Queue Stored)). InStep l d.queues) (sym queues) (subst (λ (l : List (Queue (ℕ × Cause))). InStep e.queues l) (sym numbers) s.queues);
      keys = ap (λ (l : List Subscription). map key_of l) subs ∙ s.keys ∙ sym keys;
      apart = subst (λ (l : List SubKey). AreApart l) (sym keys) s.apart;
    }

in-step-begins : (moment : ℕ) (c : Joined) → IsNew c → EndInStep (new_end moment) c
in-step-begins moment c n =
    let keys : keys_standing c ≡ [] = ap (λ (l : List Standing). map (λ (x : Standing). x.key) l) n.standing in
    record {
      queues = subst (λ (l : List (Queue (ℕ × Cause))). InStep (new_end moment).queues l) (sym n.queues) (step-begins circuit_queues);
      keys = sym keys;
      apart = subst (λ (l : List SubKey). AreApart l) (sym keys) tt;
    }

keys-fold : (c : Joined) (keys : List SubKey) → keys_standing (fold with_number c keys) ≡ keys_standing c
keys-fold c [] = refl
keys-fold c (k ∷ keys) = keys-fold (with_number c k) keys ∙ keys-stay k c

in-step-posted : (name : List ℕ) (mask : ℕ) (v : Stored) (e : ServerEnd) (c : Joined) → EndInStep e c → EndInStep (with_post name mask v e) (numbered_for name mask e c)
in-step-posted name mask v e c s =
    let standing : keys_standing (numbered_for name mask e c) ≡ keys_standing c = keys-fold c (map key_of (filter (concerns name mask) e.subscriptions)) in
    record {
      queues = step-post name mask v e c s.keys s.apart s.queues;
      keys = s.keys ∙ sym standing;
      apart = subst (λ (l : List SubKey). AreApart l) (sym standing) s.apart;
    }

in-step-removed : (name : List ℕ) (e : ServerEnd) (c : Joined) → EndInStep e c → EndInStep (end_without name e) (told_gone (channels_of name e) c)
in-step-removed name e c s =
    let channels : List (Handle × OpenChannel) = channels_of name e in
    end-without (is_on channels) (record e { link = with_sent (disconnects name e) e.link; channels = with_each (retired name) e.channels })
    (record c { lists = record c.lists { down = c.lists.down ++ map (removal_told c.creations) channels } }) (record { queues = s.queues; keys = s.keys; apart = s.apart })

-- a pump leaves the subscriptions
pub pumped-subs : (us : List Update) (e after : ServerEnd) → FoldsTo Leaves e us after → after.subscriptions ≡ e.subscriptions
pumped-subs [] e after same = ap (λ (x : ServerEnd). x.subscriptions) (sym same)
pumped-subs (u ∷ us) e after (mid, one, rest) = pumped-subs us mid after rest ∙ ap (λ (x : ServerEnd). x.subscriptions) one.leaves

pub stamped-standing : (us : List Update) (c : Joined) → (stamped us c).standing ≡ c.standing
stamped-standing [] c = refl
stamped-standing (u ∷ us) c =
    let item : ℕ × Cause = unwrap_or (front_number c.queues u.queue) (0, Reply) in
    let queues : List (Queue (ℕ × Cause)) = unwrap_or (option_map (λ (q : Queue (ℕ × Cause)). slice_set c.queues u.queue (with_front_taken q)) (slice_get c.queues u.queue)) c.queues in
    stamped-standing us (record c { queues = queues; lists = record c.lists { down = c.lists.down ++ record { message = u.message; place = item.0; cause = item.1 } ∷ [] } })

in-step-pumped : (us : List Update) (e after : ServerEnd) (c : Joined) → FoldsTo Leaves e us after → EndInStep e c → EndInStep after (stamped us c)
in-step-pumped us e after c folds s =
    let keys : keys_standing (stamped us c) ≡ keys_standing c = ap (λ (l : List Standing). map (λ (x : Standing). x.key) l) (stamped-standing us c) in
    record {
      queues = (step-pumped us e after c folds s.queues).0;
      keys = ap (λ (l : List Subscription). map key_of l) (pumped-subs us e after folds) ∙ s.keys ∙ sym keys;
      apart = subst (λ (l : List SubKey). AreApart l) (sym keys) s.apart;
    }

in-step-handled : (y : Server) (e new : ServerEnd) (s : Sent) (replies : List Fields) (did : Action) (step : Step) (c : Joined) → At c.lists.up (length c.lists.handled) s → Due (knows y e) s.message replies did → Acts y e did new → EndInStep e c
    → EndInStep new (handled_at (length c.lists.handled) step replies (numbers_after (length c.lists.handled) did c))
in-step-handled y e new s replies did step c at due acts h =
    let r =
    end-acts y e new (length c.lists.handled) did c acts
    (λ x is. subst (λ (l : List SubKey). is_among (key_of x) l ≡ false) h.keys (adds-fresh (knows y e) s.message replies x (subst (λ (a : Action). Due (knows y e) s.message replies a) is due))) h in
    record { queues = r.queues; keys = r.keys; apart = r.apart }

-- so it is of each circuit, whatever its number
abbrev pub EndsInStep : ℕ → ServerEnd → Joined → Type 0
EndsInStep n e c = EndInStep e c

pub in-step-lasting : Lasting EndsInStep
in-step-lasting = record {
  stays = λ n e f c d held goes s. in-step-alike e f c d held.queues held.subscriptions goes.standing goes.queues s;
  posted = λ n. in-step-posted;
  removed = λ n. in-step-removed;
  pumped = λ n. in-step-pumped;
  replied = λ n e c place ms s. in-step-alike e e c (told_late place ms c) refl refl refl refl s;
}

pub in-step-begun : (w : World) → Begins EndsInStep w
in-step-begun w n moment c more new = in-step-begins moment c new

pub in-step-kept : Handled EndsInStep
in-step-kept n = in-step-handled

-- ---- what it is for

pub world-numbered : (w : World) → AllInStep w → AreNumbered w
world-numbered w all k j y updates core at server opened pumps = pumps-numbered y.core core j.at_server updates j (λ e has. (all k j y e at server opened has).queues) pumps
