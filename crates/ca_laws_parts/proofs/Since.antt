-- What a circuit has of subscriptions and channels since an earlier world.
use Rattle.std.proofs.Common.{◌≡◌, ℕ, ◌+◌, ◌≤◌, eqb, ◌⊎◌, inl, inr, Bool, true, false, cond, not, List, [], ◌∷◌, ◌++◌, length, refl, sym, ap, subst, ◌∙◌}
use Rattle.std.specs.Prelude.{filter, map, option_map, slice_get, slice_set, unwrap_or}
use Rattle.std.specs.List.{fold}
use Rattle.ca_arena.specs.declared.handle.Handle.{Handle}
use Rattle.ca_queue.specs.declared.entry.SubKey.{SubKey}
use Rattle.ca_queue.specs.Keys.{same}
use Rattle.ca_queue.specs.Queue.{Queue, with_front_taken}
use Rattle.ca_text.specs.Place.{At}
use Rattle.ca_text.proofs.Places.{At-mapped}
use Rattle.ca_wire.specs.Fields.{Fields}
use Rattle.ca_model.specs.Due.{Action, Adds, Applies, Clears, Drops, Opens, Switches}
use Rattle.ca_model.specs.Due as action
use Rattle.ca_model.specs.History.{Cause, Reply, Sent, Step}
use Rattle.ca_model.specs.Server.{OpenChannel, ServerEnd, concerns, key_of}
use Rattle.ca_model.specs.ServerCalls.{is_on}
use Rattle.ca_model.specs.ServerSteps.{Update}
use Rattle.ca_model.specs.Speech.{In}
use Rattle.ca_model.specs.ServerEvents.{front_number, handled_at, numbers_after, stamped, with_number, without_standing}
use Rattle.ca_model.specs.World.{Creation, Joined, Standing, World}
use Rattle.ca_laws_parts.proofs.Lasting.{Lasting, numbered_for, told_gone, told_late}
use Rattle.ca_laws_parts.proofs.LastingStep.{HandledHere}
use Rattle.ca_laws_parts.proofs.WritesLists.{In-kept, In-snoc}

-- ---- from one circuit to the next

-- The circuit joins the same server, and what stands or is open on it stood or was open before, or
-- came by a message at one of these places.
pub record Grows (Extra : ℕ → Type 0) (c d : Joined) : Type 0 where
  pub server : d.server ≡ c.server
  pub up : (p : ℕ) (s : Sent) → At c.lists.up p s → At d.lists.up p s
  pub standing : (s : Standing) → In d.standing s → ((t : Standing) × In c.standing t × (t.place ≡ s.place)) ⊎ Extra s.place
  pub creations : (x : Creation) → In d.creations x → In c.creations x ⊎ Extra x.place

pub grows-same : (Extra : ℕ → Type 0) (c d : Joined) → d.server ≡ c.server → ((p : ℕ) (s : Sent) → At c.lists.up p s → At d.lists.up p s) → d.standing ≡ c.standing → d.creations ≡ c.creations → Grows Extra c d
grows-same Extra c d server up standing creations = record {
  server = server;
  up = up;
  standing = λ s at. inl (s, subst (λ (l : List Standing). In l s) standing at, refl);
  creations = λ x at. inl (subst (λ (l : List Creation). In l x) creations at);
}

pub grows-then : (Extra : ℕ → Type 0) (a b c : Joined) → Grows Extra a b → Grows Extra b c → Grows Extra a c
grows-then Extra a b c f g = record {
  server = g.server ∙ f.server;
  up = λ p s at. g.up p s (f.up p s at);
  standing = λ s at. elim (g.standing s at) [
    | inr new ↦ inr new
    | inl old ↦ elim (f.standing old.0 old.1) [
      | inr new ↦ inr (subst Extra old.2 new)
      | inl was ↦ inl (was.0, was.1, was.2 ∙ old.2)
    ]
  ];
  creations = λ x at. elim (g.creations x at) [ inr new ↦ inr new | inl old ↦ f.creations x old ];
}

-- ---- each change

numbered-grows : (Extra : ℕ → Type 0) (c : Joined) (keys : List SubKey) → Grows Extra c (fold with_number c keys)
numbered-grows Extra c [] = grows-same Extra c c refl (λ p s at. at) refl refl
numbered-grows Extra c (key ∷ keys) =
    grows-then Extra c (with_number c key) (fold with_number (with_number c key) keys)
    (record {
      server = refl;
      up = λ p s at. at;
      standing = λ s at.
          let x = At-mapped (λ (t : Standing). cond (same key t.key) (record t { posts = t.posts + 1 }) t) c.standing at.0 s at.1 in
          inl (x.0, (at.0, x.1), sym (ap (λ (t : Standing). t.place) x.2 ∙ one x.0 (same key x.0.key)));
      creations = λ x at. inl at;
    })
    (numbered-grows Extra (with_number c key) keys)
  where
    one : (t : Standing) (b : Bool) → (cond b (record t { posts = t.posts + 1 }) t).place ≡ t.place
    one t true = refl
    one t false = refl

without-grows : (Extra : ℕ → Type 0) (gone : SubKey → Bool) (c : Joined) → Grows Extra c (without_standing gone c)
without-grows Extra gone c = record {
  server = refl;
  up = λ p s at. at;
  standing = λ s at. inl (s, (In-kept (λ (t : Standing). not (gone t.key)) c.standing s at).0, refl);
  creations = λ x at. inl at;
}

stamped-grows : (Extra : ℕ → Type 0) (us : List Update) (c : Joined) → Grows Extra c (stamped us c)
stamped-grows Extra [] c = grows-same Extra c c refl (λ p s at. at) refl refl
stamped-grows Extra (u ∷ us) c =
    let item : ℕ × Cause = unwrap_or (front_number c.queues u.queue) (0, Reply) in
    let queues : List (Queue (ℕ × Cause)) = unwrap_or (option_map (λ (q : Queue (ℕ × Cause)). slice_set c.queues u.queue (with_front_taken q)) (slice_get c.queues u.queue)) c.queues in
    let d : Joined = record c { queues = queues; lists = record c.lists { down = c.lists.down ++ record { message = u.message; place = item.0; cause = item.1 } ∷ [] } } in
    grows-then Extra c d (stamped us d) (grows-same Extra c d refl (λ p s at. at) refl refl) (stamped-grows Extra us d)

-- a message that is handled: what it begins has its place
pub handled-grows : (Extra : ℕ → Type 0) (place : ℕ) (step : Step) (replies : List Fields) (did : Action) (c : Joined) → Extra place → Grows Extra c (handled_at place step replies (numbers_after place did c))
handled-grows Extra place step replies did c extra =
    grows-then Extra c (numbers_after place did c) (handled_at place step replies (numbers_after place did c)) (go did) (grows-same Extra (numbers_after place did c) (handled_at place step replies (numbers_after place did c)) refl (λ p s at. at) refl refl)
  where
    same-grows : Grows Extra c c
    same-grows = grows-same Extra c c refl (λ p s at. at) refl refl

    go : (did : Action) → Grows Extra c (numbers_after place did c)
    go (Adds s) = record {
      server = refl;
      up = λ p x at. at;
      standing = λ t at. elim (In-snoc c.standing (record { key = key_of s; place = place; posts = 1 }) t at) [
        | inl old ↦ inl (t, old, refl)
        | inr new ↦ inr (subst Extra (sym (ap (λ (x : Standing). x.place) new)) extra)
      ];
      creations = λ x at. inl at;
    }
    go (Opens ch) = record {
      server = refl;
      up = λ p x at. at;
      standing = λ t at. inl (t, at, refl);
      creations = λ x at. elim (In-snoc c.creations (record { sid = ch.sid; place = place }) x at) [
        | inl old ↦ inl old
        | inr new ↦ inr (subst Extra (sym (ap (λ (y : Creation). y.place) new)) extra)
      ];
    }
    go (Drops key) = without-grows Extra (same key) c
    go (Clears sid) = record {
      server = refl;
      up = λ p x at. at;
      standing = λ s at. inl (s, (In-kept (λ (t : Standing). not (eqb t.key.sid sid)) c.standing s at).0, refl);
      creations = λ x at. inl (In-kept (λ (y : Creation). not (eqb y.sid sid)) c.creations x at).0;
    }
    go (Switches on) = grows-same Extra c (numbers_after place (Switches on) c) refl (λ p s at. at) refl refl
    go action.Greets = same-grows
    go (action.Names p) = same-grows
    go action.Nothing = same-grows
    go (Applies name value busies) = same-grows
    go (action.Waits name value) = same-grows

-- ---- since a world

-- Circuits that were there since a world: what they have now they had then, or it came by a message
-- at a place of theirs.
module _ (w : World) (Extra : (n : ℕ) → ℕ → Type 0) where
  abbrev pub Since : ℕ → ServerEnd → Joined → Type 0
  Since n f d = ((c : Joined) × At w.circuits n c × (c.lists.server_open ≡ true) × Grows (Extra n) c d) ⊎ (length w.circuits ≤ n)

  since-then : (n : ℕ) (e f : ServerEnd) (c d : Joined) → Grows (Extra n) c d → Since n e c → Since n f d
  since-then n e f c d g (inl (b, at, opened, h)) = inl (b, at, opened, grows-then (Extra n) b c d h g)
  since-then n e f c d g (inr new) = inr new

  pub since-lasting : Lasting Since
  since-lasting = record {
    stays = λ n e f c d held goes p. since-then n e f c d (grows-same (Extra n) c d goes.later.server goes.later.up goes.standing goes.creations) p;
    posted = λ n name mask v e c p. since-then n e e c (numbered_for name mask e c) (numbered-grows (Extra n) c (map key_of (filter (concerns name mask) e.subscriptions))) p;
    removed = λ n name e c p. since-then n e e c (told_gone _ c) (gone-grows n _ c) p;
    pumped = λ n us e after c folds p. since-then n e after c (stamped us c) (stamped-grows (Extra n) us c) p;
    replied = λ n e c place ms p. since-then n e e c (told_late place ms c) (grows-same (Extra n) c (told_late place ms c) refl (λ q s at. at) refl refl) p;
  }
    where
      gone-grows : (n : ℕ) (told : List (Handle × OpenChannel)) (c : Joined) → Grows (Extra n) c (told_gone told c)
      gone-grows n told c = record {
        server = refl;
        up = λ p s at. at;
        standing = λ s at. inl (s, (In-kept (λ (t : Standing). not (is_on told t.key)) c.standing s at).0, refl);
        creations = λ x at. inl at;
      }

  pub since-handled : (m : ℕ) (j : Joined) (y : _) → At w.circuits m j → j.lists.server_open ≡ true → Extra m (length j.lists.handled) → HandledHere Since since-lasting m j y
  since-handled m j y at opened extra e taken new s replies did step has held sent due acts p = inl (j, at, opened, handled-grows (Extra m) (length j.lists.handled) step replies did j extra)

-- updates leave messages, steps, subscriptions and channels as they were
pub stamped-parts : (us : List Update) (c : Joined) → ((stamped us c).lists.up ≡ c.lists.up) × ((stamped us c).lists.handled ≡ c.lists.handled) × ((stamped us c).standing ≡ c.standing) × ((stamped us c).creations ≡ c.creations)
stamped-parts [] c = (refl, refl, refl, refl)
stamped-parts (u ∷ us) c =
    let item : ℕ × Cause = unwrap_or (front_number c.queues u.queue) (0, Reply) in
    let queues : List (Queue (ℕ × Cause)) = unwrap_or (option_map (λ (q : Queue (ℕ × Cause)). slice_set c.queues u.queue (with_front_taken q)) (slice_get c.queues u.queue)) c.queues in
    stamped-parts us (record c { queues = queues; lists = record c.lists { down = c.lists.down ++ record { message = u.message; place = item.0; cause = item.1 } ∷ [] } })
