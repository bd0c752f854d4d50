-- Each subscription of an end stays on an open channel, as the end handles a message.
use Rattle.std.proofs.Common.{◌≡◌, ℕ, ◌≤◌, ◌==◌, inl, inr, Bool, true, false, not, List, length, filter, Option, Some, None, refl, sym, ap, ◌∙◌, subst}
use Rattle.std.specs.Prelude.{option_map, unwrap_or}
use Rattle.std.proofs.lemmas.Bool.{eq-eqb}
use Rattle.ca_arena.specs.declared.handle.Handle.{Handle}
use Rattle.ca_ids.specs.Table.{Table, by_wire, under, with_freed}
use Rattle.ca_ids.specs.Wire.{wire_of}
use Rattle.ca_queue.specs.declared.entry.SubKey.{SubKey}
use Rattle.ca_queue.specs.Keys.{same}
use Rattle.ca_records.specs.Puts.{Record}
use Rattle.ca_text.specs.Limits.{arena_slots}
use Rattle.ca_text.proofs.Places.{At-snoc}
use Rattle.ca_wire.specs.Fields.{Fields}
use Rattle.ca_model.specs.Due.{Action, Adds, Applies, Clears, Drops, Greets, Names, Nothing, Opens, Switches, Waits}
use Rattle.ca_model.specs.Server.{OpenChannel, Server, ServerEnd, Subscription, key_of}
use Rattle.ca_model.specs.ServerSteps.{Acts, without_channel}
use Rattle.ca_server_circuit.specs.Handling.{Fits}
use Rattle.ca_server_circuit.specs.Subscribing.{AreOnChannels, IsOnChannel}
use Rattle.ca_server_circuit.proofs.Stays.{at-filtered}
use Rattle.ca_server_circuit.proofs.Tables.{freed-other, held-other, wire-under}

abbrev On : ServerEnd → Type 0
On e = AreOnChannels e.channels e.subscriptions

both : (b : Bool) → not b ≡ true → b ≡ true → ⊥
both b p q = cc

-- fewer subscriptions
fewer : (t : Table OpenChannel) (gone : SubKey → Bool) (ss : List Subscription) → AreOnChannels t ss → AreOnChannels t (filter (λ (s : Subscription). not (gone (key_of s))) ss)
fewer t gone ss on s i = (let f = at-filtered (λ (x : Subscription). not (gone (key_of x))) ss i.0 s i.1 in on s (f.0, f.1))

-- a channel is cleared with its subscriptions
cleared : (sid : ℕ) (e : ServerEnd) → On e → On (without_channel sid e)
cleared sid e on s i =
    let f = at-filtered (λ (x : Subscription). not ((key_of x).sid == sid)) e.subscriptions i.0 s i.1 in
    let o = on s (f.0, f.1) in
    (o.0, o.1, by (by_wire e.channels sid) refl o.0 o.1 o.2 o.3 f.2, o.3, o.4, o.5)
  where
    by : (found : Option (Handle × OpenChannel)) → by_wire e.channels sid ≡ found → (h : Handle) (c : OpenChannel) → under e.channels h ≡ Some c → wire_of h ≡ s.wanted.sid → not (s.wanted.sid == sid) ≡ true
        → under (unwrap_or (option_map (λ (c : Handle × OpenChannel). with_freed c.0 e.channels) found) e.channels) h ≡ Some c
    by None none h c at id other = at
    by (Some g) some h c at id other =
        freed-other e.channels h g.0 c at
        (λ one. both (s.wanted.sid == sid) other (eq-eqb s.wanted.sid sid (sym id ∙ ap wire_of one ∙ (wire-under e.channels sid g some).1)))

pub acts-on : (y : Server) (rs : List Record) (e : ServerEnd) (m : Fields) (a : Action) (new : ServerEnd) → length e.channels ≤ arena_slots → Acts y e a new → Fits rs e m a → On e → On new
acts-on y rs e m Nothing new few is fits on = subst On (sym is) on
acts-on y rs e m Greets new few is fits on = subst On (sym is) on
acts-on y rs e m (Names p) new few is fits on = subst On (sym is) on
acts-on y rs e m (Applies n v b) new few is fits on = subst On (sym is) on
acts-on y rs e m (Waits n v) new few is fits on = subst On (sym is) on
acts-on y rs e m (Switches b) new few is fits on = subst On (sym is) on
acts-on y rs e m (Drops k) new few is fits on = subst On (sym is) (fewer e.channels (same k) e.subscriptions on)
acts-on y rs e m (Clears sid) new few is fits on = subst On (sym is) (cleared sid e on)
acts-on y rs e m (Opens k) new few is fits on =
    let made : OpenChannel = record { cid = k.cid; name = k.name; retired = false } in
    subst On (sym is.3)
    (λ s i. (let o = on s i in (o.0, o.1, held-other e.channels o.0 is.0 made o.1 is.1 o.2, o.3, o.4, o.5)))
acts-on y rs e m (Adds x) new few is fits on =
    subst On (sym is.2.leaves)
    (λ s i. elim (At-snoc e.subscriptions x i.0 s i.1) [
      | inl old ↦ on s (i.0, old)
      | inr own ↦ subst (λ (z : Subscription). IsOnChannel e.channels z) (sym own.1) its
    ])
  where
    its : IsOnChannel e.channels x
    its = (let w = wire-under e.channels m.p1 fits.0 fits.1 in (fits.0.0, fits.0.1, w.0, w.1 ∙ sym fits.4, fits.2, fits.3))
