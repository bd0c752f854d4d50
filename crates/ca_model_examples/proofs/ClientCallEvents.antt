-- What calls leave of a small world.
use Rattle.std.proofs.Common.{◌≡◌, ℕ, inl, inr, refl, subst, arith, rules, List, [], ◌∷◌}
use Rattle.std.specs.Prelude.{Some, None, slice_get}
use Rattle.ca_text.proofs.Places.{some_is}
use Rattle.ca_model.specs.World.{ClientSide}
use Rattle.ca_model.specs.History as history
use Rattle.ca_model.specs.History.{Line}
use Rattle.ca_model.specs.Client.{On}
use Rattle.ca_model.specs.Client as phase
use Rattle.ca_dbr.specs.declared.value.Outcome.{Outcome}
use Rattle.ca_model_examples.proofs.Lists.{one-at}
use Rattle.ca_dbr.specs.Elements.{signed_bytes_4}
use Rattle.ca_ids.specs.Table.{MayGive}
use Rattle.ca_text.specs.Name.{IsName}
use Rattle.ca_text.specs.Place.{At}
use Rattle.ca_text.specs.declared.refusal.Refusal.TheVariants as refusal
use Rattle.ca_text.specs.Limits.{channel_name_limit}
use Rattle.ca_wire.specs.Header.{extended_header, header_spelling, number16, number32, short_header}
use Rattle.ca_wire.specs.Message.{spelling}
use Rattle.ca_model_examples.specs.ClientRows.{to_temp, alive, first, live_temp, second, reading, subscribed, temp}
use Rattle.ca_model_examples.specs.ClientCallEvents.{cancel_sending, clear_sending, names, put, read_done, with_subscription, written, ClearLeaves, Collects, GivesUp, OpenLeaves, PutLeaves, ReadLeaves, SubscribeLeaves, UnsubscribeLeaves, WriteLeaves, anna_side, two_channels}

-- the first handle of a table that gave none
first-given : {T : Type 0} → MayGive {T = T} [] first
first-given = record { index = omega arith; slot = omega arith; free = refl; next = refl; last = omega arith }

temp-name : IsName channel_name_limit temp
temp-name = record { some = omega arith; within = omega arith; whole = λ h. search rules }

-- nothing of this number was given
never : {A : Type 0} (xs : ClientSide → List A) (x y : ClientSide) (k : ℕ) (a : A) → Some x ≡ Some y → slice_get (xs x) k ≡ None → At (xs y) k a → ⊥
never xs x y k a is none at =
    let there : slice_get (xs y) k ≡ None = subst (λ z. slice_get (xs z) k ≡ None) (some_is x y is) none in
    cc

pub open-leaves : OpenLeaves
open-leaves = (
  (
    record { x = _; at = refl },
    inr (second, [], two_channels, ((temp-name, omega arith), record { index = omega arith; slot = omega arith; free = refl; next = refl; last = omega arith }, (refl, refl)), refl),
  ),
  (record { x = _; at = refl }, inl (refusal.BadPriority, (λ e. cc), (temp-name, omega arith, (refl, refl)), refl)),
  (
    record { x = _; at = refl },
    inl (refusal.NameLength, (λ e. cc), ((λ n. let s = n.some in omega (arith, s)), (refl, refl)), refl),
  ),
  (λ c. let h = c.at in cc),
)

pub read-leaves : ReadLeaves
unfolding spelling header_spelling short_header extended_header number16 number32
read-leaves = (
  (record { x = _; at = refl; h = first; named = refl }, inr (first, _, reading, (live_temp, refl, refl, first-given, (refl, refl)), refl)),
  (record { x = _; at = refl; h = first; named = refl }, inl (refusal.BadType, (λ e. cc), (refl, (refl, refl)), refl)),
  (record { x = _; at = refl; h = _; named = refl }, inl (refusal.StaleHandle, (λ e. cc), (refl, (refl, refl)), refl)),
  (λ c. never (λ z. z.names.channels) (anna_side alive.core names) c.x 2 c.h c.at refl c.named),
)

pub write-leaves : WriteLeaves
unfolding spelling header_spelling short_header extended_header number16 number32 signed_bytes_4
write-leaves = (
  (record { x = _; at = refl; h = first; named = refl }, inr (tt, _, written, (live_temp, refl, refl, (refl, refl)), refl)),
  (record { x = _; at = refl; h = first; named = refl }, inl (refusal.BadCount, (λ e. cc), (refl, (refl, refl)), refl)),
  (λ c. never (λ z. z.names.channels) (anna_side alive.core names) c.x 2 c.h c.at refl c.named),
)

pub put-leaves : PutLeaves
unfolding spelling header_spelling short_header extended_header number16 number32 signed_bytes_4
put-leaves = (
  (record { x = _; at = refl; h = first; named = refl }, inr (first, _, put, (live_temp, refl, refl, first-given, (refl, refl)), refl)),
  (record { x = _; at = refl; h = first; named = refl }, inl (refusal.BadCount, (λ e. cc), (refl, (refl, refl)), refl)),
  (λ c. never (λ z. z.names.channels) (anna_side alive.core names) c.x 2 c.h c.at refl c.named),
)

pub subscribe-leaves : SubscribeLeaves
unfolding spelling header_spelling short_header extended_header number16 number32
subscribe-leaves = (
  (record { x = _; at = refl; h = first; named = refl }, inr (first, _, subscribed, (live_temp, refl, refl, first-given, (refl, refl)), refl)),
  (record { x = _; at = refl; h = first; named = refl }, inl (refusal.BadCount, (λ e. cc), (refl, (refl, refl)), refl)),
  (λ c. never (λ z. z.names.channels) (anna_side alive.core names) c.x 2 c.h c.at refl c.named),
)

pub unsubscribe-leaves : UnsubscribeLeaves
unfolding spelling header_spelling short_header extended_header number16 number32
unsubscribe-leaves = (
  (record { x = _; at = refl; s = _; named = refl }, inr (tt, cancel_sending ∷ [], _, (to_temp, refl, refl, (refl, refl)), refl)),
  (record { x = _; at = refl; s = _; named = refl }, inl (refusal.StaleHandle, (λ e. cc), (refl, (refl, refl)), refl)),
  (λ c. never (λ z. z.names.subscriptions) (anna_side subscribed with_subscription) c.x 2 c.s c.at refl c.named),
)

pub clear-leaves : ClearLeaves
unfolding spelling header_spelling short_header extended_header number16 number32
clear-leaves = (
  (
    record { x = _; at = refl; h = first; named = refl },
    inr (_, clear_sending ∷ [], _, (On first (phase.Live live_temp.native 3), refl, refl, (refl, refl)), refl),
  ),
  (record { x = _; at = refl; h = _; named = refl }, inl (refusal.StaleHandle, (λ e. cc), (refl, (refl, refl)), refl)),
  (λ c. never (λ z. z.names.channels) (anna_side alive.core names) c.x 2 c.h c.at refl c.named),
)

-- no line of two, or of one, tells this
none-noticed : (n : ℕ) (channel : List ℕ) (place : ℕ) (l : Line) → At (history.Opened n channel ∷ []) place l → (i : history.Intent) (o : Outcome) → l ≡ history.Noticed i o → ⊥
none-noticed n channel place l at i o is =
    let only = one-at (history.Opened n channel) place l at in
    let e : l ≡ history.Opened n channel = only.1 in cc

pub collects : Collects
collects = (
  (record { x = _; at = refl; q = _; named = refl }, (Some 1, ((_, refl), refl), refl)),
  (
    record { x = _; at = refl; q = _; named = refl },
    (None, (λ place h. none-noticed _ _ place _ h.0.1 _ h.0.0 refl), refl),
  ),
  (record { x = _; at = refl; q = _; named = refl }, (None, (λ place h. let never_handed = h.1 in cc), refl)),
  (
    record { x = _; at = refl; q = _; named = refl },
    (None, (λ place h. let only = one-at read_done place _ h.0.1 in let e = only.1 in cc), refl),
  ),
  (record { x = _; at = refl; q = _; named = refl }, (Some 2, ((_, refl), refl), refl)),
  (λ c. never (λ z. z.names.requests) (anna_side alive.core names) c.x 1 c.q c.at refl c.named),
)

pub gives-up : GivesUp
gives-up = (
  (record { x = _; at = refl; q = _; named = refl }, (Some 1, ((_, refl), refl), refl)),
  (
    record { x = _; at = refl; q = _; named = refl },
    (None, (λ place h. none-noticed _ _ place _ h.0.1 _ h.0.0 refl), refl),
  ),
  (record { x = _; at = refl; q = _; named = refl }, (None, (λ place h. let never_handed = h.1 in cc), refl)),
  (λ c. never (λ z. z.names.requests) (anna_side alive.core names) c.x 1 c.q c.at refl c.named),
)
