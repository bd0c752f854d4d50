-- A circuit that a post concerns has a subscription on its record.
use Rattle.std.proofs.Common.{◌≡◌, ℕ, ◌⊎◌, inl, inr, Bool, true, false, ◌||◌, ◌&&◌, List, [], ◌∷◌, refl}
use Rattle.std.specs.List.{list_any}
use Rattle.std.specs.Str.{bytes_eq}
use Rattle.ca_model.specs.Server.{Subscription, concerns}
use Rattle.ca_model.specs.Speech.{share_bit}
use Rattle.ca_server_subscriptions.specs.Subscribed.{is_on}

or-parts : (a b : Bool) → (a || b) ≡ true → (a ≡ true) ⊎ (b ≡ true)
or-parts true b is = inl refl
or-parts false b is = inr is

or-left : (a b : Bool) → a ≡ true → (a || b) ≡ true
or-left true b is = refl
or-left false b is = absurd cc

or-right : (a b : Bool) → b ≡ true → (a || b) ≡ true
or-right true b is = refl
or-right false b is = is

and-left : (a b : Bool) → (a && b) ≡ true → a ≡ true
and-left true b is = refl
and-left false b is = absurd cc

pub concerned-on : (name : List ℕ) (mask : ℕ) (ss : List Subscription) → list_any (concerns name mask) ss ≡ true → list_any (is_on name) ss ≡ true
concerned-on name mask [] some = absurd cc
concerned-on name mask (x ∷ ss) some = elim (or-parts (concerns name mask x) (list_any (concerns name mask) ss) some) [
  | inl here ↦ or-left (is_on name x) (list_any (is_on name) ss) (and-left (bytes_eq x.name name) (share_bit mask x.mask) here)
  | inr later ↦ or-right (is_on name x) (list_any (is_on name) ss) (concerned-on name mask ss later)
]
