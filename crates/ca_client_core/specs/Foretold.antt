-- Vocabulary: what a moment will make a client send; and, working, how that is found.
use Rattle.std.specs.Prelude.{ℕ, ◌≡◌, ◌≢◌, Bool, true, false, List, [], map}
use Rattle.ca_arena.specs.declared.handle.Handle.{Handle}
use Rattle.ca_model.specs.Client.{Client}
use Rattle.ca_model.specs.ClientEnds.{Ticking, circuits_ticked, due, searches_made}
use Rattle.ca_client_core.specs.declared.for_histories.Sending.{Sending}
use Rattle.ca_client_core.specs.declared.for_moments.Foretold.{Foretold}
use Rattle.ca_client_core.specs.ForHistories.{sending_of}
use Rattle.ca_client_core.specs.Moments.{all_echoed, all_searched, silent_of}
use Rattle.ca_client_core.specs.Ticked.{circuits_of}

-- This moment makes the client send this, and ends its ends or does not.
pub record Foretells (x : Client) (now : ℕ) (f : Foretold) : Type 0 where
  pub sent : map sending_of f.sent.items ≡ (searches_made (circuits_ticked now x)).sent
  pub some : f.ends ≡ true → (circuits_ticked now x).closings ≢ []
  pub none : f.ends ≡ false → (circuits_ticked now x).closings ≡ []

-- The tick is as far as the client, and this was sent.
abbrev pub IsFar : Ticking → Client → List Sending → Type 0
IsFar t x ss = (t.core ≡ x) × (t.sent ≡ map sending_of ss)

-- A step of a tick was done, and what it sent was noted.
abbrev pub Notes : (Ticking → Ticking) → Client → List Sending → Client → List Sending → Type 0
Notes step x ss y zs = (t : Ticking) → IsFar t x ss → IsFar (step t) y zs

-- there are some of these, or none
abbrev pub AreSome : List Handle → Bool → Type 0
AreSome hs true = hs ≢ []
AreSome hs false = hs ≡ []

-- All that the client's moment makes it send was noted, and whether an end is to end.
pub record IsTried (t : Ticking) (f : Foretold) : Type 0 where
  pub sent : map sending_of f.sent.items
      ≡ (all_searched (due (circuits_of t).core) t.core.order (all_echoed t.core.order t)).sent
  pub some : f.ends ≡ true → silent_of t.core t.core.order ≢ []
  pub none : f.ends ≡ false → silent_of t.core t.core.order ≡ []

abbrev pub Tries : Client → Foretold → Type 0
Tries x f = (t : Ticking) → t.core ≡ x → t.sent ≡ [] → IsTried t f
