-- Vocabulary: what a moment did, as the vocabulary has it; and, working, the two halves of a tick.
use Rattle.std.specs.Prelude.{◌≡◌, ◌≢◌, ◌≤◌, ◌+◌, ◌⊎◌, List, [], flat_map, fold, length, map}
use Rattle.std.specs.Prelude.{vec_capacity, vec_len}
use Rattle.ca_search.specs.Searcher.{with_all}
use Rattle.ca_search.specs.Searches.{passed}
use Rattle.ca_model.specs.Answers as answer
use Rattle.ca_model.specs.Client.{Client}
use Rattle.ca_model.specs.ClientEnds.{Ticking, due, packed, ticks, to_server}
use Rattle.ca_client_core.specs.ForHistories.{sending_of}
use Rattle.ca_client_core.specs.Moments.{all_echoed, all_ended, all_searched, silent_of}
use Rattle.ca_client_core.specs.declared.ticking.Left.{Left}
use Rattle.ca_client_core.specs.declared.ticking.Plan.{Plan}

-- the circuit, and the bytes that it left
abbrev pub left_of : Left → answer.Left
left_of l = record { circuit = l.circuit; bytes = l.bytes }

abbrev pub lefts_of : List Left → List answer.Left
lefts_of ls = map left_of ls

-- what their ends report, one after another
abbrev pub notices_of : List Left → List answer.Notice
notices_of ls = flat_map (λ (l : Left). l.notices) ls

-- The tick is as far as the client, and these ends were told.
abbrev pub Reports : Ticking → Client → List Left → Type 0
Reports t x ls = (t.core ≡ x) × (t.notices ≡ notices_of ls) × (t.closings ≡ lefts_of ls)

-- the circuits of a tick that begins so, in order
abbrev pub circuits_of : Ticking → Ticking
circuits_of t = fold ticks t t.core.order

-- All of a tick that takes memory was done, from x on, and left y.
pub record IsPlanned (t : Ticking) (p : Plan) (y : Client) : Type 0 where
  pub ends : p.ends.items ≡ silent_of t.core t.core.order
  pub none : p.closings.items ≡ []
  pub datagrams : p.datagrams.items
      ≡ flat_map (to_server (packed [] (due (circuits_of t).core))) t.core.servers
  pub core : y
      ≡ (all_searched (due (circuits_of t).core) t.core.order (all_echoed t.core.order t)).core
  pub sent : map sending_of p.sent.items
      ≡ (all_searched (due (circuits_of t).core) t.core.order (all_echoed t.core.order t)).sent

abbrev pub Plans : Client → Plan → Client → Type 0
Plans x p y =
    ((t : Ticking) → t.core ≡ x → t.sent ≡ [] → IsPlanned t p y)
    × (length p.ends.items + vec_len p.closings ≤ vec_capacity p.closings)

-- Something takes memory.
abbrev pub LacksMemory : Client → Type 0
LacksMemory x =
    (t : Ticking) → t.core ≡ x
    → ((circuits_of t).sent ≢ [])
    ⊎ (((circuits_of t).closings ≢ []) ⊎ (due (circuits_of t).core ≢ []))

-- the tick after the ends, with its searches made
abbrev pub made_of : Ticking → Client
made_of u = record u.core { searches = with_all (passed u.core.moment) u.core.searches }

-- The rest of it was done.
abbrev pub CarriesOut : Client → Plan → answer.Ticked → Client → Type 0
CarriesOut x p a y = (t : Ticking) → Reports t x p.closings.items
    → (y ≡ made_of (all_ended p.ends.items t))
    × (a
    ≡ record {
      notices = (all_ended p.ends.items t).notices;
      datagrams = p.datagrams.items;
      closings = (all_ended p.ends.items t).closings;
    })
