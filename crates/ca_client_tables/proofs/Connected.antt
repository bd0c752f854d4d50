-- The CREATE_CHANs that wait on a circuit which is connected, place by place.
use Rattle.std.proofs.Common.{◌≡◌, ◌∙◌, ℕ, ◌+◌, ◌<◌, ◌≤◌, List, ◌++◌, ap, filter, length, map, option_to_list, sym, take, take_all}
use Rattle.std.proofs.lemmas.List.{map-append}
use Rattle.std.proofs.lemmas.List.Elements.{filter-append}
use Rattle.ca_arena.specs.declared.handle.Handle.{Handle}
use Rattle.ca_arena.specs.Arena.{place_at}
use Rattle.ca_ids.specs.Table.{Table, held, held_at}
use Rattle.ca_ids.proofs.Changes.{held-more}
use Rattle.ca_link.specs.Link.{LinkState, with_sent}
use Rattle.ca_wire.specs.Fields.{Fields}
use Rattle.ca_model.specs.Client.{Channel, is_on_in}
use Rattle.ca_model.specs.ClientEnds.{is_connecting}
use Rattle.ca_client_tables.specs.Connecting.{creation, creations_at, creations_in, creations_of}
use Rattle.ca_client_tables.proofs.Queued.{sent-twice}

-- ---- the CREATE_CHANs, place by place

pub creations-more : (c : Handle) (t : Table Channel) (i : ℕ) → i < length t → creations_of c (held (take i t)) ++ creations_at c (held_at i (place_at t i)) ≡ creations_of c (held (take (i + 1) t))
creations-more c t i within =
    let waits = λ (e : Handle × Channel). is_on_in is_connecting c e.1 in
    let last = option_to_list (held_at i (place_at t i)) in
    sym (ap (creations_of c) (held-more t i within)
    ∙ ap (map creation) (filter-append waits (held (take i t)) last)
    ∙ map-append creation (filter waits (held (take i t))) (filter waits last))

pub one-more-created : (c : Handle) (t : Table Channel) (i : ℕ) (start now next : LinkState) → i < length t → now ≡ with_sent (creations_of c (held (take i t))) start → next ≡ with_sent (creations_at c (held_at i (place_at t i))) now → next ≡ with_sent (creations_of c (held (take (i + 1) t))) start
one-more-created c t i start now next within so step =
    step
    ∙ ap (with_sent (creations_at c (held_at i (place_at t i)))) so
    ∙ sent-twice (creations_of c (held (take i t))) (creations_at c (held_at i (place_at t i))) start
    ∙ ap (λ (ms : List Fields). with_sent ms start) (creations-more c t i within)

pub all-created : (c : Handle) (t : Table Channel) (i : ℕ) (start now : LinkState) → length t ≤ i → now ≡ with_sent (creations_of c (held (take i t))) start → now ≡ with_sent (creations_in c t) start
all-created c t i start now past so =
    so ∙ ap (λ (u : Table Channel). with_sent (creations_of c (held u)) start) (take_all i t past)
