-- What a client sends once a circuit is connected, message by message.
use Rattle.std.proofs.Common.{◌≡◌, ◌≢◌, ◌∙◌, ℕ, ◌+◌, ◌<◌, ◌≤◌, List, [], ◌∷◌, ◌++◌, append_assoc, ap, length, map, option_to_list, Option, Some, sym, take, take_all}
use Rattle.std.proofs.lemmas.List.{map-append}
use Rattle.std.proofs.lemmas.List.Elements.{filter_map-append}
use Rattle.ca_arena.specs.declared.handle.Handle.{Handle}
use Rattle.ca_arena.specs.Arena.{place_at}
use Rattle.ca_ids.specs.Table.{Table, held, held_at}
use Rattle.ca_ids.proofs.Changes.{held-more}
use Rattle.ca_model.specs.Answers as answer
use Rattle.ca_model.specs.Client.{Channel, Client, ClientCircuit}
use Rattle.ca_model.specs.ClientEnds.{unconnected}
use Rattle.ca_client_core.specs.declared.for_histories.Sending.{Sending}
use Rattle.ca_client_core.specs.ForAccepts.{connecting_sent, creation_sent, creations_among, creations_of_one, sent_once_connected}
use Rattle.ca_client_core.specs.ForHistories.{sending_of}

-- ---- the CREATE_CHANs, place by place

creations-more : (c : Handle) (t : Table Channel) (i : ℕ) → i < length t → creations_among c (held (take (i + 1) t)) ≡ creations_among c (held (take i t)) ++ creations_of_one c (held_at i (place_at t i))
creations-more c t i within =
    ap (creations_among c) (held-more t i within)
    ∙ filter_map-append (creation_sent c) (held (take i t)) (option_to_list (held_at i (place_at t i)))

pub one-more-listed : (c : Handle) (t : Table Channel) (i : ℕ) (start now next : List answer.Sending) → i < length t → now ≡ start ++ creations_among c (held (take i t)) → next ≡ now ++ creations_of_one c (held_at i (place_at t i)) → next ≡ start ++ creations_among c (held (take (i + 1) t))
one-more-listed c t i start now next within so step =
    let before : List answer.Sending = creations_among c (held (take i t)) in
    let one : List answer.Sending = creations_of_one c (held_at i (place_at t i)) in
    step
    ∙ ap (λ (z : List answer.Sending). z ++ one) so
    ∙ append_assoc start before one
    ∙ sym (ap (λ (z : List answer.Sending). start ++ z) (creations-more c t i within))

pub all-listed : (c : Handle) (t : Table Channel) (i : ℕ) (start now : List answer.Sending) → length t ≤ i → now ≡ start ++ creations_among c (held (take i t)) → now ≡ start ++ creations_among c (held t)
all-listed c t i start now past so = so ∙ ap (λ (u : Table Channel). start ++ creations_among c (held u)) (take_all i t past)

-- ---- one more message

pub listed : (old new : List Sending) (s : Sending) (e : answer.Sending) → new ≡ old ++ s ∷ [] → sending_of s ≡ e → map sending_of new ≡ map sending_of old ++ e ∷ []
listed old new s e is same = ap (map sending_of) is ∙ map-append sending_of old (s ∷ []) ∙ ap (λ (z : answer.Sending). map sending_of old ++ z ∷ []) same

-- three more
pub three-listed : (a b c d : List Sending) (r s t : Sending) (e f g : answer.Sending) → b ≡ a ++ r ∷ [] → c ≡ b ++ s ∷ [] → d ≡ c ++ t ∷ [] → sending_of r ≡ e → sending_of s ≡ f → sending_of t ≡ g
    → map sending_of d ≡ map sending_of a ++ e ∷ f ∷ g ∷ []
three-listed a b c d r s t e f g is_b is_c is_d r_is s_is t_is =
    let seen : List answer.Sending = map sending_of a in
    listed c d t g is_d t_is
    ∙ ap (λ (z : List answer.Sending). z ++ g ∷ []) (listed b c s f is_c s_is ∙ ap (λ (z : List answer.Sending). z ++ f ∷ []) (listed a b r e is_b r_is))
    ∙ ap (λ (z : List answer.Sending). z ++ g ∷ []) (append_assoc seen (e ∷ []) (f ∷ []))
    ∙ append_assoc seen (e ∷ f ∷ []) (g ∷ [])

-- ---- what takes memory is something

-- a circuit that is wanted has its set-up to send
pub connecting-some : (x : Client) (c : Handle) (d : ClientCircuit) → Some d ≡ unconnected x c → connecting_sent x c ≢ []
connecting-some x c d is none =
    let sent : sent_once_connected x c (Some d) ≡ [] = ap (λ (o : Option ClientCircuit). sent_once_connected x c o) is ∙ none in
    cc
