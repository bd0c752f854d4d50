-- Working: the numbers that wait in the queues of a circuit.
use Rattle.std.specs.Prelude.{ℕ, ◌≡◌, List, true}
use Rattle.ca_text.specs.Place.{At}
use Rattle.ca_queue.specs.declared.entry.SubKey.{SubKey}
use Rattle.ca_queue.specs.Keys.{is_among}
use Rattle.ca_queue.specs.Queue.{Queue}
use Rattle.ca_model.specs.History.{Cause, Update}
use Rattle.ca_model.specs.Speech.{In}
use Rattle.ca_model.specs.World.{Joined, Standing, World}

-- Each number in a queue is that of a subscription which the queue has and which stands, beside the
-- place of its EVENT_ADD.
abbrev pub IsNumberOf : List Standing → SubKey × (ℕ × Cause) → Type 0
IsNumberOf ss w =
    (st : Standing) × In ss st × (st.key ≡ w.0) × ((a : ℕ) × (w.1 ≡ (st.place, Update a)))

abbrev pub HasNumbers : List Standing → Queue (ℕ × Cause) → Type 0
HasNumbers ss q =
    (w : SubKey × (ℕ × Cause)) → In q.waiting w → (is_among w.0 q.subscriptions ≡ true)
    × IsNumberOf ss w

abbrev pub HaveNumbers : List Standing → List (Queue (ℕ × Cause)) → Type 0
HaveNumbers ss queues = (q : Queue (ℕ × Cause)) → In queues q → HasNumbers ss q

-- So it is on each circuit whose end at its server is open.
abbrev pub AllNumbers : World → Type 0
AllNumbers w =
    (n : ℕ) (c : Joined) → At w.circuits n c → c.lists.server_open ≡ true
    → HaveNumbers c.standing c.queues
