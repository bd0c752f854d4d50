-- An end that ends, and what is done to the end of another circuit.
use Rattle.std.proofs.Common.{◌≡◌, ◌∙◌, Bool, true, false, cond, Option, Some, None, ap, fold, option_and_then, option_map, refl, slice_set, sym, unwrap_or}
use Rattle.std.proofs.lemmas.List.{set_comm}
use Rattle.ca_arena.specs.declared.handle.Handle.{Handle}
use Rattle.ca_arena.specs.Arena.{Place}
use Rattle.ca_ids.specs.Table.{Table, under, with_changed, with_freed}
use Rattle.ca_model.specs.Client.{Client, ClientCircuit, Connection, channels_ended, channels_on, connection_at, disconnected, ended, is_cleared, let_go, on_connection, searched_again, without_circuit, without_ids}
use Rattle.ca_model.proofs.Placed.{options-agree, under-other}
use Rattle.ca_model.proofs.Tables.{freed-back, freed-other, one-at-index}
use Rattle.ca_client_tables.specs.Ending.{Sought, again, gone, is_kept, sought}
use Rattle.ca_client_tables.proofs.Circuits.{changed-found, found-changed}
use Rattle.ca_client_tables.proofs.Ended.{fold-again, fold-gone, with_sought}
use Rattle.ca_client_tables.proofs.Queued.{unchanged}

-- ---- two changes of a table, at two handles

module _ {T : Type 0} where
  pub freed-found : (t : Table T) (h : Handle) (v : T) → under t h ≡ Some v → with_freed h t ≡ slice_set t h.index (record { generation = h.generation; value = None })
  freed-found t h v found = rw found refl

  pub unfreed : (t : Table T) (h : Handle) → under t h ≡ None → with_freed h t ≡ t
  unfreed t h none = rw none refl

  pub under-freed : (t : Table T) (h g : Handle) → (g ≡ h → ⊥) → under (with_freed h t) g ≡ under t g
  under-freed t h g other =
      options-agree (under t g) (under (with_freed h t) g) (λ v is. freed-other t g h v is other) (λ v is. (freed-back t g h v is).1)

  pub freed-none : (t : Table T) (h : Handle) → under (with_freed h t) h ≡ None
  freed-none t h = go (under (with_freed h t) h) refl
    where
      go : (o : Option T) → under (with_freed h t) h ≡ o → under (with_freed h t) h ≡ None
      go None is = is
      go (Some w) is = absurd ((freed-back t h h w is).0 refl)

  changed-past-changed : (t : Table T) (f g : T → T) (c d : Handle) → (c ≡ d → ⊥) → with_changed g c (with_changed f d t) ≡ with_changed f d (with_changed g c t)
  changed-past-changed t f g c d other = go (under t c) (under t d) refl refl
    where
      apart : d ≡ c → ⊥
      apart same = other (sym same)

      go : (a b : Option T) → under t c ≡ a → under t d ≡ b → with_changed g c (with_changed f d t) ≡ with_changed f d (with_changed g c t)
      go None b is at =
          unchanged (with_changed f d t) g c (under-other f t d c other ∙ is) ∙ sym (ap (with_changed f d) (unchanged t g c is))
      go (Some v) None is at =
          ap (with_changed g c) (unchanged t f d at) ∙ sym (unchanged (with_changed g c t) f d (under-other g t c d apart ∙ at))
      go (Some v) (Some w) is at =
          let p : Place T = record { generation = c.generation; value = Some (g v) } in
          let q : Place T = record { generation = d.generation; value = Some (f w) } in
          changed-found (with_changed f d t) g c v (under-other f t d c other ∙ is)
          ∙ ap (λ (u : Table T). slice_set u c.index p) (changed-found t f d w at)
          ∙ set_comm t d.index c.index q p (λ same. other (one-at-index t c d v w is at (sym same)))
          ∙ ap (λ (u : Table T). slice_set u d.index q) (sym (changed-found t g c v is))
          ∙ sym (changed-found (with_changed g c t) f d w (under-other g t c d apart ∙ at))

  freed-past-changed : (t : Table T) (f : T → T) (c d : Handle) → (c ≡ d → ⊥) → with_freed c (with_changed f d t) ≡ with_changed f d (with_freed c t)
  freed-past-changed t f c d other = go (under t c) (under t d) refl refl
    where
      apart : d ≡ c → ⊥
      apart same = other (sym same)

      go : (a b : Option T) → under t c ≡ a → under t d ≡ b → with_freed c (with_changed f d t) ≡ with_changed f d (with_freed c t)
      go None b is at =
          unfreed (with_changed f d t) c (under-other f t d c other ∙ is) ∙ sym (ap (with_changed f d) (unfreed t c is))
      go (Some v) None is at =
          ap (with_freed c) (unchanged t f d at) ∙ sym (unchanged (with_freed c t) f d (under-freed t c d apart ∙ at))
      go (Some v) (Some w) is at =
          let p : Place T = record { generation = c.generation; value = None } in
          let q : Place T = record { generation = d.generation; value = Some (f w) } in
          freed-found (with_changed f d t) c v (under-other f t d c other ∙ is)
          ∙ ap (λ (u : Table T). slice_set u c.index p) (changed-found t f d w at)
          ∙ set_comm t d.index c.index q p (λ same. other (one-at-index t c d v w is at (sym same)))
          ∙ ap (λ (u : Table T). slice_set u d.index q) (sym (freed-found t c v is))
          ∙ sym (changed-found (with_freed c t) f d w (under-freed t c d apart ∙ at))

-- ---- what an end leaves

-- its channels, and what is searched of them
abbrev pub sought_after : Handle → Client → Sought
sought_after c x =
    fold (again x.moment) (fold gone (sought x.channels x.searches) (channels_on is_cleared c x)) (channels_on is_kept c x)

pub channels-ended-is : (c : Handle) (x : Client) → channels_ended c x ≡ with_sought x (sought_after c x)
channels-ended-is c x =
    let a = channels_on is_cleared c x in
    let b = channels_on is_kept c x in
    ap (λ (y : Client). fold searched_again y b) (fold-gone x a)
    ∙ fold-again (with_sought x (fold gone (sought x.channels x.searches) a)) b

-- the client whose circuit is let go next
abbrev pub ended_but : Handle → Client → Client
ended_but c x = with_sought (without_ids c x) (sought_after c x)

pub ended-is : (c : Handle) (x : Client) (d : ClientCircuit) → under x.circuits c ≡ Some d → ended c x ≡ let_go c d (ended_but c x)
ended-is c x d found =
    ap (λ (o : Option ClientCircuit). unwrap_or (option_map (λ (e : ClientCircuit). let_go c e (channels_ended c (without_ids c x))) o) x) found
    ∙ ap (let_go c d) (channels-ended-is c (without_ids c x))

pub ended-gone : (c : Handle) (x : Client) → under x.circuits c ≡ None → ended c x ≡ x
ended-gone c x none =
    ap (λ (o : Option ClientCircuit). unwrap_or (option_map (λ (e : ClientCircuit). let_go c e (channels_ended c (without_ids c x))) o) x) none

-- ---- what is connected

abbrev connection-in : Option ClientCircuit → Option Connection
connection-in o = option_and_then (λ (d : ClientCircuit). d.connection) o

abbrev mapped : (Connection → Connection) → ClientCircuit → ClientCircuit
mapped f d = record d { connection = option_map f d.connection }

abbrev unlinked : ClientCircuit → ClientCircuit
unlinked d = record d { connection = None }

pub connection-past : (f : Connection → Connection) (x : Client) (c d : Handle) → (c ≡ d → ⊥) → connection_at (on_connection f d x) c ≡ connection_at x c
connection-past f x c d other = ap connection-in (under-other (mapped f) x.circuits d c other)

pub connection-own : (f : Connection → Connection) (x : Client) (c : Handle) → connection_at (on_connection f c x) c ≡ option_map f (connection_at x c)
connection-own f x c = go (under x.circuits c) refl
  where
    go : (o : Option ClientCircuit) → under x.circuits c ≡ o → connection_at (on_connection f c x) c ≡ option_map f (connection_at x c)
    go None is =
        ap (λ (t : Table ClientCircuit). connection-in (under t c)) (unchanged x.circuits (mapped f) c is)
        ∙ ap connection-in is
        ∙ sym (ap (λ (o : Option ClientCircuit). option_map f (connection-in o)) is)
    go (Some d) is =
        ap connection-in (found-changed x.circuits (mapped f) c d is)
        ∙ sym (ap (λ (o : Option ClientCircuit). option_map f (connection-in o)) is)

let-go-past : (c e : Handle) (d : ClientCircuit) (z : Client) → (e ≡ c → ⊥) → under (let_go c d z).circuits e ≡ under z.circuits e
let-go-past c e d z other = go d.is_name
  where
    go : (b : Bool) → under (cond b (disconnected c z) (without_circuit c z)).circuits e ≡ under z.circuits e
    go true = under-other unlinked z.circuits c e other
    go false = under-freed z.circuits c e other

-- the other circuits stay
pub circuit-past : (c e : Handle) (x : Client) → (e ≡ c → ⊥) → under (ended c x).circuits e ≡ under x.circuits e
circuit-past c e x other = go (under x.circuits c) refl
  where
    go : (o : Option ClientCircuit) → under x.circuits c ≡ o → under (ended c x).circuits e ≡ under x.circuits e
    go None is = ap (λ (y : Client). under y.circuits e) (ended-gone c x is)
    go (Some d) is = ap (λ (y : Client). under y.circuits e) (ended-is c x d is) ∙ let-go-past c e d (ended_but c x) other

pub ended-past : (c e : Handle) (x : Client) → (e ≡ c → ⊥) → connection_at (ended c x) e ≡ connection_at x e
ended-past c e x other = ap connection-in (circuit-past c e x other)

-- its own is not connected
pub ended-own : (c : Handle) (x : Client) → connection_at (ended c x) c ≡ None
ended-own c x = go (under x.circuits c) refl
  where
    go : (o : Option ClientCircuit) → under x.circuits c ≡ o → connection_at (ended c x) c ≡ None
    go None is = ap (λ (y : Client). connection_at y c) (ended-gone c x is) ∙ ap connection-in is
    go (Some d) is = ap (λ (y : Client). connection_at y c) (ended-is c x d is) ∙ by d.is_name
      where
        by : (b : Bool) → connection_at (cond b (disconnected c (ended_but c x)) (without_circuit c (ended_but c x))) c ≡ None
        by true = ap connection-in (found-changed x.circuits unlinked c d is)
        by false = ap connection-in (freed-none x.circuits c)

pub ended-moment : (c : Handle) (x : Client) → (ended c x).moment ≡ x.moment
ended-moment c x = go (under x.circuits c) refl
  where
    by : (b : Bool) → (cond b (disconnected c (ended_but c x)) (without_circuit c (ended_but c x))).moment ≡ x.moment
    by true = refl
    by false = refl

    go : (o : Option ClientCircuit) → under x.circuits c ≡ o → (ended c x).moment ≡ x.moment
    go None is = ap (λ (y : Client). y.moment) (ended-gone c x is)
    go (Some d) is = ap (λ (y : Client). y.moment) (ended-is c x d is) ∙ by d.is_name

-- ---- one after the other, in whichever order

pub ended-on : (f : Connection → Connection) (c d : Handle) (x : Client) → (c ≡ d → ⊥) → ended c (on_connection f d x) ≡ on_connection f d (ended c x)
ended-on f c d x other = go (under x.circuits c) refl
  where
    y : Client
    y = on_connection f d x

    z : Client
    z = ended_but c x

    by : (b : Bool) → cond b (disconnected c (on_connection f d z)) (without_circuit c (on_connection f d z)) ≡ on_connection f d (cond b (disconnected c z) (without_circuit c z))
    by true =
        ap (λ (t : Table ClientCircuit). let w : Client = record z { circuits = t } in w) (changed-past-changed x.circuits (mapped f) unlinked c d other)
    by false =
        ap (λ (t : Table ClientCircuit). let w : Client = record (without_circuit c z) { circuits = t } in w) (freed-past-changed x.circuits (mapped f) c d other)

    go : (o : Option ClientCircuit) → under x.circuits c ≡ o → ended c (on_connection f d x) ≡ on_connection f d (ended c x)
    go None is =
        ended-gone c y (under-other (mapped f) x.circuits d c other ∙ is) ∙ sym (ap (on_connection f d) (ended-gone c x is))
    go (Some k) is =
        ended-is c y k (under-other (mapped f) x.circuits d c other ∙ is)
        ∙ by k.is_name
        ∙ ap (on_connection f d) (sym (ended-is c x k is))
