-- A change to one circuit of a client.
use Rattle.std.proofs.Common.{◌≡◌, ℕ, Bool, Option, Some, None, if◌then◌else◌, refl, sym, ap, ◌∙◌, slice_set}
use Rattle.std.proofs.lemmas.Bool.{eq-eqb}
use Rattle.std.proofs.lemmas.List.{get_or-set_same, set-get_or, set-set}
use Rattle.ca_arena.specs.declared.handle.Handle.{Handle}
use Rattle.ca_arena.specs.Arena.{Place, blank, place_at, value_for}
use Rattle.ca_arena.proofs.Places.{value_for-some, within_from_value}
use Rattle.ca_ids.specs.Table.{Table, under, with_changed}
use Rattle.ca_model.specs.Client.{Client, ClientCircuit}

module _ {T : Type 0} where
  -- a change under a handle that holds a value
  pub changed-found : (t : Table T) (f : T → T) (h : Handle) (v : T) → under t h ≡ Some v → with_changed f h t ≡ slice_set t h.index (record { generation = h.generation; value = Some (f v) })
  changed-found t f h v found = rw found refl

  -- to the same value by whatever way
  pub changed-same : (t : Table T) (f g : T → T) (h : Handle) (v : T) → under t h ≡ Some v → f v ≡ g v → with_changed f h t ≡ with_changed g h t
  changed-same t f g h v found same =
      changed-found t f h v found
      ∙ ap (λ (w : T). slice_set t h.index (record { generation = h.generation; value = Some w })) same
      ∙ sym (changed-found t g h v found)

  -- what is found after a change
  pub found-changed : (t : Table T) (f : T → T) (h : Handle) (v : T) → under t h ≡ Some v → under (with_changed f h t) h ≡ Some (f v)
  found-changed t f h v found =
      let there = value_for-some h.generation (place_at t h.index) v found in
      let within = within_from_value t h.index v there.1 in
      let place : Place T = record { generation = h.generation; value = Some (f v) } in
      ap (λ (u : Table T). under u h) (changed-found t f h v found)
      ∙ ap (value_for h.generation) (get_or-set_same t h.index place blank within)
      ∙ ap (λ (b : Bool). if b then Some (f v) else None) (eq-eqb h.generation h.generation refl)

  -- two changes in a row
  pub changed-twice : (t : Table T) (f g : T → T) (h : Handle) (v : T) → under t h ≡ Some v → with_changed g h (with_changed f h t) ≡ with_changed (λ (w : T). g (f w)) h t
  changed-twice t f g h v found =
      let first : Place T = record { generation = h.generation; value = Some (f v) } in
      let last : Place T = record { generation = h.generation; value = Some (g (f v)) } in
      changed-found (with_changed f h t) g h (f v) (found-changed t f h v found)
      ∙ ap (λ (u : Table T). slice_set u h.index last) (changed-found t f h v found)
      ∙ set-set t h.index first last
      ∙ sym (changed-found t (λ (w : T). g (f w)) h v found)

-- the client with this circuit in place of the one of this handle
abbrev pub with_this : Client → Handle → ClientCircuit → Client
with_this x c d = record x { circuits = with_changed (λ (e : ClientCircuit). d) c x.circuits }

-- the same circuit in its place
pub this-same : (x : Client) (c : Handle) (d : ClientCircuit) → under x.circuits c ≡ Some d → with_this x c d ≡ x
this-same x c d found =
    let place = place_at x.circuits c.index in
    let there = value_for-some c.generation place d found in
    let same : ◌≡◌ {A = Place ClientCircuit} (record { generation = c.generation; value = Some d }) place =
    sym (ap (λ (g : ℕ). let p : Place ClientCircuit = record { generation = g; value = place.value } in p) there.0
    ∙ ap (λ (o : Option ClientCircuit). let p : Place ClientCircuit = record { generation = c.generation; value = o } in p) there.1) in
    ap (λ (t : Table ClientCircuit). record x { circuits = t })
    (changed-found x.circuits (λ (w : ClientCircuit). d) c d found
    ∙ ap (slice_set x.circuits c.index) same
    ∙ set-get_or x.circuits c.index blank)
