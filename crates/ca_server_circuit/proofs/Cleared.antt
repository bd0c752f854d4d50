-- The puts of a channel that is cleared.
use Rattle.std.proofs.Common.{◌≡◌, ℕ, suc, ◌≤◌, inl, inr, ◌==◌, ◌&&◌, Bool, true, false, not, List, [], ◌∷◌, length, filter, if◌then◌else◌, Some, refl, sym, ap, ◌∙◌, subst}
use Rattle.std.specs.Str.{bytes_eq}
use Rattle.std.proofs.lemmas.Bool.{eq-eqb, eqb-true}
use Rattle.std.proofs.lemmas.Slice.Eq.{bytes_eq-Decides}
use Rattle.ca_text.specs.Limits.{arena_slots}
use Rattle.ca_text.specs.Place.{At}
use Rattle.ca_text.proofs.Places.{some_is}
use Rattle.ca_arena.specs.declared.handle.Handle.{Handle}
use Rattle.ca_ids.specs.Table.{Table, by_wire, same_handle, under}
use Rattle.ca_ids.specs.Wire.{wire_of}
use Rattle.ca_records.specs.declared.puts.Put.{Put}
use Rattle.ca_records.specs.Puts.{Record, WaitingPut, with_record, without_puts, withdrawn}
use Rattle.ca_records.specs.Store.{Store, records_of}
use Rattle.ca_records.specs.Writes.{is_of}
use Rattle.ca_records.specs.Writes as writes
use Rattle.ca_model.specs.Server.{OpenChannel, ServerEnd}
use Rattle.ca_server_circuit.specs.declared.seek.Seat.{Seat}
use Rattle.ca_server_circuit.specs.Clearing.{ArePuts, Withdraws, is_on_sid}
use Rattle.ca_server_circuit.specs.Seeking.{IsServed, IsStray}
use Rattle.ca_server_circuit.proofs.Taken.{one-record}
use Rattle.ca_server_circuit.proofs.Tables.{handle-is, none-some, one-by-wire, one-value, under-wire, wire-under}

-- tests that agree on all that waits filter the same
filter-same : (f g : Put → Bool) (ws : List WaitingPut) → ((k : ℕ) (w : WaitingPut) → At ws k w → f w.put ≡ g w.put) → filter (λ (w : WaitingPut). not (f w.put)) ws ≡ filter (λ (w : WaitingPut). not (g w.put)) ws
filter-same f g [] same = refl
filter-same f g (w ∷ ws) same =
    let rest = filter-same f g ws (λ k v at. same (suc k) v at) in
    ap (λ (b : Bool). if not b then w ∷ filter (λ (v : WaitingPut). not (f v.put)) ws else filter (λ (v : WaitingPut). not (f v.put)) ws) (same 0 w refl)
    ∙ ap (λ (vs : List WaitingPut). if not (g w.put) then w ∷ vs else vs) rest

filter-none : (ws : List WaitingPut) → filter (λ (w : WaitingPut). not false) ws ≡ ws
filter-none [] = refl
filter-none (w ∷ ws) = ap (λ (vs : List WaitingPut). w ∷ vs) (filter-none ws)

-- nothing that waits is one of these
kept : (f : Put → Bool) (r : Record) → ((k : ℕ) (w : WaitingPut) → At r.waiting k w → f w.put ≡ false) → without_puts f r ≡ r
kept f r none = ap (λ (ws : List WaitingPut). let q : Record = record r { waiting = ws } in q) (filter-same f (λ p. false) r.waiting none ∙ filter-none r.waiting)

and-false : (a b : Bool) → (a ≡ true → b ≡ false) → (a && b) ≡ false
and-false true b h = h refl
and-false false b h = refl

and-same : (a b c : Bool) → (a ≡ true → b ≡ c) → (a && b) ≡ (a && c)
and-same true b c h = h refl
and-same false b c h = refl

-- ---- handles and wire ids

pub same-is : (g h : Handle) → same_handle g h ≡ true → g ≡ h
same-is g h e = go (g.index == h.index) (g.generation == h.generation) refl refl e
  where
    go : (a b : Bool) → (g.index == h.index) ≡ a → (g.generation == h.generation) ≡ b → (a && b) ≡ true → g ≡ h
    go true true ea eb both = handle-is g h (eqb-true g.index h.index ea) (eqb-true g.generation h.generation eb)
    go true false ea eb both = absurd cc
    go false b ea eb both = absurd cc

pub is-same : (g h : Handle) → g ≡ h → same_handle g h ≡ true
is-same g h e = subst (λ (x : Handle). same_handle g x ≡ true) e (both (eq-eqb g.index g.index refl) (eq-eqb g.generation g.generation refl))
  where
    both : (g.index == g.index) ≡ true → (g.generation == g.generation) ≡ true → same_handle g g ≡ true
    both a b = rw (a, b) refl

bools : (a b : Bool) → (a ≡ true → b ≡ true) → (b ≡ true → a ≡ true) → a ≡ b
bools true b f g = sym (f refl)
bools false true f g = absurd (let e = g refl in cc)
bools false false f g = refl

module _ (t : Table OpenChannel) (sid : ℕ) (few : length t ≤ arena_slots) where
  -- of channels that are held the wire id says which
  wire-tells : (c w : Handle) (o v : OpenChannel) → under t c ≡ Some o → wire_of c ≡ sid → under t w ≡ Some v → same_handle w c ≡ (wire_of w == sid)
  wire-tells c w o v there is at =
      bools (same_handle w c) (wire_of w == sid)
      (λ e. eq-eqb (wire_of w) sid (ap wire_of (same-is w c e) ∙ is))
      (λ e. is-same w c (one-by-wire t w c v o few at there (eqb-true (wire_of w) sid e ∙ sym is)))

  -- ---- a channel that is served

  module _ (h : Handle) (rs : List Record) (puts : ArePuts h rs t) (c : Handle) (o : OpenChannel) (there : under t c ≡ Some o) (is : wire_of c ≡ sid) where
    agrees : (i k : ℕ) (q : Record) (w : WaitingPut) → At rs i q → At q.waiting k w → is_of h (Some c) w.put ≡ is_on_sid h sid w.put
    agrees i k q w at at' =
        and-same (same_handle w.put.circuit h) (same_handle w.put.channel c) (wire_of w.put.channel == sid)
        (λ e. (let p = puts i q k w at at' e in wire-tells c w.put.channel o p.0 there is p.1))

    -- no put of it waits for another record
    elsewhere : (i k : ℕ) (q : Record) (w : WaitingPut) → At rs i q → At q.waiting k w → bytes_eq q.state.name o.name ≡ false → is_on_sid h sid w.put ≡ false
    elsewhere i k q w at at' other =
        and-false (same_handle w.put.circuit h) (wire_of w.put.channel == sid)
        (λ e. (let p = puts i q k w at at' e in no (wire_of w.put.channel == sid) (λ hit. absurd (apart p.0 p.1 p.2 hit))))
      where
        no : (b : Bool) → (b ≡ true → b ≡ false) → b ≡ false
        no true f = f refl
        no false f = refl

        both : (b : Bool) → b ≡ true → b ≡ false → ⊥
        both b x y = cc

        apart : (v : OpenChannel) → under t w.put.channel ≡ Some v → v.name ≡ q.state.name → (wire_of w.put.channel == sid) ≡ true → ⊥
        apart v here named hit =
            let one : w.put.channel ≡ c = one-by-wire t w.put.channel c v o few here there (eqb-true (wire_of w.put.channel) sid hit ∙ sym is) in
            let same : v ≡ o = one-value t c v o (subst (λ (x : Handle). under t x ≡ Some v) one here) there in
            let name : q.state.name ≡ o.name = sym named ∙ ap (λ (x : OpenChannel). x.name) same in
            both (bytes_eq q.state.name o.name) ((bytes_eq-Decides q.state.name o.name).1 name) other

    withdrawn-one : (n : ℕ) (qs : List Record) → ((i : ℕ) (q : Record) → At qs i q → (j : ℕ) × At rs j q) → with_record o.name (without_puts (is_of h (Some c))) qs ≡ withdrawn (is_on_sid h sid) qs
    withdrawn-one n [] within = refl
    withdrawn-one n (q ∷ qs) within =
        let rest = withdrawn-one n qs (λ i r at. within (suc i) r at) in
        let here = within 0 q refl in
        ap (λ (x : Record). x ∷ with_record o.name (without_puts (is_of h (Some c))) qs) (by (bytes_eq q.state.name o.name) refl here.0 here.1)
        ∙ ap (λ (xs : List Record). without_puts (is_on_sid h sid) q ∷ xs) rest
      where
        by : (b : Bool) → bytes_eq q.state.name o.name ≡ b → (j : ℕ) → At rs j q → (if bytes_eq q.state.name o.name then without_puts (is_of h (Some c)) q else q) ≡ without_puts (is_on_sid h sid) q
        by true e j at =
            ap (λ (b : Bool). if b then without_puts (is_of h (Some c)) q else q) e
            ∙ ap (λ (ws : List WaitingPut). let x : Record = record q { waiting = ws } in x) (filter-same (is_of h (Some c)) (is_on_sid h sid) q.waiting (λ k w at'. agrees j k q w at at'))
        by false e j at =
            ap (λ (b : Bool). if b then without_puts (is_of h (Some c)) q else q) e
            ∙ sym (kept (is_on_sid h sid) q (λ k w at'. elsewhere j k q w at at' e))

pub withdraws-served : (h : Handle) (s t : Store) (e : ServerEnd) (sid : ℕ) (seat : Seat) → length e.channels ≤ arena_slots → ArePuts h (records_of s) e.channels → IsServed s e sid seat → writes.Withdraws s seat.place h (Some seat.channel) t → Withdraws h sid s t
withdraws-served h s t e sid seat few puts i w =
    let u = wire-under e.channels sid (seat.channel, i.channel) i.held in
    let one : w.r ≡ i.r = one-record s seat.place w.r i.r w.becomes.at i.at in
    let named : w.r.state.name ≡ i.channel.name = ap (λ (r : Record). r.state.name) one ∙ i.named in
    record {
      records =
          w.becomes.records (without_puts (is_of h (Some seat.channel))) refl
          ∙ ap (λ (n : List ℕ). with_record n (without_puts (is_of h (Some seat.channel))) (records_of s)) named
          ∙ withdrawn-one e.channels sid few h (records_of s) puts seat.channel i.channel u.0 u.1 0 (records_of s) (λ j q at. (j, at));
      rules = ap (λ (x : Store). x.rules) w.becomes.leaves;
      stamp = ap (λ (x : Store). x.stamp) w.becomes.leaves;
    }

-- ---- nothing that is served

-- nothing that waits is one of these: none is taken out
pub none-of : (f : Put → Bool) (qs : List Record) → ((i k : ℕ) (q : Record) (w : WaitingPut) → At qs i q → At q.waiting k w → f w.put ≡ false) → qs ≡ withdrawn f qs
none-of f [] none = refl
none-of f (q ∷ qs) none =
    ap (λ (x : Record). x ∷ qs) (sym (kept f q (λ k w at. none 0 k q w refl at))) ∙ ap (λ (xs : List Record). without_puts f q ∷ xs) (none-of f qs (λ i k r w at at'. none (suc i) k r w at at'))

pub withdraws-stray : (h : Handle) (s : Store) (e : ServerEnd) (sid cid : ℕ) → length e.channels ≤ arena_slots → ArePuts h (records_of s) e.channels → IsStray e sid cid → Withdraws h sid s s
withdraws-stray h s e sid cid few puts is =
    record {
      records = none-of (is_on_sid h sid) (records_of s) (λ i k q w at at'. and-false (same_handle w.put.circuit h) (wire_of w.put.channel == sid) (λ hit. (let p = puts i q k w at at' hit in no (wire_of w.put.channel == sid) (λ same. absurd (apart w.put.channel p.0 p.1 p.3 (eqb-true (wire_of w.put.channel) sid same) is)))));
      rules = refl;
      stamp = refl;
    }
  where
    no : (b : Bool) → (b ≡ true → b ≡ false) → b ≡ false
    no true f = f refl
    no false f = refl

    both : (b : Bool) → b ≡ true → b ≡ false → ⊥
    both b x y = cc

    apart : (g : Handle) (v : OpenChannel) → under e.channels g ≡ Some v → v.retired ≡ false → wire_of g ≡ sid → IsStray e sid cid → ⊥
    apart g v here live same (inl none) =
        none-some (g, v) (sym none.0 ∙ subst (λ (n : ℕ). by_wire e.channels n ≡ Some (g, v)) same (under-wire e.channels g v few here))
    apart g v here live same (inr r) =
        let found : by_wire e.channels sid ≡ Some (g, v) = subst (λ (n : ℕ). by_wire e.channels n ≡ Some (g, v)) same (under-wire e.channels g v few here) in
        let one : r.0 ≡ (g, v) = some_is r.0 (g, v) (sym r.1 ∙ found) in
        both v.retired (sym (ap (λ (x : Handle × OpenChannel). x.1.retired) one) ∙ r.2) live
