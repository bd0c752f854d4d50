-- What came first on a circuit, seen from its client.
use Rattle.std.proofs.Common.{◌≡◌, ◌≢◌, ◌∙◌, [], ◌+◌, ◌<◌, ◌^◌, ℕ, List, Option, Some, None, ap, drop, length, refl, subst, sym, take}
use Rattle.std.specs.Prelude.{option_and_then, option_map}
use Rattle.ca_arena.specs.declared.handle.Handle.{Handle}
use Rattle.ca_dbr.specs.Octets.{AreBytes}
use Rattle.ca_dbr.proofs.LongBytes.{are-drop, are-take}
use Rattle.ca_ids.specs.Table.{Table, under}
use Rattle.ca_link.specs.Link.{TakesFirst, with_rest}
use Rattle.ca_wire.specs.declared.reading.Head.{Head}
use Rattle.ca_wire.specs.Reading.{IsWhole}
use Rattle.ca_model.specs.Client.{Client, ClientCircuit, Connection, connection_at}
use Rattle.ca_model.specs.ClientEnds.{after_taking}
use Rattle.ca_client_tables.specs.declared.first.First.{First}
use Rattle.ca_client_tables.specs.declared.first.First.TheVariants as first
use Rattle.ca_client_tables.specs.First.{FirstAt, first_at, in_bytes, payload_at, without_front, without_head}
use Rattle.ca_client_tables.proofs.Circuits.{changed-same, found-changed}
use Rattle.ca_client_tables.proofs.Firsts.{payload-long, takes-first}
use Rattle.ca_client_core.specs.First.{FirstOn, first_on, without_first}

-- ---- on a circuit that was found

pub end-found : (x : Client) (c : Handle) (d : ClientCircuit) → Some d ≡ under x.circuits c → d.connection ≡ connection_at x c
end-found x c d found = ap (option_and_then (λ (w : ClientCircuit). w.connection)) found

pub first-found : (x : Client) (c : Handle) (d : ClientCircuit) (r : First) → Some d ≡ under x.circuits c → FirstAt d.connection r → FirstOn x c r
first-found x c d r found h = subst (λ (o : Option Connection). FirstAt o r) (end-found x c d found) h

pub first-none : (x : Client) (c : Handle) → ◌≡◌ {A = Option ClientCircuit} None (under x.circuits c) → FirstOn x c first.Gone
first-none x c none = subst (λ (o : Option Connection). FirstAt o first.Gone) (ap (option_and_then (λ (w : ClientCircuit). w.connection)) none) tt

whole-in : (o : Option Connection) (head : Head) → FirstAt o (first.Message head) → IsWhole (in_bytes o) head × AreBytes (in_bytes o)
whole-in None head h = absurd h
whole-in (Some e) head h = h

-- its first message is whole
pub whole-found : (x : Client) (c : Handle) (d : ClientCircuit) (head : Head) → Some d ≡ under x.circuits c → FirstOn x c (first.Message head) → IsWhole (in_bytes d.connection) head
whole-found x c d head found h =
    subst (λ (o : Option Connection). IsWhole (in_bytes o) head) (sym (end-found x c d found)) (whole-in (connection_at x c) head h).0

-- its payload is that of the message
pub payload-found : (x : Client) (c : Handle) (d : ClientCircuit) (head : Head) (bytes : List ℕ) → Some d ≡ under x.circuits c → bytes ≡ payload_at (in_bytes d.connection) head → bytes ≡ (first_on x c head).payload
payload-found x c d head bytes found are = are ∙ ap (λ (o : Option Connection). payload_at (in_bytes o) head) (end-found x c d found)

pub first-bytes : (x : Client) (c : Handle) (head : Head) → FirstOn x c (first.Message head) → AreBytes (first_on x c head).payload
first-bytes x c head h =
    are-take head.header.size (drop head.start (in_bytes (connection_at x c))) (are-drop head.start (in_bytes (connection_at x c)) (whole-in (connection_at x c) head h).1)

pub first-count : (x : Client) (c : Handle) (head : Head) → FirstOn x c (first.Message head) → head.header.count < 2 ^ 32
first-count x c head h = (whole-in (connection_at x c) head h).0.header.fits.count

-- it has a payload if its header has a size
pub no-payload : (x : Client) (c : Handle) (head : Head) → head.header.size ≡ 0 → (first_on x c head).payload ≡ []
no-payload x c head none = ap (λ (n : ℕ). take n (drop head.start (in_bytes (connection_at x c)))) none

pub some-payload : (x : Client) (c : Handle) (head : Head) → FirstOn x c (first.Message head) → head.header.size ≢ 0 → (first_on x c head).payload ≢ []
some-payload x c head h some none =
    some (sym (payload-long (in_bytes (connection_at x c)) head (whole-in (connection_at x c) head h).0) ∙ ap (λ (b : List ℕ). length b) none)

-- ---- the circuit of one

none-gone : {P : Type 0} (head : Head) (o : Option Connection) → o ≡ None → FirstAt o (first.Message head) → P
none-gone head o none h = absurd (subst (λ (z : Option Connection). FirstAt z (first.Message head)) none h)

-- a message comes first, so it is there
pub first-some : {P : Type 0} (x : Client) (c : Handle) (head : Head) → ◌≡◌ {A = Option ClientCircuit} None (under x.circuits c) → FirstOn x c (first.Message head) → P
first-some x c head none h = none-gone head (connection_at x c) (ap (option_and_then (λ (w : ClientCircuit). w.connection)) (sym none)) h

-- it is there, also once the message was taken
pub first-there : (x : Client) (c : Handle) (head : Head) (y : Client) → FirstOn x c (first.Message head) → y ≡ without_first c head x → (d : ClientCircuit) × (under y.circuits c ≡ Some d)
first-there x c head y h is = go (under x.circuits c) refl
  where
    go : (o : Option ClientCircuit) → under x.circuits c ≡ o → (d : ClientCircuit) × (under y.circuits c ≡ Some d)
    go None none = none-gone head (connection_at x c) (ap (option_and_then (λ (w : ClientCircuit). w.connection)) none) h
    go (Some d) found = (without_head head d, ap (λ (z : Client). under z.circuits c) is ∙ found-changed x.circuits (without_head head) c d found)

-- ---- the message is taken

pub takes-on : (x : Client) (c : Handle) (e : Connection) (head : Head) → connection_at x c ≡ Some e → FirstOn x c (first.Message head) → TakesFirst e.link (first_on x c head) (drop (head.start + head.header.size) e.link.input.bytes)
takes-on x c e head at h =
    let whole : IsWhole e.link.input.bytes head = (subst (λ (o : Option Connection). FirstAt o (first.Message head)) at h).0 in
    subst (λ (o : Option Connection). TakesFirst e.link (first_at (in_bytes o) head) (drop (head.start + head.header.size) e.link.input.bytes)) (sym at) (takes-first e.link head whole)

-- so the client is without it
pub taken-on : (x : Client) (c : Handle) (d : ClientCircuit) (e : Connection) (head : Head) → under x.circuits c ≡ Some d → d.connection ≡ Some e → without_first c head x ≡ after_taking c (drop (head.start + head.header.size) e.link.input.bytes) x
taken-on x c d e head found has =
    let rest : List ℕ = drop (head.start + head.header.size) e.link.input.bytes in
    let f : Connection → Connection = without_front head in
    let g : Connection → Connection = λ (z : Connection). record z { link = with_rest rest z.link } in
    ap (λ (t : Table ClientCircuit). let y : Client = record x { circuits = t } in y)
    (changed-same x.circuits (λ (w : ClientCircuit). record w { connection = option_map f w.connection }) (λ (w : ClientCircuit). record w { connection = option_map g w.connection }) c d found
    (ap (λ (o : Option Connection). let w : ClientCircuit = record d { connection = o } in w) (ap (option_map f) has ∙ sym (ap (option_map g) has))))
