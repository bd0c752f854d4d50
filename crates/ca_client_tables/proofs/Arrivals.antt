-- The messages of a datagram, received one after another, and undone.
use Rattle.std.proofs.Common.{◌≡◌, ◌≢◌, ◌∙◌, ℕ, ◌+◌, ◌<◌, ◌^◌, Bool, List, [], ◌∷◌, ◌++◌, Option, Some, None, Result, Ok, Err, ap, arith, if◌then◌else◌, length, refl, subst, sym}
use Rattle.std.specs.declared.alloc.AllocError.{AllocError}
use Rattle.ca_text.specs.Command.{command_number}
use Rattle.ca_text.specs.declared.command.Command.TheVariants as command
use Rattle.ca_beacon.specs.Table.{Servers, noted}
use Rattle.ca_search.specs.Searcher.{with_all}
use Rattle.ca_search.specs.Searches as search
use Rattle.ca_wire.specs.Fields.{Fields}
use Rattle.ca_model.specs.Client.{Client}
use Rattle.ca_model.specs.ClientEnds.{beacon_heard, beacon_server}
use Rattle.ca_model.specs.ClientEnds as receives
use Rattle.ca_model.specs.Ends.{Address}
use Rattle.ca_model.specs.Hears.{becomes}
use Rattle.ca_model.specs.Speech.{Is}
use Rattle.ca_client_tables.specs.Finding.{FindsOne, Halfway, Tables, opened}
use Rattle.ca_client_tables.specs.Receiving.{HalfParts, HearsBeacon, HearsIn, Parts, ReceivesIn, all_undone, in_tables, received_undone, settled, tables_in, with_parts}
use Rattle.ca_client_tables.specs.declared.beacons.Beacon.{Beacon}
use Rattle.ca_client_tables.specs.declared.finding.Found.{Found}
use Rattle.ca_client_tables.specs.declared.receiving.Received.{Received}
use Rattle.ca_client_tables.specs.declared.receiving.Received.TheVariants as received

-- ---- one message

-- what was found, as what was received
abbrev pub as_received : Option Found → Received
as_received None = received.Nothing
as_received (Some f) = received.Found f

abbrev tables_at : Parts → Tables
tables_at p = record { channels = p.channels; circuits = p.circuits; order = p.order }

abbrev at_tables : Tables → Parts → Parts
at_tables t p = record { channels = t.channels; circuits = t.circuits; order = t.order; beacons = p.beacons }

pub reply-received : (old : HalfParts) (from : Address) (m : Fields) (o : Option Found) (t : Halfway) → Is command.Search m → FindsOne (tables_in old) from m (Ok o) t → ReceivesIn old from m (Ok (as_received o)) (in_tables t old)
reply-received old from m None t is did = (
  λ x at.
      (let r = did.0 x (ap tables_at at) in
      (r.0, receives.Search is r.1, r.2, r.3 ∙ ap (λ (p : Parts). with_parts (at_tables (opened t) p) x) at)),
  ap (λ (u : Halfway). in_tables u old) did.1,
)
reply-received old from m (Some f) t is did = (
  λ x at.
      (let r = did.0 x (ap tables_at at) in
      (r.0, receives.Search is r.1, r.2, r.3 ∙ ap (λ (p : Parts). settled (received.Found f) (with_parts (at_tables (opened t) p) x)) at)),
  ap (λ (u : Halfway). in_tables u old) did.1,
)

pub reply-out : (old : HalfParts) (from : Address) (m : Fields) (e : AllocError) (t : Halfway) → FindsOne (tables_in old) from m (Err e) t → ReceivesIn old from m (Err e) (in_tables t old)
reply-out old from m e t did = ap (λ (u : Halfway). in_tables u old) did.0

-- one that does nothing
pub skipped : (old : HalfParts) (from : Address) (m : Fields) → (Is command.Search m → ⊥) → (Is command.RsrvIsUp m → m.count < 2 ^ 16 → ⊥) → ReceivesIn old from m (Ok received.Nothing) old
skipped old from m search beacon =
    (λ x at. (becomes x, receives.Other search beacon refl, refl, ap (λ (p : Parts). with_parts p x) at), refl)

two-commands : (n : ℕ) → n ≡ command_number command.Search → n ≡ command_number command.RsrvIsUp → ⊥
two-commands n a b = omega (arith, a, b)

heard-as : (from : Address) (m : Fields) (b : Beacon) (bs : Servers) (x : Client) → HearsBeacon x.beacons from m (Ok b) bs → beacon_heard from m x ≡ settled (received.Beacon b) (with_parts (record { channels = x.channels; circuits = x.circuits; order = x.order; beacons = bs }) x)
heard-as from m b bs x (told, notes, back) =
    let s = beacon_server from m in
    ap (λ (c : Bool). let y : Client = record x { beacons = noted x.beacons s m.p1; searches = if c then with_all (search.boosted x.moment) x.searches else x.searches } in y) (sym told)
    ∙ ap (λ (t : Servers). let y : Client = record x { beacons = t; searches = if b.anomaly then with_all (search.boosted x.moment) x.searches else x.searches } in y) (sym notes)

pub beacon-received : (old : HalfParts) (from : Address) (m : Fields) (r : Result Received AllocError) (bs : Servers) → Is command.RsrvIsUp m → HearsIn old.beacons from m r bs → ReceivesIn old from m r (record old { beacons = bs })
beacon-received old from m (Ok (received.Beacon b)) bs is (port, did) = (
  λ x at.
      (let here : HearsBeacon x.beacons from m (Ok b) bs = subst (λ (p : Parts). HearsBeacon p.beacons from m (Ok b) bs) (sym at) did in
      (becomes (beacon_heard from m x), receives.Beacon is port refl, refl, heard-as from m b bs x here ∙ ap (λ (p : Parts). settled (received.Beacon b) (with_parts (record p { beacons = bs }) x)) at)),
  ap (λ (t : Servers). let p : HalfParts = record old { beacons = t } in p) did.2,
)
beacon-received old from m (Ok received.Nothing) bs is (long, same) =
    subst (λ (t : Servers). ReceivesIn old from m (Ok received.Nothing) (record old { beacons = t })) (sym same)
    (skipped old from m (λ search. two-commands m.command search is) (λ beacon port. omega (arith, long, port)))
beacon-received old from m (Ok (received.Found f)) bs is h = absurd h
beacon-received old from m (Err e) bs is same = ap (λ (t : Servers). let p : HalfParts = record old { beacons = t } in p) same

-- ---- one after another

pub some-of : {T : Type 0} (ts : List T) (i : ℕ) → i < length ts → ts ≢ []
some-of [] i within = absurd (omega (arith, within))
some-of (t ∷ ts) i within = λ none. absurd cc

pub undone-last : (ds : List Received) (d : Received) (p : HalfParts) → all_undone (ds ++ d ∷ []) p ≡ all_undone ds (received_undone d p)
undone-last [] d p = refl
undone-last (e ∷ ds) d p = ap (received_undone e) (undone-last ds d p)

-- the client's parts, before any message
abbrev pub begun : Parts → HalfParts
begun p = record { channels = p.channels; circuits = p.circuits; opening = []; order = p.order; beacons = p.beacons }
