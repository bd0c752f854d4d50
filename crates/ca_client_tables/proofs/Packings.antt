-- Searches put into datagrams, one after another.
use Rattle.std.proofs.Common.{◌≡◌, ◌≢◌, ◌∙◌, ℕ, true, false, List, [], ◌∷◌, ◌++◌, append_assoc, ap, refl, sym}
use Rattle.ca_dgram.specs.Search.{searched}
use Rattle.ca_search.specs.Searches.{Wanted}
use Rattle.ca_model.specs.ClientEnds.{packed}
use Rattle.ca_client_tables.specs.Packing.{AddsSearch, has_room}

-- a search that the last datagram has room for
pub packed-room : (last : List ℕ) (w : Wanted) (ws : List Wanted) → has_room w last ≡ true → packed last (w ∷ ws) ≡ packed (searched last w.cid w.name) ws
packed-room [] w ws room = rw room refl
packed-room (b ∷ last) w ws room = rw room refl

-- one that goes into a new one
pub packed-full : (last : List ℕ) (w : Wanted) (ws : List Wanted) → has_room w last ≡ false → packed last (w ∷ ws) ≡ last ∷ packed (searched [] w.cid w.name) ws
packed-full [] w ws room = rw room refl
packed-full (b ∷ last) w ws room = rw room refl

pub adds-room : (w : Wanted) (full : List (List ℕ)) (last next : List ℕ) → has_room w last ≡ true → next ≡ searched last w.cid w.name → AddsSearch w full last full next
adds-room w full last next room is ws =
    ap (λ (ds : List (List ℕ)). full ++ ds) (packed-room last w ws room ∙ ap (λ (d : List ℕ). packed d ws) (sym is))

pub adds-full : (w : Wanted) (full more : List (List ℕ)) (last next : List ℕ) → has_room w last ≡ false → next ≡ searched [] w.cid w.name → more ≡ full ++ last ∷ [] → AddsSearch w full last more next
adds-full w full more last next room is pushed ws =
    ap (λ (ds : List (List ℕ)). full ++ ds) (packed-full last w ws room ∙ ap (λ (d : List ℕ). last ∷ packed d ws) (sym is))
    ∙ sym (append_assoc full (last ∷ []) (packed next ws))
    ∙ ap (λ (ds : List (List ℕ)). ds ++ packed next ws) (sym pushed)

-- at the end
pub packed-end : (last : List ℕ) → last ≢ [] → packed last [] ≡ last ∷ []
packed-end [] some = absurd (some refl)
packed-end (b ∷ last) some = refl
