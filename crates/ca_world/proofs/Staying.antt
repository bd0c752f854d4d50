-- A call of a server is over, and none of its ends ended.
use Rattle.std.proofs.Common.{◌≡◌, ℕ, ◌==◌, ◌&&◌, ◌++◌, Bool, true, false, not, List, [], ◌∷◌, Option, Some, None, refl, ap, ◌∙◌}
use Rattle.std.specs.Prelude.{filter, if◌then◌else◌, is_some, map, option_map, slice_get, unwrap_or}
use Rattle.std.specs.List.{flat_map}
use Rattle.ca_ids.specs.Table.{under}
use Rattle.ca_model.specs.History as entry
use Rattle.ca_model.specs.Server.{Server}
use Rattle.ca_model.specs.ServerEvents.{ending, ends_at, ends_by, left_by, reported, server_after, withdrawals, without_puts}
use Rattle.ca_model.specs.World.{Joined, PutPlace, RecordSide, ServerSide, World, with_entries, with_server}
use Rattle.ca_world_data.proofs.Silences.{grown-nil}
use Rattle.ca_world.specs.Reported.{HasReported}
use Rattle.ca_world.proofs.Endings.{freed-none, none-under}

-- no circuit ends
abbrev none_end : Joined → Option (List ℕ)
none_end j = None

none-ends : (i : ℕ) (core : Server) → HasReported core → ends_by i core ≡ none_end
none-ends i core all = (λ t j. each j t)
  where
    each : (j : Joined) → ends_by i core j ≡ None
    each j = go (j.server == i && j.lists.server_open)
      where
        go : (b : Bool) → (if b then left_by (under core.circuits j.at_server) else None) ≡ None
        go true = none-under core.circuits j.at_server all
        go false = refl

ends-none : (ks : List Joined) → map (ending none_end) ks ≡ ks
ends-none [] = refl
ends-none (j ∷ ks) = ap (λ (l : List Joined). j ∷ l) (ends-none ks)

at-none : (ks : List Joined) → ends_at none_end ks ≡ (λ (k : ℕ). false)
at-none ks = (λ t k. go (slice_get ks k) t)
  where
    go : (o : Option Joined) → unwrap_or (option_map (λ (j : Joined). is_some (none_end j)) o) false ≡ false
    go None = refl
    go (Some j) = refl

abbrev nobody : ℕ → Bool
nobody k = false

places-none : (ps : List PutPlace) → filter (λ (p : PutPlace). nobody p.circuit) ps ≡ []
places-none [] = refl
places-none (p ∷ ps) = places-none ps

places-all : (ps : List PutPlace) → filter (λ (p : PutPlace). not (nobody p.circuit)) ps ≡ ps
places-all [] = refl
places-all (p ∷ ps) = ap (λ (l : List PutPlace). p ∷ l) (places-all ps)

told-none : (rs : List RecordSide) → withdrawals nobody rs ≡ []
told-none rs = ap (map (λ (p : PutPlace). entry.Withdrawn p.circuit p.place)) (go rs)
  where
    go : (rs : List RecordSide) → flat_map (λ (r : RecordSide). filter (λ (p : PutPlace). nobody p.circuit) r.waiting) rs ≡ []
    go [] = refl
    go (r ∷ rs) = (λ t. places-none r.waiting t ++ go rs t)

records-all : (rs : List RecordSide) → map (without_puts nobody) rs ≡ rs
records-all [] = refl
records-all (r ∷ rs) = (λ t. record r { waiting = places-all r.waiting t } ∷ records-all rs t)

reports-none : (core : Server) → HasReported core → reported core ≡ core
reports-none core all = (λ t. record core { circuits = freed-none core.circuits all t })

-- nothing but the core changes
pub after-none : (i : ℕ) (y : ServerSide) (core : Server) (w : World) → HasReported core → server_after i y (ends_by i core) core w ≡ with_server i (record y { core = core }) w
after-none i y core w all =
    ap (λ (ends : Joined → Option (List ℕ)). server_after i y ends core w) (none-ends i core all)
    ∙ (λ t.
    with_entries y.life (withdrawals (at-none w.circuits t) y.records)
    (with_server i (record y { core = reports-none core all t; records = map (without_puts (at-none w.circuits t)) y.records }) (record w { circuits = ends-none w.circuits t })))
    ∙ (λ t. with_entries y.life (told-none y.records t) (with_server i (record y { core = core; records = records-all y.records t }) w))
    ∙ (λ t. record (with_server i (record y { core = core }) w) { server_logs = grown-nil y.life w.server_logs t })
