-- What is withdrawn of puts that are not there.
use Rattle.std.proofs.Common.{◌≡◌, ℕ, Bool, false, zero, suc, List, [], ◌∷◌, filter, not, refl, ap, ◌∙◌}
use Rattle.ca_text.specs.Place.{At}
use Rattle.ca_records.specs.declared.puts.Put.{Put}
use Rattle.ca_records.specs.Puts.{Record, WaitingPut, withdrawn, without_puts}
use Rattle.ca_records.specs.Writes.{HaveNone}

none-filtered : (which : Put → Bool) (ws : List WaitingPut) → ((k : ℕ) (w : WaitingPut) → At ws k w → which w.put ≡ false) → filter (λ (w : WaitingPut). not (which w.put)) ws ≡ ws
none-filtered which [] none = refl
none-filtered which (w ∷ ws) none =
    let here : which w.put ≡ false = none zero w refl in rw here (ap (λ vs. w ∷ vs) (none-filtered which ws (λ k v at. none (suc k) v at)))

without-none : (which : Put → Bool) (r : Record) → ((k : ℕ) (w : WaitingPut) → At r.waiting k w → which w.put ≡ false) → without_puts which r ≡ r
without-none which r none =
    ap (λ (ws : List WaitingPut). let q : Record = record { state = r.state; busy = r.busy; waiting = ws } in q) (none-filtered which r.waiting none)

pub withdrawn-none : (which : Put → Bool) (records : List Record) → HaveNone which records → withdrawn which records ≡ records
withdrawn-none which [] none = refl
withdrawn-none which (r ∷ rs) none =
    ap (λ q. q ∷ withdrawn which rs) (without-none which r (λ k w at. none zero r k w refl at))
    ∙ ap (λ qs. r ∷ qs) (withdrawn-none which rs (λ i q k w there at. none (suc i) q k w there at))
