-- Places of lists that were filtered, and the requests of a client of which a circuit is let go.
use Rattle.std.proofs.Common.{◌≡◌, ℕ, zero, suc, ◌<◌, Bool, true, false, cond, List, [], ◌∷◌, length, Option, Some, None, refl, sym, ap, ◌∙◌, arith}
use Rattle.std.specs.Prelude.{◌==◌, filter, fold, not, option_map, unwrap_or}
use Rattle.ca_text.specs.Place.{At}
use Rattle.ca_text.proofs.Places.{some_is}
use Rattle.ca_arena.specs.declared.handle.Handle.{Handle}
use Rattle.ca_ids.specs.Table.{under}
use Rattle.ca_model.specs.Client.{Client, ClientCircuit, Phase, channels_ended, channels_on, disconnected, is_cleared, let_go, searched_again, without_channel, without_circuit}
use Rattle.ca_model.specs.ClientCalls.{unwanted}
use Rattle.ca_model.proofs.Tables.{AreApart}

-- ---- places of a list that was filtered

pub filter-order : {A : Type 0} (p : A → Bool) (xs : List A) (i j : ℕ) (x y : A) → i < j → At (filter p xs) i x → At (filter p xs) j y → (k l : ℕ) × (k < l) × At xs k x × At xs l y
filter-order p [] i j x y lt at_x at_y = absurd cc
filter-order {A} p (z ∷ xs) i j x y lt at_x at_y = go (p z) i j lt at_x at_y (λ a b less u v. filter-order p xs a b x y less u v) (λ b v. kept xs b v)
  where
    kept : (xs : List A) (j : ℕ) → At (filter p xs) j y → (l : ℕ) × At xs l y
    kept [] j at = absurd cc
    kept (w ∷ xs) j at = by (p w) j at (λ k there. kept xs k there)
      where
        by : (b : Bool) (j : ℕ) → At (cond b (w ∷ filter p xs) (filter p xs)) j y → ((k : ℕ) → At (filter p xs) k y → (l : ℕ) × At xs l y) → (l : ℕ) × At (w ∷ xs) l y
        by true zero at rest = (0, at)
        by true (suc j) at rest = (let r = rest j at in (suc r.0, r.1))
        by false j at rest = (let r = rest j at in (suc r.0, r.1))

    go : (b : Bool) (i j : ℕ) → i < j → At (cond b (z ∷ filter p xs) (filter p xs)) i x → At (cond b (z ∷ filter p xs) (filter p xs)) j y
        → ((a b : ℕ) → a < b → At (filter p xs) a x → At (filter p xs) b y → (k l : ℕ) × (k < l) × At xs k x × At xs l y) → ((b : ℕ) → At (filter p xs) b y → (l : ℕ) × At xs l y)
        → (k l : ℕ) × (k < l) × At (z ∷ xs) k x × At (z ∷ xs) l y
    go true i zero lt at_x at_y rest one = absurd (omega (arith, lt))
    go true zero (suc j) lt at_x at_y rest one = (let r = one j at_y in (0, suc r.0, omega arith, at_x, r.1))
    go true (suc i) (suc j) lt at_x at_y rest one = (let r = rest i j (omega (arith, lt)) at_x at_y in let less : r.0 < r.1 = r.2 in (suc r.0, suc r.1, omega (arith, less), r.3, r.4))
    go false i j lt at_x at_y rest one = (let r = rest i j lt at_x at_y in let less : r.0 < r.1 = r.2 in (suc r.0, suc r.1, omega (arith, less), r.3, r.4))

-- two rows of a table have two handles
pub rows-apart : {T : Type 0} (xs : List (Handle × T)) → AreApart xs → (i j : ℕ) (a b : Handle × T) → i < j → At xs i a → At xs j b → a.0 ≡ b.0 → ⊥
rows-apart [] apart i j a b lt at on same = absurd cc
rows-apart (x ∷ xs) (none, rest) i zero a b lt at on same = omega (arith, lt)
rows-apart {T} (x ∷ xs) (none, rest) zero (suc j) a b lt at on same = none j b on (sym same ∙ ap (λ (z : Handle × T). z.0) (sym (some_is x a at)))
rows-apart (x ∷ xs) (none, rest) (suc i) (suc j) a b lt at on same = rows-apart xs rest i j a b (omega (arith, lt)) at on same

-- ---- a circuit is let go

requests-fold : (f : Client → Handle → Client) → ((y : Client) (h : Handle) → (f y h).requests ≡ y.requests) → (hs : List Handle) (x : Client) → (fold f x hs).requests ≡ x.requests
requests-fold f each [] x = refl
requests-fold f each (h ∷ hs) x = requests-fold f each hs (f x h) ∙ each x h

requests-let-go : (c : Handle) (d : ClientCircuit) (x : Client) → (let_go c d x).requests ≡ x.requests
requests-let-go c d x = go d.is_name
  where
    go : (b : Bool) → (cond b (disconnected c x) (without_circuit c x)).requests ≡ x.requests
    go true = refl
    go false = refl

pub requests-ended : (c : Handle) (d : ClientCircuit) (x : Client) → (let_go c d (channels_ended c x)).requests ≡ x.requests
requests-ended c d x =
    let mid : Client = fold without_channel x (channels_on is_cleared c x) in
    requests-let-go c d (channels_ended c x) ∙ requests-fold searched_again (λ y h. refl) (channels_on (λ (p : Phase). not (is_cleared p)) c x) mid
    ∙ requests-fold without_channel (λ y h. refl) (channels_on is_cleared c x) x

pub requests-unwanted : (c : Handle) (x : Client) → ((unwanted c x).requests ≡ x.requests) × ((unwanted c x).channels ≡ x.channels)
requests-unwanted c x = go (length (channels_on (λ (p : Phase). true) c x) == 0) (under x.circuits c)
  where
    gone : (d : ClientCircuit) (b : Bool) → ((cond b (disconnected c x) (without_circuit c x)).requests ≡ x.requests) × ((cond b (disconnected c x) (without_circuit c x)).channels ≡ x.channels)
    gone d true = (refl, refl)
    gone d false = (refl, refl)

    go : (b : Bool) (o : Option ClientCircuit) → ((cond b (unwrap_or (option_map (λ (d : ClientCircuit). let_go c d x) o) x) x).requests ≡ x.requests) × ((cond b (unwrap_or (option_map (λ (d : ClientCircuit). let_go c d x) o) x) x).channels ≡ x.channels)
    go true (Some d) = gone d d.is_name
    go true None = (refl, refl)
    go false o = (refl, refl)
