-- A channel that was found is put on its circuit, and a circuit that is wanted is
-- connected: what that keeps.
use Rattle.std.proofs.Common.{◌≡◌, ◌∙◌, inl, inr, Bool, true, false, List, Option, Some, None, ap, if◌then◌else◌, refl, subst, sym, unwrap_or}
use Rattle.std.specs.Prelude.{ℕ, is_none, option_and_then, option_map}
use Rattle.ca_arena.specs.declared.handle.Handle.{Handle}
use Rattle.ca_ids.specs.Table.{Table, same_handle, under, with_all, with_changed}
use Rattle.ca_requests.specs.Requests.{Request}
use Rattle.ca_monitor.specs.Subscriptions.{Subscription}
use Rattle.ca_model.specs.Client.{Channel, Client, ClientCircuit, Connection, Creating, On, Standing, is_live, is_on_in, phase_on}
use Rattle.ca_model.specs.ClientEnds.{begun, creating, is_connecting, new_connection}
use Rattle.ca_model.specs.Placed.{ArePlaced, IsPlaced}
use Rattle.ca_model.proofs.Hearing.{keeps-begun}
use Rattle.ca_model.proofs.Handles.{handle-or}
use Rattle.ca_model.proofs.Placed.{placed-linked, under-other}
use Rattle.ca_model.proofs.Tables.{all-back, changed-own}
use Rattle.ca_client_tables.specs.Listed.{AreListed}
use Rattle.ca_client_core.proofs.Listing.{listed-thin}
use Rattle.ca_client_tables.proofs.Finds.{plain}

abbrev connection-of : Option ClientCircuit → Option Connection
connection-of o = option_and_then (λ (d : ClientCircuit). d.connection) o

module _ (t : Table Channel) (q : Table Request) (s : Table Subscription) (cs : Table ClientCircuit) (placed : ArePlaced t q s cs) where
  -- its end begins
  pub placed-begun : (c : Handle) (priority : ℕ) (u : Table Channel) (us : Table ClientCircuit) (e : Connection) → option_map (λ (d : ClientCircuit). d.priority) (option_and_then (λ (d : ClientCircuit). if is_none d.connection then Some d else None) (under cs c)) ≡ Some priority → u ≡ with_all (creating c) t → us ≡ with_changed (λ (d : ClientCircuit). record d { connection = Some e }) c cs → ArePlaced u q s us
  placed-begun c priority u us e wanted channels circuits = by_value (under cs c) refl wanted
    where
      begins : ClientCircuit → ClientCircuit
      begins d = record d { connection = Some e }

      fresh : ClientCircuit → ClientCircuit
      fresh d = record d { connection = Some (new_connection 0) }

      links : (d : ClientCircuit) → under cs c ≡ Some d → (k : Handle) → is_none (connection-of (under (with_changed begins c cs) k)) ≡ is_none (connection-of (under (with_changed fresh c cs) k))
      links d found k =
          elim (handle-or k c) [
            | inl here ↦
                subst (λ (j : Handle). is_none (connection-of (under (with_changed begins c cs) j)) ≡ is_none (connection-of (under (with_changed fresh c cs) j))) (sym here)
                (ap (λ (o : Option ClientCircuit). is_none (connection-of o)) (changed-own begins cs c d found) ∙ sym (ap (λ (o : Option ClientCircuit). is_none (connection-of o)) (changed-own fresh cs c d found)))
            | inr other ↦
                ap (λ (o : Option ClientCircuit). is_none (connection-of o)) (under-other begins cs c k other)
                ∙ sym (ap (λ (o : Option ClientCircuit). is_none (connection-of o)) (under-other fresh cs c k other))
          ]

      done : (d : ClientCircuit) → under cs c ≡ Some d → d.connection ≡ None → ArePlaced u q s us
      done d found none =
          let x : Client = plain t q s cs in
          let y : Client = plain (with_all (creating c) t) q s (with_changed begins c cs) in
          let now : IsPlaced y = placed-linked (begun c x) y refl refl refl (links d found) ((keeps-begun c d x found none).placed placed) in
          subst (λ (z : Table ClientCircuit). ArePlaced u q s z) (sym circuits) (subst (λ (z : Table Channel). ArePlaced z q s (with_changed begins c cs)) (sym channels) now)

      not_connected : (d : ClientCircuit) (o : Option Connection) → d.connection ≡ o → option_map (λ (w : ClientCircuit). w.priority) (if is_none o then Some d else None) ≡ Some priority → d.connection ≡ None
      not_connected d None is h = is
      not_connected d (Some k) is h = absurd cc

      by_value : (o : Option ClientCircuit) → under cs c ≡ o → option_map (λ (d : ClientCircuit). d.priority) (option_and_then (λ (d : ClientCircuit). if is_none d.connection then Some d else None) o) ≡ Some priority → ArePlaced u q s us
      by_value None none h = absurd cc
      by_value (Some d) found h = done d found (not_connected d d.connection refl h)

-- ---- live channels are listed still

not-live : (c k : Handle) (w : Channel) → w.standing ≡ On c (Creating 0) → is_on_in is_live k w ≡ false
not-live c k w stands = ap (λ (s : Standing). unwrap_or (option_map is_live (phase_on k s)) false) stands ∙ by_test (same_handle c k)
  where
    by_test : (b : Bool) → unwrap_or (option_map is_live (if b then Some (Creating 0) else None)) false ≡ false
    by_test true = refl
    by_test false = refl

live-before : (c k : Handle) (v w : Channel) (b : Bool) → is_on_in is_connecting c v ≡ b → w ≡ (if b then record v { standing = On c (Creating 0) } else v) → is_on_in is_live k w ≡ true → is_on_in is_live k v ≡ true
live-before c k v w true waits is live =
    let bad : false ≡ true = sym (not-live c k w (ap (λ (d : Channel). d.standing) is)) ∙ live in
    absurd cc
live-before c k v w false waits is live = ap (λ (d : Channel). is_on_in is_live k d) (sym is) ∙ live

pub listed-begun : (c : Handle) (t u : Table Channel) (lists : List (List Handle)) → u ≡ with_all (creating c) t → AreListed t lists → AreListed u lists
listed-begun c t u lists is listed =
    subst (λ (z : Table Channel). AreListed z lists) (sym is)
    (listed-thin t (with_all (creating c) t) lists
    (λ h ch k there live.
    let was = all-back (creating c) t h ch there in
    (was.0, was.1, live-before c k was.0 ch (is_on_in is_connecting c was.0) refl was.2 live))
    listed)
