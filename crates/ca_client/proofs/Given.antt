-- Bytes that are moved leave the requests as they are.
use Rattle.std.proofs.Common.{◌≡◌, ℕ, Bool, true, false, cond, List, Option, Some, None, Result, Ok, Err, refl, sym, subst}
use Rattle.std.specs.Prelude.{is_some}
use Rattle.atomic_table.specs.Seated.{TableId}
use Rattle.ca_text.specs.declared.refusal.Refusal.{Refusal}
use Rattle.ca_text.specs.declared.refusal.Refusal.TheVariants as refusal
use Rattle.ca_arena.specs.declared.handle.Handle.{Handle}
use Rattle.ca_board.specs.declared.ticket.Ticket.{Ticket}
use Rattle.ca_board.specs.Views.{CoreView}
use Rattle.ca_link.specs.Link.{with_handed}
use Rattle.ca_model.specs.Answers.{Sending}
use Rattle.ca_model.specs.Client.{Client, Connection, connection_at, on_connection, sending}
use Rattle.ca_model.specs.ClientEnds.{ClientGives, GivesOn, flow_sent, given, handed_over}
use Rattle.ca_model.specs.Placed.{IsPlaced}
use Rattle.ca_model.proofs.Changes.{given-keeps, handed-keeps}
use Rattle.ca_client.specs.Awaited.{IsState}
use Rattle.ca_client.proofs.Settled.{state-same}
use Rattle.ca_client.proofs.Waiting.{Same, same-itself, same-sending}

gives-same : (x : Client) (c : Handle) (bytes : List ℕ) (more : Bool) (result : Result (Unit {0}) Refusal) (sent : List Sending) (y : Client) → IsPlaced x → ClientGives x c bytes more result sent y → Same x y × IsPlaced y
gives-same x c bytes more result sent y placed gives = go (connection_at x c) result gives
  where
    unchanged : y ≡ x → Same x y × IsPlaced y
    unchanged e = (subst (Same x) (sym e) (same-itself x), subst IsPlaced (sym e) placed)

    go : (o : Option Connection) (r : Result (Unit {0}) Refusal) → GivesOn x c bytes more o r sent y → Same x y × IsPlaced y
    go None (Err refusal.CircuitClosed) h = unchanged h.1
    go None (Err _) h = absurd h
    go None (Ok _) h = absurd h
    go (Some e) (Ok u) h =
        let z : Client = given c bytes more x in
        let s : Same z (sending (flow_sent c more e) z) = same-sending (flow_sent c more e) z in
        (subst (Same x) (sym h.1) (record { requests = s.requests; issued = s.issued }), (given-keeps x y c bytes more (Some e) sent h).placed placed)
    go (Some e) (Err refusal.OutOfMemory) h = unchanged h.1.1
    go (Some e) (Err _) h = absurd h

-- a read is refused if its circuit is not connected, and then without memory
pub refused_so : (x : Client) (c : Handle) (bytes : List ℕ) (more : Bool) (e : Refusal) (sent : List Sending) (y : Client) → ClientGives x c bytes more (Err e) sent y → (e ≡ refusal.CircuitClosed → ⊥) → e ≡ refusal.OutOfMemory
refused_so x c bytes more e sent y gives other = go (connection_at x c) e gives other
  where
    go : (o : Option Connection) (r : Refusal) → GivesOn x c bytes more o (Err r) sent y → (r ≡ refusal.CircuitClosed → ⊥) → r ≡ refusal.OutOfMemory
    go None refusal.CircuitClosed h no-other = absurd (no-other refl)
    go None _ h no-other = absurd h
    go (Some d) refusal.OutOfMemory h no-other = refl
    go (Some d) _ h no-other = absurd h

pub state-given : (x : Client) (v : CoreView) (board : TableId) (ts : List Ticket) (c : Handle) (bytes : List ℕ) (more : Bool) (result : Result (Unit {0}) Refusal) (sent : List Sending) (y : Client) → IsState x v board ts → ClientGives x c bytes more result sent y → IsState y v board ts
state-given x v board ts c bytes more result sent y s gives =
    let r = gives-same x c bytes more result sent y s.placed gives in
    state-same x v board ts y s r.0 r.1

handed-same : (c : Handle) (n : ℕ) (x : Client) → Same x (handed_over c n x)
handed-same c n x = go (is_some (connection_at x c))
  where
    go : (b : Bool) → Same x (cond b (on_connection (λ (e : Connection). record e { link = with_handed n e.link }) c x) x)
    go true = record { requests = refl; issued = refl }
    go false = same-itself x

pub state-handed : (x : Client) (v : CoreView) (board : TableId) (ts : List Ticket) (c : Handle) (n : ℕ) (y : Client) → IsState x v board ts → y ≡ handed_over c n x → IsState y v board ts
state-handed x v board ts c n y s e =
    subst (λ (z : Client). IsState z v board ts) (sym e) (state-same x v board ts (handed_over c n x) s (handed-same c n x) ((handed-keeps c n x).placed s.placed))
