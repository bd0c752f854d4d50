-- A state in which nothing was asked.
use Rattle.std.proofs.Common.{◌≡◌, List, [], Some, Ok, Err, sym, subst, inr, ◌∙◌}
use Rattle.std.specs.Prelude.{IfErr, IsErrAnd, Result, length}
use Rattle.atomic_table.specs.Seated.{TableId}
use Rattle.ca_text.specs.Limits.{arena_slots}
use Rattle.ca_text.specs.declared.refusal.Refusal.{Refusal}
use Rattle.ca_text.specs.declared.refusal.Refusal.TheVariants.{OutOfMemory}
use Rattle.ca_arena.specs.declared.handle.Handle.{Handle}
use Rattle.ca_board.specs.declared.ticket.Ticket.{Ticket}
use Rattle.ca_board.specs.Views.{CoreView}
use Rattle.ca_ids.specs.Table.{Table, under}
use Rattle.ca_model.specs.Client.{Client}
use Rattle.ca_model.specs.ClientEnds.{ClientBegins, ClientSetting, new_client}
use Rattle.ca_model.specs.Placed.{IsPlaced}
use Rattle.ca_model.proofs.Tables.{under-at}
use Rattle.ca_client.specs.Awaited.{AreAwaited, IsListed, IsState, Waits}
use Rattle.ca_client.specs.Calls.{HasNotBegun}

-- a table with no place names nothing
nothing : {T : Type 0} (h : Handle) (v : T) → (let t : Table T = [] in under t h ≡ Some v) → ⊥
nothing {T} h v e = (let t : Table T = [] in let at = under-at t h v e in absurd cc)

no-waits : (a : ClientSetting) (q : Handle) → Waits (new_client a) q → ⊥
no-waits a q w = nothing q w.0 w.1

pub state-new : (a : ClientSetting) (x : Client) (v : CoreView) (board : TableId) (ts : List Ticket) → ClientBegins a (Ok x) → IsPlaced x → v.board ≡ board → length ts ≡ arena_slots → IsState x v board ts
state-new a x v board ts begins placed same wide = record {
  same = same;
  wide = wide;
  placed = placed;
  listed = subst IsListed (sym begins.2) (record { wait = λ q m. absurd m; once = tt });
  awaited = subst (λ (z : Client). AreAwaited v ts (Waits z)) (sym begins.2) (record { each = λ q w. absurd (no-waits a q w); once = λ p q w u e. absurd (no-waits a p w) });
}

-- where the core would begin and memory lacks
pub lacks : {A : Type 0} (a : ClientSetting) (x : Client) (e : Refusal) (r : Result A Refusal) → ClientBegins a (Ok x) → IsErrAnd r (λ f. f ≡ e) → e ≡ OutOfMemory
    → IfErr r (HasNotBegun a)
lacks a x e (Ok s) begins h is = absurd h
lacks a x e (Err f) begins h is = inr (h ∙ is, (x, begins))
