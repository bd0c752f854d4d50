-- A step of a server's end that handles a message: what is held of its circuit and of
-- the others stays so.
use Rattle.std.proofs.Common.{◌≡◌, ℕ, Bool, true, false, ◌&&◌, cond, eqb, List, [], ◌∷◌, length, refl, sym, ◌∙◌, subst}
use Rattle.std.specs.Prelude.{map}
use Rattle.std.specs.List.{fold}
use Rattle.ca_text.specs.Place.{At}
use Rattle.ca_text.proofs.Places.{At-map}
use Rattle.ca_arena.specs.declared.handle.Handle.{Handle}
use Rattle.ca_ids.specs.Table.{under}
use Rattle.ca_queue.specs.declared.entry.SubKey.{SubKey}
use Rattle.ca_text.specs.declared.command.Command.TheVariants as command
use Rattle.ca_wire.specs.Fields.{Fields}
use Rattle.ca_wire.specs.Header.{HeaderFits}
use Rattle.ca_wire.specs.Message.{header_of}
use Rattle.ca_model.specs.Speech.{Is}
use Rattle.ca_model.specs.Client.{Client}
use Rattle.ca_model.specs.Due.{Action, Adds, Applies, Clears, Drops, Due, Greets, Knows, Names, Nothing, Opens, Switches, Waits}
use Rattle.ca_model.specs.History.{Circuit, Sent, Step}
use Rattle.ca_model.specs.Server.{Server}
use Rattle.ca_model.specs.ServerEvents.{handled_at, keys_concerned, numbers_after, numbers_posted, with_number, write_numbers}
use Rattle.ca_model.specs.World.{Joined, World}
use Rattle.ca_model.specs.World as world
use Rattle.ca_laws_parts.specs.Flows.{IsCidOf}
use Rattle.ca_laws_parts.specs.Replies.{IsCidAt}
use Rattle.ca_laws_parts.proofs.Answering.{due-answers}
use Rattle.ca_laws_parts.proofs.CircuitSteps.{flows-step, holds-step}
use Rattle.ca_laws_parts.specs.Circuit.{HeldAt, HeldOn, IsNext}

-- ---- what changes no list

-- Both circuits have the same lists, client and handle there.
abbrev pub Like : (j next : Joined) → Type 0
Like j next = (next.lists ≡ j.lists) × (next.at_client ≡ j.at_client) × (next.client ≡ j.client)

pub like-held : (kept : List ℕ) (n : world.Names) (x : Client) (j next : Joined) → Like j next → HeldOn kept n x j → HeldOn kept n x next
like-held kept n x j next like h =
    let start : HeldOn kept n x (record next { lists = j.lists; at_client = j.at_client }) = record { flows = h.flows; cids = h.cids; holds = h.holds } in
    subst (λ (p : Circuit × Handle). HeldOn kept n x (record next { lists = p.0; at_client = p.1 })) (λ i. (sym like.0 i, sym like.1 i)) start

like-then : (a b c : Joined) → Like a b → Like b c → Like a c
like-then a b c p q = (q.0 ∙ p.0, q.1 ∙ p.1, q.2 ∙ p.2)

all-numbers : (keys : List SubKey) (j : Joined) → Like j (fold with_number j keys)
all-numbers [] j = (refl, refl, refl)
all-numbers (key ∷ keys) j = like-then j (with_number j key) (fold with_number (with_number j key) keys) (refl, refl, refl) (all-numbers keys (with_number j key))

pub posted-like : (i : ℕ) (core : Server) (name : List ℕ) (mask : ℕ) (j : Joined) → Like j (numbers_posted i core name mask j)
posted-like i core name mask j = go (eqb j.server i && j.lists.server_open)
  where
    go : (b : Bool) → Like j (cond b (fold with_number j (keys_concerned name mask (under core.circuits j.at_server))) j)
    go true = all-numbers (keys_concerned name mask (under core.circuits j.at_server)) j
    go false = (refl, refl, refl)

pub writes-like : (i : ℕ) (core : Server) (action : Action) (j : Joined) → Like j (write_numbers i core action j)
writes-like i core (Applies name value busies) j = posted-like i core name 3 j
writes-like i core Nothing j = (refl, refl, refl)
writes-like i core Greets j = (refl, refl, refl)
writes-like i core (Names peer) j = (refl, refl, refl)
writes-like i core (Opens channel) j = (refl, refl, refl)
writes-like i core (Clears sid) j = (refl, refl, refl)
writes-like i core (Waits name value) j = (refl, refl, refl)
writes-like i core (Adds s) j = (refl, refl, refl)
writes-like i core (Drops key) j = (refl, refl, refl)
writes-like i core (Switches on) j = (refl, refl, refl)

pub numbers-like : (place : ℕ) (action : Action) (j : Joined) → Like j (numbers_after place action j)
numbers-like place (Applies name value busies) j = (refl, refl, refl)
numbers-like place Nothing j = (refl, refl, refl)
numbers-like place Greets j = (refl, refl, refl)
numbers-like place (Names peer) j = (refl, refl, refl)
numbers-like place (Opens channel) j = (refl, refl, refl)
numbers-like place (Clears sid) j = (refl, refl, refl)
numbers-like place (Waits name value) j = (refl, refl, refl)
numbers-like place (Adds s) j = (refl, refl, refl)
numbers-like place (Drops key) j = (refl, refl, refl)
numbers-like place (Switches on) j = (refl, refl, refl)

pub mapped-held : (kept : List ℕ) (w : World) (l : ℕ) (f : Joined → Joined) → ((j : Joined) → Like j (f j)) → HeldAt kept w l → HeldAt kept (record w { circuits = map f w.circuits }) l
mapped-held kept w l f like held =
    let j : Joined = held.0 in (
      f j,
      held.1,
      At-map f w.circuits l j held.2,
      subst (λ (c : ℕ). At w.clients c held.1) (sym (like j).2) held.3,
      like-held kept held.1.names held.1.core j (f j) (like j) held.4,
    )

-- ---- the message is handled

-- what is held of the circuit after the step
pub handled-held : (kept now : List ℕ) (n : world.Names) (x : Client) (j : Joined) (h : Step) (k : Knows) (m : Fields) (replies : List Fields) (action : Action) → Due k m replies action → IsNext kept now j.lists k m replies → HeldOn kept n x j
    → HeldOn now n x (handled_at (length j.lists.handled) h replies j)
handled-held kept now n x j h k m replies action due next held =
    let c : Circuit = j.lists in
    let s : Sent = next.s in
    let answers =
    due-answers c now s k replies action next.at (held.flows.asked (length c.handled) s next.at) (subst (λ (f : Fields). HeaderFits (header_of f)) (sym next.is) next.fits)
    (subst (λ (f : Fields). Due k f replies action) (sym next.is) due)
    (subst (λ (f : Fields). Is command.Write f → (cid : ℕ) → IsCidAt k f.p1 cid → IsCidOf c.up (length c.handled) s.intent cid) (sym next.is) next.writes) next.gone next.over in
    record {
      flows = flows-step kept now c h s replies next.at next.were answers held.flows;
      cids = held.cids;
      holds = λ o. holds-step kept now j.at_client n x c h s replies next.at next.were answers (held.holds o);
    }
