-- The calls that begin no subscription, and create no channel, leave the lists of those
-- that watch complete.
use Rattle.std.proofs.Common.{◌≡◌, ℕ, inl, inr, List, [], ◌∷◌, Some, Result, Ok, Err, sym, ap, ◌∙◌, subst}
use Rattle.std.specs.List.{FoldsTo}
use Rattle.ca_arena.specs.declared.handle.Handle.{Handle}
use Rattle.ca_ids.specs.Table.{Table, under, with_changed, with_held}
use Rattle.ca_link.specs.Link.{with_given, with_handed}
use Rattle.ca_records.specs.declared.puts.Put.{Put}
use Rattle.ca_records.specs.Store.{Store}
use Rattle.ca_text.specs.declared.refusal.Refusal.{Refusal}
use Rattle.ca_text.specs.declared.refusal.Refusal.TheVariants as refusal
use Rattle.ca_server_watchers.specs.Watching.{Watched}
use Rattle.ca_model.specs.Ends as why
use Rattle.ca_model.specs.Server.{Ended, Open, ServerCircuit, ServerEnd, Subscription, new_end}
use Rattle.ca_model.specs.ServerSteps.{Leaves, Update}
use Rattle.ca_model.specs.Speech.{In}
use Rattle.ca_server_circuit.specs.Circuits.{GivesAt, SendsAt}
use Rattle.ca_server_core.specs.Circuits.{GivesIn, OpensIn, SendsIn}
use Rattle.ca_server_core.specs.Covering.{Covers}
use Rattle.ca_server_circuit.specs.Finishing.{RepliesAt, with_reply}
use Rattle.ca_server_core.specs.Finishing.{RepliesIn}
use Rattle.ca_server_circuit.specs.Pumping.{PumpsAt}
use Rattle.ca_server_core.specs.Pumping.{PumpsIn}
use Rattle.ca_server_core.proofs.Covered.{Thins, covers-accepted, thins-changed, thins-ended, thins-same}
use Rattle.ca_server_core.proofs.Covered.{to-same}
use Rattle.ca_server_core.proofs.Servers.{became, stayed}

abbrev Circuits : Type 0
Circuits = Table ServerCircuit

-- the circuits are the same
pub same-thins : (t u : Circuits) → u ≡ t → Thins t u
same-thins t u is = subst (λ (z : Circuits). Thins t z) (sym is) (thins-same t)

pub thins-given : (t after : Circuits) (h : Handle) (now : ℕ) (bytes : List ℕ) (r : Result (Unit {0}) Refusal) → GivesIn t h now bytes r after → Thins t after
thins-given t after h now bytes r (inr none) = same-thins t after none.2
thins-given t after h now bytes r (inl g) = by g.0 g.1 r g.2 g.3 g.4
  where
    by : (c new : ServerCircuit) (r : Result (Unit {0}) Refusal) → under t h ≡ Some c → GivesAt now bytes c r new → after ≡ with_changed (λ (x : ServerCircuit). new) h t → Thins t after
    by (Open e) new (Ok u) there did changed =
        let e2 : ServerEnd = record e { link = with_given now bytes e.link } in
        subst (λ (z : Circuits). Thins t z) (sym (became t after h new (Open e2) changed did)) (thins-changed t h e e2 there (λ s i. i) (λ n c. c))
    by (Open e) new (Err refusal.OutOfMemory) there did changed = same-thins t after (stayed t after h new (Open e) there changed did.1)
    by (Open e) new (Err _) there did changed = absurd did
    by (Ended w left) new r there did changed = same-thins t after (stayed t after h new (Ended w left) there changed did.1)

pub thins-sent : (t after : Circuits) (h : Handle) (n : ℕ) → SendsIn t h n after → Thins t after
thins-sent t after h n (inr none) = same-thins t after none.1
thins-sent t after h n (inl g) = by g.0 g.1 g.2 g.3 g.4
  where
    by : (c new : ServerCircuit) → under t h ≡ Some c → SendsAt n c new → after ≡ with_changed (λ (x : ServerCircuit). new) h t → Thins t after
    by (Open e) new there did changed =
        let e2 : ServerEnd = record e { link = with_handed n e.link } in
        subst (λ (z : Circuits). Thins t z) (sym (became t after h new (Open e2) changed did)) (thins-changed t h e e2 there (λ s i. i) (λ n c. c))
    by (Ended w left) new there did changed = same-thins t after (stayed t after h new (Ended w left) there changed did)

pub thins-replied : (s u : Store) (t after : Circuits) (p : Put) → RepliesIn t p s after u → Thins t after
thins-replied s u t after p (inr none) = same-thins t after none.1
thins-replied s u t after p (inl g) = by g.0 g.1 g.2 g.3 g.4
  where
    by : (c new : ServerCircuit) → under t p.circuit ≡ Some c → RepliesAt p c s new u → after ≡ with_changed (λ (x : ServerCircuit). new) p.circuit t → Thins t after
    by (Open e) new there (inl sent) changed =
        subst (λ (z : Circuits). Thins t z) (sym (became t after p.circuit new (Open (with_reply p e)) changed sent.1)) (thins-changed t p.circuit e (with_reply p e) there (λ x i. i) (λ n c. c))
    by (Open e) new there (inr (inl lack)) changed =
        subst (λ (z : Circuits). Thins t z) (sym (became t after p.circuit new (Ended why.OutOfMemory e.link.output) changed lack.1)) (thins-ended t p.circuit why.OutOfMemory e.link.output)
    by (Open e) new there (inr (inr shut)) changed = same-thins t after (stayed t after p.circuit new (Open e) there changed shut.1)
    by (Ended w left) new there did changed = same-thins t after (stayed t after p.circuit new (Ended w left) there changed did.0)

-- a circuit was to be accepted
pub covers-opened : (w : Watched) (t after : Circuits) (now : ℕ) (c : ServerCircuit) (r : Result Handle Refusal) → Covers w t → c ≡ Open (new_end now) → OpensIn t c r after → Covers w after
covers-opened w t after now c (Ok h) i is g = subst (λ (x : Circuits). Covers w x) (sym (g.1 ∙ ap (λ (x : ServerCircuit). with_held h x t) is)) (covers-accepted w t h now g.0 i)
covers-opened w t after now c (Err refusal.ArenaFull) i is g = subst (λ (x : Circuits). Covers w x) (sym g.1) i
covers-opened w t after now c (Err refusal.OutOfMemory) i is g = subst (λ (x : Circuits). Covers w x) (sym g.1) i
covers-opened w t after now c (Err _) i is g = absurd g

-- updates that leave take no subscription with them
pub folds-subscriptions : (e : ServerEnd) (us : List Update) (after : ServerEnd) → FoldsTo Leaves e us after → after.subscriptions ≡ e.subscriptions
folds-subscriptions e [] after f = ap (λ (x : ServerEnd). x.subscriptions) (sym f)
folds-subscriptions e (u ∷ us) after f = folds-subscriptions f.0 us after f.2 ∙ ap (λ (x : ServerEnd). x.subscriptions) f.1.leaves

-- nor do they any channel
pub folds-channels : (e : ServerEnd) (us : List Update) (after : ServerEnd) → FoldsTo Leaves e us after → after.channels ≡ e.channels
folds-channels e [] after f = ap (λ (x : ServerEnd). x.channels) (sym f)
folds-channels e (u ∷ us) after f = folds-channels f.0 us after f.2 ∙ ap (λ (x : ServerEnd). x.channels) f.1.leaves

pub thins-pumped : (s u : Store) (t after : Circuits) (h : Handle) → PumpsIn t h s after u → Thins t after
thins-pumped s u t after h (inr none) = same-thins t after none.1
thins-pumped s u t after h (inl g) = by g.0 g.1 g.2 g.3 g.4
  where
    by : (c new : ServerCircuit) → under t h ≡ Some c → PumpsAt h c s new u → after ≡ with_changed (λ (x : ServerCircuit). new) h t → Thins t after
    by (Open e) new there (us, last, f, inl (rests, is, room, same)) changed =
        let subs = folds-subscriptions e us last f in
        subst (λ (z : Circuits). Thins t z) (sym (became t after h new (Open last) changed is))
        (thins-changed t h e last there (λ s i. subst (λ (ss : List Subscription). In ss s) subs i) (λ n c. to-same last e n (folds-channels e us last f) c))
    by (Open e) new there (us, last, f, inr (more, is, w)) changed =
        subst (λ (z : Circuits). Thins t z) (sym (became t after h new (Ended why.OutOfMemory last.link.output) changed is)) (thins-ended t h why.OutOfMemory last.link.output)
    by (Ended v left) new there did changed = same-thins t after (stayed t after h new (Ended v left) there changed did.0)
