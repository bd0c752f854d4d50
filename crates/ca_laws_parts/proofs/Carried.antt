-- What each call of a server leaves of the channels and subscriptions of a circuit's end.
use Rattle.std.proofs.Common.{◌≡◌, ℕ, inl, inr, Bool, true, false, cond, List, [], ◌∷◌, Some, refl, sym, ap, ◌∙◌, subst}
use Rattle.ca_arena.specs.declared.handle.Handle.{Handle}
use Rattle.ca_ids.specs.Table.{Table, under, with_each}
use Rattle.ca_records.specs.Puts.{WaitingPut}
use Rattle.ca_wire.specs.Fields.{Fields}
use Rattle.ca_model.specs.Due.{Action}
use Rattle.ca_model.specs.Due as action
use Rattle.ca_model.specs.Ends.{Why}
use Rattle.ca_model.specs.Ends as why
use Rattle.ca_model.specs.Server.{Ended, Open, Server, ServerCircuit, ServerEnd, with_post}
use Rattle.ca_model.specs.ServerCalls.{after_next, lacking}
use Rattle.ca_model.specs.ServerSteps.{HasEnd, Reaches, Records, after_post, closed, counted, ended, reached, stored_now, with_end, write_mask}
use Rattle.ca_model.specs.Speech.{Stored}
use Rattle.ca_model.proofs.Tables.{changed-back, freed-back}
use Rattle.ca_laws_parts.proofs.ServerEnds.{open-one}
use Rattle.ca_laws_parts.proofs.ServerFits.{each-changed}

-- The end of circuit c, if it is open now, was open, with the same channels and subscriptions.
abbrev pub Carries : Handle → Server → Server → Type 0
Carries c y new = (d : ServerEnd) → HasEnd new c d → (e : ServerEnd) × HasEnd y c e × (d.channels ≡ e.channels) × (d.subscriptions ≡ e.subscriptions)

pub carries-itself : (c : Handle) (y : Server) → Carries c y y
carries-itself c y d has = (d, has, refl, refl)

pub carries-same : (c : Handle) (y new : Server) → new.circuits ≡ y.circuits → Carries c y new
carries-same c y new same d has = (d, subst (λ (t : Table ServerCircuit). under t c ≡ Some (Open d)) same has, refl, refl)

pub carries-then : (c : Handle) (x y z : Server) → Carries c x y → Carries c y z → Carries c x z
carries-then c x y z a b d has = (let e = b d has in let f = a e.0 e.1 in (f.0, f.1, e.2 ∙ f.2, e.3 ∙ f.3))

-- this end of circuit h is like the one before
pub carries-end : (c h : Handle) (y : Server) (e d : ServerEnd) → HasEnd y h e → d.channels ≡ e.channels → d.subscriptions ≡ e.subscriptions → Carries c y (with_end h d y)
carries-end c h y e d was channels subs f has = elim (changed-back (λ (k : ServerCircuit). Open d) y.circuits c h (Open f) has) [
  | inr old ↦ (f, old.1, refl, refl)
  | inl own ↦
      let same : f ≡ d = open-one f d own.1.2 in
      (e, subst (λ (k : Handle). HasEnd y k e) (sym own.0) was, ap (λ (z : ServerEnd). z.channels) same ∙ channels, ap (λ (z : ServerEnd). z.subscriptions) same ∙ subs)
]

open-ended : (e : ServerEnd) (w : Why) (left : List ℕ) → Open e ≡ Ended w left → ⊥
open-ended e w left is = cc

pub carries-ended : (c h : Handle) (w : Why) (left : List ℕ) (y : Server) → Carries c y (ended h w left y)
carries-ended c h w left y d has = elim (changed-back (λ (k : ServerCircuit). Ended w left) y.circuits c h (Open d) has) [
  | inr old ↦ (d, old.1, refl, refl)
  | inl own ↦ absurd (open-ended d w left own.1.2)
]

pub carries-closed : (c h : Handle) (y : Server) → Carries c y (closed h y)
carries-closed c h y d has = (d, (freed-back y.circuits c h (Open d) has).1, refl, refl)

-- each circuit is as it was, or has ended
each-so : (c : Handle) (y new : Server) (f : Handle → ServerCircuit → ServerCircuit) → new.circuits ≡ with_each f y.circuits
    → ((d : ServerEnd) (u : ServerCircuit) → Open d ≡ f c u → (e : ServerEnd) × (u ≡ Open e) × (d.channels ≡ e.channels) × (d.subscriptions ≡ e.subscriptions)) → Carries c y new
each-so c y new f circuits each d has =
    let u = each-changed f y.circuits c (Open d) (subst (λ (t : Table ServerCircuit). under t c ≡ Some (Open d)) circuits has) in
    let e = each d u.0 u.2 in
    (e.0, u.1 ∙ ap (λ (v : ServerCircuit). Some v) e.1, e.2, e.3)

pub carries-post : (c : Handle) (name : List ℕ) (mask : ℕ) (v : Stored) (gone : Handle → Bool) (y : Server) → Carries c y (after_post name mask v gone y)
carries-post c name mask v gone y = each-so c y (after_post name mask v gone y) (reached name mask v gone) refl by
  where
    by : (d : ServerEnd) (u : ServerCircuit) → Open d ≡ reached name mask v gone c u → (e : ServerEnd) × (u ≡ Open e) × (d.channels ≡ e.channels) × (d.subscriptions ≡ e.subscriptions)
    by d (Ended w left) is = absurd (open-ended d w left is)
    by d (Open e) is = go (gone c) is
      where
        go : (b : Bool) → Open d ≡ cond b (Ended why.OutOfMemory e.link.output) (Open (with_post name mask v e)) → (f : ServerEnd) × (Open e ≡ Open f) × (d.channels ≡ f.channels) × (d.subscriptions ≡ f.subscriptions)
        go true is = absurd (open-ended d why.OutOfMemory e.link.output is)
        go false is = (let same : d ≡ with_post name mask v e = open-one d (with_post name mask v e) is in (e, refl, ap (λ (z : ServerEnd). z.channels) same, ap (λ (z : ServerEnd). z.subscriptions) same))

pub carries-next : (c : Handle) (name : List ℕ) (ws : List WaitingPut) (gone : Handle → Bool) (y : Server) → Carries c y (after_next name ws gone y)
carries-next c name (w ∷ ws) gone y = carries-then c y (counted y) (after_next name (w ∷ ws) gone y) (carries-same c y (counted y) refl) (carries-post c name write_mask (stored_now y w.value) gone (counted y))
carries-next c name [] gone y = each-so c y (after_next name [] gone y) (lacking gone) refl by
  where
    by : (d : ServerEnd) (u : ServerCircuit) → Open d ≡ lacking gone c u → (e : ServerEnd) × (u ≡ Open e) × (d.channels ≡ e.channels) × (d.subscriptions ≡ e.subscriptions)
    by d (Ended w left) is = absurd (open-ended d w left is)
    by d (Open e) is = go (gone c) is
      where
        go : (b : Bool) → Open d ≡ cond b (Ended why.OutOfMemory e.link.output) (Open e) → (f : ServerEnd) × (Open e ≡ Open f) × (d.channels ≡ f.channels) × (d.subscriptions ≡ f.subscriptions)
        go true is = absurd (open-ended d why.OutOfMemory e.link.output is)
        go false is = (let same : d ≡ e = open-one d e is in (e, refl, ap (λ (z : ServerEnd). z.channels) same, ap (λ (z : ServerEnd). z.subscriptions) same))

pub carries-reaches : (c : Handle) (did : Action) (gone : Handle → Bool) (y new : Server) → Reaches did gone y new → Carries c y new
carries-reaches c (action.Applies name value busies) gone y new r = subst (λ (z : Server). Carries c y z) (sym r.1) (carries-post c name write_mask (stored_now y value) gone y)
carries-reaches c action.Nothing gone y new r = subst (λ (z : Server). Carries c y z) (sym r.1) (carries-itself c y)
carries-reaches c action.Greets gone y new r = subst (λ (z : Server). Carries c y z) (sym r.1) (carries-itself c y)
carries-reaches c (action.Names p) gone y new r = subst (λ (z : Server). Carries c y z) (sym r.1) (carries-itself c y)
carries-reaches c (action.Opens k) gone y new r = subst (λ (z : Server). Carries c y z) (sym r.1) (carries-itself c y)
carries-reaches c (action.Clears sid) gone y new r = subst (λ (z : Server). Carries c y z) (sym r.1) (carries-itself c y)
carries-reaches c (action.Waits name value) gone y new r = subst (λ (z : Server). Carries c y z) (sym r.1) (carries-itself c y)
carries-reaches c (action.Adds s) gone y new r = subst (λ (z : Server). Carries c y z) (sym r.1) (carries-itself c y)
carries-reaches c (action.Drops key) gone y new r = subst (λ (z : Server). Carries c y z) (sym r.1) (carries-itself c y)
carries-reaches c (action.Switches on) gone y new r = subst (λ (z : Server). Carries c y z) (sym r.1) (carries-itself c y)

-- what a message makes of the records leaves the circuits
pub records-circuits : (y : Server) (h : Handle) (e : ServerEnd) (m : Fields) (did : Action) (new : Server) → Records y h e m did new → new.circuits ≡ y.circuits
records-circuits y h e m (action.Applies name value false) new r = ap (λ (z : Server). z.circuits) r
records-circuits y h e m (action.Applies name value true) new r = ap (λ (z : Server). z.circuits) r.2
records-circuits y h e m (action.Waits name value) new r = ap (λ (z : Server). z.circuits) r.2
records-circuits y h e m (action.Clears sid) new r = ap (λ (z : Server). z.circuits) r
records-circuits y h e m action.Nothing new r = ap (λ (z : Server). z.circuits) r
records-circuits y h e m action.Greets new r = ap (λ (z : Server). z.circuits) r
records-circuits y h e m (action.Names p) new r = ap (λ (z : Server). z.circuits) r
records-circuits y h e m (action.Opens k) new r = ap (λ (z : Server). z.circuits) r
records-circuits y h e m (action.Adds s) new r = ap (λ (z : Server). z.circuits) r
records-circuits y h e m (action.Drops key) new r = ap (λ (z : Server). z.circuits) r
records-circuits y h e m (action.Switches on) new r = ap (λ (z : Server). z.circuits) r
