-- The records and the circuits of a server stay sound as an end handles a message, and as one ends.
use Rattle.std.proofs.Common.{◌≡◌, ◌≤◌, ℕ, inl, inr, Bool, true, false, List, length, Some, refl, sym, ap, ◌∙◌, subst}
use Rattle.ca_arena.specs.declared.handle.Handle.{Handle}
use Rattle.ca_ids.specs.Table.{Table, same_handle, under, with_changed, with_freed}
use Rattle.ca_link.specs.Link.{LinkState}
use Rattle.ca_records.specs.declared.puts.Put.{Put}
use Rattle.ca_records.specs.Puts.{Record, WaitingPut, withdrawn}
use Rattle.ca_records.specs.Store.{Store, records_of}
use Rattle.ca_text.specs.Limits.{arena_slots}
use Rattle.ca_wire.specs.Fields.{Fields}
use Rattle.ca_model.specs.Due.{Action}
use Rattle.ca_model.specs.Ends.{Why}
use Rattle.ca_model.specs.Server.{Ended, Open, OpenChannel, Server, ServerCircuit, ServerEnd}
use Rattle.ca_server_circuit.specs.declared.step.FollowUp.{FollowUp}
use Rattle.ca_server_circuit.specs.Handling.{Does}
use Rattle.ca_server_circuit.specs.Sound.{EndIsSound}
use Rattle.ca_server_core.specs.Sound.{IsSound}
use Rattle.ca_server_circuit.specs.Subscribing.{AreOnChannels, events_of}
use Rattle.ca_server_subscriptions.specs.Subscribed.{HasRoom}
use Rattle.ca_server_circuit.proofs.Cleared.{is-same, none-of, same-is}
use Rattle.ca_server_core.proofs.Onward.{acts-on}
use Rattle.ca_server_circuit.proofs.Stays.{IsNew, Keeps, Stays, back-channel, link-kept, new-channel, new-circuit, recorded-keeps, stay-channel, withdrawn-keeps}
use Rattle.ca_server_circuit.proofs.Tables.{changed-back, changed-other, changed-own, freed-back, freed-other}

abbrev Circuits : Type 0
Circuits = Table ServerCircuit

open-is : (a b : ServerEnd) → Open a ≡ Open b → a ≡ b
open-is a b e = cc

pub not-ended : (x : ServerEnd) (w : Why) (left : List ℕ) → Open x ≡ Ended w left → ⊥
not-ended x w left e = cc

both : (b : Bool) → b ≡ true → b ≡ false → ⊥
both b p q = cc

-- an end is as sound beside records that kept what is its own
pub end-stays : (rs qs : List Record) (g : Handle) (x : ServerEnd) (Stays : WaitingPut → Type 0) (New : Record → WaitingPut → Type 0) → Keeps rs qs Stays New
    → ((q : Record) (w : WaitingPut) → New q w → same_handle w.put.circuit g ≡ true → ⊥) → EndIsSound rs g x → EndIsSound qs g x
end-stays rs qs g x St New k none i = record {
  live = i.live;
  room = i.room;
  few = i.few;
  on = i.on;
  served = λ f c at live. (let r = i.served f c at live in k.0 c.name r.0 r.1);
  puts = λ j q l w at at' hit. elim (k.1 j q l w at at') [
    | inl old ↦ (let o = old.0 in let p = i.puts o.0 o.1 o.2 w o.3 o.4 hit in (p.0, p.1, p.2 ∙ o.5, p.3))
    | inr new ↦ absurd (none q w new hit)
  ];
}

-- ---- a message is handled

-- the end that handled it is sound
handled-end : (y : Server) (s t : Store) (h : Handle) (e : ServerEnd) (m : Fields) (did : FollowUp) (D : List Fields → Action → Type 0) (new : ServerEnd) → y.records ≡ records_of s → Does D s h e m did t new → EndIsSound (records_of s) h e → HasRoom (events_of new) → length new.channels ≤ arena_slots → EndIsSound (records_of t) h new
handled-end y s t h e m did D new same d i room few =
    let k = recorded-keeps (records_of s) (records_of t) s.stamp h e m d.action d.records in
    let acts = d.acts y same in
    let channels : new.channels ≡ d.acted.channels = ap (λ (x : ServerEnd). x.channels) d.leaves in
    record {
      live = ap (λ (x : ServerEnd). x.link.input.closed) d.leaves ∙ ap (λ (l : LinkState). l.input.closed) (link-kept y e d.action d.acted acts) ∙ i.live;
      room = room;
      few = few;
      on = subst (λ (x : ServerEnd). AreOnChannels x.channels x.subscriptions) (sym d.leaves) (acts-on y (records_of s) e m d.action d.acted i.few acts d.fits i.on);
      served = λ g c at live. elim (back-channel y (records_of s) e m d.action d.acted g c acts d.fits (subst (λ (u : Table OpenChannel). under u g ≡ Some c) channels at)) [
        | inl old ↦ (let r = i.served g c old live in k.0 c.name r.0 r.1)
        | inr made ↦ k.0 c.name made.0 made.1
      ];
      puts = λ j q l w at at' hit. elim (k.1 j q l w at at') [
        | inl old ↦
            let o = old.0 in
            let p = i.puts o.0 o.1 o.2 w o.3 o.4 hit in
            (p.0, subst (λ (u : Table OpenChannel). under u w.put.channel ≡ Some p.0) (sym channels) (stay-channel y h e d.action d.acted w p.0 acts hit old.1 p.1), p.2 ∙ o.5, p.3)
        | inr made ↦
            let p = new-channel y (records_of s) h e m d.action d.acted q w acts d.fits made in
            (p.0, subst (λ (u : Table OpenChannel). under u w.put.channel ≡ Some p.0) (sym channels) p.1, p.2, p.3)
      ];
    }

-- an end that is open is so after another, or it, changed
stands : (c : Circuits) (h : Handle) (was new : ServerEnd) → under c h ≡ Some (Open was) → (g : Handle) (x : ServerEnd) → under c g ≡ Some (Open x) → (y : ServerEnd) × (under (with_changed (λ (z : ServerCircuit). Open new) h c) g ≡ Some (Open y))
stands c h was new there g x at = by (same_handle g h) refl
  where
    by : (b : Bool) → same_handle g h ≡ b → (y : ServerEnd) × (under (with_changed (λ (z : ServerCircuit). Open new) h c) g ≡ Some (Open y))
    by true hit = (new, subst (λ (k : Handle). under (with_changed (λ (z : ServerCircuit). Open new) h c) k ≡ Some (Open new)) (sym (same-is g h hit)) (changed-own (λ (z : ServerCircuit). Open new) c h (Open was) there))
    by false miss = (x, changed-other (λ (z : ServerCircuit). Open new) c g h (Open x) at (λ one. both (same_handle g h) (is-same g h one) miss))

pub sound-handled : (y : Server) (s t : Store) (h : Handle) (was e : ServerEnd) (m : Fields) (did : FollowUp) (D : List Fields → Action → Type 0) (new : ServerEnd) (c : Circuits) → y.records ≡ records_of s → IsSound (records_of s) c → under c h ≡ Some (Open was) → EndIsSound (records_of s) h e → Does D s h e m did t new → HasRoom (events_of new) → length new.channels ≤ arena_slots → IsSound (records_of t) (with_changed (λ (z : ServerCircuit). Open new) h c)
sound-handled y s t h was e m did D new c same i there sound d room few =
    let k = recorded-keeps (records_of s) (records_of t) s.stamp h e m d.action d.records in
    record {
      ends = λ g x at. elim (changed-back (λ (z : ServerCircuit). Open new) c g h (Open x) at) [
        | inl own ↦
            let same_end : x ≡ new = open-is x new own.1.2 in
            subst (λ (z : ServerEnd). EndIsSound (records_of t) g z) (sym same_end)
            (subst (λ (f : Handle). EndIsSound (records_of t) f new) (sym own.0) (handled-end y s t h e m did D new same d sound room few))
        | inr old ↦
            end-stays (records_of s) (records_of t) g x (Stays h d.action) (IsNew h e m d.action) k
            (λ q w made hit. old.0 (sym (same-is w.put.circuit g hit) ∙ new-circuit h e m d.action q w made)) (i.ends g x old.1)
      ];
      waits = λ j q l w at at'. elim (k.1 j q l w at at') [
        | inl old ↦ (let o = old.0 in let u = i.waits o.0 o.1 o.2 w o.3 o.4 in stands c h was new there w.put.circuit u.0 u.1)
        | inr made ↦ (new, subst (λ (f : Handle). under (with_changed (λ (z : ServerCircuit). Open new) h c) f ≡ Some (Open new)) (sym (new-circuit h e m d.action q w made)) (changed-own (λ (z : ServerCircuit). Open new) c h (Open was) there))
      ];
    }

-- ---- an end is open no more

-- the puts of a circuit
abbrev pub is_its : Handle → Put → Bool
is_its h p = same_handle p.circuit h

pub sound-gone : (rs : List Record) (c after : Circuits) (h : Handle) → ((g : Handle) (x : ServerEnd) → under after g ≡ Some (Open x) → (g ≡ h → ⊥) × (under c g ≡ Some (Open x)))
    → ((g : Handle) (x : ServerEnd) → under c g ≡ Some (Open x) → (g ≡ h → ⊥) → under after g ≡ Some (Open x)) → IsSound rs c → IsSound (withdrawn (is_its h) rs) after
sound-gone rs c after h back stay i =
    let k = withdrawn-keeps (is_its h) (λ (q : Record) (w : WaitingPut). ⊥) rs in
    record {
      ends = λ g x at.
          let b = back g x at in
          end-stays rs (withdrawn (is_its h) rs) g x (λ (w : WaitingPut). is_its h w.put ≡ false) (λ (q : Record) (w : WaitingPut). ⊥) k (λ q w n hit. n) (i.ends g x b.1);
      waits = λ j q l w at at'. elim (k.1 j q l w at at') [
        | inl old ↦
            let o = old.0 in
            let u = i.waits o.0 o.1 o.2 w o.3 o.4 in
            (u.0, stay w.put.circuit u.0 u.1 (λ one. both (same_handle w.put.circuit h) (is-same w.put.circuit h one) old.1))
        | inr n ↦ absurd n
      ];
    }

pub sound-freed : (rs : List Record) (c : Circuits) (h : Handle) → IsSound rs c → IsSound (withdrawn (is_its h) rs) (with_freed h c)
sound-freed rs c h i =
    sound-gone rs c (with_freed h c) h (λ g x at. freed-back c g h (Open x) at) (λ g x at other. freed-other c g h (Open x) at other) i

pub sound-ended : (rs : List Record) (c : Circuits) (h : Handle) (w : Why) (left : List ℕ) → IsSound rs c → IsSound (withdrawn (is_its h) rs) (with_changed (λ (z : ServerCircuit). Ended w left) h c)
sound-ended rs c h w left i =
    sound-gone rs c (with_changed (λ (z : ServerCircuit). Ended w left) h c) h
    (λ g x at. elim (changed-back (λ (z : ServerCircuit). Ended w left) c g h (Open x) at) [
      | inl own ↦ absurd (not-ended x w left own.1.2)
      | inr old ↦ old
    ])
    (λ g x at other. changed-other (λ (z : ServerCircuit). Ended w left) c g h (Open x) at other) i

-- no put waits of a circuit whose end is not open
pub none-waits : (rs : List Record) (c : Circuits) (h : Handle) → IsSound rs c → ((x : ServerEnd) → under c h ≡ Some (Open x) → ⊥) → withdrawn (is_its h) rs ≡ rs
none-waits rs c h i none = sym (none-of (is_its h) rs (λ j k r w at at'. (let u = i.waits j r k w at at' in by w (same_handle w.put.circuit h) refl u.0 u.1)))
  where
    by : (w : WaitingPut) (b : Bool) → same_handle w.put.circuit h ≡ b → (x : ServerEnd) → under c w.put.circuit ≡ Some (Open x) → is_its h w.put ≡ false
    by w true hit x at = absurd (none x (subst (λ (g : Handle). under c g ≡ Some (Open x)) (same-is w.put.circuit h hit) at))
    by w false miss x at = miss
