-- What is known of the causes of a server's messages stays so as the lists of its circuit and the
-- log of its life grow.
use Rattle.std.proofs.Common.{◌≡◌, ℕ, ◌<◌, ◌≤◌, ◌⊎◌, inl, inr, List, length, sym, subst, arith}
use Rattle.std.specs.Prelude.{take}
use Rattle.ca_text.specs.Place.{At}
use Rattle.ca_text.specs.declared.command.Command.TheVariants as command
use Rattle.ca_text.proofs.Places.{At-append, At-one, At-within}
use Rattle.ca_model.specs.History.{Circuit, Entry, Removal, Removed, Reply, Sent, Step, Told, Update}
use Rattle.ca_model.specs.Speech.{Creates, Is, name_in, sid_in}
use Rattle.ca_model.specs.Channels.{Created, Has, IsCleared, IsOpen, before}
use Rattle.ca_model.specs.Causes.{Acted, HasCause}
use Rattle.ca_model.specs.World.{Joined}
use Rattle.ca_laws_parts.proofs.WritesMoves.{At-below}
use Rattle.ca_laws_runs.specs.Causing.{IsTaken, SourcesOn}
use Rattle.ca_laws_runs.specs.Known.{IsWithin}
use Rattle.ca_laws_runs.proofs.Acting.{Extends, IsLonger, grown-back, longer-taken, taken-back, taken-on}
use Rattle.ca_laws_runs.proofs.CausingFrame.{News, Onward, Says, Stood, Takes}

-- ---- the record on which a message acted

pub acted-forth : (c d : Circuit) (y z : List Entry) (k r : ℕ) (s : Sent) (h : Step) → Extends c d → IsLonger y z → At c.up k s → At c.handled k h → h.sent ≤ length c.down → h.logged ≤ length y → Acted c y k r → Acted d z k r
acted-forth c d y z k r s h ext longer at_s at_h sent logged (s1, h1, i, l, at_s1, at_h1, is_open) = (
  s,
  h,
  i,
  l,
  ext.up k s at_s,
  ext.handled k h at_h,
  (
    (
      was.0.0,
      was.0.1,
      was.0.2,
      taken-on h.sent c.down d.down ext.down i was.0.0 was.0.3,
      was.0.4,
      was.0.5,
      was.0.6,
      taken-on k c.up d.up ext.up l was.0.1 was.0.7,
      taken-on k c.handled d.handled ext.handled l was.0.2 was.0.8,
      subst (λ (x : List Entry). Has (take (was.0.2).logged x) r (name_in (was.0.1).message)) (sym (longer-taken h.logged y z longer logged)) was.0.9,
      was.0.10,
    ),
    λ m t lt at creates. was.1 m t lt (taken-back h.sent c.down d.down ext.down sent m t at) creates,
    λ m q lt within at clears.
        let g = At-below (take k d.handled) m within in
        was.2 m q lt (At-within (take k c.handled) m g.0 (taken-back k c.handled d.handled ext.handled handled_le m g.0 g.1)) (taken-back k c.up d.up ext.up up_le m q at) clears,
  ),
)
  where
    same_s : s1 ≡ s
    same_s = At-one c.up k s1 s at_s1 at_s

    same_h : h1 ≡ h
    same_h = At-one c.handled k h1 h at_h1 at_h

    was : IsOpen (before c k h) (take h.logged y) i l (sid_in s.message) r
    was = subst (λ (v : Sent × Step). IsOpen (before c k v.1) (take v.1.logged y) i l (sid_in v.0.message) r) (λ j. (same_s j, same_h j)) is_open

    up_le : k ≤ length c.up
    up_le = (let lt : k < length c.up = At-within c.up k s at_s in omega (arith, lt))

    handled_le : k ≤ length c.handled
    handled_le = (let lt : k < length c.handled = At-within c.handled k h at_h in omega (arith, lt))

pub created-forth : (c d : Circuit) (y z : List Entry) (j k sid r : ℕ) → Extends c d → IsLonger y z → ((m : ℕ) (h : Step) → At c.handled m h → h.logged ≤ length y) → Created c y j k sid r → Created d z j k sid r
created-forth c d y z j k sid r ext longer within (t, s, h, at_t, place, cause, creates, at_s, at_h, has, gives) = (
  t,
  s,
  h,
  ext.down j t at_t,
  place,
  cause,
  creates,
  ext.up k s at_s,
  ext.handled k h at_h,
  subst (λ (x : List Entry). Has x r (name_in s.message)) (sym (longer-taken h.logged y z longer (within k h at_h))) has,
  gives,
)

-- ---- what is known of a circuit's steps

-- Steps are of messages that came, each within what was sent and logged; and what was sent is
-- about what was handled.
pub record Steady (log : List Entry) (c : Circuit) : Type 0 where
  pub few : length c.handled ≤ length c.up
  pub within : (m : ℕ) (h : Step) → At c.handled m h → IsWithin log c h
  pub below : (j : ℕ) (t : Told) → At c.down j t → t.place < length c.handled

up-back : (log : List Entry) (c d : Circuit) (k : ℕ) (h : Step) (q : Sent) → Steady log c → Extends c d → At c.handled k h → At d.up k q → At c.up k q
up-back log c d k h q steady ext at_h at_q =
    (let lt : k < length c.handled = At-within c.handled k h at_h in let le : length c.handled ≤ length c.up = steady.few in grown-back c.up d.up ext.up k q (omega (arith, lt, le)) at_q)

-- a SERVER_DISCONN keeps its cause
pub removal-forth : (c d : Circuit) (y z : List Entry) (t : Told) → Steady y c → Extends c d → IsLonger y z → ((m : ℕ) (h : Step) → At d.handled m h → At c.handled m h ⊎ (length y ≤ h.logged)) → HasCause c y t Removal → HasCause d z t Removal
removal-forth c d y z t steady ext longer steps (j, sid, r, e, s, created, removed, uncleared, at_s, disconnects) = (
  j,
  sid,
  r,
  e,
  s,
  created-forth c d y z j t.place sid r ext longer (λ m h at. (steady.within m h at).logged) created,
  subst (λ (l : List Entry). At l e (Removed r)) (sym longer.1) (At-append y longer.0 e (Removed r) removed),
  (λ (cleared : IsCleared d t.place sid e). still cleared),
  ext.up t.place s at_s,
  disconnects,
)
  where
    still : IsCleared d t.place sid e → ⊥
    still (l, q, h, lt, at_q, at_h, le, clears) = elim (steps l h at_h) [
      | inl old ↦ uncleared (l, q, h, lt, up-back y c d l h q steady ext old at_q, old, le, clears)
      | inr late ↦ (let within : e < length y = At-within y e (Removed r) removed in absurd (omega (arith, late, le, within)))
    ]

-- ---- what is known of a circuit's messages

-- an EVENT_ADD stays taken, if no new reply is about it
pub taken-forth : (log lg : List Entry) (c d : Circuit) (k : ℕ) → Steady log c → Extends c d → IsLonger log lg
    → ((j : ℕ) (t : Told) (s : Sent) → At d.down j t → t.cause ≡ Reply → t.place ≡ k → At c.up k s → Is command.EventAdd s.message → At c.down j t) → IsTaken log c k → IsTaken lg d k
taken-forth log lg c d k steady ext longer replies p =
    let within = steady.within k p.h p.handled in
    record {
      s = p.s;
      sent = ext.up k p.s p.sent;
      asks = p.asks;
      h = p.h;
      handled = ext.handled k p.h p.handled;
      r = p.r;
      acted = acted-forth c d log lg k p.r p.s p.h ext longer p.sent p.handled within.sent within.logged p.acted;
      unrefused = λ j t at place reply. p.unrefused j t (replies j t p.s at reply place p.sent p.asks) place reply;
    }

-- What is new on a circuit has its causes, and takes nothing from what was there.
pub record IsCausedBy (F : ℕ → News → Type 0) (l : ℕ) (log lg : List Entry) (c d : Circuit) : Type 0 where
  pub takes : (m : ℕ) (h : Step) → F l (Takes m h) → length log ≤ h.logged
  pub replies : (j k : ℕ) (t : Told) (s : Sent) → F l (Says t) → At d.down j t → t.cause ≡ Reply → k < length c.handled → t.place ≡ k → At c.up k s → Is command.EventAdd s.message → ⊥
  pub made : (j sid : ℕ) (t : Told) → F l (Says t) → At d.down j t → t.cause ≡ Reply → Creates t.message sid → (r : ℕ) × Created d lg j t.place sid r
  pub updates : (j a : ℕ) (t : Told) → F l (Says t) → At d.down j t → t.cause ≡ Update a → IsTaken log c t.place
  pub removals : (j : ℕ) (t : Told) → F l (Says t) → At d.down j t → length c.down ≤ j → t.cause ≡ Removal → HasCause d lg t Removal
  pub stands : (p : ℕ) → F l (Stood p) → IsTaken lg d p

pub sources-on : (F : ℕ → News → Type 0) (l : ℕ) (log lg : List Entry) (c d : Joined) → Steady log c.lists → IsLonger log lg → Onward F l c d → IsCausedBy F l log lg c.lists d.lists → SourcesOn log c → SourcesOn lg d
sources-on F l log lg c d steady longer on new p = record {
  made = λ j sid t at reply creates. elim (on.told j t at) [
    | inl old ↦ (let m = p.made j sid t old reply creates in (m.0, created-forth c.lists d.lists log lg j t.place sid m.0 on.lists longer (λ n h there. (steady.within n h there).logged) m.1))
    | inr more ↦ new.made j sid t more.1 at reply creates
  ];
  updates = λ j a t at cause. elim (on.told j t at) [
    | inl old ↦ forth t.place (p.updates j a t old cause)
    | inr more ↦ forth t.place (new.updates j a t more.1 at cause)
  ];
  removals = λ j t at cause. elim (on.told j t at) [
    | inl old ↦ removal-forth c.lists d.lists log lg t steady on.lists longer (λ m h there. elim (on.handled m h there) [ inl was ↦ inl was | inr late ↦ inr (new.takes m h late) ]) (p.removals j t old cause)
    | inr more ↦ new.removals j t more.1 at more.0 cause
  ];
  stands = λ st at. elim (on.standing st at) [
    | inl old ↦ forth st.place (subst (λ (k : ℕ). IsTaken log c.lists k) old.2 (p.stands old.0 old.1))
    | inr more ↦ new.stands st.place more
  ];
}
  where
    forth : (k : ℕ) → IsTaken log c.lists k → IsTaken lg d.lists k
    forth k taken =
        taken-forth log lg c.lists d.lists k steady on.lists longer
        (λ j t s at reply place sent asks. elim (on.told j t at) [
          | inl old ↦ old
          | inr more ↦ absurd (new.replies j k t s more.1 at reply (At-within c.lists.handled k taken.h taken.handled) place sent asks)
        ])
        taken
