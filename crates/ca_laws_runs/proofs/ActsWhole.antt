-- A channel that is live has its record, or a SERVER_DISCONN for it is unread; and so the whole
-- clause of what servers act on.
use Rattle.std.proofs.Common.{◌≡◌, ℕ, ◌≤◌, ◌⊎◌, inl, inr, Bool, true, false, List, length, Option, Some, refl, sym, ap, subst, ◌∙◌, arith}
use Rattle.ca_text.specs.Place.{At}
use Rattle.ca_text.proofs.Places.{At-one, At-within}
use Rattle.ca_arena.specs.declared.handle.Handle.{Handle}
use Rattle.ca_ids.specs.Table.{under}
use Rattle.ca_ids.specs.Wire.{wire_of}
use Rattle.ca_model.proofs.Thinner.{three-ways}
use Rattle.ca_model.specs.History.{Circuit, Entry, Line, Removal, Removed, Told}
use Rattle.ca_model.specs.Server.{OpenChannel, ServerEnd}
use Rattle.ca_model.specs.Speech.{In}
use Rattle.ca_model.specs.Channels.{IsLive, IsNamed, IsOpen, IsUnread, OfCircuits}
use Rattle.ca_model.specs.Events.{Event}
use Rattle.ca_model.specs.Runs.{AreEvents, Runs}
use Rattle.ca_model.specs.World.{Creation, IsSetting, Joined, RecordSide, Setting, World, circuit_of, told}
use Rattle.ca_laws_parts.specs.Sids.{IsClearedWithin}
use Rattle.ca_laws_runs.proofs.StepWhole.{run-serves}
use Rattle.ca_laws_runs.proofs.Under.{uncleared}
use Rattle.ca_laws_runs.specs.Gone.{IsGone}
use Rattle.ca_laws_runs.specs.KnewLists.{as_known}
use Rattle.ca_laws_runs.specs.LiveRead.{AreCleared, LiveAreThere}
use Rattle.ca_laws_runs.specs.Whole.{ActOnRecords}
use Rattle.ca_laws_runs.proofs.Acting.{taken-at}
use Rattle.ca_laws_runs.proofs.ActsLive.{all, live-named}
use Rattle.ca_laws_runs.proofs.ActsNamedRuns.{run-names}
use Rattle.ca_laws_runs.proofs.ActsOn.{of-circuits, run-acts, run-facts}
use Rattle.ca_laws_runs.proofs.ActsOn as acts
use Rattle.ca_laws_runs.proofs.ActsRefused.{run-refused, run-retired}
use Rattle.ca_laws_runs.proofs.KnewChannels.{Facts, OpenAs, held-as, retired-of}
use Rattle.ca_laws_runs.proofs.KnewListsRuns.{run-end-facts}
use Rattle.ca_laws_runs.proofs.LiveRead.{run-cleared}
use Rattle.ca_laws_runs.proofs.NamesEvents.{run-kept}
use Rattle.ca_laws_parts.proofs.WritesLists.{At-take}

-- a channel that is open by what the server handled
open-known : (c : Circuit) (y : List Entry) (i k sid r : ℕ) → IsOpen c y i k sid r → IsOpen (as_known c) y i k sid r
open-known c y i k sid r ((t, s, h, at_t, place, cause, creates, at_s, at_h, has, gives), later, cleared) = (
  (t, s, h, at_t, place, cause, creates, taken-at (length c.handled) c.up k s (At-within c.handled k h at_h) at_s, at_h, has, gives),
  later,
  λ l q lt within at clears. cleared l q lt within (At-take (length c.handled) c.up l q at) clears,
)

-- ---- one channel that is live

module _ (j : Joined) (log : List Entry) (f : acts.Facts j log) (read : AreCleared j.lists) (channel i k sid : ℕ) (l : IsLive (circuit_of j) channel i k sid) where
  -- no SERVER_DISCONN about its CREATE_CHAN was read
  unread : (q : ℕ) (t : Told) → At j.lists.down q t → t.cause ≡ Removal → t.place ≡ k → length j.lists.heard ≤ q
  unread q t at removal place = elim (three-ways q (length j.lists.heard)) [
    | inl lt ↦
        let r = read q t lt at removal in
        let here : r.2.place ≡ k = r.6 ∙ place in
        let one : r.0 ≡ i = f.created.once r.0 i r.1 sid r.2 l.0 r.3 l.2 r.4 l.4 r.5 l.5 (here ∙ sym l.3) in
        let same : r.2 ≡ l.0 = At-one j.lists.down i r.2 l.0 (subst (λ (n : ℕ). At j.lists.down n r.2) one r.3) l.2 in
        let sids : r.1 ≡ sid = sym r.5.1 ∙ ap (λ (z : Told). z.message.p2) same ∙ l.5.1 in
        absurd (uncleared j f.created f.says.under f.asked channel i k sid (length j.lists.up) (all j log f channel i k sid l)
        (subst (λ (v : ℕ × ℕ). IsClearedWithin j.lists.up v.0 v.1 (length j.lists.up)) (λ x. (sids x, here x)) r.7))
    | inr (inl same) ↦ omega (arith, same)
    | inr (inr gt) ↦ omega (arith, gt)
  ]

  -- the record is there, or one is unread
  there-at : (rs : List RecordSide) (e : ServerEnd) (g : Facts log rs e j) (r : ℕ) (h : Handle) (ch : OpenChannel) → under e.channels h ≡ Some ch → (a : OpenAs log rs e j g h ch) → a.o.x.place ≡ k → a.r ≡ r → (In log (Removed r) → ⊥) ⊎ IsUnread (circuit_of j) k
  there-at rs e g r h ch at a place record_is = go ch.retired refl
    where
      go : (b : Bool) → ch.retired ≡ b → (In log (Removed r) → ⊥) ⊎ IsUnread (circuit_of j) k
      go false is = inl (λ gone. clash ((retired-of log rs e j g h ch at a).1 (subst (λ (n : ℕ). In log (Removed n)) (sym record_is) gone)))
        where
          clash : ch.retired ≡ true → ⊥
          clash e1 = (let f1 : true ≡ false = sym e1 ∙ is in cc)
      go true is =
          let z : IsGone log j (wire_of h) ch = g.gone h ch at is in
          let same : z.x ≡ a.o.x = g.creations.one z.x a.o.x z.noted a.o.noted (z.under_sid ∙ sym a.o.under_sid) in
          let about : z.t.place ≡ k = z.told.1 ∙ ap (λ (q : Creation). q.place) same ∙ place in
          inr (z.told.0.0, z.t, z.told.0.1, about, z.told.2, unread z.told.0.0 z.t z.told.0.1 z.told.2 about)

  pub there-or : (rs : List RecordSide) (e : ServerEnd) → Facts log rs e j → (r : ℕ) → IsOpen (circuit_of j) log i k sid r → (In log (Removed r) → ⊥) ⊎ IsUnread (circuit_of j) k
  there-or rs e g r opens =
      let x = held-as log rs e j g i k sid r (open-known j.lists log i k sid r opens) in
      there-at rs e g r x.0 x.1 x.2 x.4.0 x.4.1 x.4.2

-- ---- every run

pub run-live-there : (s : Setting) (es : List Event) (stopped : Option Event) (w : World) → IsSetting s → AreEvents es → Runs s es stopped w → LiveAreThere w
run-live-there s es stopped w ok are runs =
    of-circuits s es stopped w ok runs
    (λ (n : ℕ) (c : Circuit) (x : List Line) (y : List Entry). (channel j k sid : ℕ) → IsLive c channel j k sid → (r : ℕ) × IsOpen c y j k sid r × IsNamed x y channel r × (c.server_open ≡ true → (In y (Removed r) → ⊥) ⊎ IsUnread c k))
    (λ n j x y at lx ly channel i k sid l.
    let f = run-facts s es stopped w ok are runs n j y at ly in
    let o = live-named j y f channel i k sid l x (λ q there is. (run-names s es stopped w runs).said n k channel j x q at lx there is) in (
      o.0,
      o.1,
      o.2,
      λ opened.
          let seat = (run-serves s es stopped w ok runs).stands.sound.seated.each n j at opened in
          let logged : At w.server_logs seat.y.life y = subst (λ (v : ℕ). At w.server_logs v y) seat.joins ly in
          there-or j y f (run-cleared s es stopped w ok are runs n j at) channel i k sid l seat.y.records seat.e
          (run-end-facts s es stopped w ok runs n j seat.y seat.e y at seat.at opened seat.has logged) o.0 o.1,
    ))

-- two facts of each circuit, with the logs that it joins
pub both-of : (w : World) (P Q : ℕ → Circuit → List Line → List Entry → Type 0) → OfCircuits (told w) P → OfCircuits (told w) Q → OfCircuits (told w) (λ (n : ℕ) (c : Circuit) (x : List Line) (y : List Entry). P n c x y × Q n c x y)
both-of w P Q f g n c at =
    let a = f n c at in
    let b = g n c at in
    let x_is : b.0 ≡ a.0 = At-one w.client_logs c.client b.0 a.0 b.2.1 a.2.1 in
    let y_is : b.1 ≡ a.1 = At-one w.server_logs c.server b.1 a.1 b.2.2 a.2.2 in
    (a.0, a.1, a.2, (a.3, subst (λ (v : List Line × List Entry). Q n c v.0 v.1) (λ i. (x_is i, y_is i)) b.3))

-- the whole clause
pub run-act-on-records : (s : Setting) (es : List Event) (stopped : Option Event) (w : World) → IsSetting s → AreEvents es → Runs s es stopped w → ActOnRecords w
run-act-on-records s es stopped w ok are runs n c at =
    let a =
    both-of w _ _ (both-of w _ _ (run-acts s es stopped w ok are runs) (run-retired s es stopped w ok runs))
    (both-of w _ _ (run-refused s es stopped w ok runs) (both-of w _ _ (run-live-there s es stopped w ok are runs) (run-kept s es stopped w ok runs))) n c at in
    (a.0, a.1, a.2, record { acts = a.3.0.0; retired = a.3.0.1; refused = a.3.1.0; live = a.3.1.1.0; names = a.3.1.1.1 })
