-- Parts that are true since a fact is shown at each line, entry or message.
use Rattle.std.proofs.Common.{◌≡◌, ℕ, ◌<◌, ◌≤◌, ◌+◌, ◌⊎◌, inl, length, arith, List, [], ◌∷◌, refl, sym, subst}
use Rattle.std.specs.Prelude.{Option, None, take}
use Rattle.ca_text.specs.Place.{At}
use Rattle.ca_dbr.specs.declared.value.Outcome.TheVariants as outcome
use Rattle.ca_wire.specs.Fields.{Fields}
use Rattle.ca_model.specs.Speech.{Id, Speaks}
use Rattle.ca_model.specs.History.{Reply, Circuit, Entry, Line, Sent, Told, Step, Applied, Waits, Withdrawn, Finished, Called, Noticed, World}
use Rattle.ca_model.specs.Channels.{CameIn, IsBusyUntil, IsDropped, IsLost, IsOwnWrite, IsReply, IsRequest, Stands, before}
use Rattle.ca_model.specs.Headline.{Answered, Reads}
use Rattle.ca_model.specs.Causes.{HasCause, TakesOwn}
use Rattle.ca_requests.specs.Meaning.{Means}
use Rattle.ca_model.specs.Updates.{Shows}
use Rattle.ca_model_examples.specs.Worlds.{AnyDue, world}
use Rattle.ca_model_examples.specs.Parts.{Holds}
use Rattle.ca_model_examples.specs.Parts as part
use Rattle.ca_model_examples.proofs.Lists.{Each, each-at, one-at}
use Rattle.ca_model_examples.proofs.Quiet.{holds}

-- what a part says of one line or entry
abbrev pub ToldAt : World → List Line → ℕ → Line → Type 0
ToldAt w x i (Noticed intent o) =
    ((by : Reads AnyDue Shows Means w 0 x i intent o) × (by.t.cause ≡ Reply)) ⊎ ((o ≡ outcome.Disconnected) × IsLost w 0 x i intent)
ToldAt w x i l = Unit {0}

abbrev pub SentAt : World → ℕ → Line → Type 0
SentAt w i (Called intent e) = IsRequest intent → (n k : ℕ) × Stands w 0 intent n k
SentAt w i l = Unit {0}

abbrev pub OwnAt : World → ℕ → Entry → Type 0
OwnAt w i (Applied n k r v b) = IsOwnWrite w n k 0 i r v
OwnAt w i e = Unit {0}

abbrev pub CameAt : World → ℕ → Entry → Type 0
CameAt w i (Waits n k r v) = CameIn w n k 0 i
CameAt w i e = Unit {0}

abbrev pub DroppedAt : World → List Entry → ℕ → Entry → Type 0
DroppedAt w y i (Withdrawn n k) = IsDropped w n k 0 i y
DroppedAt w y i e = Unit {0}

abbrev pub FinishedAt : List Entry → ℕ → Entry → Type 0
FinishedAt y i (Finished n k) = IsBusyUntil y n k i × ((f : ℕ) → At y f (Finished n k) → i ≡ f)
FinishedAt y i e = Unit {0}

module _ (c : Circuit) (x : List Line) (y : List Entry) (e : c.client ≡ 0) (f : c.server ≡ 0) where
  pub told-each : Each (ToldAt (world (c ∷ []) x y) x) x → Holds AnyDue part.Told (world (c ∷ []) x y)
  told-each all = holds AnyDue part.Told c x y e f tt (λ i intent o at. each-at (ToldAt (world (c ∷ []) x y) x) x all i _ at) tt

  pub sent-each : Each (SentAt (world (c ∷ []) x y)) x → Holds AnyDue part.SentOnce (world (c ∷ []) x y)
  sent-each all = holds AnyDue part.SentOnce c x y e f tt (λ intent e asks h. each-at (SentAt (world (c ∷ []) x y)) x all h.0 _ h.1 asks) tt

  pub own-each : Each (OwnAt (world (c ∷ []) x y)) y → Holds AnyDue part.OwnWrite (world (c ∷ []) x y)
  own-each all = holds AnyDue part.OwnWrite c x y e f tt tt (λ n k l i r v a.
      (let z = one-at y l a.0 a.2 in
      let at : At y i (Applied n k r v a.1) = subst (λ (e : List Entry). At e i (Applied n k r v a.1)) z.1 a.3 in
      subst (λ (m : ℕ). IsOwnWrite (world (c ∷ []) x y) n k m i r v) (sym z.0) (each-at (OwnAt (world (c ∷ []) x y)) y all i _ at)))

  pub came-each : Each (CameAt (world (c ∷ []) x y)) y → Holds AnyDue part.CameToWait (world (c ∷ []) x y)
  came-each all = holds AnyDue part.CameToWait c x y e f tt tt (λ n k l i r v a.
      (let z = one-at y l a.0 a.1 in
      let at : At y i (Waits n k r v) = subst (λ (e : List Entry). At e i (Waits n k r v)) z.1 a.2 in
      subst (λ (m : ℕ). CameIn (world (c ∷ []) x y) n k m i) (sym z.0) (each-at (CameAt (world (c ∷ []) x y)) y all i _ at)))

  pub dropped-each : Each (DroppedAt (world (c ∷ []) x y) y) y → Holds AnyDue part.Dropped (world (c ∷ []) x y)
  dropped-each all = holds AnyDue part.Dropped c x y e f tt tt (λ n k l i z at drops.
      (let o = one-at y l z at in
      let here : At y i (Withdrawn n k) = subst (λ (e : List Entry). At e i (Withdrawn n k)) o.1 drops in
      subst (λ (m : ℕ). IsDropped (world (c ∷ []) x y) n k m i z) (sym o.0) (subst (λ (v : List Entry). IsDropped (world (c ∷ []) x y) n k 0 i v) (sym o.1) (each-at (DroppedAt (world (c ∷ []) x y) y) y all i _ here))))

  pub finished-each : Each (FinishedAt y) y → Holds AnyDue part.Finished (world (c ∷ []) x y)
  finished-each all = holds AnyDue part.Finished c x y e f tt tt (λ n k l i z at ends.
      (let o = one-at y l z at in
      let here : At y i (Finished n k) = subst (λ (v : List Entry). At v i (Finished n k)) o.1 ends in
      subst (λ (v : List Entry). IsBusyUntil v n k i × ((g : ℕ) → At v g (Finished n k) → i ≡ g)) (sym o.1) (each-at (FinishedAt y) y all i _ here)))

  pub caused-each : Each (λ (j : ℕ) (t : Told). HasCause c y t t.cause × ((h : Step) × At c.handled t.place h × (h.sent ≤ j))) c.down → Holds AnyDue part.Caused (world (c ∷ []) x y)
  caused-each all = holds AnyDue part.Caused c x y e f (λ j t at. each-at (λ (i : ℕ) (u : Told). HasCause c y u u.cause × ((h : Step) × At c.handled u.place h × (h.sent ≤ i))) c.down all j t at) tt tt

  pub taken-each : Each (λ (j : ℕ) (t : Told). (id : Id) → Speaks t.message id → TakesOwn c j t.place id) c.down → Holds AnyDue part.Own (world (c ∷ []) x y)
  taken-each all = holds AnyDue part.Own c x y e f (λ j t id at. each-at (λ (i : ℕ) (u : Told). (d : Id) → Speaks u.message d → TakesOwn c i u.place d) c.down all j t at id) tt tt

  pub answered-each : Each (λ (k : ℕ) (h : Step). Answered AnyDue Shows Means 0 c y k h) c.handled → Holds AnyDue part.Answered (world (c ∷ []) x y)
  answered-each all = holds AnyDue part.Answered c x y e f (λ k h at. each-at (λ (i : ℕ) (g : Step). Answered AnyDue Shows Means 0 c y i g) c.handled all k h at) tt tt

-- A message is answered by these replies, in a row from where its step began, and its step logged these entries.
pub answered-as :
    (Due : ℕ → Circuit → List Entry → Fields → List Fields → Option Fields → List Entry → Type 0) (c : Circuit) (y : List Entry) (k : ℕ) (h : Step) (s : Sent) (replies : List Fields) (logs : List Entry) → At c.up k s
    → Due 0 (before c k h) (take h.logged y) s.message replies None logs → Each (λ (i : ℕ) (m : Fields). IsReply c k (h.sent + i) m) replies
    → Each (λ (i : ℕ) (e : Entry). At y (h.logged + i) e) logs → h.logged + length logs ≡ h.after → Each (λ (j : ℕ) (t : Told). t.place ≡ k → t.cause ≡ Reply → j < h.sent + length replies) c.down
    → Each (λ (l : ℕ) (g : Step). k < l → h.sent + length replies ≤ g.sent) c.handled → Answered Due Shows Means 0 c y k h
answered-as Due c y k h s replies logs at due now logged ends only next = record {
  s = s;
  at = at;
  replies = replies;
  late = None;
  logs = logs;
  due = due;
  now = λ i m here. each-at (λ (a : ℕ) (z : Fields). IsReply c k (h.sent + a) z) replies now i m here;
  logged = λ i e here. each-at (λ (a : ℕ) (z : Entry). At y (h.logged + a) z) logs logged i e here;
  within = omega (arith, ends);
  besides = λ i e from to here. absurd (omega (arith, ends, from, to));
  place = 0;
  only = λ j m here. inl (each-at (λ (a : ℕ) (t : Told). t.place ≡ k → t.cause ≡ Reply → a < h.sent + length replies) c.down only j _ here refl refl);
  comes = λ m is. absurd cc;
  next = λ l g after here. each-at (λ (a : ℕ) (z : Step). k < a → h.sent + length replies ≤ z.sent) c.handled next l g here after;
}

-- And that is so if any may be due.
pub answered-by :
    (c : Circuit) (y : List Entry) (k : ℕ) (h : Step) (s : Sent) (replies : List Fields) (logs : List Entry) → At c.up k s → Each (λ (i : ℕ) (m : Fields). IsReply c k (h.sent + i) m) replies
    → Each (λ (i : ℕ) (e : Entry). At y (h.logged + i) e) logs → h.logged + length logs ≡ h.after → Each (λ (j : ℕ) (t : Told). t.place ≡ k → t.cause ≡ Reply → j < h.sent + length replies) c.down
    → Each (λ (l : ℕ) (g : Step). k < l → h.sent + length replies ≤ g.sent) c.handled → Answered AnyDue Shows Means 0 c y k h
answered-by c y k h s replies logs at = answered-as AnyDue c y k h s replies logs at tt
