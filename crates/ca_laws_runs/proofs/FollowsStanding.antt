-- The updates of a subscription that stands show their posts; and so it is as
-- updates leave their queues.
use Rattle.std.proofs.Common.{◌≡◌, ℕ, zero, suc, ◌<◌, ◌⊎◌, inl, inr, Bool, true, false, List, [], ◌∷◌, ◌++◌, refl, sym, ap, subst, ◌∙◌, append-nil, append_assoc}
use Rattle.std.specs.Prelude.{map, option_map, slice_get, slice_set, unwrap_or}
use Rattle.std.specs.List.{FoldsTo}
use Rattle.ca_queue.specs.Queue.{Queue, with_front_taken}
use Rattle.ca_requests.specs.Meaning.{Means}
use Rattle.ca_text.specs.Place.{At}
use Rattle.ca_text.proofs.Places.{some_is, At-append, At-map, At-mapped, At-parts}
use Rattle.ca_wire.specs.Messages.{mask_in}
use Rattle.ca_model.specs.History.{Cause, Circuit, Entry, Reply, Told, Update}
use Rattle.ca_model.specs.Server.{ServerEnd, Subscription}
use Rattle.ca_model.specs.ServerSteps.{Leaves}
use Rattle.ca_model.specs.ServerSteps as stepped
use Rattle.ca_model.specs.Speech.{In, Stored}
use Rattle.ca_model.specs.Updates.{ShowsTo}
use Rattle.ca_model.specs.Causes as causes
use Rattle.ca_model.specs.Known.{IsDue}
use Rattle.ca_model.specs.Posts.{matching}
use Rattle.ca_model.specs.ServerEvents.{front_number, number_of, stamped}
use Rattle.ca_model.specs.World.{Joined, RecordSide, Standing, waiting_in}
use Rattle.ca_laws_parts.specs.Later.{stamped_told}
use Rattle.ca_laws_parts.specs.Messages.{Messages}
use Rattle.ca_laws_parts.specs.Numbers.{HaveNumbers}
use Rattle.ca_laws_parts.proofs.Since.{stamped-parts}
use Rattle.ca_laws_parts.proofs.Updates.{stamps-later}
use Rattle.ca_laws_parts.specs.InStep.{InStep}
use Rattle.ca_laws_parts.specs.Agrees.{AreOthers}
use Rattle.ca_laws_parts.proofs.WritesLists.{beside-right, both-at, none_at}
use Rattle.ca_laws_parts.proofs.WritesLives.{number-of}
use Rattle.ca_laws_parts.proofs.WritesMoves.{same-or}
use Rattle.ca_laws_runs.specs.Entries.{titles}
use Rattle.ca_laws_runs.specs.Follows.{Follows, Stands, posts_by}
use Rattle.ca_laws_runs.specs.Holds.{Counts}
use Rattle.ca_laws_runs.proofs.Clause.{clause-of}
use Rattle.ca_laws_runs.proofs.PostFollowing.{logged-is, titled}
use Rattle.ca_laws_runs.specs.Known.{IsOnRecord, IsStanding, KnownOn}
use Rattle.ca_laws_runs.specs.Sent.{IsShown, SentOn}
use Rattle.ca_laws_runs.proofs.Acting.{Extends, longer-self}
use Rattle.ca_laws_runs.proofs.Keeping.{KnownAt, known-lasting}
use Rattle.ca_laws_runs.proofs.Sending.{shown-on}

-- the record of a name has its number
pub number-is : (rs : List RecordSide) (name : List ℕ) (r : ℕ) → AreOthers rs → In (titles rs) (name, r) → number_of name rs ≡ r
number-is rs name r others there =
    let x = titled rs (name, r) there in
    ap (λ (n : List ℕ). number_of n rs) (ap (λ (t : List ℕ × ℕ). t.0) x.2) ∙ number-of rs x.1.0 x.0 others x.1.1 ∙ ap (λ (t : List ℕ × ℕ). t.1) (sym x.2)

-- a subscription that stands, as the server's core has it, and as it came
pub record IsOf (log : List Entry) (rs : List RecordSide) (e : ServerEnd) (c : Joined) (i : ℕ) (st : Standing) : Type 0 where
  pub sub : Subscription
  pub at : At e.subscriptions i sub
  pub stands : Stands log rs e c sub st
  pub on : IsOnRecord log rs c.lists sub st

pub sub-of : (log : List Entry) (rs : List RecordSide) (e : ServerEnd) (c : Joined) → Follows log rs e c → KnownOn log rs e c → (i : ℕ) (st : Standing) → At c.standing i st → IsOf log rs e c i st
sub-of log rs e c q p i st at =
    let x = beside-right (Stands log rs e c) e.subscriptions c.standing i st q.placed at in
    record { sub = x.0; at = x.1; stands = x.2; on = both-at (IsOnRecord log rs c.lists) e.subscriptions c.standing i x.0 st p.subs x.1 at }

pub standing-shown : (log : List Entry) (rs : List RecordSide) (e : ServerEnd) (c : Joined) → AreOthers rs → Follows log rs e c → KnownOn log rs e c → (i : ℕ) (st : Standing) → At c.standing i st
    → (j a : ℕ) (t : Told) → At c.lists.down j t → t.place ≡ st.place → t.cause ≡ Update a → IsShown log c.lists t a
standing-shown log rs e c others q p i st at j a t told place cause = record {
  s = x.stands.s;
  sent = subst (λ (n : ℕ). At c.lists.up n x.stands.s) (sym place) x.stands.sent;
  h = x.stands.h;
  handled = subst (λ (n : ℕ). At c.lists.handled n x.stands.h) (sym place) x.stands.handled;
  within = p.within st.place x.stands.h x.stands.handled;
  shows = λ r acted.
      let number : number_of x.sub.name rs ≡ r = number-is rs x.sub.name r others (x.on.acted r (subst (λ (n : ℕ). causes.Acted c.lists log n r) place acted)) in (
        v.0,
        subst (λ (l : List Stored). At l a v.0)
            (ap (λ (l : ℕ). matching log l (number_of x.sub.name rs) x.sub.mask) (logged-is c.lists.handled st.place x.stands.h x.stands.handled)
            ∙ ap (λ (z : Subscription). matching log x.stands.h.logged (number_of x.sub.name rs) z.mask) x.stands.by
            ∙ ap (λ (m : ℕ). matching log x.stands.h.logged m (mask_in x.stands.s.message)) number)
            v.1,
        subst (λ (z : Subscription). ShowsTo z.wanted v.0 t.message) x.stands.by v.2,
      );
}
  where
    x : IsOf log rs e c i st
    x = sub-of log rs e c q p i st at

    n : Counts (posts_by log rs c.lists.handled) c.lists.down q.holds.both x.sub st
    n = both-at (Counts (posts_by log rs c.lists.handled) c.lists.down q.holds.both) e.subscriptions c.standing i x.sub st q.holds.each x.at at

    v : (v : Stored) × At (posts_by log rs c.lists.handled x.sub st.place) a v × ShowsTo x.sub.wanted v t.message
    v = n.shows j a t told place cause

-- those about one that stands rise
pub standing-rise : (log : List Entry) (rs : List RecordSide) (e : ServerEnd) (c : Joined) → Follows log rs e c → KnownOn log rs e c → (m : ℕ) (st : Standing) → At c.standing m st
    → (i j a b : ℕ) (t u : Told) → i < j → At c.lists.down i t → At c.lists.down j u → t.place ≡ st.place → u.place ≡ st.place → t.cause ≡ Update a → u.cause ≡ Update b → a < b
standing-rise log rs e c q p m st at i j a b t u lt ati atj pt pu ca cb =
    (clause-of (IsDue (λ l. 0) (λ l. [])) Means log rs e c q m x.sub st x.at at x.stands).rising i j a b lt (told-at i a t ati pt ca) (told-at j b u atj pu cb)
  where
    x : IsOf log rs e c m st
    x = sub-of log rs e c q p m st at

    told-at : (l n : ℕ) (z : Told) → At c.lists.down l z → z.place ≡ st.place → z.cause ≡ Update n → At (map (λ (y : Told). let v : ℕ × Cause = (y.place, y.cause) in v) c.lists.down ++ waiting_in c.queues) l (st.place, Update n)
    told-at l n z there place cause =
        At-append (map (λ (y : Told). let v : ℕ × Cause = (y.place, y.cause) in v) c.lists.down) (waiting_in c.queues) l (st.place, Update n)
        (subst (λ (v : ℕ × Cause). At (map (λ (y : Told). let v : ℕ × Cause = (y.place, y.cause) in v) c.lists.down) l v) (λ i. (place i, cause i)) (At-map (λ (y : Told). let v : ℕ × Cause = (y.place, y.cause) in v) c.lists.down l z there))

pub standing-or : (ss : List Standing) (k : ℕ) → IsStanding ss k ⊎ (IsStanding ss k → ⊥)
standing-or [] k = inr (λ x. none_at x.0 x.1 x.2)
standing-or (s ∷ ss) k = elim (same-or s.place k) [
  | inl is ↦ inl (0, s, refl, is)
  | inr other ↦ elim (standing-or ss k) [
    | inl there ↦ inl (suc there.0, there.1, there.2, there.3)
    | inr none ↦ inr (λ x. neither x.0 x.1 x.2 x.3 other none)
  ]
]
  where
    neither : (i : ℕ) (st : Standing) → At (s ∷ ss) i st → st.place ≡ k → (s.place ≡ k → ⊥) → (IsStanding ss k → ⊥) → ⊥
    neither zero st at is other none = other (ap (λ (z : Standing). z.place) (some_is s st at) ∙ is)
    neither (suc i) st at is other none = none (i, st, at, is)

-- ---- updates leave

pub stamped-is : (us : List stepped.Update) (j : Joined) → (stamped us j).lists ≡ record j.lists { down = j.lists.down ++ stamped_told us j }
stamped-is [] j = sym (ap (λ (l : List Told). let c : Circuit = record j.lists { down = l } in c) (append-nil j.lists.down))
stamped-is (u ∷ us) j =
    let item : ℕ × Cause = unwrap_or (front_number j.queues u.queue) (0, Reply) in
    let queues : List (Queue (ℕ × Cause)) = unwrap_or (option_map (λ (q : Queue (ℕ × Cause)). slice_set j.queues u.queue (with_front_taken q)) (slice_get j.queues u.queue)) j.queues in
    let t : Told = record { message = u.message; place = item.0; cause = item.1 } in
    let d : Joined = record j { queues = queues; lists = record j.lists { down = j.lists.down ++ t ∷ [] } } in
    stamped-is us d ∙ ap (λ (l : List Told). let c : Circuit = record j.lists { down = l } in c) (append_assoc j.lists.down (t ∷ []) (stamped_told us d))

pub sent-pumped : (n : ℕ) (log : List Entry) (rs : List RecordSide) (us : List stepped.Update) (e after : ServerEnd) (j : Joined) → AreOthers rs → FoldsTo Leaves e us after → KnownAt n log rs e j → InStep e.queues j.queues → HaveNumbers j.standing j.queues → Messages j
    → j.lists.server_open ≡ true → SentOn log j → SentOn log (stamped us j)
sent-pumped n log rs us e after j others folds known step numbers messages opened p = record {
  shown = λ i a t at cause. elim (split i t at) [
    | inl old ↦ shown-on log log j.lists d.lists t a (longer-self log) ext (p.shown i a t old cause)
    | inr st ↦ standing-shown log rs after d others now.0 now.1 st.0 st.1 st.2 i a t at (sym st.3) cause
  ];
  rise = λ i l a b t u lt ati atl same_place ca cb. elim (split i t ati) [
    | inl old ↦ elim (split l u atl) [
      | inl was ↦ p.rise i l a b t u lt old was same_place ca cb
      | inr st ↦ standing-rise log rs after d now.0 now.1 st.0 st.1 st.2 i l a b t u lt ati atl (same_place ∙ sym st.3) (sym st.3) ca cb
    ]
    | inr st ↦ standing-rise log rs after d now.0 now.1 st.0 st.1 st.2 i l a b t u lt ati atl (sym st.3) (sym same_place ∙ sym st.3) ca cb
  ];
  over = λ shut. absurd (clash d.lists.server_open (ap (λ (c : Circuit). c.server_open) (stamped-is us j) ∙ opened) shut);
}
  where
    d : Joined
    d = stamped us j

    clash : (b : Bool) → b ≡ true → b ≡ false → ⊥
    clash true e1 f = cc
    clash false e1 f = cc

    now : KnownAt n log rs after d
    now = known-lasting.pumped n log rs us e after j folds known

    ext : Extends j.lists d.lists
    ext = subst (λ (c : Circuit). Extends j.lists c) (sym (stamped-is us j)) (record { up = λ i x at. at; down = λ i x at. At-append j.lists.down (stamped_told us j) i x at; handled = λ i x at. at })

    -- an update that is new is about a subscription that stands
    split : (i : ℕ) (t : Told) → At d.lists.down i t → At j.lists.down i t ⊎ IsStanding d.standing t.place
    split i t at = elim (At-parts j.lists.down (stamped_told us j) i t (subst (λ (c : Circuit). At c.down i t) (stamped-is us j) at)) [
      | inl old ↦ inl old
      | inr new ↦
          let later = stamps-later (map (λ (s : Standing). s.place) j.standing) j us e after j folds step numbers messages (λ st there. (there.0, At-map (λ (s : Standing). s.place) j.standing there.0 st there.1)) t (new.0, new.2) in
          let st = At-mapped (λ (s : Standing). s.place) j.standing later.keeps.0 t.place later.keeps.1 in
          inr (later.keeps.0, st.0, subst (λ (l : List Standing). At l later.keeps.0 st.0) (sym (stamped-parts us j).2) st.1, sym st.2)
    ]
