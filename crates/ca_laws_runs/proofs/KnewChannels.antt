-- What a server's core knows of its open channels and subscriptions is what the lists say.
use Rattle.std.proofs.Common.{◌≡◌, ℕ, zero, suc, ◌<◌, ◌≤◌, inl, inr, Bool, true, false, List, [], ◌∷◌, length, Some, refl, sym, ap, subst, ◌∙◌, arith}
use Rattle.std.specs.Prelude.{find, map, take}
use Rattle.ca_arena.specs.declared.handle.Handle.{Handle}
use Rattle.ca_ids.specs.Table.{held, under}
use Rattle.ca_ids.specs.Wire.{wire_of}
use Rattle.ca_model.proofs.Tables.{find-at, held-apart, held-under, one-by-wire, under-held}
use Rattle.ca_model.proofs.Thinner.{three-ways}
use Rattle.ca_queue.specs.Keys.{same}
use Rattle.ca_records.specs.Record.{RecordState}
use Rattle.ca_text.specs.Place.{At}
use Rattle.ca_text.proofs.Places.{At-map, At-mapped, At-one, At-within}
use Rattle.ca_model.specs.Due.{KnownChannel}
use Rattle.ca_model.specs.History.{Added, Circuit, Entry, Removed, Reply, Sent, Step, Told}
use Rattle.ca_model.specs.Server.{OpenChannel, ServerEnd}
use Rattle.ca_model.specs.ServerSteps.{known_channel}
use Rattle.ca_model.specs.Speech.{Clears, Creates, In, name_in}
use Rattle.std.proofs.lemmas.Bool.{eqb-true}
use Rattle.ca_model.specs.Channels.{Created, Has, IsOpen, Suits}
use Rattle.ca_model.specs.Known.{AreJust, IsChannel}
use Rattle.ca_model.specs.World.{Creation, Joined, RecordSide}
use Rattle.ca_laws_parts.specs.Channels.{ChannelsOn, has_sid}
use Rattle.ca_laws_runs.specs.Created.{CreatedOn}
use Rattle.ca_laws_runs.specs.Creations.{CreationsOn}
use Rattle.ca_laws_runs.proofs.CauseOnce.{apart-at}
use Rattle.ca_laws_parts.proofs.WritesLists.{At-take}
use Rattle.ca_laws_runs.specs.Causing.{SourcesOn}
use Rattle.ca_laws_runs.specs.Entries.{titles}
use Rattle.ca_laws_runs.specs.Follows.{Follows}
use Rattle.ca_laws_runs.specs.Gone.{GoneOn, IsGone}
use Rattle.ca_laws_runs.specs.Knew.{UnendedOn}
use Rattle.ca_laws_runs.specs.KnewLists.{as_known}
use Rattle.ca_laws_runs.specs.Known.{IsOrigin, KnownOn}
use Rattle.ca_laws_runs.specs.Names.{KeepRecords}
use Rattle.ca_laws_runs.proofs.Acting.{taken-at, taken-below}
use Rattle.ca_laws_runs.proofs.CausingKeeps.{Steady}

-- ---- beginnings of a log

take-twice : {A : Type 0} (a b : ℕ) (xs : List A) → a ≤ b → take a (take b xs) ≡ take a xs
take-twice zero b xs le = refl
take-twice (suc a) zero xs le = absurd (omega (arith, le))
take-twice (suc a) (suc b) [] le = refl
take-twice {A} (suc a) (suc b) (x ∷ xs) le = ap (λ (l : List A). x ∷ l) (take-twice a b xs (omega (arith, le)))

same-added : (r q : ℕ) (a b : RecordState) → Added r a ≡ Added q b → r ≡ q
same-added r q a b e = cc

-- a record that was added before, and is there by a longer beginning, was there then
had-it : (y : List Entry) (n i j r : ℕ) (a : RecordState) (name : List ℕ) → At (take n y) i (Added r a) → a.name ≡ name → (In (take n y) (Removed r) → ⊥) → i < j → j < n → Has (take j y) r name
had-it y n i j r a name at named none lt below = (
  a,
  (i, taken-at j y i (Added r a) lt (At-take n y i (Added r a) at)),
  named,
  λ gone. none (gone.0, taken-at n y gone.0 (Removed r) (let l : gone.0 < j = taken-below j y gone.0 (Removed r) gone.1 in omega (arith, l, below)) (At-take j y gone.0 (Removed r) gone.1)),
)

-- by a beginning of a log no two records have one name
pub one-has : (y : List Entry) (n r q : ℕ) (name : List ℕ) → KeepRecords y → Has (take n y) r name → Has (take n y) q name → r ≡ q
one-has y n r q name keep f g = elim (three-ways f.1.0 g.1.0) [
  | inl lt ↦ absurd (keep.one_at_once g.1.0 q r g.0 (At-take n y g.1.0 (Added q g.0) g.1.1) (had-it y n f.1.0 g.1.0 r f.0 (g.0).name f.1.1 (f.2 ∙ sym g.2) f.3 lt (taken-below n y g.1.0 (Added q g.0) g.1.1)))
  | inr (inl same) ↦ same-added r q f.0 g.0 (At-one (take n y) g.1.0 (Added r f.0) (Added q g.0) (subst (λ (k : ℕ). At (take n y) k (Added r f.0)) same f.1.1) g.1.1)
  | inr (inr gt) ↦ absurd (keep.one_at_once f.1.0 r q f.0 (At-take n y f.1.0 (Added r f.0) f.1.1) (had-it y n g.1.0 f.1.0 q g.0 (f.0).name g.1.1 (g.2 ∙ sym f.2) g.3 gt (taken-below n y f.1.0 (Added r f.0) f.1.1)))
]

-- a beginning of a log keeps names
pub keep-take : (y : List Entry) (n : ℕ) → KeepRecords y → KeepRecords (take n y)
keep-take y n keep = record {
  one_record = λ i j r a b first second. keep.one_record i j r a b (At-take n y i (Added r a) first) (At-take n y j (Added r b) second);
  one_at_once = λ i r q s at has. keep.one_at_once i r q s (At-take n y i (Added r s) at) (subst (λ (l : List Entry). Has l q s.name) (take-twice i n y (let lt : i < n = taken-below n y i (Added r s) at in omega (arith, lt))) has);
  was_there = λ i r at.
      let x = keep.was_there i r (At-take n y i (Removed r) at) in
      (x.0, subst (λ (l : List Entry). Has l r x.0) (sym (take-twice i n y (let lt : i < n = taken-below n y i (Removed r) at in omega (arith, lt)))) x.1);
}

-- ---- an open end

-- What holds of an open end and its circuit, by the log of its server's life.
pub record Facts (log : List Entry) (rs : List RecordSide) (e : ServerEnd) (c : Joined) : Type 0 where
  pub opened : c.lists.server_open ≡ true
  pub channels : ChannelsOn e c
  pub creations : CreationsOn c
  pub created : CreatedOn c
  pub sources : SourcesOn log c
  pub replies : (i sid : ℕ) (t : Told) → At c.lists.down i t → Creates t.message sid → t.cause ≡ Reply
  pub steady : Steady log c.lists
  pub follows : Follows log rs e c
  pub known : KnownOn log rs e c
  pub gone : GoneOn log e c
  pub unended : UnendedOn c
  pub keep : KeepRecords log
  pub there : (name : List ℕ) (r : ℕ) → In (titles rs) (name, r) → In log (Removed r) → ⊥
  pub asked : (k : ℕ) (s : Sent) → At c.lists.up k s → Suits s.intent s.message

module _ (log : List Entry) (rs : List RecordSide) (e : ServerEnd) (c : Joined) (f : Facts log rs e c) where
  abbrev known_c : Circuit
  known_c = as_known c.lists

  abbrev many : ℕ
  many = length c.lists.handled

  -- one creation for one SID
  one-creation : (x z : Creation) → In c.creations x → In c.creations z → x.sid ≡ z.sid → x ≡ z
  one-creation x z a b same_sid = f.creations.one x z a b same_sid

  -- a channel of the end as the lists have it
  pub record OpenAs (g : Handle) (ch : OpenChannel) : Type 0 where
    pub o : IsOrigin log rs c (wire_of g) ch
    pub i : ℕ
    pub r : ℕ
    pub opens : IsOpen known_c log i o.x.place (wire_of g) r
    pub has : Has (take o.h.logged log) r ch.name
    pub cid : ch.cid ≡ o.s.message.p1

  pub open-as : (g : Handle) (ch : OpenChannel) → under e.channels g ≡ Some ch → OpenAs g ch
  open-as g ch there = record {
    o = o;
    i = u.0;
    r = m.0;
    opens = (
      (
        m.1.0,
        m.1.1,
        m.1.2,
        m.1.3,
        m.1.4 ∙ u.3,
        m.1.5,
        (m.1.6.0, m.1.6.1 ∙ o.under_sid),
        taken-at many c.lists.up o.x.place m.1.1 early (subst (λ (n : ℕ). At c.lists.up n m.1.1) u.3 m.1.7),
        subst (λ (n : ℕ). At c.lists.handled n m.1.2) u.3 m.1.8,
        m.1.9,
        m.1.10,
      ),
      later,
      cleared,
    );
    has = has;
    cid = sym found.2.2 ∙ ap (λ (z : Sent). z.message.p1) (At-one c.lists.up o.x.place found.2.0 o.s (subst (λ (z : Creation). At c.lists.up z.place found.2.0) same found.2.1) o.sent);
  }
    where
      o : IsOrigin log rs c (wire_of g) ch
      o = f.known.origins g ch there

      found : (x : Creation) × (find (has_sid (wire_of g)) c.creations ≡ Some x) × ((s : Sent) × At c.lists.up x.place s × (s.message.p1 ≡ ch.cid))
      found = f.channels.opens g ch there

      found-in : (i : ℕ) × At c.creations i found.0 × (has_sid (wire_of g) found.0 ≡ true)
      found-in = find-at (has_sid (wire_of g)) c.creations found.0 found.1

      same : found.0 ≡ o.x
      same = one-creation found.0 o.x (found-in.0, found-in.1) o.noted (sid-of (found.0) found-in.2 ∙ sym o.under_sid)
        where
          sid-of : (z : Creation) → has_sid (wire_of g) z ≡ true → z.sid ≡ wire_of g
          sid-of z is = eqb-true z.sid (wire_of g) is

      u : (i : ℕ) × (t : Told) × At c.lists.down i t × (t.place ≡ o.x.place) × (t.cause ≡ Reply) × Creates t.message o.x.sid
      u = f.creations.told o.x o.noted

      m : (r : ℕ) × Created c.lists log u.0 u.1.place o.x.sid r
      m = f.sources.made u.0 o.x.sid u.1 u.2 u.4 u.5

      early : o.x.place < many
      early = At-within c.lists.handled o.x.place o.h o.handled

      s-is : m.1.1 ≡ o.s
      s-is = At-one c.lists.up o.x.place m.1.1 o.s (subst (λ (n : ℕ). At c.lists.up n m.1.1) u.3 m.1.7) o.sent

      h-is : m.1.2 ≡ o.h
      h-is = At-one c.lists.handled o.x.place m.1.2 o.h (subst (λ (n : ℕ). At c.lists.handled n m.1.2) u.3 m.1.8) o.handled

      has : Has (take o.h.logged log) m.0 ch.name
      has =
          subst (λ (n : List ℕ). Has (take o.h.logged log) m.0 n) (ap (λ (z : Sent). name_in z.message) s-is ∙ sym o.name)
          (subst (λ (z : Step). Has (take z.logged log) m.0 (name_in (m.1.1).message)) h-is m.1.9)

      later : (i : ℕ) (t : Told) → u.0 < i → At c.lists.down i t → Creates t.message (wire_of g) → ⊥
      later i t lt at creates =
          let w = f.created.apart u.0 i (wire_of g) (wire_of g) u.1 t lt u.2 at u.4 (f.replies i (wire_of g) t at creates) (u.5.0, u.5.1 ∙ o.under_sid) creates refl in
          let cleared = w.1 in
          let after : u.1.place < cleared.0 = cleared.2 in
          let until : cleared.0 < t.place = cleared.3 in
          let handled : t.place < many = f.steady.below i t at in
          let is : u.1.place ≡ o.x.place = u.3 in
          f.creations.uncleared o.x cleared.0 cleared.1 o.noted (omega (arith, after, is)) (omega (arith, until, handled)) cleared.4 (cleared.5.0, cleared.5.1 ∙ sym o.under_sid)

      cleared : (l : ℕ) (q : Sent) → o.x.place < l → l < length c.lists.handled → At (take many c.lists.up) l q → Clears q.message (wire_of g) → ⊥
      cleared l q lt within at clears = f.creations.uncleared o.x l q o.noted lt within (At-take many c.lists.up l q at) (clears.0, clears.1 ∙ sym o.under_sid)

  -- it is retired exactly if the log removed its record
  pub retired-of : (g : Handle) (ch : OpenChannel) (there : under e.channels g ≡ Some ch) (a : OpenAs g ch) → (ch.retired ≡ true → In log (Removed a.r)) × (In log (Removed a.r) → ch.retired ≡ true)
  retired-of g ch there a = (to, back ch.retired refl)
    where
      to : ch.retired ≡ true → In log (Removed a.r)
      to is =
          let z : IsGone log c (wire_of g) ch = f.gone g ch there is in
          let same : z.x ≡ a.o.x = one-creation z.x a.o.x z.noted a.o.noted (z.under_sid ∙ sym a.o.under_sid) in
          let h_is : a.o.h ≡ z.h = At-one c.lists.handled a.o.x.place a.o.h z.h a.o.handled (subst (λ (q : Creation). At c.lists.handled q.place z.h) same z.handled) in
          z.gone a.r (subst (λ (q : Step). Has (take q.logged log) a.r ch.name) h_is a.has)

      back : (b : Bool) → ch.retired ≡ b → In log (Removed a.r) → ch.retired ≡ true
      back true is removed = is
      back false is removed = absurd (f.there ch.name a.r (a.o.still is a.r a.has) removed)

  pub each-channel : (k : KnownChannel) → In (map known_channel (held e.channels)) k → IsChannel known_c log k
  each-channel k in_it =
      let x = At-mapped known_channel (held e.channels) in_it.0 k in_it.1 in
      let there = held-under e.channels in_it.0 x.0 x.1 in
      let a = open-as x.0.0 x.0.1 there in
      let q = retired-of x.0.0 x.0.1 there a in
      subst (λ (z : KnownChannel). IsChannel known_c log z) (sym x.2)
      (a.i, a.o.x.place, a.r, a.o.s, a.opens, taken-at many c.lists.up a.o.x.place a.o.s (At-within c.lists.handled a.o.x.place a.o.h a.o.handled) a.o.sent, a.cid, a.o.name, q.0, q.1)

  bools : (a b : Bool) → (a ≡ true → b ≡ true) → (b ≡ true → a ≡ true) → a ≡ b
  bools true b to back = sym (to refl)
  bools false true to back = back refl
  bools false false to back = refl

  -- the channel that is open under a SID, by the lists, is the core's
  pub held-as : (j k sid r : ℕ) → IsOpen known_c log j k sid r → (g : Handle) × (ch : OpenChannel) × (under e.channels g ≡ Some ch) × (wire_of g ≡ sid) × ((a : OpenAs g ch) × (a.o.x.place ≡ k) × (a.r ≡ r))
  held-as j k sid r ((t, s, h, at_t, place_is, cause, creates, at_s, at_h, has, gives), later, uncleared) = elim (f.created.noted j sid t f.opened at_t cause creates) [
    | inr cleared ↦ absurd (uncleared cleared.0 cleared.1 (subst (λ (n : ℕ). n < cleared.0) place_is cleared.2) cleared.3 (taken-at many c.lists.up cleared.0 cleared.1 cleared.3 cleared.4) cleared.5)
    | inl noted ↦
        let x = noted.0 in
        let st = f.channels.stale x noted.1 in
        let a = open-as st.0 st.1 st.2 in
        let wire : wire_of st.0 ≡ sid = st.3 ∙ noted.2 in
        let same : a.o.x ≡ x = one-creation a.o.x x a.o.noted noted.1 (a.o.under_sid ∙ st.3) in
        let place : a.o.x.place ≡ k = ap (λ (z : Creation). z.place) same ∙ noted.3 ∙ place_is in
        let h_is : h ≡ a.o.h = At-one c.lists.handled k h a.o.h at_h (subst (λ (n : ℕ). At c.lists.handled n a.o.h) place a.o.handled) in
        let s_is : s ≡ a.o.s = At-one c.lists.up k s a.o.s (At-take many c.lists.up k s at_s) (subst (λ (n : ℕ). At c.lists.up n a.o.s) place a.o.sent) in
        let has_it : Has (take a.o.h.logged log) r st.1.name = subst (λ (v : List ℕ × Step). Has (take v.1.logged log) r v.0) (λ i. ((ap (λ (z : Sent). name_in z.message) s_is ∙ sym a.o.name) i, h_is i)) has in
        (st.0, st.1, st.2, wire, (a, place, one-has log a.o.h.logged a.r r st.1.name f.keep a.has has_it))
  ]

  pub all-channels : (k : KnownChannel) → IsChannel known_c log k → In (map known_channel (held e.channels)) k
  all-channels k (i, l, r, s, opens, at_s, cid, name, to, back) =
      let x = held-as i l k.sid r opens in
      let a = x.4.0 in
      let q = retired-of x.0 x.1 x.2 a in
      let s_is : a.o.s ≡ s = At-one c.lists.up l a.o.s s (subst (λ (n : ℕ). At c.lists.up n a.o.s) x.4.1 a.o.sent) (At-take many c.lists.up l s at_s) in
      let at = under-held e.channels x.0 x.1 x.2 in
      let p_sid : wire_of x.0 ≡ k.sid = x.3 in
      let p_cid : x.1.cid ≡ k.cid = a.cid ∙ ap (λ (z : Sent). z.message.p1) s_is ∙ sym cid in
      let p_name : x.1.name ≡ k.name = a.o.name ∙ ap (λ (z : Sent). name_in z.message) s_is ∙ sym name in
      let p_retired : x.1.retired ≡ k.retired =
      bools x.1.retired k.retired (λ is. back (subst (λ (n : ℕ). In log (Removed n)) x.4.2 (q.0 is))) (λ is. q.1 (subst (λ (n : ℕ). In log (Removed n)) (sym x.4.2) (to is))) in
      let is : known_channel (x.0, x.1) ≡ k = λ i. record { sid = p_sid i; cid = p_cid i; name = p_name i; retired = p_retired i } in
      (at.0, subst (λ (z : KnownChannel). At (map known_channel (held e.channels)) at.0 z) is (At-map known_channel (held e.channels) at.0 (x.0, x.1) at.1))

  pub once-channels : (i j : ℕ) (k : KnownChannel) → At (map known_channel (held e.channels)) i k → At (map known_channel (held e.channels)) j k → i ≡ j
  once-channels i j k first second =
      let x = At-mapped known_channel (held e.channels) i k first in
      let z = At-mapped known_channel (held e.channels) j k second in
      let wires : wire_of x.0.0 ≡ wire_of z.0.0 = ap (λ (q : KnownChannel). q.sid) (sym x.2 ∙ z.2) in
      apart-at (held e.channels) (held-apart e.channels) i j x.0 z.0 x.1 z.1
      (one-by-wire e.channels x.0.0 z.0.0 x.0.1 z.0.1 f.channels.few (held-under e.channels i x.0 x.1) (held-under e.channels j z.0 z.1) wires)

  pub know-channels : AreJust (map known_channel (held e.channels)) (IsChannel known_c log)
  know-channels = record { each = each-channel; all = all-channels; once = once-channels }
