-- What replies say of writes stays so as a world goes on.
use Rattle.std.proofs.Common.{◌≡◌, ℕ, ◌<◌, ◌≤◌, ◌⊎◌, inl, inr, Bool, true, List, [], ◌++◌, length, Some, refl, sym, ap, subst, append-nil, append_assoc, arith}
use Rattle.ca_dbr.specs.Elements.{Elements}
use Rattle.ca_dbr.specs.declared.value.Outcome.TheVariants.{Failed}
use Rattle.ca_text.specs.declared.status.Status.{Status}
use Rattle.ca_text.specs.Place.{At}
use Rattle.ca_text.proofs.Places.{some_is, At-back, At-one, At-within}
use Rattle.ca_requests.specs.Meaning.{Means}
use Rattle.ca_wire.specs.Fields.{Fields}
use Rattle.ca_model.specs.Speech.{In, Stored}
use Rattle.ca_model.specs.History.{Applied, Entry, Finished, Reply, Sent, Step, Told, Waits, Withdrawn}
use Rattle.ca_model.specs.History as history
use Rattle.ca_model.specs.Channels.{IsTaken}
use Rattle.ca_model.specs.World.{Joined, PutPlace, Setting, World, grown}
use Rattle.ca_laws_parts.specs.Lives.{CameOn, Later, LostOn, SaysSo}
use Rattle.ca_laws_parts.specs.Once.{Once, write_in}
use Rattle.ca_laws_parts.specs.Says.{IsAbout, Says}
use Rattle.ca_laws_parts.specs.Seats.{Sound}
use Rattle.ca_laws_parts.proofs.WritesLists.{In-append, none_at}
use Rattle.ca_laws_parts.proofs.Going.{came-taken}
use Rattle.ca_laws_parts.proofs.Midway.{grown-here, grown-other}
use Rattle.ca_laws_parts.proofs.WritesMoves.{At-below, same-or}

-- ---- a write that was handled: what is told of it later was told before

module _ (cs : List Joined) (life : ℕ) (y more : List Entry) (once : Once (CameOn cs life) (LostOn cs) (y ++ more)) (n k : ℕ) (c d : Joined) (on : At cs n d) (stay : (m : ℕ) (h : Step) → At c.lists.handled m h → At d.lists.handled m h) (early : k < length c.lists.handled) (within : (m : ℕ) (h : Step) → At c.lists.handled m h → h.after ≤ length y) where
  abbrev p : PutPlace
  p = record { circuit = n; place = k }

  abbrev WasTold : Type 0
  WasTold = (f : Entry) × In y f × (write_in f ≡ Some p)

  came-old : (i : ℕ) (value : Elements) → CameOn cs life IsTaken p i value → i < length y
  came-old i value came =
      let g = At-below c.lists.handled k early in
      let there : At d.lists.handled k g.0 = stay k g.0 g.1 in
      let le : g.0.after ≤ length y = within k g.0 g.1 in
      elim (subst (λ (z : Joined). IsTaken z.lists k i) (At-one cs n came.c d came.on on) came.taken) [
        | inl now ↦
            let same : now.0.after ≡ g.0.after = ap (λ (z : Step). z.after) (At-one d.lists.handled k now.0 g.0 now.1 there) in
            let lt : i < now.0.after = now.3 in
            omega (arith, lt, same, le)
        | inr last ↦
            let is : k ≡ length d.lists.handled = last.0 in
            let lt : k < length d.lists.handled = At-within d.lists.handled k g.0 there in
            absurd (omega (arith, is, lt))
      ]

  waits-old : (i r : ℕ) (v : Stored) → At (y ++ more) i (Waits n k r v) → In y (Waits n k r v)
  waits-old i r v at = (i, At-back y more i (Waits n k r v) at (came-old i v.value (came-taken cs life p i v.value (once.came i n k r v at))))

  applied-old : (i r : ℕ) (v : Stored) (b : Bool) → At (y ++ more) i (Applied n k r v b) → WasTold
  applied-old i r v b at = elim (once.own i n k r v b at) [
    | inl came ↦ (Applied n k r v b, (i, At-back y more i (Applied n k r v b) at (came-old i v.value came)), refl)
    | inr had ↦ (Waits n k r had.1, waits-old had.0 r had.1 had.3, refl)
  ]

  pub told-old : (f : Entry) (i : ℕ) → At (y ++ more) i f → write_in f ≡ Some p → WasTold
  told-old (history.Added r s) i at is = absurd cc
  told-old (history.Removed r) i at is = absurd cc
  told-old (history.Posted r mask v) i at is = absurd cc
  told-old (Waits a b r v) i at is =
      let q : PutPlace = record { circuit = a; place = b } in
      let same : q ≡ p = some_is q p is in
      (Waits n k r v, waits-old i r v (subst (λ (z : PutPlace). At (y ++ more) i (Waits z.circuit z.place r v)) same at), refl)
  told-old (Applied a b r v busies) i at is =
      let q : PutPlace = record { circuit = a; place = b } in
      let same : q ≡ p = some_is q p is in
      applied-old i r v busies (subst (λ (z : PutPlace). At (y ++ more) i (Applied z.circuit z.place r v busies)) same at)
  told-old (Finished a b) i at is =
      let q : PutPlace = record { circuit = a; place = b } in
      let same : q ≡ p = some_is q p is in
      let busy = (once.finished n k i (subst (λ (z : PutPlace). At (y ++ more) i (Finished z.circuit z.place)) same at)).0 in
      applied-old busy.0 busy.1 busy.2 true busy.3
  told-old (Withdrawn a b) i at is =
      let q : PutPlace = record { circuit = a; place = b } in
      let same : q ≡ p = some_is q p is in
      let lost = once.withdrawn i n k (subst (λ (z : PutPlace). At (y ++ more) i (Withdrawn z.circuit z.place)) same at) in
      (Waits n k lost.0 lost.2.1, waits-old lost.2.0 lost.0 lost.2.1 lost.2.3, refl)

  -- and so what a reply says of it stays so
  pub says-old : (s : Sent) (m : Fields) → SaysSo y p s m → SaysSo (y ++ more) p s m
  says-old s m says = record {
    done = λ asks means. (let a = says.done asks means in (a.0, a.1, a.2, In-append y more (Applied n k a.0 a.1 a.2) a.3));
    failed = λ status writes means f told tells. (let was = told-old f told.0 told.1 tells in says.failed status writes means was.0 was.1 was.2);
  }

-- a reply that fails nothing
says-done : (y more : List Entry) (p : PutPlace) (s : Sent) (m : Fields) → ((t : Status) → Means m (Failed t) → ⊥) → SaysSo y p s m → SaysSo (y ++ more) p s m
says-done y more p s m never says = record {
  done = λ asks means. (let a = says.done asks means in (a.0, a.1, a.2, In-append y more (Applied p.circuit p.place a.0 a.1 a.2) a.3));
  failed = λ status writes means f told tells. absurd (never status means);
}

-- ---- worlds that go on

-- a reply that is new
pub record IsNew (new : World) (n : ℕ) (d : Joined) (t : Told) : Type 0 where
  pub says : (y : List Entry) (s : Sent) → At new.server_logs d.lists.server y → At d.lists.up t.place s → SaysSo y (record { circuit = n; place = t.place }) s t.message
  pub about : IsAbout d t

-- a circuit of before went on, and each of its replies was there, or is new
pub record WentOn (w new : World) (n : ℕ) (d : Joined) : Type 0 where
  pub c : Joined
  pub at : At w.circuits n c
  pub later : Later c d
  pub replies : (i : ℕ) (t : Told) → At d.lists.down i t → t.cause ≡ Reply → At c.lists.down i t ⊎ IsNew new n d t

-- Logs grew, and each circuit was there, or has no messages of its server.
pub record Grew (w new : World) : Type 0 where
  pub logs : (l : ℕ) (y : List Entry) → At w.server_logs l y → (more : List Entry) × At new.server_logs l (y ++ more)
  pub back : (n : ℕ) (d : Joined) → At new.circuits n d → WentOn w new n d ⊎ (d.lists.down ≡ [])

grew-about : (c d : Joined) (t : Told) → Later c d → IsAbout c t → IsAbout d t
grew-about c d t l a = (
  (a.0.0, l.up t.place a.0.0 a.0.1),
  elim a.1 [
    | inl early ↦ (let g = At-below c.lists.handled t.place early in inl (At-within d.lists.handled t.place g.0 (l.handled t.place g.0 g.1)))
    | inr never ↦ inr never
  ],
)

pub says-grow : (s : Setting) (w new : World) → Sound s w → Sound s new → Grew w new → Says w → Says new
says-grow s w new h now g says = record {
  so = λ n d y at log j t x told reply sent. elim (g.back n d at) [
    | inl was ↦ elim (was.replies j t told reply) [
      | inl old ↦
          let c : Joined = was.c in
          let about = says.about n j c t was.at old reply in
          let here = h.within n c was.at in
          let grew = g.logs c.lists.server here.0 here.1 in
          let y_is : here.0 ++ grew.0 ≡ y = At-one new.server_logs d.lists.server (here.0 ++ grew.0) y (subst (λ (l : ℕ). At new.server_logs l (here.0 ++ grew.0)) (sym was.later.life) grew.1) log in
          let x_is : about.0.0 ≡ x = At-one d.lists.up t.place about.0.0 x (was.later.up t.place about.0.0 about.0.1) sent in
          let so : SaysSo here.0 (record { circuit = n; place = t.place }) about.0.0 t.message = says.so n c here.0 was.at here.1 j t about.0.0 old reply about.0.1 in
          let after : SaysSo (here.0 ++ grew.0) (record { circuit = n; place = t.place }) about.0.0 t.message = elim about.1 [
            | inl early ↦ says-old new.circuits c.lists.server here.0 grew.0 (now.writes.logs c.lists.server (here.0 ++ grew.0) grew.1) n t.place c d at was.later.handled early here.2 about.0.0 t.message so
            | inr never ↦ says-done here.0 grew.0 (record { circuit = n; place = t.place }) about.0.0 t.message never so
          ] in
          subst (λ (l : List Entry). SaysSo l (record { circuit = n; place = t.place }) x t.message) y_is
          (subst (λ (z : Sent). SaysSo (here.0 ++ grew.0) (record { circuit = n; place = t.place }) z t.message) x_is after)
      | inr fresh ↦ fresh.says y x log sent
    ]
    | inr none ↦ absurd (none_at j t (subst (λ (l : List Told). At l j t) none told))
  ];
  about = λ n j d t at told reply. elim (g.back n d at) [
    | inl was ↦ elim (was.replies j t told reply) [
      | inl old ↦ grew-about was.c d t was.later (says.about n j was.c t was.at old reply)
      | inr fresh ↦ fresh.about
    ]
    | inr none ↦ absurd (none_at j t (subst (λ (l : List Told). At l j t) none told))
  ];
}

-- ---- logs

pub logs-stay : (w new : World) → new.server_logs ≡ w.server_logs → (l : ℕ) (y : List Entry) → At w.server_logs l y → (more : List Entry) × At new.server_logs l (y ++ more)
logs-stay w new is l y at =
    ([], subst (λ (z : List Entry). At new.server_logs l z) (sym (append-nil y)) (subst (λ (ls : List (List Entry)). At ls l y) (sym is) at))

pub logs-grown : (logs : List (List Entry)) (life : ℕ) (more : List Entry) (l : ℕ) (y : List Entry) → At logs l y → (z : List Entry) × At (grown life more logs) l (y ++ z)
logs-grown logs life more l y at = elim (same-or l life) [
  | inl mine ↦ (more, subst (λ (k : ℕ). At (grown life more logs) k (y ++ more)) (sym mine) (grown-here logs life y more (subst (λ (k : ℕ). At logs k y) mine at)))
  | inr other ↦ ([], subst (λ (z : List Entry). At (grown life more logs) l z) (sym (append-nil y)) (grown-other logs life more l y at other))
]

pub logs-twice : (logs : List (List Entry)) (life other : ℕ) (more and : List Entry) (l : ℕ) (y : List Entry) → At logs l y → (z : List Entry) × At (grown other and (grown life more logs)) l (y ++ z)
logs-twice logs life other more and l y at =
    let a = logs-grown logs life more l y at in
    let b = logs-grown (grown life more logs) other and l (y ++ a.0) a.1 in
    (a.0 ++ b.0, subst (λ (z : List Entry). At (grown other and (grown life more logs)) l z) (append_assoc y a.0 b.0) b.1)
