-- What the lists of a circuit say of its client: it stays so as they grow, and goes on with each
-- message that is handled.
use Rattle.std.proofs.Common.{◌≡◌, ℕ, zero, suc, ◌+◌, ◌<◌, ◌≤◌, ◌⊎◌, inl, inr, Bool, true, false, cond, ◌||◌, eqb, eqb-true, eq-eqb, ne_eqb, List, [], ◌∷◌, ◌++◌, length, refl, sym, ap, subst, ◌∙◌, arith}
use Rattle.std.proofs.lemmas.Bool.{both_ways}
use Rattle.std.specs.List.{list_any}
use Rattle.std.specs.Prelude.{take}
use Rattle.ca_text.specs.Command.{command_number}
use Rattle.ca_text.specs.declared.command.Command.{Command}
use Rattle.ca_text.specs.declared.command.Command.TheVariants as command
use Rattle.ca_text.specs.Place.{At}
use Rattle.ca_text.proofs.Places.{some_is, At-append, At-last, At-map, At-one, At-snoc, At-within}
use Rattle.ca_wire.specs.Fields.{Fields}
use Rattle.ca_wire.specs.Messages.{text_in}
use Rattle.ca_model.specs.Due.{Action, Knows, Names, Nothing, Opens, named}
use Rattle.ca_model.specs.Due as action
use Rattle.ca_model.specs.Ends.{Peer}
use Rattle.ca_model.specs.History.{Circuit, Reply, Sent, Step, Told}
use Rattle.ca_model.specs.Server.{Server, ServerEnd}
use Rattle.ca_model.specs.ServerSteps.{Acts}
use Rattle.ca_model.specs.Speech.{Is}
use Rattle.ca_model.specs.Known.{IsEarly, NamesItself, has_created}
use Rattle.ca_model.specs.ServerEvents.{about}
use Rattle.ca_laws_parts.proofs.WritesLists.{At-take, length-more, none_at, take-front, take-whole}
use Rattle.ca_laws_runs.specs.KnewFaces.{Face, IsFace, face_of}
use Rattle.ca_laws_runs.specs.KnewLists.{as_known}
use Rattle.ca_laws_runs.proofs.Acting.{Grows, taken-at}
use Rattle.ca_laws_runs.proofs.AnsweringFrame.{grows-take}
use Rattle.ca_laws_runs.proofs.FaceCalls.{blank}
use Rattle.ca_laws_runs.proofs.FaceDue.{apart, CreateNone, CreateOne, Facing, Greeting, Hosting, IsPlain, Naming, Opening, Resting}

-- ---- some in a list

any-at : {A : Type 0} (p : A → Bool) (xs : List A) (i : ℕ) (x : A) → At xs i x → p x ≡ true → list_any p xs ≡ true
any-at p [] i x at is = absurd (none_at i x at)
any-at p (y ∷ xs) zero x at is = ap (λ (b : Bool). b || list_any p xs) (ap p (some_is y x at) ∙ is)
any-at p (y ∷ xs) (suc i) x at is = go (p y) (any-at p xs i x at is)
  where
    go : (b : Bool) → list_any p xs ≡ true → b || list_any p xs ≡ true
    go true rest = refl
    go false rest = rest

any-found : {A : Type 0} (p : A → Bool) (xs : List A) → list_any p xs ≡ true → (i : ℕ) × (x : A) × At xs i x × (p x ≡ true)
any-found p [] some = absurd cc
any-found {A} p (y ∷ xs) some = go (p y) refl some (any-found p xs)
  where
    go : (b : Bool) → p y ≡ b → b || list_any p xs ≡ true → (list_any p xs ≡ true → (i : ℕ) × (x : A) × At xs i x × (p x ≡ true)) → (i : ℕ) × (x : A) × At (y ∷ xs) i x × (p x ≡ true)
    go true is some rest = (0, y, refl, is)
    go false is some rest = (let r = rest some in (suc r.0, r.1, r.2, r.3))

any-append : {A : Type 0} (p : A → Bool) (xs ys : List A) → list_any p (xs ++ ys) ≡ list_any p xs || list_any p ys
any-append p [] ys = refl
any-append p (x ∷ xs) ys = go (p x) (any-append p xs ys)
  where
    go : (b : Bool) → list_any p (xs ++ ys) ≡ list_any p xs || list_any p ys → b || list_any p (xs ++ ys) ≡ (b || list_any p xs) || list_any p ys
    go true rest = refl
    go false rest = rest

both-bools : (a b : Bool) → (a ≡ true → b ≡ true) → (b ≡ true → a ≡ true) → a ≡ b
both-bools true b forth back = sym (forth refl)
both-bools false true forth back = back refl
both-bools false false forth back = refl

or-none : (a b : Bool) → b ≡ false → a || b ≡ a
or-none true b none = refl
or-none false b none = none

or-one : (a b : Bool) → b ≡ true → a || b ≡ true
or-one true b one = refl
or-one false b one = one

-- a list that grew by nothing is the same
pub grown-same : {A : Type 0} (xs ys : List A) → Grows xs ys → Grows ys xs → ys ≡ xs
grown-same [] [] forth back = refl
grown-same [] (y ∷ ys) forth back = absurd (none_at 0 y (back 0 y refl))
grown-same (x ∷ xs) [] forth back = absurd (none_at 0 x (forth 0 x refl))
grown-same {A} (x ∷ xs) (y ∷ ys) forth back =
    let first : y ≡ x = some_is y x (forth 0 x refl) in
    ap (λ (z : A). z ∷ ys) first ∙ ap (λ (l : List A). x ∷ l) (grown-same xs ys (λ i z at. forth (suc i) z at) (λ i z at. back (suc i) z at))

-- ---- who the client is

names-as : (c d : Circuit) (name : Command) (text : List ℕ) → ((k : ℕ) (m : Fields) → IsEarly c k m → IsEarly d k m) → ((k : ℕ) (m : Fields) → Is name m → IsEarly d k m → IsEarly c k m) → NamesItself c name text → NamesItself d name text
names-as c d name text forth back (inl (k, m, early, is, text_is, last)) = inl (k, m, forth k m early, is, text_is, λ l r lt other same. last l r lt (back l r same other) same)
names-as c d name text forth back (inr (empty, none)) = inr (empty, λ k m early is. none k m (back k m is early) is)

abbrev versions : Sent → Bool
versions s = eqb s.message.command (command_number command.Version)

-- of a circuit on which no message was handled, and none sent by its server
pub blank-face : (c : Circuit) → c.handled ≡ [] → c.down ≡ [] → IsFace (as_known c) blank
blank-face c handled down = record {
  greeted = sym (ap (λ (l : List Step). list_any versions (take (length l) c.up)) handled);
  user = inr (refl, λ k m early is. none_at k early.1 (subst (λ (l : List Step). At l k early.1) handled early.3));
  host = inr (refl, λ k m early is. none_at k early.1 (subst (λ (l : List Step). At l k early.1) handled early.3));
  settled = sym (ap has_created down);
}

-- ---- the lists grow, and no message is handled

module _ (c d : Circuit) (few : length c.handled ≤ length c.up) (within : (k : ℕ) (h : Step) → At c.handled k h → h.sent ≤ length c.down) (up : Grows c.up d.up) (down : Grows c.down d.down) (handled : d.handled ≡ c.handled)
    (quiet : (i : ℕ) (t : Told) → At d.down i t → Is command.CreateChannel t.message → At c.down i t) where
  same-up : (as_known d).up ≡ (as_known c).up
  same-up = ap (λ (l : List Step). take (length l) d.up) handled ∙ grows-take (length c.handled) c.up d.up up few

  same-created : has_created d.down ≡ has_created c.down
  same-created =
      both-bools (has_created d.down) (has_created c.down)
      (λ some. (let f = any-found creates d.down some in any-at creates c.down f.0 f.1 (quiet f.0 f.1 f.2 (eqb-true (f.1).message.command 18 f.3)) f.3))
      (λ some. (let f = any-found creates c.down some in any-at creates d.down f.0 f.1 (down f.0 f.1 f.2) f.3))
    where
      creates : Told → Bool
      creates t = eqb t.message.command (command_number command.CreateChannel)

  forth : (k : ℕ) (m : Fields) → IsEarly (as_known c) k m → IsEarly (as_known d) k m
  forth k m (s, h, at_s, at_h, is, early) = (
    s,
    h,
    subst (λ (l : List Sent). At l k s) (sym same-up) at_s,
    subst (λ (l : List Step). At l k h) (sym handled) at_h,
    is,
    ap has_created (grows-take h.sent c.down d.down down (within k h at_h)) ∙ early,
  )

  back : (k : ℕ) (m : Fields) → IsEarly (as_known d) k m → IsEarly (as_known c) k m
  back k m (s, h, at_s, at_h, is, early) =
      let there : At c.handled k h = subst (λ (l : List Step). At l k h) handled at_h in
      (s, h, subst (λ (l : List Sent). At l k s) same-up at_s, there, is, sym (ap has_created (grows-take h.sent c.down d.down down (within k h there))) ∙ early)

  pub face-goes : (f : Face) → IsFace (as_known c) f → IsFace (as_known d) f
  face-goes f is = record {
    greeted = is.greeted ∙ sym (ap (λ (l : List Sent). list_any versions l) same-up);
    user = names-as (as_known c) (as_known d) command.ClientName f.peer.user forth (λ k m named early. back k m early) is.user;
    host = names-as (as_known c) (as_known d) command.HostName f.peer.host forth (λ k m named early. back k m early) is.host;
    settled = is.settled ∙ sym same-created;
  }

-- ---- what a message does to an end

abbrev pub after_face : Action → Face → Face
after_face action.Greets f = record f { greeted = true }
after_face (Names p) f = record f { peer = p }
after_face (Opens c) f = record f { settled = true }
after_face did f = f

pub acts-face : (y : Server) (e new : ServerEnd) (did : Action) → Acts y e did new → face_of new ≡ after_face did (face_of e)
acts-face y e new action.Greets is = ap (λ (x : ServerEnd). face_of x) is
acts-face y e new (Names p) is = ap (λ (x : ServerEnd). face_of x) is
acts-face y e new (Opens c) (h, may, wire, is) = ap (λ (x : ServerEnd). face_of x) is
acts-face y e new (action.Clears sid) is = ap (λ (x : ServerEnd). face_of x) is
acts-face y e new (action.Adds s) (r, found, takes) = ap (λ (x : ServerEnd). face_of x) takes.leaves
acts-face y e new (action.Drops key) is = ap (λ (x : ServerEnd). face_of x) is
acts-face y e new (action.Switches on) is = ap (λ (x : ServerEnd). face_of x) is
acts-face y e new Nothing is = ap (λ (x : ServerEnd). face_of x) is
acts-face y e new (action.Applies name value busies) is = ap (λ (x : ServerEnd). face_of x) is
acts-face y e new (action.Waits name value) is = ap (λ (x : ServerEnd). face_of x) is

plain-face : (did : Action) (f : Face) → IsPlain did → after_face did f ≡ f
plain-face action.Greets f plain = absurd plain
plain-face (Names p) f plain = absurd plain
plain-face (Opens c) f plain = absurd plain
plain-face (action.Clears sid) f plain = refl
plain-face (action.Adds s) f plain = refl
plain-face (action.Drops key) f plain = refl
plain-face (action.Switches on) f plain = refl
plain-face Nothing f plain = refl
plain-face (action.Applies name value busies) f plain = refl
plain-face (action.Waits name value) f plain = refl

-- ---- a message is handled

creates-none : (place : ℕ) (replies : List Fields) → CreateNone replies → has_created (about place Reply replies) ≡ false
creates-none place [] none = refl
creates-none place (r ∷ rs) none = go (eqb r.command 18) refl (creates-none place rs (λ q there creates. none q (suc there.0, there.1) creates))
  where
    go : (b : Bool) → eqb r.command 18 ≡ b → has_created (about place Reply rs) ≡ false → b || has_created (about place Reply rs) ≡ false
    go true is rest = absurd (none r (0, refl) (eqb-true r.command 18 is))
    go false is rest = rest

creates-one : (place : ℕ) (replies : List Fields) → CreateOne replies → has_created (about place Reply replies) ≡ true
creates-one place replies (r, there, creates) =
    any-at (λ (t : Told). eqb t.message.command (command_number command.CreateChannel)) (about place Reply replies) there.0 (record { message = r; place = place; cause = Reply })
    (At-map (λ (q : Fields). let t : Told = record { message = q; place = place; cause = Reply } in t) replies there.0 r there.1) (eq-eqb r.command 18 creates)

take-more : {A : Type 0} (xs : List A) (n : ℕ) (x : A) → At xs n x → take (n + 1) xs ≡ take n xs ++ x ∷ []
take-more [] n x at = absurd (none_at n x at)
take-more {A} (y ∷ xs) zero x at = ap (λ (z : A). z ∷ []) (some_is y x at)
take-more {A} (y ∷ xs) (suc n) x at = (let e : suc n + 1 ≡ suc (n + 1) = omega arith in ap (λ (k : ℕ). take k (y ∷ xs)) e ∙ ap (λ (l : List A). y ∷ l) (take-more xs n x at))

module _ (c : Circuit) (s : Sent) (step : Step) (replies : List Fields) (within : (k : ℕ) (h : Step) → At c.handled k h → h.sent ≤ length c.down) (at_s : At c.up (length c.handled) s) (sent : step.sent ≡ length c.down) where
  abbrev place : ℕ
  place = length c.handled

  -- the circuit as the server knows it then
  abbrev pub known_next : Circuit
  known_next = record (as_known c) { up = take (place + 1) c.up; down = c.down ++ about place Reply replies; handled = c.handled ++ step ∷ [] }

  early-forth : (k : ℕ) (m : Fields) → IsEarly (as_known c) k m → IsEarly known_next k m
  early-forth k m (r, h, at_r, at_h, is, early) =
      let lt : k < place = At-within c.handled k h at_h in (
        r,
        h,
        taken-at (place + 1) c.up k r (omega (arith, lt)) (At-take place c.up k r at_r),
        At-append c.handled (step ∷ []) k h at_h,
        is,
        ap has_created (take-front h.sent c.down (about place Reply replies) (within k h at_h)) ∙ early,
      )

  early-back : (k : ℕ) (m : Fields) → IsEarly known_next k m → IsEarly (as_known c) k m ⊎ ((m ≡ s.message) × (has_created c.down ≡ false))
  early-back k m (r, h, at_r, at_h, is, early) = elim (At-snoc c.handled step k h at_h) [
    | inl old ↦
        inl (r, h, taken-at place c.up k r (At-within c.handled k h old) (At-take (place + 1) c.up k r at_r), old, is, sym (ap has_created (take-front h.sent c.down (about place Reply replies) (within k h old))) ∙ early)
    | inr new ↦
        let same : r ≡ s = At-one c.up place r s (subst (λ (n : ℕ). At c.up n r) new.0 (At-take (place + 1) c.up k r at_r)) at_s in
        let here : take h.sent (c.down ++ about place Reply replies) ≡ c.down = ap (λ (n : ℕ). take n (c.down ++ about place Reply replies)) (ap (λ (x : Step). x.sent) new.1 ∙ sent) ∙ take-front (length c.down) c.down (about place Reply replies) (omega arith) ∙ take-whole c.down in
        inr (sym is ∙ ap (λ (x : Sent). x.message) same, sym (ap has_created here) ∙ early)
  ]

  early-now : has_created c.down ≡ false → IsEarly known_next place s.message
  early-now none = (
    s,
    step,
    taken-at (place + 1) c.up place s (omega arith) at_s,
    At-last c.handled step,
    refl,
    ap has_created (ap (λ (n : ℕ). take n (c.down ++ about place Reply replies)) sent ∙ take-front (length c.down) c.down (about place Reply replies) (omega arith) ∙ take-whole c.down) ∙ none,
  )

  -- a message that does not name the client, or no more
  names-still : (name : Command) (text : List ℕ) → (Is name s.message → has_created c.down ≡ false → ⊥) → NamesItself (as_known c) name text → NamesItself known_next name text
  names-still name text none names =
      names-as (as_known c) known_next name text early-forth
      (λ k m named early. elim (early-back k m early) [ inl old ↦ old | inr new ↦ absurd (none (subst (λ (x : Fields). Is name x) new.0 named) new.1) ]) names

  -- the one that does
  names-now : (name : Command) → Is name s.message → has_created c.down ≡ false → NamesItself known_next name (text_in s.message.payload)
  names-now name is none =
      inl (
        place,
        s.message,
        early-now none,
        is,
        refl,
        λ l r lt early named. (let at : l < length (c.handled ++ step ∷ []) = At-within (c.handled ++ step ∷ []) l early.1 early.3 in let is_more : length (c.handled ++ step ∷ []) ≡ place + 1 = length-more c.handled step in omega (arith, lt, at, is_more)),
      )

  greeted-more : list_any versions (take (place + 1) c.up) ≡ list_any versions (take place c.up) || (versions s || false)
  greeted-more = ap (λ (l : List Sent). list_any versions l) (take-more c.up place s at_s) ∙ any-append versions (take place c.up) (s ∷ [])

  greeted-same : (Is command.Version s.message → ⊥) → list_any versions (take (place + 1) c.up) ≡ list_any versions (take place c.up)
  greeted-same other = greeted-more ∙ or-none (list_any versions (take place c.up)) (versions s || false) (ap (λ (b : Bool). b || false) (ne_eqb s.message.command 0 other))

  settled-same : CreateNone replies → has_created (c.down ++ about place Reply replies) ≡ has_created c.down
  settled-same none =
      any-append (λ (t : Told). eqb t.message.command (command_number command.CreateChannel)) c.down (about place Reply replies)
      ∙ or-none (has_created c.down) (has_created (about place Reply replies)) (creates-none place replies none)

  -- what the client is called stays, and this is so of the rest
  faces : (f g : Face) → IsFace (as_known c) f → g.peer ≡ f.peer → (Is command.ClientName s.message → has_created c.down ≡ false → ⊥) → (Is command.HostName s.message → has_created c.down ≡ false → ⊥)
      → g.greeted ≡ list_any versions (take (place + 1) c.up) → g.settled ≡ has_created (c.down ++ about place Reply replies) → IsFace known_next g
  faces f g is peer user host greeted settled = record {
    greeted = greeted;
    user = subst (λ (p : Peer). NamesItself known_next command.ClientName p.user) (sym peer) (names-still command.ClientName f.peer.user user is.user);
    host = subst (λ (p : Peer). NamesItself known_next command.HostName p.host) (sym peer) (names-still command.HostName f.peer.host host is.host);
    settled = settled;
  }

  pub face-handled : (k : Knows) (f : Face) (did : Action) → k.peer ≡ f.peer → k.settled ≡ f.settled → Facing k s.message replies did → IsFace (as_known c) f → IsFace known_next (after_face did f)
  face-handled k f did peer settled (Greeting version is none) h =
      subst (λ (a : Action). IsFace known_next (after_face a f)) (sym is)
      (faces f (record f { greeted = true }) h refl (λ e q. apart 0 20 s.message.command refl version e) (λ e q. apart 0 21 s.message.command refl version e)
      (sym (greeted-more ∙ or-one (list_any versions (take place c.up)) (versions s || false) (ap (λ (b : Bool). b || false) (eq-eqb s.message.command 0 version)))) (h.settled ∙ sym (settled-same none)))
  face-handled k f did peer settled (Resting version user host plain none) h =
      subst (λ (g : Face). IsFace known_next g) (sym (plain-face did f plain))
      (faces f f h refl (λ e q. user e) (λ e q. host e) (h.greeted ∙ sym (greeted-same version)) (h.settled ∙ sym (settled-same none)))
  face-handled k f did peer settled (Opening create ch is one) h =
      subst (λ (a : Action). IsFace known_next (after_face a f)) (sym is)
      (faces f (record f { settled = true }) h refl (λ e q. apart 18 20 s.message.command refl create e) (λ e q. apart 18 21 s.message.command refl create e)
      (h.greeted ∙ sym (greeted-same (λ e. apart 18 0 s.message.command refl create e)))
      (sym (any-append (λ (t : Told). eqb t.message.command (command_number command.CreateChannel)) c.down (about place Reply replies) ∙ or-one (has_created c.down) (has_created (about place Reply replies)) (creates-one place replies one))))
  face-handled k f did peer settled (Naming name is none) h = go k.settled refl
    where
      no-version : Is command.Version s.message → ⊥
      no-version e = apart 20 0 s.message.command refl name e

      no-host : Is command.HostName s.message → has_created c.down ≡ false → ⊥
      no-host e q = apart 20 21 s.message.command refl name e

      own : Peer
      own = record k.peer { user = text_in s.message.payload }

      same : (b : Bool) → k.settled ≡ b → named k own ≡ (cond b Nothing (Names own))
      same b e = ap (λ (z : Bool). cond z Nothing (Names own)) e

      go : (b : Bool) → k.settled ≡ b → IsFace known_next (after_face did f)
      go true e =
          subst (λ (a : Action). IsFace known_next (after_face a f)) (sym (is ∙ same true e))
          (faces f f h refl (λ x q. both_ways k.settled (settled ∙ h.settled ∙ q) e) no-host (h.greeted ∙ sym (greeted-same no-version)) (h.settled ∙ sym (settled-same none)))
      go false e =
          subst (λ (a : Action). IsFace known_next (after_face a f)) (sym (is ∙ same false e)) (record {
            greeted = h.greeted ∙ sym (greeted-same no-version);
            user = names-now command.ClientName name (sym h.settled ∙ sym settled ∙ e);
            host = subst (λ (p : Peer). NamesItself known_next command.HostName p.host) (sym peer) (names-still command.HostName f.peer.host no-host h.host);
            settled = h.settled ∙ sym (settled-same none);
          })
  face-handled k f did peer settled (Hosting name is none) h = go k.settled refl
    where
      no-version : Is command.Version s.message → ⊥
      no-version e = apart 21 0 s.message.command refl name e

      no-user : Is command.ClientName s.message → has_created c.down ≡ false → ⊥
      no-user e q = apart 21 20 s.message.command refl name e

      own : Peer
      own = record k.peer { host = text_in s.message.payload }

      same : (b : Bool) → k.settled ≡ b → named k own ≡ (cond b Nothing (Names own))
      same b e = ap (λ (z : Bool). cond z Nothing (Names own)) e

      go : (b : Bool) → k.settled ≡ b → IsFace known_next (after_face did f)
      go true e =
          subst (λ (a : Action). IsFace known_next (after_face a f)) (sym (is ∙ same true e))
          (faces f f h refl no-user (λ x q. both_ways k.settled (settled ∙ h.settled ∙ q) e) (h.greeted ∙ sym (greeted-same no-version)) (h.settled ∙ sym (settled-same none)))
      go false e =
          subst (λ (a : Action). IsFace known_next (after_face a f)) (sym (is ∙ same false e)) (record {
            greeted = h.greeted ∙ sym (greeted-same no-version);
            user = subst (λ (p : Peer). NamesItself known_next command.ClientName p.user) (sym peer) (names-still command.ClientName f.peer.user no-user h.user);
            host = names-now command.HostName name (sym h.settled ∙ sym settled ∙ e);
            settled = h.settled ∙ sym (settled-same none);
          })
