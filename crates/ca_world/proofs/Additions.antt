-- A record is added at a server, from what its parts became.
use Rattle.std.proofs.Common.{◌≡◌, ◌∙◌, ℕ, zero, suc, ◌<◌, ◌≤◌, inl, inr, true, false, List, [], ◌∷◌, ◌++◌, None, Result, Ok, Err, length, refl, sym, ap, subst, arith}
use Rattle.std.specs.Prelude.{◌⊎◌, drop, map, slice_set, take}
use Rattle.std.proofs.lemmas.List.{length-map}
use Rattle.ca_records.specs.Puts.{Record, new_record, record_named}
use Rattle.ca_records.specs.Record.{RecordState}
use Rattle.ca_text.specs.declared.refusal.Refusal.{Refusal}
use Rattle.ca_text.specs.declared.refusal.Refusal.TheVariants.{OutOfMemory}
use Rattle.ca_text.specs.Place.{At}
use Rattle.ca_text.proofs.Places.{At-map, At-mapped, some_is}
use Rattle.ca_model.specs.History.{Entry, Line}
use Rattle.ca_model.specs.Server.{Server}
use Rattle.ca_model.specs.ServerCalls.{AddsRecord}
use Rattle.ca_model.specs.Events.{Add}
use Rattle.ca_model.specs.Runs.{IsServer}
use Rattle.ca_model.specs.World as model
use Rattle.ca_laws_parts.specs.Agrees.{Agrees, AreOthers, Lack}
use Rattle.ca_laws_parts.specs.Lives.{IsPutOf}
use Rattle.ca_laws_parts.specs.Both.{Both}
use Rattle.ca_laws_parts.proofs.BytesRuns.{reached}
use Rattle.ca_server_core.specs.ForHistories.{AreNamedApart, ComesBefore}
use Rattle.ca_server_core.proofs.Ordered.{named-some}
use Rattle.ca_world_data.specs.declared.client.ClientSide.{ClientSide}
use Rattle.ca_world_data.specs.declared.joined.Joined.{Joined}
use Rattle.ca_world_data.specs.declared.server.ServerSide.{ServerSide}
use Rattle.ca_world_data.specs.Does.{Does}
use Rattle.ca_world_data.specs.Seen.{client_of, joined_of, server_of}
use Rattle.ca_world_data.proofs.Worlds.{server-stays, set-map, world_of}
use Rattle.ca_world.specs.Adding.{AddsAt, AreInOrder, AreLike, StandsBehind}
use Rattle.ca_world.specs.Whole.{IsReached}

-- ---- one more among others

abbrev pub put_at : {A : Type 0} → ℕ → A → List A → List A
put_at n x xs = take n xs ++ x ∷ drop n xs

module _ {A : Type 0} where
  here-at : (n : ℕ) (x : A) (xs : List A) → n ≤ length xs → At (put_at n x xs) n x
  here-at zero x xs le = refl
  here-at (suc n) x [] le = absurd (omega (arith, le))
  here-at (suc n) x (y ∷ xs) le = here-at n x xs (omega (arith, le))

  below-at : (n : ℕ) (x : A) (xs : List A) (k : ℕ) (z : A) → k < n → At xs k z → At (put_at n x xs) k z
  below-at zero x xs k z less at = absurd (omega (arith, less))
  below-at (suc n) x [] k z less at = absurd cc
  below-at (suc n) x (y ∷ xs) zero z less at = at
  below-at (suc n) x (y ∷ xs) (suc k) z less at = below-at n x xs k z (omega (arith, less)) at

  above-at : (n : ℕ) (x : A) (xs : List A) (k : ℕ) (z : A) → n ≤ k → At xs k z → At (put_at n x xs) (suc k) z
  above-at zero x xs k z le at = at
  above-at (suc n) x [] k z le at = absurd cc
  above-at (suc n) x (y ∷ xs) zero z le at = absurd (omega (arith, le))
  above-at (suc n) x (y ∷ xs) (suc k) z le at = above-at n x xs k z (omega (arith, le)) at

  -- what is there is the one, or stood at this place
  abbrev pub WasAt : ℕ → A → List A → ℕ → A → Type 0
  WasAt n x xs i z = ((i ≡ n) × (z ≡ x)) ⊎ ((k : ℕ) × At xs k z × (((k < n) × (i ≡ k)) ⊎ ((n ≤ k) × (i ≡ suc k))))

  was-at : (n : ℕ) (x : A) (xs : List A) (i : ℕ) (z : A) → n ≤ length xs → At (put_at n x xs) i z → WasAt n x xs i z
  was-at zero x xs zero z le at = inl (refl, sym (some_is x z at))
  was-at zero x xs (suc i) z le at = inr (i, at, inr (omega arith, refl))
  was-at (suc n) x [] i z le at = absurd (omega (arith, le))
  was-at (suc n) x (y ∷ xs) zero z le at = inr (0, at, inl (omega arith, refl))
  was-at (suc n) x (y ∷ xs) (suc i) z le at = on (was-at n x xs i z (omega (arith, le)) at)
    where
      on : WasAt n x xs i z → WasAt (suc n) x (y ∷ xs) (suc i) z
      on (inl (is, same)) = inl (ap suc is, same)
      on (inr (k, there, inl (less, is))) = inr (suc k, there, inl (omega (arith, less), ap suc is))
      on (inr (k, there, inr (more, is))) = inr (suc k, there, inr (omega (arith, more), ap suc is))

  -- after all of them at most
  pub clamped : (n : ℕ) (xs : List A) → (m : ℕ) × (m ≤ length xs) × (take m xs ≡ take n xs) × (drop m xs ≡ drop n xs)
  clamped zero xs = (0, omega arith, refl, refl)
  clamped (suc n) [] = (0, omega arith, refl, refl)
  clamped (suc n) (x ∷ xs) = (let r = clamped n xs in let le = r.1 in (suc r.0, omega (arith, le), ap (λ (ys : List A). x ∷ ys) r.2, r.3))

pub map-put : {A B : Type 0} (f : A → B) (n : ℕ) (x : A) (xs : List A) → map f (put_at n x xs) ≡ put_at n (f x) (map f xs)
map-put f zero x xs = refl
map-put f (suc n) x [] = refl
map-put f (suc n) x (y ∷ xs) = ap (λ zs. f y ∷ zs) (map-put f n x xs)

-- ---- names

-- no two have one name still
pub apart-put : (n : ℕ) (r : Record) (cs : List Record) → n ≤ length cs → record_named cs r.state.name ≡ None → AreNamedApart cs → AreNamedApart (put_at n r cs)
apart-put n r cs le none apart i j a b at to same = go (was-at n r cs i a le at) (was-at n r cs j b le to)
  where
    go : WasAt n r cs i a → WasAt n r cs j b → i ≡ j
    go (inl (is, a_is)) (inl (is', b_is)) = is ∙ sym is'
    go (inl (is, a_is)) (inr (k, there, how)) = absurd (named-some cs r.state.name k b there (sym same ∙ ap (λ (c : Record). c.state.name) a_is) none)
    go (inr (k, there, how)) (inl (is', b_is)) = absurd (named-some cs r.state.name k a there (same ∙ ap (λ (c : Record). c.state.name) b_is) none)
    go (inr (k, there, inl (less, is))) (inr (l, there', inl (less', is'))) = is ∙ apart k l a b there there' same ∙ sym is'
    go (inr (k, there, inr (more, is))) (inr (l, there', inr (more', is'))) = is ∙ ap suc (apart k l a b there there' same) ∙ sym is'
    go (inr (k, there, inl (less, is))) (inr (l, there', inr (more', is'))) = (let e = apart k l a b there there' same in absurd (omega (arith, e, less, more')))
    go (inr (k, there, inr (more, is))) (inr (l, there', inl (less', is'))) = (let e = apart k l a b there there' same in absurd (omega (arith, e, less', more)))

-- beside each stands one of its name
like-at : (cs : List Record) (rs : List model.RecordSide) → AreLike cs rs → (k : ℕ) (q : model.RecordSide) → At rs k q → (c : Record) × At cs k c × (c.state.name ≡ q.name)
like-at cs rs like k q at =
    let d = At-mapped (λ (c : Record). c.state.name) cs k q.name (subst (λ (ns : List (List ℕ)). At ns k q.name) (sym like) (At-map (λ (r : model.RecordSide). r.name) rs k q at)) in
    (d.0, d.1, sym d.2)

like-length : (cs : List Record) (rs : List model.RecordSide) → AreLike cs rs → length cs ≡ length rs
like-length cs rs like = sym (length-map cs (λ (c : Record). c.state.name)) ∙ ap length like ∙ length-map rs (λ (r : model.RecordSide). r.name)

-- ---- counting those before

split : (k n : ℕ) → k ≤ n → (k < n) ⊎ (k ≡ n)
split zero zero le = inr refl
split zero (suc n) le = inl (omega arith)
split (suc k) zero le = absurd (omega (arith, le))
split (suc k) (suc n) le = on (split k n (omega (arith, le)))
  where
    on : (k < n) ⊎ (k ≡ n) → (suc k < suc n) ⊎ (suc k ≡ suc n)
    on (inl less) = inl (omega (arith, less))
    on (inr is) = inr (ap suc is)

module _ (n : ℕ) (cs : List Record) (rs : List model.RecordSide) (name : List ℕ) (s : StandsBehind n cs rs name) where
  stands : At cs n s.r
  stands = subst (λ (xs : List Record). At xs n s.r) (sym s.is) (here-at n s.r s.old s.within)

  pub count-on : (k : ℕ) (q : model.RecordSide) → k ≤ n → At rs k q → ComesBefore cs q.name name true → suc k ≤ n
  count-on k q le at before = go (split k n le)
    where
      go : (k < n) ⊎ (k ≡ n) → suc k ≤ n
      go (inl less) = omega (arith, less)
      go (inr is) =
          let d = like-at s.old rs s.like k q at in
          let there : At cs (suc k) d.0 = subst (λ (xs : List Record). At xs (suc k) d.0) (sym s.is) (above-at n s.r s.old k d.0 (omega (arith, is)) d.1) in
          let less : suc k < n = (before s.apart (suc k) n d.0 s.r there stands d.2 s.named).0 refl in
          absurd (omega (arith, is, less))

  pub count-at : (k : ℕ) (q : model.RecordSide) → k ≤ n → At rs k q → ComesBefore cs q.name name false → k ≡ n
  count-at k q le at before = go (split k n le)
    where
      go : (k < n) ⊎ (k ≡ n) → k ≡ n
      go (inr is) = is
      go (inl less) =
          let d = like-at s.old rs s.like k q at in
          let there : At cs k d.0 = subst (λ (xs : List Record). At xs k d.0) (sym s.is) (below-at n s.r s.old k d.0 less d.1) in
          let most : n ≤ k = (before s.apart k n d.0 s.r there stands d.2 s.named).1 refl in
          absurd (omega (arith, less, most))

  pub count-all : (k : ℕ) → k ≤ n → length rs ≤ k → k ≡ n
  count-all k le all = (let same : length s.old ≡ length rs = like-length s.old rs s.like in let w = s.within in omega (arith, le, all, same, w))

-- ---- a server after it

-- it is after as many as are there
pub stands-behind : (s : RecordState) (y core : Server) (n m : ℕ) (rs : List model.RecordSide) → AddsRecord y s n (Ok tt) core → AreInOrder y.records rs → m ≤ length y.records → take m y.records ≡ take n y.records → drop m y.records ≡ drop n y.records → StandsBehind m core.records rs s.name
stands-behind s y core n m rs adds order within before behind =
    let is : core.records ≡ put_at m (new_record s) y.records = ap (λ (z : Server). z.records) adds.1 ∙ sym (λ t. before t ++ new_record s ∷ behind t) in
    record {
      old = y.records;
      r = new_record s;
      named = refl;
      is = is;
      within = within;
      like = order.like;
      apart = subst AreNamedApart (sym is) (apart-put m (new_record s) y.records within adds.0.1 order.apart);
    }

pub adds-behind : (s : RecordState) (y core : Server) (n m : ℕ) → AddsRecord y s n (Ok tt) core → take m y.records ≡ take n y.records → drop m y.records ≡ drop n y.records → AddsRecord y s m (Ok tt) core
adds-behind s y core n m adds before behind = (adds.0, adds.1 ∙ sym (λ t. record y { records = before t ++ new_record s ∷ behind t }))

-- what its core refused changed nothing
pub adds-same : (s : RecordState) (y core : Server) (n : ℕ) (e : Refusal) → AddsRecord y s n (Err e) core → core ≡ y
adds-same s y core n OutOfMemory d = d.1
adds-same s y core n e d = d.1

-- ---- in every run

both-names : (cs : List Record) (rs : List model.RecordSide) (Q : Record → model.RecordSide → Type 0) → ((c : Record) (r : model.RecordSide) → Q c r → c.state.name ≡ r.name) → Both Q cs rs → AreLike cs rs
both-names [] [] Q same both = refl
both-names [] (r ∷ rs) Q same both = absurd both
both-names (c ∷ cs) [] Q same both = absurd both
both-names (c ∷ cs) (r ∷ rs) Q same both = (λ t. same c r both.0 t ∷ both-names cs rs Q same both.1 t)

lack-at : (name : List ℕ) (number : ℕ) (rs : List model.RecordSide) → Lack name number rs → (k : ℕ) (r : model.RecordSide) → At rs k r → r.name ≡ name → ⊥
lack-at name number [] lack k r at same = absurd cc
lack-at name number (x ∷ rs) lack zero r at same = lack.0.0 (ap (λ (z : model.RecordSide). z.name) (some_is x r at) ∙ same)
lack-at name number (x ∷ rs) lack (suc k) r at same = lack-at name number rs lack.1 k r at same

pub others-apart : (rs : List model.RecordSide) → AreOthers rs → (i j : ℕ) (a b : model.RecordSide) → At rs i a → At rs j b → a.name ≡ b.name → i ≡ j
others-apart [] others i j a b at to same = absurd cc
others-apart (x ∷ rs) others zero zero a b at to same = refl
others-apart (x ∷ rs) others zero (suc j) a b at to same = absurd (lack-at x.name x.number rs others.0 j b to (sym same ∙ sym (ap (λ (z : model.RecordSide). z.name) (some_is x a at))))
others-apart (x ∷ rs) others (suc i) zero a b at to same = absurd (lack-at x.name x.number rs others.0 i a at (same ∙ sym (ap (λ (z : model.RecordSide). z.name) (some_is x b to))))
others-apart (x ∷ rs) others (suc i) (suc j) a b at to same = ap suc (others-apart rs others.1 i j a b at to same)

-- the records of a core, by the names of those beside it
apart-by : (cs : List Record) (rs : List model.RecordSide) → AreLike cs rs → AreOthers rs → AreNamedApart cs
apart-by cs rs like others i j a b at to same =
    let d = beside i a at in
    let e = beside j b to in
    others-apart rs others i j d.0 e.0 d.1 e.1 (sym d.2 ∙ same ∙ e.2)
  where
    beside : (k : ℕ) (c : Record) → At cs k c → (r : model.RecordSide) × At rs k r × (c.state.name ≡ r.name)
    beside k c there = At-mapped (λ (r : model.RecordSide). r.name) rs k c.state.name (subst (λ (ns : List (List ℕ)). At ns k c.state.name) like (At-map (λ (z : Record). z.state.name) cs k c there))

pub run-order : (w : model.World) (i : ℕ) (y : model.ServerSide) → IsReached w → At w.servers i y → AreInOrder y.core.records y.records
run-order w i y at_run at =
    let s = reached w (at_run.0, at_run.1, None, at_run.2, (w, at_run.3, refl)) in
    let l = s.1.sound.writes.lives i y at in
    let like : AreLike y.core.records y.records = both-names y.core.records y.records (Agrees (IsPutOf w.circuits i) l.log) (λ c r a. a.name) l.life.each in
    record { like = like; apart = apart-by y.core.records y.records like l.life.others }

-- ---- a world after it

module _ (cs : List ClientSide) (ss : List ServerSide) (ks : List Joined) (cl : List (List Line)) (sl : List (List Entry)) (m : ℕ) (i : ℕ) (y : ServerSide) (at : At ss i y) (s : RecordState) where
  abbrev there : IsServer (world_of cs ss ks cl sl m) i
  there = record { y = server_of y; at = At-map server_of ss i y at }

  pub add-does : (y' : ServerSide) (sl' : List (List Entry)) (r : Result (Unit {0}) Refusal) → AddsAt s (server_of y) sl r (server_of y') sl' → Does (world_of cs ss ks cl sl m) (Add i s) r (world_of cs (slice_set ss i y') ks cl sl' m)
  add-does y' sl' (Ok u) (core, behind, inl (adds, is_y, is_l)) = (
    there,
    (
      core,
      behind,
      inl (
        adds,
        λ t. record {
          clients = map client_of cs;
          servers = (set-map server_of ss i y' ∙ ap (slice_set (map server_of ss) i) is_y) t;
          circuits = map joined_of ks;
          client_logs = cl;
          server_logs = is_l t;
          moment = m;
        },
      ),
    ),
  )
  add-does y' sl' (Ok u) (core, behind, inr (e, other, adds, is_y, is_l)) = (there, (core, behind, inr (e, other, adds, server-stays cs ss ks ks cl sl sl' m i y y' at is_y refl is_l)))
  add-does y' sl' (Err OutOfMemory) (may, is_y, is_l) = ((there, may), server-stays cs ss ks ks cl sl sl' m i y y' at is_y refl is_l)
  add-does y' sl' (Err _) d = absurd d
