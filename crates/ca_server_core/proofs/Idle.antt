-- A post to a record that a circuit does not watch leaves all as it was.
use Rattle.std.proofs.Common.{◌≡◌, ℕ, suc, ◌-◌, inl, inr, Bool, true, false, List, [], ◌∷◌, length, slice_get, Option, Some, None, refl, sym, ap, ◌∙◌, subst, arith}
use Rattle.ca_arena.specs.declared.handle.Handle.{Handle}
use Rattle.ca_ids.specs.Table.{Table, under, with_changed}
use Rattle.ca_records.specs.Puts.{Record}
use Rattle.ca_records.specs.Store.{HasAt, Store}
use Rattle.ca_text.specs.Place.{At}
use Rattle.ca_server_watchers.specs.Watching.{LeavesAt, Watched}
use Rattle.ca_model.specs.Server.{Ended, Open, ServerCircuit, ServerEnd}
use Rattle.ca_model.specs.ServerSteps.{is_concerned}
use Rattle.ca_server_circuit.specs.Posting.{PostsAt}
use Rattle.ca_server_core.specs.Covering.{watches_under}
use Rattle.ca_server_core.specs.Reaching.{IsListed, PostsIn, ReachesNext, ReachesOne, WatchesIn}
use Rattle.ca_server_core.proofs.Reached.{there-is, unreached, unwatched}
use Rattle.ca_server_core.proofs.Servers.{stayed}

both : {A : Type 0} (b : Bool) → b ≡ true → b ≡ false → A
both true p q = absurd cc
both false p q = absurd cc

pub posts-nothing : (t after : Table ServerCircuit) (h : Handle) (place mask : ℕ) (s u : Store) (on : Bool) → on ≡ false → WatchesIn t h place s on → PostsIn t h place mask s after u → (after ≡ t) × (u ≡ s)
posts-nothing t after h place mask s u on off w (inr none) = (none.1, none.2)
posts-nothing t after h place mask s u on off w (inl g) = by g.0 g.1 g.2 g.3 g.4
  where
    unseen : (e : ServerEnd) (q : Record) → under t h ≡ Some (Open e) → HasAt s place q → is_concerned q.state.name mask (Open e) ≡ false
    unseen e q there at =
        unwatched q.state.name mask (Open e)
        (ap (λ (o : Option ServerCircuit). watches_under q.state.name o) (sym there)
        ∙ ap (λ (r : Record). watches_under r.state.name (under t h)) (there-is s place q w.0 at w.1)
        ∙ sym w.2 ∙ off)

    by : (c new : ServerCircuit) → under t h ≡ Some c → PostsAt h place mask c s new u → after ≡ with_changed (λ (x : ServerCircuit). new) h t → (after ≡ t) × (u ≡ s)
    by (Ended y left) new there p changed = (stayed t after h new (Ended y left) there changed p.0, p.1)
    by (Open e) new there (q, at, inl p) changed = (
      stayed t after h new (Open e) there changed
          (p.0 ∙ unreached q.state.name mask (record { value = q.state.value; meta = q.state.meta }) (λ (g : Handle). false) h (Open e) refl (unseen e q there at)),
      p.2,
    )
    by (Open e) new there (q, at, inr p) changed = both (is_concerned q.state.name mask (Open e)) p.0 (unseen e q there at)

-- it watches the record, and had its post
pub reaches-on : (w : Watched) (t after : Table ServerCircuit) (h : Handle) (place mask watcher : ℕ) (s u : Store) (on : Bool) → on ≡ true → IsListed place watcher h w s → WatchesIn t h place s on → PostsIn t h place mask s after u
    → ReachesNext place mask watcher w t s w after u
reaches-on w t after h place mask watcher s u on hit listed watches posts =
    let r = listed.0 in
    let is : watches_under r.state.name (under t h) ≡ true =
    ap (λ (x : Record). watches_under x.state.name (under t h)) (there-is s place r watches.0 listed.1 watches.1) ∙ sym watches.2 ∙ hit in
    (r, listed.1, inl (h, listed.2, subst (λ (b : Bool). ReachesOne r.state.name place mask watcher h b w t s w after u) (sym is) (posts, refl)))

-- it no longer watches the record, and was taken out of the list
pub reaches-off : (w v : Watched) (t after : Table ServerCircuit) (h : Handle) (place mask watcher : ℕ) (s u : Store) (on : Bool) → on ≡ false → IsListed place watcher h w s → WatchesIn t h place s on → (after ≡ t) × (u ≡ s)
    → (q : Record) → HasAt u place q → LeavesAt q.state.name watcher w v → ReachesNext place mask watcher w t s v after u
reaches-off w v t after h place mask watcher s u on miss listed watches idle q at leaves =
    let r = listed.0 in
    let is : watches_under r.state.name (under t h) ≡ false =
    ap (λ (x : Record). watches_under x.state.name (under t h)) (there-is s place r watches.0 listed.1 watches.1) ∙ sym watches.2 ∙ miss in
    let same : q ≡ r = there-is s place q r (subst (λ (x : Store). HasAt x place q) idle.1 at) listed.1 in
    let gone = subst (λ (x : Record). LeavesAt x.state.name watcher w v) same leaves in
    (r, listed.1, inl (h, listed.2, subst (λ (b : Bool). ReachesOne r.state.name place mask watcher h b w t s v after u) (sym is) (gone, idle.0, idle.1)))

-- ---- the last of a list

last-there : {A : Type 0} (x : A) (xs : List A) → (y : A) × At (x ∷ xs) (length xs) y
last-there x [] = (x, refl)
last-there x (y ∷ xs) = last-there y xs

pub none-last : {A : Type 0} (xs : List A) (n : ℕ) → n ≡ length xs - 1 → slice_get xs n ≡ None → length xs ≡ 0
none-last [] n is none = refl
none-last {A} (x ∷ xs) n is none =
    let one : n ≡ length xs = is ∙ less (length xs) in
    let l = last-there x xs in
    absurd (never (sym none ∙ ap (λ (k : ℕ). slice_get (x ∷ xs) k) one ∙ l.1))
  where
    less : (k : ℕ) → suc k - 1 ≡ k
    less k = omega arith

    never : {y : A} → (let none : Option A = None in none ≡ Some y) → ⊥
    never e = cc
