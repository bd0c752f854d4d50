-- The numbers of a write that wait on circuits, by the core after its step as by the one before it:
-- the ends that differ have ended.
use Rattle.std.proofs.Common.{◌≡◌, ℕ, zero, suc, ◌==◌, ◌&&◌, Bool, true, false, List, [], ◌∷◌, Option, Some, None, refl, sym, ap, subst, ◌∙◌, inl, inr}
use Rattle.std.specs.Prelude.{filter, if◌then◌else◌, is_some, map, option_map, unwrap_or}
use Rattle.std.specs.List.{fold}
use Rattle.ca_arena.specs.declared.handle.Handle.{Handle}
use Rattle.ca_dbr.specs.Elements.{Elements}
use Rattle.ca_ids.specs.Table.{Table, same_handle, under, with_changed}
use Rattle.ca_model.proofs.Handles.{handle-or, not-same}
use Rattle.ca_model.proofs.Placed.{under-other}
use Rattle.ca_model.proofs.Tables.{changed-own}
use Rattle.ca_link.specs.Link.{with_sent}
use Rattle.ca_queue.specs.declared.entry.SubKey.{SubKey}
use Rattle.ca_wire.specs.Fields.{Fields}
use Rattle.ca_model.specs.Due.{Action, Adds, Applies, Clears, Drops, Greets, Names, Nothing, Opens, Switches, Waits}
use Rattle.ca_model.specs.Ends as why
use Rattle.ca_model.specs.Server.{Ended, Open, Server, ServerCircuit, ServerEnd, Subscription, concerns, key_of, with_post}
use Rattle.ca_model.specs.ServerSteps.{Acts, Handles, HasEnd, Reaches, Records, after_post, closed, reached, stored_now, write_mask}
use Rattle.ca_model.specs.Speech.{Stored}
use Rattle.ca_model.specs.ServerEvents.{ending, ends_at, ends_by, ends_here, keys_concerned, left_by, numbers_posted, server_closed, with_number, write_numbers}
use Rattle.ca_model.specs.World.{Joined}
use Rattle.ca_world.proofs.EndsClosed.{ends-closed, freed-as}
use Rattle.ca_world.proofs.Postings.{closed-fold, each-under}

-- ---- one circuit

-- an end ends as well with numbers more
abbrev pub IsBlind : (Joined → Option (List ℕ)) → Type 0
IsBlind ends = (key : SubKey) (j : Joined) → ends (with_number j key) ≡ ends j

module _ (ends : Joined → Option (List ℕ)) (blind : IsBlind ends) where
  fold-blind : (keys : List SubKey) (j : Joined) → ends (fold with_number j keys) ≡ ends j
  fold-blind [] j = refl
  fold-blind (key ∷ keys) j = fold-blind keys (with_number j key) ∙ blind key j

  numbers-blind : (i : ℕ) (core : Server) (name : List ℕ) (mask : ℕ) (j : Joined) → ends (numbers_posted i core name mask j) ≡ ends j
  numbers-blind i core name mask j = go (j.server == i && j.lists.server_open)
    where
      go : (b : Bool) → ends (if b then fold with_number j (keys_concerned name mask (under core.circuits j.at_server)) else j) ≡ ends j
      go true = fold-blind (keys_concerned name mask (under core.circuits j.at_server)) j
      go false = refl

  ending-as : (j : Joined) (o : Option (List ℕ)) → ends j ≡ o → ending ends j ≡ unwrap_or (option_map (λ (left : List ℕ). server_closed left j) o) j
  ending-as j o is = ap (λ (z : Option (List ℕ)). unwrap_or (option_map (λ (left : List ℕ). server_closed left j) z) j) is

  -- One core has the same keys as another of each end that does not end: the circuit, once it ended
  -- or not, is the same by both.
  module _ (i : ℕ) (a b : Server) (name : List ℕ) (mask : ℕ) where
    agree-one : (j : Joined) → (ends j ≡ None → j.server == i && j.lists.server_open ≡ true → keys_concerned name mask (under a.circuits j.at_server) ≡ keys_concerned name mask (under b.circuits j.at_server))
        → ending ends (numbers_posted i a name mask j) ≡ ending ends (numbers_posted i b name mask j)
    agree-one j keys = on (j.server == i && j.lists.server_open) refl
      where
        of : List SubKey → Joined
        of ks = fold with_number j ks

        one : List SubKey
        one = keys_concerned name mask (under a.circuits j.at_server)

        other : List SubKey
        other = keys_concerned name mask (under b.circuits j.at_server)

        over : (o : Option (List ℕ)) → ends j ≡ o → j.server == i && j.lists.server_open ≡ true → ending ends (of one) ≡ ending ends (of other)
        over None is opened = ap (λ (ks : List SubKey). ending ends (of ks)) (keys is opened)
        over (Some left) is opened =
            ending-as (of one) (Some left) (fold-blind one j ∙ is) ∙ closed-fold left one j ∙ sym (closed-fold left other j)
            ∙ sym (ending-as (of other) (Some left) (fold-blind other j ∙ is))

        on : (x : Bool) → j.server == i && j.lists.server_open ≡ x
            → ending ends (if j.server == i && j.lists.server_open then of one else j) ≡ ending ends (if j.server == i && j.lists.server_open then of other else j)
        on true is = ap (λ (x : Bool). ending ends (if x then of one else j)) is ∙ over (ends j) refl is ∙ sym (ap (λ (x : Bool). ending ends (if x then of other else j)) is)
        on false is = ap (λ (x : Bool). ending ends (if x then of one else j)) is ∙ sym (ap (λ (x : Bool). ending ends (if x then of other else j)) is)

    pub agree-all : (ks : List Joined) → ((j : Joined) → ends j ≡ None → j.server == i && j.lists.server_open ≡ true → keys_concerned name mask (under a.circuits j.at_server) ≡ keys_concerned name mask (under b.circuits j.at_server))
        → map (ending ends) (map (numbers_posted i a name mask) ks) ≡ map (ending ends) (map (numbers_posted i b name mask) ks)
    agree-all [] keys = refl
    agree-all (j ∷ ks) keys = (λ t. agree-one j (keys j) t ∷ agree-all ks keys t)

    pub agree-gone : (ks : List Joined) → ends_at ends (map (numbers_posted i a name mask) ks) ≡ ends_at ends (map (numbers_posted i b name mask) ks)
    agree-gone ks = (λ t n. each ks n t)
      where
        each : (ks : List Joined) (n : ℕ) → ends_at ends (map (numbers_posted i a name mask) ks) n ≡ ends_at ends (map (numbers_posted i b name mask) ks) n
        each [] n = refl
        each (j ∷ ks) zero = ap is_some (numbers-blind i a name mask j ∙ sym (numbers-blind i b name mask j))
        each (j ∷ ks) (suc n) = each ks n

-- ---- the core after a step

module _ (y : Server) (h : Handle) (e : ServerEnd) (has : HasEnd y h e) where
  -- the end that handled a write has its subscriptions still
  same-keys : (next : ServerEnd) → next.subscriptions ≡ e.subscriptions → (name : List ℕ) (mask : ℕ) (g : Handle) → keys_concerned name mask (under (with_changed (λ (c : ServerCircuit). Open next) h y.circuits) g) ≡ keys_concerned name mask (under y.circuits g)
  same-keys next subs name mask g = elim (handle-or g h) [
    | inr other ↦ ap (keys_concerned name mask) (under-other (λ (c : ServerCircuit). Open next) y.circuits h g other)
    | inl same ↦ subst (λ (x : Handle). keys_concerned name mask (under (with_changed (λ (c : ServerCircuit). Open next) h y.circuits) x) ≡ keys_concerned name mask (under y.circuits x)) (sym same)
        (ap (keys_concerned name mask) (changed-own (λ (c : ServerCircuit). Open next) y.circuits h (Open e) has)
        ∙ ap (λ (ss : List Subscription). map key_of (filter (concerns name mask) ss)) subs
        ∙ sym (ap (keys_concerned name mask) has))
  ]

-- a post leaves each end that did not end for it its subscriptions
reach-keys : (name : List ℕ) (mask : ℕ) (v : Stored) (gone : Handle → Bool) (a b : Server) → b ≡ after_post name mask v gone a → (g : Handle) → left_by (under b.circuits g) ≡ None
    → keys_concerned name mask (under b.circuits g) ≡ keys_concerned name mask (under a.circuits g)
reach-keys name mask v gone a b is g stays = go (under a.circuits g) refl
  where
    there : under b.circuits g ≡ option_map (reached name mask v gone g) (under a.circuits g)
    there = ap (λ (z : Server). under z.circuits g) is ∙ each-under (reached name mask v gone) a.circuits g

    go : (o : Option ServerCircuit) → under a.circuits g ≡ o → keys_concerned name mask (under b.circuits g) ≡ keys_concerned name mask (under a.circuits g)
    go None was = ap (keys_concerned name mask) (there ∙ ap (option_map (reached name mask v gone g)) was ∙ sym was)
    go (Some (Ended w left)) was = ap (keys_concerned name mask) (there ∙ ap (option_map (reached name mask v gone g)) was ∙ sym was)
    go (Some (Open e)) was = by (gone g) refl
      where
        now : under b.circuits g ≡ Some (if gone g then Ended why.OutOfMemory e.link.output else Open (with_post name mask v e))
        now = there ∙ ap (option_map (reached name mask v gone g)) was

        by : (x : Bool) → gone g ≡ x → keys_concerned name mask (under b.circuits g) ≡ keys_concerned name mask (under a.circuits g)
        by true is' =
            absurd (some-none e.link.output (sym (ap left_by (now ∙ ap (λ (x : Bool). Some (if x then Ended why.OutOfMemory e.link.output else Open (with_post name mask v e))) is')) ∙ stays))
          where
            some-none : (l : List ℕ) → (let n : Option (List ℕ) = None in Some l ≡ n) → ⊥
            some-none l z = cc
        by false is' =
            ap (keys_concerned name mask) (now ∙ ap (λ (x : Bool). Some (if x then Ended why.OutOfMemory e.link.output else Open (with_post name mask v e))) is') ∙ sym (ap (keys_concerned name mask) was)

-- what a server's circuits are once a message wrote
pub wrote-circuits : (y : Server) (h : Handle) (taken : ServerEnd) (m : Fields) (replies : List Fields) (name : List ℕ) (value : Elements) (busies : Bool) (after : Server) → Handles y h taken m replies (Applies name value busies) after
    → after.circuits ≡ with_changed (λ (c : ServerCircuit). Open (record taken { link = with_sent replies taken.link })) h y.circuits
wrote-circuits y h taken m replies name value busies after handles =
    ap (λ (z : Server). z.circuits) handles.leaves ∙ go busies handles.acted handles.recorded handles.acts handles.records
  where
    go : (b : Bool) (acted : ServerEnd) (recorded : Server) → Acts y taken (Applies name value b) acted → Records y h taken m (Applies name value b) recorded
        → with_changed (λ (c : ServerCircuit). Open (record acted { link = with_sent replies acted.link })) h recorded.circuits ≡ with_changed (λ (c : ServerCircuit). Open (record taken { link = with_sent replies taken.link })) h y.circuits
    go false acted recorded acts records = (λ t. with_changed (λ (c : ServerCircuit). Open (let a : ServerEnd = acts t in record a { link = with_sent replies a.link })) h (let z : Server = records t in z.circuits))
    go true acted recorded acts records = (λ t. with_changed (λ (c : ServerCircuit). Open (let a : ServerEnd = acts t in record a { link = with_sent replies a.link })) h (let z : Server = records.2 t in z.circuits))

module _ (y : Server) (h : Handle) (e taken : ServerEnd) (has : HasEnd y h e) (subs : taken.subscriptions ≡ e.subscriptions) (m : Fields) (replies : List Fields) (i : ℕ) (ks : List Joined) where
  -- of the ends that did not end for the write the core after it has the keys of the one before
  wrote-keys : (name : List ℕ) (value : Elements) (busies : Bool) (after mid : Server) (gone : Handle → Bool) → Handles y h taken m replies (Applies name value busies) after → mid ≡ after_post name write_mask (stored_now after value) gone after
      → (g : Handle) → left_by (under mid.circuits g) ≡ None → keys_concerned name write_mask (under mid.circuits g) ≡ keys_concerned name write_mask (under y.circuits g)
  wrote-keys name value busies after mid gone handles is g stays =
      reach-keys name write_mask (stored_now after value) gone after mid is g stays
      ∙ ap (λ (t : Table ServerCircuit). keys_concerned name write_mask (under t g)) (wrote-circuits y h taken m replies name value busies after handles)
      ∙ same-keys y h e has (record taken { link = with_sent replies taken.link }) subs name write_mask g

  -- The numbers of a message's write, on circuits once the ends that ended are told: by the core
  -- after it, and by the one before.
  module _ (after mid core : Server) (gone : Handle → Bool) (ends : Joined → Option (List ℕ)) (blind : IsBlind ends)
      (quits : (j : Joined) → ends j ≡ None → j.server == i && j.lists.server_open ≡ true → (under core.circuits j.at_server ≡ under mid.circuits j.at_server) × (left_by (under mid.circuits j.at_server) ≡ None)) where
    keys : (name : List ℕ) (value : Elements) (busies : Bool) → Handles y h taken m replies (Applies name value busies) after → mid ≡ after_post name write_mask (stored_now after value) gone after
        → (j : Joined) → ends j ≡ None → j.server == i && j.lists.server_open ≡ true → keys_concerned name write_mask (under core.circuits j.at_server) ≡ keys_concerned name write_mask (under y.circuits j.at_server)
    keys name value busies handles is j none opened =
        let q = quits j none opened in
        ap (keys_concerned name write_mask) q.0 ∙ wrote-keys name value busies after mid gone handles is j.at_server q.1

    pub writes-agree : (action : Action) → Handles y h taken m replies action after → Reaches action gone after mid
        → map (ending ends) (map (write_numbers i core action) ks) ≡ map (ending ends) (map (write_numbers i y action) ks)
    writes-agree (Applies name value busies) handles reaches = agree-all ends blind i core y name write_mask ks (keys name value busies handles reaches.1)
    writes-agree (Waits name value) handles reaches = refl
    writes-agree (Clears sid) handles reaches = refl
    writes-agree Nothing handles reaches = refl
    writes-agree Greets handles reaches = refl
    writes-agree (Names p) handles reaches = refl
    writes-agree (Opens c) handles reaches = refl
    writes-agree (Adds s) handles reaches = refl
    writes-agree (Drops key) handles reaches = refl
    writes-agree (Switches on) handles reaches = refl

    pub gone-agree : (action : Action) → Handles y h taken m replies action after → Reaches action gone after mid
        → ends_at ends (map (write_numbers i core action) ks) ≡ ends_at ends (map (write_numbers i y action) ks)
    gone-agree (Applies name value busies) handles reaches = agree-gone ends blind i core y name write_mask ks
    gone-agree (Waits name value) handles reaches = refl
    gone-agree (Clears sid) handles reaches = refl
    gone-agree Nothing handles reaches = refl
    gone-agree Greets handles reaches = refl
    gone-agree (Names p) handles reaches = refl
    gone-agree (Opens c) handles reaches = refl
    gone-agree (Adds s) handles reaches = refl
    gone-agree (Drops key) handles reaches = refl
    gone-agree (Switches on) handles reaches = refl

-- ---- the two ways in which ends end

-- of the ends at server i those that did not end in the call, and are none of another
-- circuit that is closed
pub quits-by : (i : ℕ) (core : Server) (j : Joined) → ends_by i core j ≡ None → j.server == i && j.lists.server_open ≡ true → left_by (under core.circuits j.at_server) ≡ None
quits-by i core j none opened = sym (ap (λ (b : Bool). if b then left_by (under core.circuits j.at_server) else None) opened) ∙ none

pub quits-here : (j : Joined) (left : List ℕ) (i : ℕ) (mid : Server) (c : Joined) → ends_here j left i (closed j.at_server mid) c ≡ None → c.server == i && c.lists.server_open ≡ true
    → (under (closed j.at_server mid).circuits c.at_server ≡ under mid.circuits c.at_server) × (left_by (under mid.circuits c.at_server) ≡ None)
quits-here j left i mid c none opened = go (same_handle c.at_server j.at_server) refl
  where
    now : ends_here j left i mid c ≡ None
    now = sym (ap (λ (f : Joined → Option (List ℕ)). f c) (ends-closed j left i mid)) ∙ none

    go : (b : Bool) → same_handle c.at_server j.at_server ≡ b → (under (closed j.at_server mid).circuits c.at_server ≡ under mid.circuits c.at_server) × (left_by (under mid.circuits c.at_server) ≡ None)
    go true is =
        absurd (some-none left (sym (λ t. if is t && opened t then Some left else ends_by i mid c) ∙ now))
      where
        some-none : (l : List ℕ) → (let n : Option (List ℕ) = None in Some l ≡ n) → ⊥
        some-none l z = cc
    go false is = (
      freed-as mid.circuits c.at_server j.at_server (not-same c.at_server j.at_server is),
      sym (λ t. if is t && opened t then Some left else if opened t then left_by (under mid.circuits c.at_server) else None) ∙ now,
    )
