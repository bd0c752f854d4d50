-- What a message did, by its effect; and whether it wrote, if its step closed its end, by what was
-- foreseen of it and the count of applied writes.
use Rattle.std.proofs.Common.{◌≡◌, ℕ, zero, suc, ◌+◌, ◌<◌, ◌⊎◌, inl, inr, Bool, true, false, cond, not, ◌&&◌, ◌||◌, eqb, eq-eqb, eqb-true, List, [], ◌∷◌, length, Option, Some, None, refl, sym, ap, subst, ◌∙◌, arith, rules}
use Rattle.std.specs.Prelude.{◌%◌, ◌*◌, ◌==◌, if◌then◌else◌, min, nat_lt}
use Rattle.std.specs.List.{list_any}
use Rattle.std.proofs.lemmas.Bool.{both_ways, le-ltb, lt-ltb}
use Rattle.ca_arena.specs.declared.handle.Handle.{Handle}
use Rattle.ca_dbr.specs.Elements.{Elements}
use Rattle.ca_dbr.specs.Held.{display_of}
use Rattle.ca_display.specs.declared.image_type.ImageType.{ImageType}
use Rattle.ca_display.specs.Types.{base_in}
use Rattle.ca_records.specs.Rules.{may_read}
use Rattle.ca_text.specs.Status.{add_fail, bad_count, bad_type, no_convert, no_read_access}
use Rattle.ca_queue.specs.Circuit.{HasNone}
use Rattle.ca_queue.specs.declared.entry.SubKey.{SubKey}
use Rattle.ca_queue.specs.Keys.{is_among}
use Rattle.ca_records.specs.Record.{RecordState}
use Rattle.ca_text.specs.Command.{command_number}
use Rattle.ca_text.specs.declared.command.Command.{Command}
use Rattle.ca_text.specs.declared.command.Command.TheVariants as command
use Rattle.ca_text.specs.Limits.{applied_limit, circuit_queues, queue_subscriptions}
use Rattle.ca_text.specs.Place.{At}
use Rattle.ca_text.proofs.Places.{some_is}
use Rattle.ca_wire.specs.Fields.{Fields}
use Rattle.ca_wire.specs.Messages.{mask_in}
use Rattle.ca_model.specs.Due.{Action, Adds, Applies, Clears, Drops, Due, Greets, KnownChannel, Knows, Names, Nothing, Opens, PutTaken, Serves, Switches, Waits, fault_of_event, is_known, key_in, must_wait, rights_at, subscription_in}
use Rattle.ca_model.specs.Ends.{Peer}
use Rattle.ca_model.specs.Faults.{subscribed_count, subscription_fault, too_many}
use Rattle.ca_model.specs.Images.{image_type_of, lacks_conversion_to, lacks_type}
use Rattle.ca_model.specs.Server.{Server, ServerEnd, Subscription, key_of}
use Rattle.ca_model.specs.ServerSteps.{Handles, HasEnd, LeftOf, Next, Reaches, Records, closed, knows}
use Rattle.ca_model.specs.World.{Joined}
use Rattle.ca_server_circuit.specs.Effects.{effect_due}
use Rattle.ca_server_circuit.specs.Peeking.{is_write}
use Rattle.ca_server_circuit.specs.declared.effect.Effect.{Effect}
use Rattle.ca_server_circuit.specs.declared.effect.Effect.TheVariants as effect
use Rattle.ca_world_data.specs.Numbering.{AreAlike, keys_on}
use Rattle.ca_world_servers.specs.declared.coming.Coming.{Coming}
use Rattle.ca_world_servers.specs.Coming.{Foresees, IsComing, busies_by}
use Rattle.ca_world_servers.specs.Effects.{BeginsNew, IsWrite, busies_in, wrote_by, wrote_in}
use Rattle.ca_server_circuit.proofs.Could.{faultless-6}
use Rattle.ca_world_servers.specs.Losing.{AreSeated}

-- ---- what is due, by what it does

or-cases : (a b : Bool) → a || b ≡ true → (a ≡ true) ⊎ (b ≡ true)
or-cases true b e = inl refl
or-cases false b e = inr e

pub any-of : (n : ℕ) (cs : List Command) → list_any (λ (c : Command). eqb n (command_number c)) cs ≡ true → (P : ℕ → Type 0) → ((i : ℕ) (c : Command) → At cs i c → P (command_number c)) → P n
any-of n [] some P each = absurd cc
any-of n (c ∷ cs) some P each = elim (or-cases (eqb n (command_number c)) (list_any (λ (c : Command). eqb n (command_number c)) cs) some) [
  | inl is ↦ subst P (sym (eqb-true n (command_number c) is)) (each 0 c refl)
  | inr later ↦ any-of n cs later P (λ i d at. each (suc i) d at)
]

abbrev pub Each : (ℕ → Type 0) → List Command → Type 0
Each P [] = Unit {0}
Each P (c ∷ cs) = P (command_number c) × Each P cs

pub each-at : (P : ℕ → Type 0) (cs : List Command) → Each P cs → (i : ℕ) (c : Command) → At cs i c → P (command_number c)
each-at P [] each i c at = absurd cc
each-at P (d ∷ cs) each zero c at = subst (λ (x : Command). P (command_number x)) (some_is d c at) each.0
each-at P (d ∷ cs) each (suc i) c at = each-at P cs each.1 i c at

abbrev pub commands : List Command
commands =
    command.Version ∷ command.EventAdd ∷ command.EventCancel ∷ command.Write ∷ command.Search ∷ command.EventsOff ∷ command.EventsOn ∷ command.ClearChannel
    ∷ command.ReadNotify ∷ command.CreateChannel ∷ command.WriteNotify ∷ command.ClientName ∷ command.HostName ∷ command.Echo ∷ []

pub known-or : (b : Bool) → (b ≡ true) ⊎ (b ≡ false)
known-or true = inl refl
known-or false = inr refl

-- what is so of each thing that a message may do
pub record Cases (k : Knows) (m : Fields) (did : Action) (P : Type 0) : Type 0 where
  pub nothing : did ≡ Nothing → P
  pub greets : did ≡ Greets → P
  pub names : (p : Peer) → did ≡ Names p → P
  pub opens : m.command ≡ command_number command.CreateChannel → (c : KnownChannel) → did ≡ Opens c → P
  pub clears : m.command ≡ command_number command.ClearChannel → did ≡ Clears m.p1 → P
  pub adds : m.command ≡ command_number command.EventAdd → (c : Serves k m.p1) → fault_of_event k m c ≡ None → did ≡ Adds (subscription_in m c.channel.name) → P
  pub drops : m.command ≡ command_number command.EventCancel → did ≡ Drops (key_in m) → P
  pub off : m.command ≡ command_number command.EventsOff → did ≡ Switches false → P
  pub on : m.command ≡ command_number command.EventsOn → did ≡ Switches true → P
  pub writes : m.command ≡ command_number command.Write → (c : Serves k m.p1) (v : Elements) → PutTaken k m c v → did ≡ Applies c.channel.name v false → P
  pub puts : m.command ≡ command_number command.WriteNotify → (c : Serves k m.p1) (v : Elements) → PutTaken k m c v → did ≡ cond (must_wait k m c) (Waits c.channel.name v) (Applies c.channel.name v c.known.state.slow) → P

pub due-cases : (k : Knows) (m : Fields) (replies : List Fields) (did : Action) (P : Type 0) → Due k m replies did → Cases k m did P → P
due-cases k m replies did P due each =
    elim (known-or (is_known m.command)) [
      | inr other ↦ each.nothing (due.other other).1
      | inl known ↦ any-of m.command commands known When (each-at When commands (
        (λ e. each.greets (due.version e).1),
        (
          (λ e. elim (due.subscribe e) [
            | inl served ↦ elim served.1 [ inl refused ↦ each.nothing refused.3 | inr added ↦ each.adds e served.0 added.0 added.2 ]
            | inr stray ↦ each.nothing stray.3
          ]),
          (
            (λ e. each.drops e (due.cancel e).1),
            (
              (λ e. elim (due.write e) [
                | inl served ↦ elim served.1 [ inl refused ↦ each.nothing refused.3 | inr taken ↦ each.writes e served.0 taken.0 taken.1 taken.3 ]
                | inr stray ↦ each.nothing stray.3
              ]),
              (
                (λ e. each.nothing (due.search e).1),
                (
                  (λ e. each.off e (due.off e).1),
                  (
                    (λ e. each.on e (due.on e).1),
                    (
                      (λ e. each.clears e (due.clear e).1),
                      (
                        (λ e. elim (due.read e) [ inl served ↦ each.nothing served.1 | inr stray ↦ each.nothing stray.3 ]),
                        (
                          (λ e. elim (due.create e) [ inl made ↦ each.opens e _ made.does | inr none ↦ each.nothing none.does ]),
                          (
                            (λ e. elim (due.put e) [
                              | inl served ↦ elim served.1 [ inl refused ↦ each.nothing refused.3 | inr taken ↦ each.puts e served.0 taken.0 taken.1 taken.3 ]
                              | inr stray ↦ each.nothing stray.3
                            ]),
                            (
                              (λ e. names-itself k.settled _ (due.user e).1),
                              ((λ e. names-itself k.settled _ (due.host e).1), ((λ e. each.nothing (due.echo e).1), tt)),
                            ),
                          ),
                        ),
                      ),
                    ),
                  ),
                ),
              ),
            ),
          ),
        ),
      )) refl
    ]
  where
    When : ℕ → Type 0
    When n = m.command ≡ n → P

    names-itself : (b : Bool) (p : Peer) → did ≡ cond b Nothing (Names p) → P
    names-itself true p is = each.nothing is
    names-itself false p is = each.names p is

-- whether an action is a write that is applied, and then whether that makes its record busy
abbrev pub busies_of : Action → Option Bool
busies_of (Applies name value busies) = Some busies
busies_of did = None

-- ---- how many writes were applied

applied-reached : (did : Action) (gone : Handle → Bool) (mid new : Server) → Reaches did gone mid new → new.applied ≡ mid.applied
applied-reached (Applies name value busies) gone mid new reaches = ap (λ (x : Server). x.applied) reaches.1
applied-reached Nothing gone mid new reaches = ap (λ (x : Server). x.applied) reaches.1
applied-reached Greets gone mid new reaches = ap (λ (x : Server). x.applied) reaches.1
applied-reached (Names p) gone mid new reaches = ap (λ (x : Server). x.applied) reaches.1
applied-reached (Opens c) gone mid new reaches = ap (λ (x : Server). x.applied) reaches.1
applied-reached (Clears sid) gone mid new reaches = ap (λ (x : Server). x.applied) reaches.1
applied-reached (Waits name value) gone mid new reaches = ap (λ (x : Server). x.applied) reaches.1
applied-reached (Adds s) gone mid new reaches = ap (λ (x : Server). x.applied) reaches.1
applied-reached (Drops key) gone mid new reaches = ap (λ (x : Server). x.applied) reaches.1
applied-reached (Switches on) gone mid new reaches = ap (λ (x : Server). x.applied) reaches.1

raised : (n limit : ℕ) → n < limit → n < min (n + 1) limit
raised n limit l = search rules

abbrev told_if : Bool → Option Bool → Option Bool
told_if counted busies = cond counted busies None

-- what the count tells of a write that makes its record busy, or not
module _ (y : Server) (h : Handle) (e : ServerEnd) (m : Fields) (recorded core : Server) (busies : Option Bool) (same : core.applied ≡ recorded.applied) (below : y.applied < applied_limit) where
  none-written : y.applied ≡ recorded.applied → told_if (nat_lt y.applied core.applied) busies ≡ None
  none-written is = ap (λ (b : Bool). told_if b busies) (le-ltb y.applied core.applied (omega (arith, is, same)))

  one-written : recorded.applied ≡ min (y.applied + 1) applied_limit → told_if (nat_lt y.applied core.applied) busies ≡ busies
  one-written is =
      let more : y.applied < min (y.applied + 1) applied_limit = raised y.applied applied_limit below in
      let less : y.applied < core.applied = subst (λ (n : ℕ). y.applied < n) (sym (same ∙ is)) more in
      ap (λ (b : Bool). told_if b busies) (lt-ltb y.applied core.applied less)

  written : (did : Action) → Records y h e m did recorded → ((name : List ℕ) (value : Elements) (b : Bool) → did ≡ Applies name value b → busies ≡ Some b) → told_if (nat_lt y.applied core.applied) busies ≡ busies_of did
  written (Applies name value false) makes is = one-written (ap (λ (x : Server). x.applied) makes) ∙ is name value false refl
  written (Applies name value true) makes is = one-written (ap (λ (x : Server). x.applied) makes.2) ∙ is name value true refl
  written (Waits name value) makes is = none-written (ap (λ (x : Server). x.applied) (sym makes.2))
  written (Clears sid) makes is = none-written (ap (λ (x : Server). x.applied) (sym makes))
  written Nothing makes is = none-written (ap (λ (x : Server). x.applied) (sym makes))
  written Greets makes is = none-written (ap (λ (x : Server). x.applied) (sym makes))
  written (Names p) makes is = none-written (ap (λ (x : Server). x.applied) (sym makes))
  written (Opens c) makes is = none-written (ap (λ (x : Server). x.applied) (sym makes))
  written (Adds s) makes is = none-written (ap (λ (x : Server). x.applied) (sym makes))
  written (Drops key) makes is = none-written (ap (λ (x : Server). x.applied) (sym makes))
  written (Switches on) makes is = none-written (ap (λ (x : Server). x.applied) (sym makes))

-- ---- whether it makes its record busy

and-is : (a b : Bool) → a ≡ true → a && b ≡ b
and-is true b e = refl
and-is false b e = absurd cc

-- what was foreseen of a write
comes-busies : (k : Knows) (m : Fields) (c : Serves k m.p1) (v : Elements) (write : Option Coming) → IsComing k m c v write → busies_in write ≡ Some (busies_by m c.known.state)
comes-busies k m c v (Some w) comes = ap Some comes.2
comes-busies k m c v None comes = absurd comes

-- is what is done
busies-as : (k : Knows) (m : Fields) (write : Option Coming) → ((c : Serves k m.p1) (v : Elements) → PutTaken k m c v → IsComing k m c v write) → (replies : List Fields) (name : List ℕ) (value : Elements) (busies : Bool) → Due k m replies (Applies name value busies) → busies_in write ≡ Some busies
busies-as k m write sees replies name value busies due = due-cases k m replies (Applies name value busies) (busies_in write ≡ Some busies) due (record {
  nothing = λ is. absurd cc;
  greets = λ is. absurd cc;
  names = λ p is. absurd cc;
  opens = λ n c is. absurd cc;
  clears = λ n is. absurd cc;
  adds = λ n c none is. absurd cc;
  drops = λ n is. absurd cc;
  off = λ n is. absurd cc;
  on = λ n is. absurd cc;
  writes = λ n c v taken is. (let plain : busies ≡ false = cc in comes-busies k m c v write (sees c v taken) ∙ ap (λ (i : ℕ). Some ((i == command_number command.WriteNotify) && c.known.state.slow)) n ∙ ap Some (sym plain));
  puts = λ n c v taken is. put (must_wait k m c) n c v taken is;
})
  where
    put : (b : Bool) → m.command ≡ command_number command.WriteNotify → (c : Serves k m.p1) (v : Elements) → PutTaken k m c v → Applies name value busies ≡ cond b (Waits c.channel.name v) (Applies c.channel.name v c.known.state.slow) → busies_in write ≡ Some busies
    put true n c v taken is = absurd cc
    put false n c v taken is =
        let slow : busies ≡ c.known.state.slow = cc in
        let test : (m.command == command_number command.WriteNotify) ≡ true = eq-eqb m.command (command_number command.WriteNotify) n in
        comes-busies k m c v write (sees c v taken) ∙ ap Some (and-is (m.command == command_number command.WriteNotify) c.known.state.slow test ∙ sym slow)

-- a write is applied only by a message that writes
writes-only : (k : Knows) (m : Fields) (replies : List Fields) (name : List ℕ) (value : Elements) (busies : Bool) → Due k m replies (Applies name value busies) → IsWrite m
writes-only k m replies name value busies due = due-cases k m replies (Applies name value busies) (IsWrite m) due (record {
  nothing = λ is. absurd cc;
  greets = λ is. absurd cc;
  names = λ p is. absurd cc;
  opens = λ n c is. absurd cc;
  clears = λ n is. absurd cc;
  adds = λ n c none is. absurd cc;
  drops = λ n is. absurd cc;
  off = λ n is. absurd cc;
  on = λ n is. absurd cc;
  writes = λ n c v taken is. inl n;
  puts = λ n c v taken is. inr n;
})

-- ---- whether it wrote, if its step closed its end

-- it applied its write alone
wrote-closed : (y : Server) (h : Handle) (e : ServerEnd) → HasEnd y h e → y.applied < applied_limit → (m : Fields) (write : Option Coming) → (IsWrite m → Foresees y h m write) → (left : ServerEnd) (replies : List Fields) (did : Action) (after : Server) (gone : Handle → Bool) (mid core : Server) → Due (knows y e) m replies did → Handles y h left m replies did after → Reaches did gone after mid → core ≡ closed h mid
    → wrote_in core y.applied write ≡ busies_of did
wrote-closed y h e has below m write foreseen left replies did after gone mid core due handles reaches leaves =
    written y h left m handles.recorded core (busies_in write) same below did handles.records busies-here
  where
    same : core.applied ≡ handles.recorded.applied
    same = ap (λ (x : Server). x.applied) leaves ∙ applied-reached did gone after mid reaches ∙ ap (λ (x : Server). x.applied) handles.leaves

    busies-here : (name : List ℕ) (value : Elements) (busies : Bool) → did ≡ Applies name value busies → busies_in write ≡ Some busies
    busies-here name value busies is =
        let applies : Due (knows y e) m replies (Applies name value busies) = subst (λ (a : Action). Due (knows y e) m replies a) is due in
        busies-as (knows y e) m write (foreseen (writes-only (knows y e) m replies name value busies applies) e has) replies name value busies applies

-- or its write was not applied
lacks-none : (y : Server) (h : Handle) (mid core : Server) (write : Option Coming) → mid ≡ y → core ≡ closed h mid → wrote_in core y.applied write ≡ None
lacks-none y h mid core write is leaves =
    let same : core.applied ≡ y.applied = ap (λ (x : Server). x.applied) leaves ∙ ap (λ (x : Server). x.applied) is in
    ap (λ (b : Bool). told_if b (busies_in write)) (le-ltb y.applied core.applied (omega (arith, same)))

-- what an end that closed out of memory left of its message's write
abbrev pub left_written : Option (Handle → Bool) → Action → Option Bool
left_written None did = None
left_written (Some gone) did = busies_of did

pub wrote-lacks : (y : Server) (h : Handle) (e : ServerEnd) → HasEnd y h e → y.applied < applied_limit → (next : Next y h e) (written : Option (Handle → Bool)) (mid core : Server) → LeftOf next written mid → core ≡ closed h mid → (write : Option Coming) → (IsWrite next.m → Foresees y h next.m write) → wrote_in core y.applied write ≡ left_written written next.action
wrote-lacks y h e has below next None mid core left leaves write foreseen = lacks-none y h mid core write left leaves
wrote-lacks y h e has below next (Some gone) mid core left leaves write foreseen =
    wrote-closed y h e has below next.m write foreseen _ next.replies next.action next.after gone mid core next.handles.due next.handles left.1 leaves

-- ---- whether its subscription is new

or-right : (a b : Bool) → a || b ≡ false → b ≡ false
or-right true b e = absurd cc
or-right false b e = e

unused : (r : RecordState) (rights others : ℕ) (b : Bool) (m : Fields) (t : Option ImageType) → subscription_fault r rights b others m t ≡ None → b ≡ false
unused r rights others b m None is = absurd cc
unused r rights others b m (Some t) is =
    let asked : (nat_lt (length m.payload) 16 || (mask_in m % 16 == 0 || b)) ≡ false = (faultless-6 (lacks_type (display_of r.value) t) (not (may_read rights)) (nat_lt (length m.payload) 16 || (mask_in m % 16 == 0 || b)) (too_many r t (subscribed_count r m)) (lacks_conversion_to (display_of r.value) r.value (base_in t))
    (not (nat_lt others (circuit_queues * queue_subscriptions))) bad_type no_read_access add_fail bad_count no_convert add_fail is).0 in
    or-right (mask_in m % 16 == 0) b (or-right (nat_lt (length m.payload) 16) (mask_in m % 16 == 0 || b) asked)

-- its key is that of no subscription of the end
news-key : (k : Knows) (m : Fields) (replies : List Fields) (s : Subscription) → Due k m replies (Adds s) → is_among (key_of s) k.keys ≡ false
news-key k m replies s due = due-cases k m replies (Adds s) (is_among (key_of s) k.keys ≡ false) due (record {
  nothing = λ is. absurd cc;
  greets = λ is. absurd cc;
  names = λ p is. absurd cc;
  opens = λ n c is. absurd cc;
  clears = λ n is. absurd cc;
  adds = λ n c none is. (let one : s ≡ subscription_in m c.channel.name = cc in
      ap (λ (x : Subscription). is_among (key_of x) k.keys) one
      ∙ unused c.known.state (rights_at k c.channel.name) (length k.keys) (is_among (key_in m) k.keys) m (image_type_of m.data_type) none);
  drops = λ n is. absurd cc;
  off = λ n is. absurd cc;
  on = λ n is. absurd cc;
  writes = λ n c v taken is. absurd cc;
  puts = λ n c v taken is. absurd (put (must_wait k m c) c v is);
})
  where
    put : (b : Bool) → (c : Serves k m.p1) (v : Elements) → Adds s ≡ cond b (Waits c.channel.name v) (Applies c.channel.name v c.known.state.slow) → ⊥
    put true c v is = absurd cc
    put false c v is = absurd cc

-- A subscription that begins has a key that no queue of its circuit has, where the same
-- subscriptions stand.
pub news-new : (y : Server) (e : ServerEnd) (m : Fields) (replies : List Fields) (s : Subscription) (j : Joined) → Due (knows y e) m replies (Adds s) → AreAlike e j → AreSeated j → HasNone j.queues (key_of s)
news-new y e m replies s j due alike seated i q at = go (is_among (key_of s) q.subscriptions) refl
  where
    none : is_among (key_of s) (keys_on j) ≡ false
    none = ap (λ (ks : List SubKey). is_among (key_of s) ks) (sym alike.keys) ∙ news-key (knows y e) m replies s due

    go : (b : Bool) → is_among (key_of s) q.subscriptions ≡ b → is_among (key_of s) q.subscriptions ≡ false
    go false is = is
    go true is = absurd (both_ways (is_among (key_of s) (keys_on j)) none (seated.stand i q (key_of s) at is))

-- ---- by the effect

-- of what nothing was done for
pub idle : (P : Effect → Type 0) (m : Fields) → P effect.Refused → P (effect.WriteRefused m.p1) → P effect.Quiet → P (effect_due m Nothing)
idle P m refused unwritten quiet = go (m.command == command_number command.CreateChannel) (is_write m.command)
  where
    go : (a b : Bool) → P (if a then effect.Refused else if b then effect.WriteRefused m.p1 else effect.Quiet)
    go true b = refused
    go false true = unwritten
    go false false = quiet

-- a subscription that begins is new
pub begins-new : (y : Server) (e : ServerEnd) (m : Fields) (replies : List Fields) (did : Action) (j : Joined) → Due (knows y e) m replies did → AreAlike e j → AreSeated j → BeginsNew (effect_due m did) j.queues
begins-new y e m replies (Adds s) j due alike seated = news-new y e m replies s j due alike seated
begins-new y e m replies Nothing j due alike seated = idle (λ (d : Effect). BeginsNew d j.queues) m tt tt tt
begins-new y e m replies Greets j due alike seated = tt
begins-new y e m replies (Names p) j due alike seated = tt
begins-new y e m replies (Opens c) j due alike seated = tt
begins-new y e m replies (Clears sid) j due alike seated = tt
begins-new y e m replies (Applies name value true) j due alike seated = tt
begins-new y e m replies (Applies name value false) j due alike seated = tt
begins-new y e m replies (Waits name value) j due alike seated = tt
begins-new y e m replies (Drops key) j due alike seated = tt
begins-new y e m replies (Switches on) j due alike seated = tt

-- whether it wrote
pub wrote-due : (m : Fields) (did : Action) → wrote_by (effect_due m did) ≡ busies_of did
wrote-due m Nothing = idle (λ (d : Effect). wrote_by d ≡ None) m refl refl refl
wrote-due m (Applies name value true) = refl
wrote-due m (Applies name value false) = refl
wrote-due m (Waits name value) = refl
wrote-due m Greets = refl
wrote-due m (Names p) = refl
wrote-due m (Opens c) = refl
wrote-due m (Clears sid) = refl
wrote-due m (Adds s) = refl
wrote-due m (Drops key) = refl
wrote-due m (Switches on) = refl
